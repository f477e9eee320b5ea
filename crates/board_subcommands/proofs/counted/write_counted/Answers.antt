use Rattle.std.proofs.lemmas.Bool.{ne_eqb}
use Rattle.cards.proofs.WriteLemmas.{Writes-then}
use Rattle.board_subcommands.proofs.counted.write_counted.Goals as goal

pub returns : goal.returns
returns g c = rw (ne_eqb c.args.count 1 c.if-count-eq1.false) (Writes-then c.write_all-2.result _ _ c.in_ok-write_number.ensures c.write_all-2.ensures)
