use Rattle.std.proofs.Common.{arith, rules}
use Rattle.std.proofs.lemmas.Option.{slice_get_within}
use Rattle.deal_subcommands.proofs.answers.empty_line.Goals as goal

pub loop-place-preserved : goal.loop-place-preserved
loop-place-preserved c = search rules

pub returns : goal.returns
returns c = λ place empty. c.loop-place.invariant place (omega (arith, slice_get_within c.args.text.now place 10 empty.ends)) empty
