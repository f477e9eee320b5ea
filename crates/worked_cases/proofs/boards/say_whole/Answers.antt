-- The text was read as boards, so it has lines.
use Rattle.std.proofs.Common.{None}
use Rattle.tables.specs.declared.results.Renews.TheVariants.{Tables}
use Rattle.worked_cases.proofs.boards.say_whole.Goals as goal

pub write_whole-requires : goal.write_whole-requires
write_whole-requires c =
    let one = c.one_is_written.ensures Tables c.args.text.now c.in-Ok._boards.items (λ board. record { results = λ declarer denomination. None; par = None }) c.in-Ok.ensures.boards in
    (one.whole.lines, one.whole.read)
