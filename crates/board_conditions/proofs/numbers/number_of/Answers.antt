use Rattle.std.proofs.Common.{◌&&◌, get_or, sym, ◌∙◌, ap}
use Rattle.std.specs.Char.{is_ascii_digit}
use Rattle.std.proofs.lemmas.List.Folds.{list_all_more}
use Rattle.board_conditions.proofs.Cycle.{digit_more}
use Rattle.board_conditions.proofs.numbers.number_of.Goals as goal

pub loop-byte-preserved : goal.loop-byte-preserved
loop-byte-preserved c =
    let name = c.args.name.now in
    let i = c.loop-byte.byte-index in
    let inv = c.loop-byte.invariant in
    let is = c.if-not-is_ascii_digit.ensures in
    record {
      digits = list_all_more is_ascii_digit name i 0 c.loop-byte-test.true ∙ (ap (λ b. b && is_ascii_digit (get_or name i 0)) inv.digits ∙ sym is.value);
      number = c.in_cycle-number.ensures.cycle ∙ digit_more name i c.loop-byte.number c.loop-byte-test.true is.cases.0 is.cases.1 inv.number;
      below = c.in_cycle-number.ensures.below;
    }
