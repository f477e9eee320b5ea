use Rattle.std.proofs.Common.{◌≡◌, ◌∙◌, ap, arith, length, rules, to_z, of_z, w32}
use Rattle.std.proofs.lemmas.Int.{ints}
use Rattle.dds_calls.specs.Telling.{blank_with}
use Rattle.dds_calls.proofs.TellLaws.{blank_tells}
use Rattle.dds_calls.proofs.telling.written.Goals as goal

pub returns-then-is_empty : goal.returns-then-is_empty
returns-then-is_empty c =
    let none : length c.shown-given.result.now ≡ 0 = search rules in
    let whole : to_z w32 (of_z w32 c.empty_score.result) ≡ c.empty_score.result = omega (arith, ints) in
    record {
      shown = c.shown-given.result.now;
      are_shown = c.shown-given.ensures;
      tells = blank_tells c.args.ask c.args.rule c.shown-given.result.now c.blank.result none (c.blank.ensures ∙ ap blank_with (whole ∙ c.empty_score.ensures));
    }
