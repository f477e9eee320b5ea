-- The values that are shown are those of the position that was read.
use Rattle.std.proofs.Common.{◌≡◌, List, length, ap, ◌∙◌, subst, inl, arith}
use Rattle.std.proofs.lemmas.Int.{by_lt_z}
use Rattle.std.proofs.Common.{pos, negsuc}
use Rattle.play_rules.specs.Position.{Position}
use Rattle.card_values.specs.declared.values.CardValue.{CardValue}
use Rattle.card_values.specs.CardValues.{AreCardValues}
use Rattle.card_values.specs.Tricks.{IsInProgress}
use Rattle.dds_calls.specs.declared.board_faults.BoardFault.TheVariants.{TargetTooLow, TargetTooHigh}
use Rattle.dds_calls.specs.Boards.{cards_left}
use Rattle.dds_calls.specs.BoardAnswers.{player_of}
use Rattle.dds_calls.specs.Hands.{cards_in}
use Rattle.dds_calls.proofs.BoardLaws.{are_choices, some_value}
use Rattle.dds_calls.proofs.LastLine.{one_line}
use Rattle.dds_calls.proofs.LastTrick.{one_value}
use Rattle.dds_calls.proofs.ToldLaws.{AreOf, all_groups, choices_at, told_at}
use Rattle.dds_calls.proofs.boards.told_in.Goals as goal

pub words_of-requires : goal.words_of-requires
words_of-requires c = λ seat suit. c.requires.is_position.layout_is.of_cards seat suit

pub lines_of-groups-requires : goal.lines_of-groups-requires
lines_of-groups-requires c =
    let position : Position = c.args.shown.now.position in
    let values : List CardValue = c.args.shown.now.values in
    let are : AreCardValues position values = c.invariant.ensures in
    let e : c.trick-trick.result.now ≡ position = c.trick-trick.ensures in
    let progress : IsInProgress position = subst (λ (p : Position). IsInProgress p) e c.invariant-2.ensures in
    let are_of : AreOf position values c.layout-layout.result.now c.turn-player.result c.values-values.result.now = record {
      deal_is = c.layout-layout.ensures ∙ ap (λ (p : Position). p.opening.deal) e;
      player_is = c.turn-player.ensures ∙ ap (λ (p : Position). player_of p) e;
      values_are = c.values-values.ensures;
    } in
    record {
      choices = choices_at position values c.layout-layout.result.now c.turn-player.result c.values-values.result.now are_of (are_choices position values progress.reached are);
      least = omega arith;
    }

pub told_by-requires : goal.told_by-requires
told_by-requires c =
    let position : Position = c.args.shown.now.position in
    let values : List CardValue = c.args.shown.now.values in
    let are : AreCardValues position values = c.invariant.ensures in
    let e : c.trick-trick.result.now ≡ position = c.trick-trick.ensures in
    let progress : IsInProgress position = subst (λ (p : Position). IsInProgress p) e c.invariant-2.ensures in
    let are_of : AreOf position values c.layout-layout.result.now c.turn-player.result c.values-values.result.now = record {
      deal_is = c.layout-layout.ensures ∙ ap (λ (p : Position). p.opening.deal) e;
      player_is = c.turn-player.ensures ∙ ap (λ (p : Position). player_of p) e;
      values_are = c.values-values.ensures;
    } in
    let clear = c.requires.clear in
    record {
      low = by_lt_z c.args.ask.target (negsuc 0) (λ h. absurd (clear TargetTooLow (omega arith) h)) (λ h. h);
      high = by_lt_z (pos 13) c.args.ask.target (λ h. absurd (clear TargetTooHigh (omega arith) h)) (λ h. h);
      some = omega (arith, ap length c.values-values.ensures, some_value position values progress are);
      choices = choices_at position values c.layout-layout.result.now c.turn-player.result c.values-values.result.now are_of (are_choices position values progress.reached are);
    }

pub returns : goal.returns
returns c =
    let position : Position = c.args.shown.now.position in
    let values : List CardValue = c.args.shown.now.values in
    let are : AreCardValues position values = c.invariant.ensures in
    let e : c.trick-trick.result.now ≡ position = c.trick-trick.ensures in
    let progress : IsInProgress position = subst (λ (p : Position). IsInProgress p) e c.invariant-2.ensures in
    let deal = c.layout-layout.result.now in
    let player = c.turn-player.result in
    let given = c.values-values.result.now in
    let are_of : AreOf position values deal player given = record {
      deal_is = c.layout-layout.ensures ∙ ap (λ (p : Position). p.opening.deal) e;
      player_is = c.turn-player.ensures ∙ ap (λ (p : Position). player_of p) e;
      values_are = c.values-values.ensures;
    } in
    let left_is : c.count_of-left.result ≡ cards_left c.args.board.now = c.count_of-left.ensures ∙ ap cards_in c.words_of.ensures in
    let ask = c.args.ask in
    let left = cards_left c.args.board.now in
    let groups = c.len.result in
    let told = c.told_by.result in
    let some = some_value position values progress are in
    let told_is = told_at position values deal player given are_of ask c.count_of-left.result left groups told left_is c.told_by.ensures in
    record {
      clear = c.requires.clear;
      position = position;
      is_position = c.requires.is_position;
      values = values;
      some = omega (arith, some);
      groups = groups;
      are_groups = inl (all_groups position values deal player given are_of groups c.lines_of-groups.result.items are c.len.ensures.value c.lines_of-groups.ensures);
      are_told = told_is;
      last = λ few. one_line ask left groups position.opening.deal (player_of position) values told told_is few (one_value c.args.board.now ask position c.requires.clear c.requires.is_position few values are some);
    }
