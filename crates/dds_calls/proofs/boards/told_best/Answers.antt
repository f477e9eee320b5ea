-- The cards that are shown are of the position that was read, and their groups are whole.
use Rattle.std.proofs.Common.{◌≡◌, List, length, refl, sym, ap, ◌∙◌, subst, inr, arith}
use Rattle.std.proofs.lemmas.Int.{by_lt_z}
use Rattle.std.proofs.Common.{pos, negsuc}
use Rattle.cards.specs.declared.pack.Card.{Card}
use Rattle.play_rules.specs.Position.{Position, AreLegalCards}
use Rattle.card_values.specs.declared.values.CardValue.{CardValue}
use Rattle.card_values.specs.Tricks.{IsInProgress}
use Rattle.best_cards.specs.BestCards.{AreBestCards}
use Rattle.dds_calls.specs.declared.board_faults.BoardFault.TheVariants.{TargetTooLow, TargetTooHigh}
use Rattle.dds_calls.specs.Boards.{cards_left}
use Rattle.dds_calls.specs.BoardAnswers.{player_of}
use Rattle.dds_calls.specs.Hands.{cards_in}
use Rattle.dds_calls.proofs.BoardLaws.{best_choices}
use Rattle.dds_calls.proofs.ToldLaws.{AreOf, best_groups, choices_at, told_at}
use Rattle.dds_calls.proofs.boards.told_best.Goals as goal

pub returns-then-not-are_whole : goal.returns-then-not-are_whole
returns-then-not-are_whole c = ((c.args.shown.now.position, c.requires.read.is_position), c.requires.read.clear)

pub words_of-requires : goal.words_of-requires
words_of-requires c = λ seat suit. c.requires.read.is_position.layout_is.of_cards seat suit

pub told_by-requires : goal.told_by-requires
told_by-requires c =
    let position : Position = c.args.shown.now.position in
    let values : List CardValue = c.args.shown.now.values in
    let are : AreBestCards position values = c.invariant.ensures in
    let e : c.trick-trick.result.now ≡ position = c.trick-trick.ensures in
    let progress : IsInProgress position = subst (λ (p : Position). IsInProgress p) e c.invariant-2.ensures in
    let are_of : AreOf position values c.layout-layout.result.now c.turn-player.result c.values-values.result.now = record {
      deal_is = c.layout-layout.ensures ∙ ap (λ (p : Position). p.opening.deal) e;
      player_is = c.turn-player.ensures ∙ ap (λ (p : Position). player_of p) e;
      values_are = c.values-values.ensures;
    } in
    let clear = c.requires.read.clear in
    record {
      low = by_lt_z c.args.ask.target (negsuc 0) (λ h. absurd (clear TargetTooLow (omega arith) h)) (λ h. h);
      high = by_lt_z (pos 13) c.args.ask.target (λ h. absurd (clear TargetTooHigh (omega arith) h)) (λ h. h);
      some = omega (arith, ap length c.values-values.ensures, are.some);
      choices = choices_at position values c.layout-layout.result.now c.turn-player.result c.values-values.result.now are_of (best_choices position values progress.reached are);
    }

pub returns : goal.returns
returns c =
    let position : Position = c.args.shown.now.position in
    let values : List CardValue = c.args.shown.now.values in
    let are : AreBestCards position values = c.invariant.ensures in
    let e : c.trick-trick.result.now ≡ position = c.trick-trick.ensures in
    let deal = c.layout-layout.result.now in
    let player = c.turn-player.result in
    let given = c.values-values.result.now in
    let are_of : AreOf position values deal player given = record {
      deal_is = c.layout-layout.ensures ∙ ap (λ (p : Position). p.opening.deal) e;
      player_is = c.turn-player.ensures ∙ ap (λ (p : Position). player_of p) e;
      values_are = c.values-values.ensures;
    } in
    let listed : AreLegalCards position c.legal-legal.result.items = subst (λ (p : Position). AreLegalCards p c.legal-legal.result.items) e c.legal-legal.ensures in
    let legal : AreLegalCards position c.as_slice.result.now = subst (λ (xs : List Card). AreLegalCards position xs) (sym c.as_slice.ensures.value) listed in
    let left_is : c.count_of-left.result ≡ cards_left c.args.board.now = c.count_of-left.ensures ∙ ap cards_in c.words_of.ensures in
    record {
      clear = c.requires.read.clear;
      position = position;
      is_position = c.requires.read.is_position;
      values = values;
      some = are.some;
      groups = 2;
      are_groups = inr (record {
        one_asked = c.requires.one;
        have_groups = c.requires.groups;
        are_best = best_groups position values deal player given are_of c.as_slice.result.now are legal c.if-not-are_whole.ensures;
        count = refl;
      });
      are_told = told_at position values deal player given are_of c.args.ask c.count_of-left.result (cards_left c.args.board.now) 2 c.told_by.result left_is c.told_by.ensures;
      last = λ few. absurd (omega (arith, few, c.requires.one.1));
    }
