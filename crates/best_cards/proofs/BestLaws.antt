-- Claims that are shown lead to the most tricks.
use Rattle.std.proofs.Common.{ℕ, ◌-◌, ◌≤◌, List, [], ◌∷◌, ◌++◌, length, refl, sym, subst, arith}
use Rattle.std.proofs.lemmas.List.Elements.{All-head, All-weaker}
use Rattle.cards.specs.declared.pack.Card.{Card}
use Rattle.cards.specs.Seats.{other_side}
use Rattle.cards.specs.Deal.{size_of}
use Rattle.play_rules.specs.Legal.{CanPlay, IsUnfinished}
use Rattle.play_rules.specs.Position.{Position}
use Rattle.play_rules.proofs.PositionLaws.{IsLegalHistory-push}
use Rattle.strategies.specs.Strategies.{CanWin}
use Rattle.strategies.proofs.LawProofs.{by_own_card, against_each_card}
use Rattle.certificate_graph.specs.Graphs.{IsGraph}
use Rattle.certificate_graph.specs.declared.card_claims.CardClaim.{CardClaim}
use Rattle.checker.specs.ValuesAfter.{side_to_play}
use Rattle.checker.proofs.ValueLaws.{most as at_most}
use Rattle.card_values.specs.declared.claims.CardGraphs.{CardGraphs}
use Rattle.card_values.specs.declared.values.CardValue.{CardValue}
use Rattle.card_values.specs.CardValues.{IsCardValue}
use Rattle.card_values.specs.Judging.{graph_for, player_claim}
use Rattle.card_values.specs.Tricks.{IsInProgress}
use Rattle.card_values.proofs.BestLaws.{apart}
use Rattle.card_values.proofs.ClaimLaws.{graph_is}
use Rattle.card_values.proofs.ShowLaws.{shown_wins}
use Rattle.best_cards.specs.BestCards.{IsBestCard, AreBestCards}
use Rattle.best_cards.specs.Judging.{hold_claim, IsHeldTo, IsShownCard, AreShownCards}

module _ (position : Position) (graphs : CardGraphs) (claims : List CardClaim) (first : CardClaim) (ns : IsGraph graphs.ns.now) (ew : IsGraph graphs.ew.now) (progress : IsInProgress position) (held : IsHeldTo position graphs first) where
  -- the other side wins the others of the tricks
  others_hold : CanWin position.opening (other_side (side_to_play position.opening position.history)) (size_of position.opening.deal - first.tricks) position.history
  others_hold =
      let hold = hold_claim position first.tricks in
      shown_wins (graph_for graphs hold) hold first.others (graph_is graphs hold.side ns ew) progress.reached.layout progress.reached.legal held.others_win

  unfinished : IsUnfinished position.opening position.history
  unfinished = omega (arith, progress.few, progress.reached.layout.some_cards)

  -- the side to play wins the tricks after a card that has a claim
  player_reaches : (value : CardValue) → IsShownCard position graphs claims first.tricks value → CanWin position.opening (side_to_play position.opening position.history) first.tricks (position.history ++ value.card ∷ [])
  player_reaches value reached =
      let player = player_claim position value.card first.tricks in
      let legal = IsLegalHistory-push position.opening position.history value.card progress.reached.legal reached.can in
      shown_wins (graph_for graphs player) player reached.claim.player (graph_is graphs player.side ns ew) progress.reached.layout legal reached.player_wins

  -- what it wins after a card, it wins before it
  player_wins_before : (card : Card) (tricks : ℕ) → CanPlay position.opening position.history card → CanWin position.opening (side_to_play position.opening position.history) tricks (position.history ++ card ∷ []) → CanWin position.opening (side_to_play position.opening position.history) tricks position.history
  player_wins_before card tricks can win = (by_own_card position.opening (side_to_play position.opening position.history) tricks position.history progress.reached.layout progress.reached.legal unfinished refl).1 (card, can, win)

  is_best : (value : CardValue) → IsShownCard position graphs claims first.tricks value → IsBestCard position first.tricks value
  is_best value reached =
      let side = side_to_play position.opening position.history in
      record {
        can = reached.can;
        tricks = reached.tricks_are;
        value_is = subst (λ (n : ℕ). IsCardValue position.opening position.history value.card n) (sym reached.tricks_are) (record {
          within = held.within;
          player_wins = player_reaches value reached;
          others_win = (against_each_card position.opening (other_side side) (size_of position.opening.deal - first.tricks) position.history progress.reached.layout progress.reached.legal unfinished (apart side)).0 others_hold value.card reached.can;
        });
      }

  pub are_best : (values : List CardValue) → AreShownCards position graphs claims first.tricks values → 1 ≤ length values → AreBestCards position values
  are_best [] reached some = absurd (omega (arith, some))
  are_best (value ∷ rest) reached some =
      let here = All-head (IsShownCard position graphs claims first.tricks) value rest reached.each in
      record {
        best = first.tricks;
        some = some;
        each = All-weaker (IsShownCard position graphs claims first.tricks) (IsBestCard position first.tricks) is_best (value ∷ rest) reached.each;
        in_order = reached.in_order;
        value_is = record {
          within = held.within;
          player_wins = player_wins_before value.card first.tricks here.can (player_reaches value here);
          others_win = others_hold;
        };
        most = λ card tricks can is. at_most position.opening position.history (side_to_play position.opening position.history) tricks first.tricks progress.reached.layout progress.reached.legal held.within (player_wins_before card tricks can is.player_wins) others_hold;
      }
