-- The first claim for a card, and what it shows.
use Rattle.std.proofs.Common.{◌≡◌, Bool, true, false, cond, List, [], ◌∷◌, Option, Some, refl, sym, subst}
use Rattle.std.specs.List.{find}
use Rattle.std.proofs.lemmas.Bool.{eqb-true}
use Rattle.std.proofs.lemmas.Option.{none-some, same_Some}
use Rattle.cards.specs.declared.pack.Card.{Card}
use Rattle.cards.specs.Pack.{card_number}
use Rattle.cards.proofs.PackLaws.{same_from_numbers}
use Rattle.play_rules.specs.Legal.{CanPlay}
use Rattle.play_rules.specs.Position.{Position}
use Rattle.play_rules.proofs.PositionLaws.{IsLegalHistory-push}
use Rattle.certificate_graph.specs.Graphs.{IsGraph}
use Rattle.certificate_graph.specs.declared.card_claims.CardClaim.{CardClaim}
use Rattle.cards.specs.declared.seats.Side.{Side}
use Rattle.cards.specs.declared.seats.Side.TheVariants.{NorthSouth, EastWest}
use Rattle.card_values.specs.declared.claims.CardGraphs.{CardGraphs}
use Rattle.card_values.specs.CardValues.{IsCardValue}
use Rattle.card_values.specs.Tricks.{IsInProgress}
use Rattle.card_values.specs.Judging.{graph_in, graph_for, player_claim, others_claim, IsShownClaim, IsValueOf, claim_for, is_for}
use Rattle.card_values.proofs.ShowLaws.{shown_wins}

found_passes : {X : Type 0} (p : X → Bool) (y x : X) (rest : Option X) (b : Bool) → p y ≡ b → cond b (Some y) rest ≡ Some x → (rest ≡ Some x → p x ≡ true) → p x ≡ true
found_passes p y x rest true is h later = subst (λ z. p z ≡ true) (same_Some y x h) is
found_passes p y x rest false is h later = later h

find_passes : {X : Type 0} (p : X → Bool) (xs : List X) (x : X) → find p xs ≡ Some x → p x ≡ true
find_passes p [] x h = absurd (none-some x h)
find_passes p (y ∷ ys) x h = found_passes p y x (find p ys) (p y) refl h (find_passes p ys x)

-- the first claim for a card names it
names_it : (claims : List CardClaim) (card : Card) (claim : CardClaim) → claim_for claims card ≡ Some claim → claim.card ≡ card
names_it claims card claim first = same_from_numbers claim.card card (eqb-true (card_number claim.card) (card_number card) (find_passes (is_for card) claims claim first))

pub graph_is : (graphs : CardGraphs) (side : Side) → IsGraph graphs.ns.now → IsGraph graphs.ew.now → IsGraph (graph_in graphs side)
graph_is graphs NorthSouth ns ew = ns
graph_is graphs EastWest ns ew = ew

-- a claim that is shown claims the value of its card
value_shown : (position : Position) (graphs : CardGraphs) (claim : CardClaim) → IsGraph graphs.ns.now → IsGraph graphs.ew.now → IsInProgress position → CanPlay position.opening position.history claim.card → IsShownClaim position graphs claim → IsCardValue position.opening position.history claim.card claim.tricks
value_shown position graphs claim ns ew progress can shown =
    let layout = progress.reached.layout in
    let legal = IsLegalHistory-push position.opening position.history claim.card progress.reached.legal can in
    let player = player_claim position claim.card claim.tricks in
    let others = others_claim position claim.card claim.tricks in
    record {
      within = shown.within;
      player_wins = shown_wins (graph_for graphs player) player claim.player (graph_is graphs player.side ns ew) layout legal shown.player_wins;
      others_win = shown_wins (graph_for graphs others) others claim.others (graph_is graphs others.side ns ew) layout legal shown.others_win;
    }

pub value_of_claim : (position : Position) (graphs : CardGraphs) (claims : List CardClaim) (card : Card) (claim : CardClaim) → IsGraph graphs.ns.now → IsGraph graphs.ew.now → IsInProgress position → CanPlay position.opening position.history card → claim_for claims card ≡ Some claim → IsShownClaim position graphs claim →
    IsValueOf position graphs claims card (record { card = card; tricks = claim.tricks })
value_of_claim position graphs claims card claim ns ew progress can first shown =
    let same = names_it claims card claim first in
    record {
      card_is = refl;
      claimed = record { claim = claim; first = first; tricks = refl; shown = shown };
      value_is = subst (λ (c : Card). IsCardValue position.opening position.history c claim.tricks) same
          (value_shown position graphs claim ns ew progress (subst (CanPlay position.opening position.history) (sym same) can) shown);
    }
