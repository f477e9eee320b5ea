-- The beginnings of a legal history.
use Rattle.std.proofs.Common.{ℕ, ◌+◌, ◌<◌, List, [], ◌∷◌, ◌++◌, length, take, drop, get_or, sym, subst, arith, append_assoc, append-nil, length-append}
use Rattle.std.proofs.lemmas.List.{take-append-drop, take_more}
use Rattle.cards.specs.declared.pack.Card.{Card}
use Rattle.cards.specs.Deal.{size_of, IsLayout}
use Rattle.play_rules.specs.History.{Opening}
use Rattle.play_rules.specs.Legal.{CanPlay, IsLegalAfter, IsLegalHistory, IsUnfinished}
use Rattle.strategies.proofs.Counting.{legal-within}

-- the beginning of a legal history, and the rest of it
pub first_is_legal : (opening : Opening) (before history more : List Card) → IsLegalAfter opening before (history ++ more) → IsLegalAfter opening before history
first_is_legal opening before [] more legal = tt
first_is_legal opening before (card ∷ history) more legal = (legal.0, first_is_legal opening (before ++ card ∷ []) history more legal.1)

pub rest_is_legal : (opening : Opening) (before history more : List Card) → IsLegalAfter opening before (history ++ more) → IsLegalAfter opening (before ++ history) more
rest_is_legal opening before [] more legal = subst (λ (h : List Card). IsLegalAfter opening h more) (sym (append-nil before)) legal
rest_is_legal opening before (card ∷ history) more legal =
    subst (λ (h : List Card). IsLegalAfter opening h more) (append_assoc before (card ∷ []) history) (rest_is_legal opening (before ++ card ∷ []) history more legal.1)

-- a card that ends a legal history may be played, and was still to be played
pub last_can_play : (opening : Opening) (history : List Card) (card : Card) → IsLegalHistory opening (history ++ card ∷ []) → CanPlay opening history card
last_can_play opening history card legal = (rest_is_legal opening [] history (card ∷ []) legal).0

pub last_unfinished : (opening : Opening) (history : List Card) (card : Card) → IsLayout opening.deal → IsLegalHistory opening (history ++ card ∷ []) → IsUnfinished opening history
last_unfinished opening history card layout legal =
    omega (arith, legal-within opening.trump opening.deal opening.leader (history ++ card ∷ []) (size_of opening.deal) layout.equal_hands legal, length-append history (card ∷ []))

-- the first cards are legal
pub take_is_legal : (opening : Opening) (history : List Card) (count : ℕ) → IsLegalHistory opening history → IsLegalHistory opening (take count history)
take_is_legal opening history count legal =
    first_is_legal opening [] (take count history) (drop count history) (subst (λ (h : List Card). IsLegalHistory opening h) (sym (take-append-drop count history)) legal)

-- and with the next one too
pub next_is_legal : (opening : Opening) (history : List Card) (count : ℕ) (d : Card) → IsLegalHistory opening history → count < length history → IsLegalHistory opening (take count history ++ get_or history count d ∷ [])
next_is_legal opening history count d legal h =
    subst (λ (h : List Card). IsLegalHistory opening h) (take_more history count d h) (take_is_legal opening history (count + 1) legal)
