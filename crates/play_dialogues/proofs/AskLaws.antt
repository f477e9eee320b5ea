-- What is said where a card is asked for.
use Rattle.std.proofs.Common.{◌≡◌, ℕ, List, [], ◌++◌, Option, None, Some, refl, sym, ◌∙◌, ap, append_assoc}
use Rattle.cards.specs.declared.seats.Seat.{Seat}
use Rattle.play_rules.specs.Position.{turn_of}
use Rattle.certificate_play.specs.Promises.{Promise}
use Rattle.play_dialogues.specs.Texts.{left_in, hands_text, trick_line, score_line, turn_line, asking_text, asks}

asking_none : (promise : Promise) → asking_text None promise ≡ []
unfolding asking_text
asking_none promise = refl

asking_some : (promise : Promise) (seat : Seat) → asking_text (Some seat) promise
    ≡ hands_text (left_in promise) ++ trick_line promise ++ score_line promise ++ turn_line (Some seat)
unfolding asking_text
asking_some promise seat = refl

pub asks_none : (promise : Promise) → turn_of promise.position ≡ None → asks promise ≡ []
asks_none promise none = ap (λ (t : Option Seat). asking_text t promise) none ∙ asking_none promise

pub asks_some : (promise : Promise) (seat : Seat) → turn_of promise.position ≡ Some seat → asks promise
    ≡ hands_text (left_in promise) ++ trick_line promise ++ score_line promise ++ turn_line (Some seat)
asks_some promise seat some = ap (λ (t : Option Seat). asking_text t promise) some ∙ asking_some promise seat

-- a text to which all of it was added
pub asks_added : (promise : Promise) (seat : Seat) (turn : Option Seat) (old one two three four : List ℕ) →
    turn ≡ turn_of promise.position → turn ≡ Some seat → one ≡ old ++ hands_text (left_in promise) →
    two ≡ one ++ trick_line promise → three ≡ two ++ score_line promise → four ≡ three ++ turn_line (Some seat) →
    four ≡ old ++ asks promise
asks_added promise seat turn old one two three four is some h t s l =
    let hands = hands_text (left_in promise) in
    let trick = trick_line promise in
    let score = score_line promise in
    let line = turn_line (Some seat) in
    let all : asks promise ≡ hands ++ trick ++ score ++ line = asks_some promise seat (sym is ∙ some) in
    l
    ∙ (ap (λ (x : List ℕ). x ++ line) (s ∙ ap (λ (x : List ℕ). x ++ score) (t ∙ ap (λ (x : List ℕ). x ++ trick) h))
    ∙ (regroup old hands trick score line ∙ ap (λ (x : List ℕ). old ++ x) (sym all)))
  where
    regroup : (a b c d e : List ℕ) → (((a ++ b) ++ c) ++ d) ++ e ≡ a ++ (b ++ c ++ d ++ e)
    regroup a b c d e = simp append_assoc
