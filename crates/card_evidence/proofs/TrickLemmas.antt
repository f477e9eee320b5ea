-- Cards that are played in turn to a trick.
use Rattle.std.proofs.Common.{◌≡◌, ℕ, zero, suc, ◌<◌, List, [], ◌∷◌, ◌++◌, length, take, get_or, Err, sym, ◌∙◌, ap, subst, arith, append_assoc}
use Rattle.std.proofs.lemmas.List.{append-nil, length-take-le}
use Rattle.cards.specs.declared.pack.Card.{Card}
use Rattle.play_rules.specs.declared.faults.PlayFault.TheVariants.{NotHeld, MustFollow, Over}
use Rattle.play_rules.specs.History.{Opening}
use Rattle.play_rules.specs.Legal.{CanPlay, IsLegalAfter}
use Rattle.play_rules.specs.Position.{Position}
use Rattle.card_values.specs.declared.faults.TrickFault.{TrickFault}
use Rattle.card_values.specs.declared.faults.TrickFault.TheVariants.{Whole, Play}
use Rattle.card_values.specs.Tricks.{IsInProgress, TakesOrRefuses}

-- each card of a legal history may be played after those before it
legal_at : (opening : Opening) (history cards : List Card) (i : ℕ) (d : Card) → IsLegalAfter opening history cards → i < length cards → CanPlay opening (history ++ take i cards) (get_or cards i d)
legal_at opening history [] i d legal less = absurd (omega arith)
legal_at opening history (card ∷ more) zero d legal less = subst (λ (h : List Card). CanPlay opening h card) (sym (append-nil history)) legal.0
legal_at opening history (card ∷ more) (suc i) d legal less =
    subst (λ (h : List Card). CanPlay opening h (get_or more i d)) (append_assoc history (card ∷ []) (take i more))
    (legal_at opening (history ++ card ∷ []) more i d legal.1 (omega arith))

abbrev at : Opening → List Card → Position
at opening history = record { opening = opening; history = history }

-- none of them is refused
not_refused : (opening : Opening) (cards : List Card) (i : ℕ) (d : Card) (fault : TrickFault) → IsInProgress (at opening cards) → i < length cards → TakesOrRefuses (at opening (take i cards)) (get_or cards i d) (Err fault) → ⊥
not_refused opening cards i d Whole is less full = omega (arith, length-take-le i cards (omega arith), is.few)
not_refused opening cards i d (Play Over) is less over = omega (arith, over.1, length-take-le i cards (omega arith), is.reached.within)
not_refused opening cards i d (Play NotHeld) is less lacks = lacks.1.1 (legal_at opening [] cards i d is.reached.legal less).held
not_refused opening cards i d (Play MustFollow) is less fails =
    let fault = fails.1.1 in
    fault.other_suit ((legal_at opening [] cards i d is.reached.legal less).follows fault.led fault.is_led fault.can_follow)

pub never_refused : (position : Position) (opening : Opening) (cards : List Card) (i : ℕ) (d : Card) (fault : TrickFault) → position.opening ≡ opening → position.history ≡ take i cards → i < length cards
    → TakesOrRefuses position (get_or cards i d) (Err fault) → IsInProgress (at opening cards) → ⊥
never_refused position opening cards i d fault same played less refuses is =
    let here : position ≡ at opening (take i cards) = ap (λ (o : Opening). at o position.history) same ∙ ap (at opening) played in
    not_refused opening cards i d fault is less (subst (λ (p : Position). TakesOrRefuses p (get_or cards i d) (Err fault)) here refuses)
