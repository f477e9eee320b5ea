-- One read more.
use Rattle.std.proofs.Common.{◌≡◌, ℕ, List, [], ◌++◌, Option, None, Some, sym, ◌∙◌, ap, append_assoc, append-nil}
use Rattle.cards.specs.Devices.{TakesWhereTold, StaysWhereTold, NoneIsLeft}
use Rattle.streams.specs.Inputs.{IsAllOf}

pub takes_twice : (first second third : Option (List ℕ)) (one other : List ℕ) → TakesWhereTold first second one → TakesWhereTold second third other → TakesWhereTold first third (one ++ other)
takes_twice None second third one other a b = tt
takes_twice (Some first) second third one other (rest, is, e) b =
    let b' : TakesWhereTold (Some rest) third other = rw is at b in
    (b'.0, b'.1, e ∙ (ap (λ (t : List ℕ). one ++ t) b'.2 ∙ sym (append_assoc one other b'.0)))

pub takes_and_stays : (first second third : Option (List ℕ)) (piece : List ℕ) → TakesWhereTold first second piece → StaysWhereTold second third → TakesWhereTold first third piece
takes_and_stays None second third piece a b = tt
takes_and_stays (Some first) second third piece (rest, is, e) b =
    let b' : StaysWhereTold (Some rest) third = rw is at b in (rest, b', e)

-- a read that gives nothing at the end
pub all_taken : (first second third : Option (List ℕ)) (text : List ℕ) → TakesWhereTold first second text → TakesWhereTold second third [] → NoneIsLeft second → IsAllOf first third text
all_taken None second third text a b none = tt
all_taken (Some first) second third text (rest, is, e) b none =
    let b' : TakesWhereTold (Some rest) third [] = rw is at b in
    let none' : rest ≡ [] = rw is at none in
    let rest' : b'.0 ≡ [] = sym b'.2 ∙ none' in
    (sym (e ∙ (ap (λ (t : List ℕ). text ++ t) none' ∙ append-nil text)), b'.1 ∙ ap Some rest')
