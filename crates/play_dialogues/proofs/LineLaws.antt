-- Lines, one after another.
use Rattle.std.proofs.Common.{◌≡◌, ℕ, List, [], ◌∷◌, ◌++◌, length, Contains, Option, None, Some, Result, Ok, Err, inl, inr, refl, sym, ◌∙◌, ap, subst, append_assoc, append-nil, arith}
use Rattle.std.specs.Prelude.{IsErrAnd}
use Rattle.cards.specs.Devices.{Device, TakesWhereTold, StaysWhereTold, NoneIsLeft}
use Rattle.cards.specs.declared.devices.DeviceFault.{DeviceFault}
use Rattle.play_dialogues.specs.declared.words.Typed.{Typed}
use Rattle.play_dialogues.specs.Lines.{IsFirstLine, AreFirstLines, IsNextLine, AreNextLines, IsEmptyWhereTold, LosesLine, ReadsLine}

first_more : (text : List ℕ) (lines : List (List ℕ)) (line rest rest' : List ℕ) →
    AreFirstLines text lines rest → IsFirstLine rest line rest' → AreFirstLines text (lines ++ line ∷ []) rest'
first_more text [] line rest rest' is first =
    (rest', subst (λ (t : List ℕ). IsFirstLine t line rest') is first, refl)
first_more text (one ∷ lines) line rest rest' are first =
    (are.0, are.1, first_more are.0 lines line rest rest' are.2 first)

-- one line more
pub lines_more : (left middle left' : Option (List ℕ)) (lines : List (List ℕ)) (line : List ℕ) →
    AreNextLines left middle lines → IsNextLine middle left' line → AreNextLines left left' (lines ++ line ∷ [])
lines_more None middle left' lines line are next = tt
lines_more (Some left) middle left' lines line are next =
    let next' = subst (λ (m : Option (List ℕ)). IsNextLine m left' line) are.1 next in
    (next'.0, next'.1, first_more left lines line are.0 next'.0 are.2 next'.2)

-- and where nothing more is read
pub lines_stay : (left middle left' : Option (List ℕ)) (lines : List (List ℕ)) →
    AreNextLines left middle lines → StaysWhereTold middle left' → AreNextLines left left' lines
lines_stay None middle left' lines are stays = tt
lines_stay (Some left) middle left' lines are stays =
    (are.0, subst (λ (m : Option (List ℕ)). StaysWhereTold m left') are.1 stays, are.2)

-- and where nothing was left nothing is
pub end_told : (left middle left' : Option (List ℕ)) (lines : List (List ℕ)) →
    AreNextLines left middle lines → NoneIsLeft middle → StaysWhereTold middle left' → IsEmptyWhereTold left left'
end_told None middle left' lines are none stays = tt
end_told (Some left) middle left' lines are none stays =
    let none' : are.0 ≡ [] = subst NoneIsLeft are.1 none in
    let stays' : left' ≡ Some are.0 = subst (λ (m : Option (List ℕ)). StaysWhereTold m left') are.1 stays in
    stays' ∙ ap Some none'

-- before the first
pub lines_none : (left : Option (List ℕ)) → AreNextLines left left []
lines_none None = tt
lines_none (Some left) = (left, refl, refl)

-- ---- byte after byte
pub taken_none : (left : Option (List ℕ)) → TakesWhereTold left left []
taken_none None = tt
taken_none (Some left) = (left, refl, refl)

pub taken_more : (left middle left' : Option (List ℕ)) (seen more : List ℕ) →
    TakesWhereTold left middle seen → TakesWhereTold middle left' more → TakesWhereTold left left' (seen ++ more)
taken_more None middle left' seen more taken taken' = tt
taken_more (Some left) middle left' seen more taken taken' =
    let then' = subst (λ (m : Option (List ℕ)). TakesWhereTold m left' more) taken.1 taken' in
    (then'.0, then'.1, taken.2 ∙ (ap (λ (t : List ℕ). seen ++ t) then'.2 ∙ sym (append_assoc seen more then'.0)))

-- the bytes before a line feed are a line
pub line_fed : (left middle left' : Option (List ℕ)) (seen : List ℕ) →
    TakesWhereTold left middle seen → TakesWhereTold middle left' (10 ∷ []) → (Contains seen 10 → ⊥) →
    IsNextLine left left' seen
line_fed None middle left' seen taken fed one = tt
line_fed (Some left) middle left' seen taken fed one =
    let then' = subst (λ (m : Option (List ℕ)). TakesWhereTold m left' (10 ∷ [])) taken.1 fed in
    (then'.0, then'.1, record { one = one; ends = inl (taken.2 ∙ ap (λ (t : List ℕ). seen ++ t) then'.2) })

-- and so are the last bytes
pub line_last : (left middle left' : Option (List ℕ)) (seen : List ℕ) →
    TakesWhereTold left middle seen → NoneIsLeft middle → StaysWhereTold middle left' → (Contains seen 10 → ⊥) →
    (seen ≡ [] → ⊥) → IsNextLine left left' seen
line_last None middle left' seen taken none stays one some = tt
line_last (Some left) middle left' seen taken none stays one some =
    let none' : taken.0 ≡ [] = subst NoneIsLeft taken.1 none in
    let stays' : left' ≡ Some taken.0 = subst (λ (m : Option (List ℕ)). StaysWhereTold m left') taken.1 stays in (
      [],
      stays' ∙ ap Some none',
      record {
        one = one;
        ends = inr (taken.2 ∙ (ap (λ (t : List ℕ). seen ++ t) none' ∙ append-nil seen), some, refl);
      },
    )

-- where nothing was read, nothing was left
pub none_left : (left middle left' : Option (List ℕ)) →
    TakesWhereTold left middle [] → NoneIsLeft middle → StaysWhereTold middle left' →
    NoneIsLeft left × StaysWhereTold left left'
none_left None middle left' taken none stays = (tt, tt)
none_left (Some left) middle left' taken none stays =
    let none' : taken.0 ≡ [] = subst NoneIsLeft taken.1 none in
    let stays' : left' ≡ Some taken.0 = subst (λ (m : Option (List ℕ)). StaysWhereTold m left') taken.1 stays in
    (taken.2 ∙ none', stays' ∙ ap Some (sym taken.2))

-- a call that failed took no byte more
pub taken_stays : (left middle left' : Option (List ℕ)) (seen : List ℕ) →
    TakesWhereTold left middle seen → StaysWhereTold middle left' → TakesWhereTold left left' seen
taken_stays None middle left' seen taken stays = tt
taken_stays (Some left) middle left' seen taken stays =
    let stays' : left' ≡ Some taken.0 = subst (λ (m : Option (List ℕ)). StaysWhereTold m left') taken.1 stays in
    (taken.0, stays', taken.2)

pub none_of : (seen : List ℕ) → length seen ≡ 0 → seen ≡ []
none_of [] h = refl
none_of (byte ∷ seen) h = absurd (omega (arith, h))

-- the exit of a `?`
pub reads_err : (old new : Device) (result : Result (Option Typed) DeviceFault) (Q : DeviceFault → Type 0) →
    IsErrAnd result Q → LosesLine old new → ReadsLine old new result
reads_err old new (Ok typed) Q e loses = absurd e
reads_err old new (Err fault) Q e loses = loses
