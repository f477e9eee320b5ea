-- A tag does one thing at most to a game.
use Rattle.std.proofs.Common.{◌≡◌, ℕ, Bool, true, false, List, [], ◌∷◌, Option, Some, None, Result, Ok, cond, eqb, filter, refl, sym, ◌∙◌, ap, subst, arith, inl, inr}
use Rattle.cards.specs.declared.seats.Seat.{Seat}
use Rattle.cards.specs.Deal.{Deal}
use Rattle.std.specs.List.{slice_split, onto_first}
use Rattle.std.proofs.lemmas.Bool.{eqb-true}
use Rattle.std.proofs.lemmas.List.Splits.{slice_split-cons_no}
use Rattle.pbn_deals.specs.Letters.{is_blank, seat_of_letter}
use Rattle.pbn_deals.proofs.WordLemmas.{after_blanks-front, words_of-after_blanks}
use Rattle.pbn_deals.specs.declared.faults.PbnFault.{PbnFault}
use Rattle.pbn_deals.specs.Dealing.{Holding, cards_named}
use Rattle.pbn_deals.specs.DealValue.{Naming, full, naming_of, naming_at, naming_from, after_blanks, words_of, is_word}
use Rattle.pbn_deals.specs.Tags.{is_inherited}
use Rattle.pbn_deals.specs.Games.{Tags, SaysDeal, says_inherited, says_nothing, says_other_form, says_part, says_twice, says_size, says_deal, IsNoDeal, HasOtherSize, TakesBoard, inherited_board, first_board, later_board, TakesDeal, second_deal, faulty_deal, deal_too_many, only_deal, TakesTag, board_tag, deal_tag, other_tag}
use Rattle.pbn_deals.proofs.OneDeal.{one_deal, one_held, held_moved, once_or_twice}

size_or_thirteen : (held held' : List Holding) → held' ≡ held → HasOtherSize held' → ((seat : Seat) → cards_named held seat ≡ 13) → ⊥
size_or_thirteen held held' e other all = let other' = subst HasOtherSize e other in other'.1 (all other'.0)

pub part_or_full : (said : Option Naming) (naming : Naming) (held : List Holding) → said ≡ Some naming → naming.is_partial ≡ true → said ≡ full held → ⊥
part_or_full said naming held e p f =
    let same : Some naming ≡ full held = sym e ∙ f in
    let inside : naming ≡ record { held = held; is_partial = false } = cc in
    let no : naming.is_partial ≡ false = ap (λ (x : Naming). x.is_partial) inside in
    absurd (cc)

-- ---- a value of the form begins with a seat letter and a colon
pub record Begins (rest : List ℕ) : Type 0 where
  pub letter : ℕ
  pub text : List ℕ
  pub seat : Seat
  pub begins : rest ≡ letter ∷ 58 ∷ text
  pub names : seat_of_letter letter ≡ Some seat

begins_with : (rest : List ℕ) (naming : Naming) → naming_at rest ≡ Some naming → Begins rest
begins_with [] naming e = absurd (cc)
begins_with (letter ∷ []) naming e = absurd (cc)
begins_with (letter ∷ colon ∷ text) naming e = go (eqb colon 58) refl e where
  seated : (seat : Option Seat) → seat_of_letter letter ≡ seat → naming_from seat text ≡ Some naming → (found : Seat) × (seat_of_letter letter ≡ Some found)
  seated (Some found) f g = (found, f)
  seated None f g = absurd (cc)

  go : (b : Bool) → eqb colon 58 ≡ b → cond b (naming_from (seat_of_letter letter) text) None ≡ Some naming → Begins (letter ∷ colon ∷ text)
  go true f g =
      let found = seated (seat_of_letter letter) refl g in
      record { letter = letter; text = text; seat = found.0; begins = ap (λ c. letter ∷ c ∷ text) (eqb-true colon 58 f); names = found.1 }
  go false f g = absurd (cc)

not_inherited : (value : List ℕ) (naming : Naming) → naming_of value ≡ Some naming → is_inherited (after_blanks value) ≡ true → ⊥
not_inherited value naming e h =
    let found = begins_with (after_blanks value) naming e in
    let sign : eqb found.letter 35 ≡ true = rw found.begins at h in
    let none : seat_of_letter found.letter ≡ None = ap seat_of_letter (eqb-true found.letter 35 sign) in
    let clash : None ≡ Some found.seat = sym none ∙ found.names in
    absurd (cc)

onto_some : (byte : ℕ) (parts : List (List ℕ)) → (part : List ℕ) × (others : List (List ℕ)) × (onto_first byte parts ≡ (byte ∷ part) ∷ others)
onto_some byte [] = ([], [], refl)
onto_some byte (part ∷ parts) = (part, parts, refl)

not_nothing : (value : List ℕ) (naming : Naming) → naming_of value ≡ Some naming → IsNoDeal value → ⊥
not_nothing value naming e h =
    let found = begins_with (after_blanks value) naming e in
    let letter = found.letter in
    let no_blank : is_blank letter ≡ false = after_blanks-front value letter (58 ∷ found.text) found.begins in
    let one = onto_some 58 (slice_split is_blank found.text) in
    let split : slice_split is_blank (letter ∷ 58 ∷ found.text) ≡ (letter ∷ 58 ∷ one.0) ∷ one.1 =
    slice_split-cons_no is_blank letter (58 ∷ found.text) no_blank
    ∙ (ap (onto_first letter) (slice_split-cons_no is_blank 58 found.text refl) ∙ ap (onto_first letter) one.2) in
    let words : words_of value ≡ (letter ∷ 58 ∷ one.0) ∷ filter is_word one.1 =
    words_of-after_blanks value ∙ (ap words_of found.begins ∙ ap (filter is_word) split) in
    elim h [
      | inl none ↦ (let clash : (letter ∷ 58 ∷ one.0) ∷ filter is_word one.1 ≡ [] = sym words ∙ none in absurd (cc))
      | inr question ↦ (let clash : (letter ∷ 58 ∷ one.0) ∷ filter is_word one.1 ≡ (63 ∷ []) ∷ [] = sym words ∙ question in absurd (cc))
    ]

none_or_some : {said : Option Naming} {naming : Naming} → said ≡ None → said ≡ Some naming → ⊥
none_or_some e f = cc

-- a value says one thing at most
one_saying : {line : ℕ} {value : List ℕ} {one other : Result (Option Deal) PbnFault} → SaysDeal line value one → SaysDeal line value other → one ≡ other
one_saying {value = v} (says_inherited p) (says_inherited p') = refl
one_saying {value = v} (says_inherited p) (says_nothing p' n') = absurd (cc)
one_saying {value = v} (says_inherited p) (says_other_form p' n' k') = absurd (cc)
one_saying {value = v} (says_inherited p) (says_part k' m') = absurd (not_inherited v _ k' p)
one_saying {value = v} (says_inherited p) (says_twice k' m') = absurd (not_inherited v _ k' p)
one_saying {value = v} (says_inherited p) (says_size k' o' m') = absurd (not_inherited v _ k' p)
one_saying {value = v} (says_inherited p) (says_deal k' d' a') = absurd (not_inherited v _ k' p)
one_saying {value = v} (says_nothing p n) (says_inherited p') = absurd (cc)
one_saying {value = v} (says_nothing p n) (says_nothing p' n') = refl
one_saying {value = v} (says_nothing p n) (says_other_form p' n' k') = absurd (n' n)
one_saying {value = v} (says_nothing p n) (says_part k' m') = refl
one_saying {value = v} (says_nothing p n) (says_twice k' m') = absurd (not_nothing v _ k' n)
one_saying {value = v} (says_nothing p n) (says_size k' o' m') = absurd (not_nothing v _ k' n)
one_saying {value = v} (says_nothing p n) (says_deal k' d' a') = absurd (not_nothing v _ k' n)
one_saying {value = v} (says_other_form p n k) (says_inherited p') = absurd (cc)
one_saying {value = v} (says_other_form p n k) (says_nothing p' n') = absurd (n n')
one_saying {value = v} (says_other_form p n k) (says_other_form p' n' k') = refl
one_saying {value = v} (says_other_form p n k) (says_part k' m') = absurd (none_or_some k k')
one_saying {value = v} (says_other_form p n k) (says_twice k' m') = absurd (none_or_some k k')
one_saying {value = v} (says_other_form p n k) (says_size k' o' m') = absurd (none_or_some k k')
one_saying {value = v} (says_other_form p n k) (says_deal k' d' a') = absurd (none_or_some k k')
one_saying {value = v} (says_part k m) (says_inherited p') = absurd (not_inherited v _ k p')
one_saying {value = v} (says_part k m) (says_nothing p' n') = refl
one_saying {value = v} (says_part k m) (says_other_form p' n' k') = absurd (none_or_some k' k)
one_saying {value = v} (says_part k m) (says_part k' m') = refl
one_saying {value = v} (says_part k m) (says_twice k' m') = absurd (part_or_full _ _ _ k m k')
one_saying {value = v} (says_part k m) (says_size k' o' m') = absurd (part_or_full _ _ _ k m k')
one_saying {value = v} (says_part k m) (says_deal k' d' a') = absurd (part_or_full _ _ _ k m k')
one_saying {value = v} (says_twice k m) (says_inherited p') = absurd (not_inherited v _ k p')
one_saying {value = v} (says_twice k m) (says_nothing p' n') = absurd (not_nothing v _ k n')
one_saying {value = v} (says_twice k m) (says_other_form p' n' k') = absurd (none_or_some k' k)
one_saying {value = v} (says_twice k m) (says_part k' m') = absurd (part_or_full _ _ _ k' m' k)
one_saying {value = v} (says_twice k m) (says_twice k' m') = refl
one_saying {value = v} (says_twice k m) (says_size k' o' m') = absurd (once_or_twice _ _ (one_held _ _ _ k k') o' m)
one_saying {value = v} (says_twice k m) (says_deal k' d' a') = absurd (once_or_twice _ _ (one_held _ _ _ k k') d'.once m)
one_saying {value = v} (says_size k o m) (says_inherited p') = absurd (not_inherited v _ k p')
one_saying {value = v} (says_size k o m) (says_nothing p' n') = absurd (not_nothing v _ k n')
one_saying {value = v} (says_size k o m) (says_other_form p' n' k') = absurd (none_or_some k' k)
one_saying {value = v} (says_size k o m) (says_part k' m') = absurd (part_or_full _ _ _ k' m' k)
one_saying {value = v} (says_size k o m) (says_twice k' m') = absurd (once_or_twice _ _ (one_held _ _ _ k' k) o m')
one_saying {value = v} (says_size k o m) (says_size k' o' m') = refl
one_saying {value = v} (says_size k o m) (says_deal k' d' a') = absurd (size_or_thirteen _ _ (one_held _ _ _ k k') m a')
one_saying {value = v} (says_deal k d a) (says_inherited p') = absurd (not_inherited v _ k p')
one_saying {value = v} (says_deal k d a) (says_nothing p' n') = absurd (not_nothing v _ k n')
one_saying {value = v} (says_deal k d a) (says_other_form p' n' k') = absurd (none_or_some k' k)
one_saying {value = v} (says_deal k d a) (says_part k' m') = absurd (part_or_full _ _ _ k' m' k)
one_saying {value = v} (says_deal k d a) (says_twice k' m') = absurd (once_or_twice _ _ (one_held _ _ _ k' k) d.once m')
one_saying {value = v} (says_deal k d a) (says_size k' o' m') = absurd (size_or_thirteen _ _ (one_held _ _ _ k' k) m' a)
one_saying {value = v} (says_deal k d a) (says_deal k' d' a') = ap Ok (ap Some (one_deal _ _ _ d (held_moved _ _ _ (one_held _ _ _ k' k) d')))

one_board_taking : {line : ℕ} {tags : Tags} {value : List ℕ} {one other : Result Tags PbnFault} → TakesBoard line tags value one → TakesBoard line tags value other → one ≡ other
one_board_taking (inherited_board p) (inherited_board p') = refl
one_board_taking (inherited_board p) (first_board p' n') = absurd (cc)
one_board_taking (inherited_board p) (later_board p' n') = absurd (cc)
one_board_taking (first_board p n) (inherited_board p') = absurd (cc)
one_board_taking (first_board p n) (first_board p' n') = refl
one_board_taking (first_board p n) (later_board p' n') = absurd (cc)
one_board_taking (later_board p n) (inherited_board p') = absurd (cc)
one_board_taking (later_board p n) (first_board p' n') = absurd (cc)
one_board_taking (later_board p n) (later_board p' n') = refl

one_deal_taking : {line count : ℕ} {tags : Tags} {value : List ℕ} {one other : Result Tags PbnFault} → TakesDeal line count tags value one → TakesDeal line count tags value other → one ≡ other
one_deal_taking (second_deal n) (second_deal n') = refl
one_deal_taking (second_deal n) (faulty_deal n' d') = absurd (cc)
one_deal_taking (second_deal n) (deal_too_many n' d' c') = absurd (cc)
one_deal_taking (second_deal n) (only_deal n' d' c') = absurd (cc)
one_deal_taking (faulty_deal n d) (second_deal n') = absurd (cc)
one_deal_taking (faulty_deal n d) (faulty_deal n' d') = let same = one_saying d d' in cc
one_deal_taking (faulty_deal n d) (deal_too_many n' d' c') = absurd (let same = one_saying d d' in cc)
one_deal_taking (faulty_deal n d) (only_deal n' d' c') = absurd (let same = one_saying d d' in cc)
one_deal_taking (deal_too_many n d c) (second_deal n') = absurd (cc)
one_deal_taking (deal_too_many n d c) (faulty_deal n' d') = absurd (let same = one_saying d d' in cc)
one_deal_taking (deal_too_many n d c) (deal_too_many n' d' c') = refl
one_deal_taking (deal_too_many n d c) (only_deal n' d' c') = absurd (omega (arith, c, c'))
one_deal_taking (only_deal n d c) (second_deal n') = absurd (cc)
one_deal_taking (only_deal n d c) (faulty_deal n' d') = absurd (let same = one_saying d d' in cc)
one_deal_taking (only_deal n d c) (deal_too_many n' d' c') = absurd (omega (arith, c, c'))
one_deal_taking (only_deal n d c) (only_deal n' d' c') = let same = one_saying d d' in cc

pub one_taking : {line count : ℕ} {tags : Tags} {name value : List ℕ} {one other : Result Tags PbnFault} → TakesTag line count tags name value one → TakesTag line count tags name value other → one ≡ other
one_taking (board_tag b t) (board_tag b' t') = one_board_taking t t'
one_taking (board_tag b t) (deal_tag b' d' t') = absurd (cc)
one_taking (board_tag b t) (other_tag b' d') = absurd (cc)
one_taking (deal_tag b d t) (board_tag b' t') = absurd (cc)
one_taking (deal_tag b d t) (deal_tag b' d' t') = one_deal_taking t t'
one_taking (deal_tag b d t) (other_tag b' d') = absurd (cc)
one_taking (other_tag b d) (board_tag b' t') = absurd (cc)
one_taking (other_tag b d) (deal_tag b' d' t') = absurd (cc)
one_taking (other_tag b d) (other_tag b' d') = refl
