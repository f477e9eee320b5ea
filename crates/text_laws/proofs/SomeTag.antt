-- A tag does something to a game, or has a fault, and that memory runs out is none.
use Rattle.std.proofs.Common.{◌≡◌, ◌≢◌, ℕ, Bool, true, false, List, [], ◌∷◌, Option, Some, None, Result, Ok, Err, refl, ◌∙◌, ap, inl, inr, ◌⊎◌}
use Rattle.std.proofs.lemmas.Bool.{cases_eq, cases_lt}
use Rattle.cards.specs.declared.seats.Seat.TheVariants.{North}
use Rattle.cards.specs.Deal.{Deal}
use Rattle.pbn_deals.specs.declared.faults.PbnFault.{PbnFault}
use Rattle.pbn_deals.specs.declared.faults.PbnFault.TheVariants.{SecondDeal, DealForm, CardTwice, HandSize, Inherited, TooManyBoards, OutOfMemory}
use Rattle.pbn_deals.specs.Dealing.{Holding, cards_named}
use Rattle.pbn_deals.specs.DealValue.{Naming, naming_of, full, after_blanks, words_of}
use Rattle.pbn_deals.specs.Tags.{is_inherited, is_board, is_deal}
use Rattle.pbn_deals.specs.Games.{Tags, IsNoDeal, SaysDeal, says_inherited, says_nothing, says_other_form, says_part, says_twice, says_size, says_deal, greatest_count, TakesBoard, inherited_board, first_board, later_board, TakesDeal, second_deal, faulty_deal, deal_too_many, only_deal, TakesTag, board_tag, deal_tag, other_tag}
use Rattle.pbn_deals.proofs.GameLemmas.{other_size}
use Rattle.text_laws.proofs.SomeDeal.{Judged, judged, judged_twice, judged_missized, judged_deal}
use Rattle.text_laws.proofs.SomeLayout.{full_from}

-- something that is given, and is not that memory runs out
pub record Given {A : Type 0} (Gives : Result A PbnFault → Type 0) : Type 0 where
  pub what : Result A PbnFault
  pub no_want : what ≢ Err OutOfMemory
  pub is_given : Gives what

pub good : {A : Type 0} (Gives : Result A PbnFault → Type 0) (value : A) → Gives (Ok value) → Given Gives
good Gives value h = record { what = Ok value; no_want = λ e. cc; is_given = h }

-- ---- the value of a Deal tag
is_question : (words : List (List ℕ)) → (words ≡ (63 ∷ []) ∷ []) ⊎ (words ≡ (63 ∷ []) ∷ [] → ⊥)
is_question [] = inr (λ e. cc)
is_question ([] ∷ words) = inr (λ e. cc)
is_question ((byte ∷ []) ∷ []) =
    elim (cases_eq byte 63) [
      | inl e ↦ inl (ap (λ b. (b ∷ []) ∷ []) e)
      | inr ne ↦ inr (λ e. let same : byte ≡ 63 = cc in ne same)
    ]
is_question ((byte ∷ []) ∷ word ∷ words) = inr (λ e. cc)
is_question ((byte ∷ other ∷ bytes) ∷ words) = inr (λ e. cc)

no_deal : (words : List (List ℕ)) → ((words ≡ []) ⊎ (words ≡ (63 ∷ []) ∷ [])) ⊎ ((words ≡ []) ⊎ (words ≡ (63 ∷ []) ∷ []) → ⊥)
no_deal [] = inl (inl refl)
no_deal (word ∷ words) =
    elim (is_question (word ∷ words)) [
      | inl e ↦ inl (inr e)
      | inr ne ↦ inr (λ h. elim h [ inl none ↦ cc | inr e ↦ ne e ])
    ]

module _ (line : ℕ) (value : List ℕ) where
  full_saying : (held : List Holding) → naming_of value ≡ full held → Judged held → Given (SaysDeal line value)
  full_saying held e (judged_twice twice) = record { what = Err (CardTwice line); no_want = λ f. cc; is_given = says_twice e twice }
  full_saying held e (judged_missized once sizes) = record { what = Err (HandSize line); no_want = λ f. cc; is_given = says_size e once (other_size held sizes) }
  full_saying held e (judged_deal deal is) =
      elim (cases_eq (cards_named held North) 13) [
        | inl whole ↦ good (SaysDeal line value) (Some deal) (says_deal e is (λ seat. is.sized.equal seat ∙ whole))
        | inr other ↦ record { what = Err (HandSize line); no_want = λ f. cc; is_given = says_size e is.once (North, other) }
      ]

  named_saying : (naming : Naming) (partial : Bool) → naming.is_partial ≡ partial → naming_of value ≡ Some naming → Given (SaysDeal line value)
  named_saying naming true p e = good (SaysDeal line value) None (says_part e p)
  named_saying naming false p e = full_saying naming.held (e ∙ full_from naming p) (judged naming.held)

  own_saying : is_inherited (after_blanks value) ≡ false → (IsNoDeal value → ⊥) → (said : Option Naming) → naming_of value ≡ said → Given (SaysDeal line value)
  own_saying own some None e = record { what = Err (DealForm line); no_want = λ f. cc; is_given = says_other_form own some e }
  own_saying own some (Some naming) e = named_saying naming naming.is_partial refl e

  some_saying : Given (SaysDeal line value)
  some_saying = go (is_inherited (after_blanks value)) refl where
    go : (inherited : Bool) → is_inherited (after_blanks value) ≡ inherited → Given (SaysDeal line value)
    go true e = record { what = Err (Inherited line); no_want = λ f. cc; is_given = says_inherited e }
    go false e =
        elim (no_deal (words_of value)) [
          | inl none ↦ good (SaysDeal line value) None (says_nothing e none)
          | inr some ↦ own_saying e some (naming_of value) refl
        ]

-- ---- one tag more
some_board_taking : (line : ℕ) (tags : Tags) (value : List ℕ) → Given (TakesBoard line tags value)
some_board_taking line tags value = go (is_inherited value) refl tags.name refl where
  go : (inherited : Bool) → is_inherited value ≡ inherited → (name : Option (List ℕ)) → tags.name ≡ name → Given (TakesBoard line tags value)
  go true e name f = record { what = Err (Inherited line); no_want = λ g. cc; is_given = inherited_board e }
  go false e None f = good (TakesBoard line tags value) (record { name = Some value; deal = tags.deal }) (first_board e f)
  go false e (Some first) f = good (TakesBoard line tags value) tags (later_board e f)

some_deal_taking : (line count : ℕ) (tags : Tags) (value : List ℕ) → Given (TakesDeal line count tags value)
some_deal_taking line count tags value = go tags.deal refl where
  first : tags.deal ≡ None → (said : Result (Option Deal) PbnFault) → said ≢ Err OutOfMemory → SaysDeal line value said → Given (TakesDeal line count tags value)
  first e (Err fault) n says = record { what = Err fault; no_want = λ f. n (ap Err (let same : fault ≡ OutOfMemory = cc in same)); is_given = faulty_deal e says }
  first e (Ok deal) n says =
      elim (cases_lt count greatest_count) [
        | inl few ↦ good (TakesDeal line count tags value) (record { name = tags.name; deal = Some deal }) (only_deal e says few)
        | inr many ↦ record { what = Err (TooManyBoards line); no_want = λ f. cc; is_given = deal_too_many e says many }
      ]

  go : (deal : Option (Option Deal)) → tags.deal ≡ deal → Given (TakesDeal line count tags value)
  go (Some before) e = record { what = Err (SecondDeal line); no_want = λ f. cc; is_given = second_deal e }
  go None e = let said = some_saying line value in first e said.what said.no_want said.is_given

pub some_taking : (line count : ℕ) (tags : Tags) (name value : List ℕ) → Given (TakesTag line count tags name value)
some_taking line count tags name value = go (is_board name) refl (is_deal name) refl where
  go : (board : Bool) → is_board name ≡ board → (deal : Bool) → is_deal name ≡ deal → Given (TakesTag line count tags name value)
  go true e d f = let taken = some_board_taking line tags value in record { what = taken.what; no_want = taken.no_want; is_given = board_tag e taken.is_given }
  go false e true f = let taken = some_deal_taking line count tags value in record { what = taken.what; no_want = taken.no_want; is_given = deal_tag e f taken.is_given }
  go false e false f = good (TakesTag line count tags name value) tags (other_tag e f)
