-- The deal of a value, and what a tag does.
use Rattle.std.proofs.Common.{◌≡◌, ℕ, true, false, List, Option, Some, None, Result, Ok, Err, refl, sym, ◌∙◌, arith, inl, inr}
use Rattle.std.proofs.lemmas.Bool.{cases_eq}
use Rattle.std.specs.Prelude.{count_ones, is_some}
use Rattle.cards.specs.declared.seats.Seat.TheVariants.{North}
use Rattle.cards.specs.declared.layouts.LayoutFault.{LayoutFault}
use Rattle.cards.specs.Deal.{Deal}
use Rattle.cards.specs.Hands.{word_of}
use Rattle.cards.specs.FromHands.{MeetsHands, IsLayoutOf}
use Rattle.pbn_deals.specs.declared.dealings.Dealing.{Dealing}
use Rattle.pbn_deals.specs.declared.games.GameTags.{GameTags}
use Rattle.pbn_deals.specs.declared.faults.PbnFault.{PbnFault}
use Rattle.pbn_deals.specs.declared.faults.PbnFault.TheVariants.{TagForm, OpenComment, SecondDeal, DealForm, CardTwice, HandSize, Inherited, TooManyBoards, OutOfMemory}
use Rattle.pbn_deals.specs.Dealing.{Holding, cards_named, AreMissized}
use Rattle.pbn_deals.specs.DealValue.{Naming, naming_of}
use Rattle.pbn_deals.specs.Words.{ReadsNaming}
use Rattle.pbn_deals.specs.Games.{SaysDeal, HasOtherSize, says_part, says_twice, says_size, says_deal, Tags}
use Rattle.pbn_deals.specs.Views.{UnlessMemory, Steps, tags_seen}
use Rattle.pbn_deals.proofs.LayoutLemmas.{Says-from_read, NamesTwice-from_told, IsOnce-from_told, IsDealOf-from_words, AreMissized-from_words}

-- a fault that a fact holds of
pub unless_memory : (fault : PbnFault) (P : Type 0) → P → UnlessMemory fault P
unless_memory (TagForm line) P p = p
unless_memory (OpenComment line) P p = p
unless_memory (SecondDeal line) P p = p
unless_memory (DealForm line) P p = p
unless_memory (CardTwice line) P p = p
unless_memory (HandSize line) P p = p
unless_memory (Inherited line) P p = p
unless_memory (TooManyBoards line) P p = p
unless_memory OutOfMemory P p = tt

pub unless_memory-weaker : (fault : PbnFault) (P Q : Type 0) → (P → Q) → UnlessMemory fault P → UnlessMemory fault Q
unless_memory-weaker (TagForm line) P Q f p = f p
unless_memory-weaker (OpenComment line) P Q f p = f p
unless_memory-weaker (SecondDeal line) P Q f p = f p
unless_memory-weaker (DealForm line) P Q f p = f p
unless_memory-weaker (CardTwice line) P Q f p = f p
unless_memory-weaker (HandSize line) P Q f p = f p
unless_memory-weaker (Inherited line) P Q f p = f p
unless_memory-weaker (TooManyBoards line) P Q f p = f p
unless_memory-weaker OutOfMemory P Q f p = tt

pub Steps-weaker : {X : Type 0} (P Q : Result Tags PbnFault → Type 0) → ((r : Result Tags PbnFault) → P r → Q r) → (r : Result X PbnFault) (tags : GameTags) → Steps P r tags → Steps Q r tags
Steps-weaker P Q f (Ok done) tags s = f (Ok (tags_seen tags)) s
Steps-weaker P Q f (Err fault) tags s = unless_memory-weaker fault (P (Err fault)) (Q (Err fault)) (f (Err fault)) s

pub not_named : (said : Option Naming) → ReadsNaming None said → said ≡ None
not_named (Some naming) h = absurd h
not_named None h = refl

pub part_named : (line : ℕ) (value : List ℕ) (dealing : Dealing) → ReadsNaming (Some dealing) (naming_of value) → dealing.is_partial ≡ true → SaysDeal line value (Ok None)
part_named line value dealing reads partial =
    let found = named (naming_of value) reads in
    says_part found.1 (sym found.2 ∙ partial)
  where
    named : (said : Option Naming) → ReadsNaming (Some dealing) said → (naming : Naming) × (said ≡ Some naming) × (dealing.is_partial ≡ naming.is_partial)
    named (Some naming) h = (naming, refl, h.1)
    named None h = absurd h

pub other_size : (held : List Holding) → AreMissized held → HasOtherSize held
other_size held h =
    elim h [
      | inl none ↦ (North, λ e. absurd (omega (arith, none, e)))
      | inr more ↦ elim more [
        | inl over ↦ (North, λ e. absurd (omega (arith, over, e)))
        | inr apart ↦ elim (cases_eq (cards_named held North) 13) [
          | inl e ↦ (apart.0, λ q. apart.1 (q ∙ sym e))
          | inr ne ↦ (North, ne)
        ]
      ]
    ]

module _ (line : ℕ) (value : List ℕ) (dealing : Dealing) (reads : ReadsNaming (Some dealing) (naming_of value)) (whole : dealing.is_partial ≡ false) where
  pub named_twice : dealing.is_twice ≡ true → SaysDeal line value (Err (CardTwice line))
  named_twice e =
      let said = Says-from_read dealing (naming_of value) reads whole in
      says_twice said.is_said (NamesTwice-from_told dealing.is_twice dealing.hands said.held said.represents.twice e)

  pub named_layout : dealing.is_twice ≡ false → (dealt : Deal) → IsLayoutOf dealing.hands dealt → count_ones (word_of dealing.hands North) ≡ 13 → SaysDeal line value (Ok (Some dealt))
  named_layout e dealt is thirteen =
      let said = Says-from_read dealing (naming_of value) reads whole in
      let once = IsOnce-from_told dealing.is_twice dealing.hands said.held said.represents.twice e in
      says_deal said.is_said (IsDealOf-from_words dealing said.held said.represents once dealt is)
      (λ seat. omega (arith, once.sizes seat, is.sized.equal seat, thirteen))

  pub named_other_size : dealing.is_twice ≡ false → (count_ones (word_of dealing.hands North) ≡ 13 → ⊥) → SaysDeal line value (Err (HandSize line))
  named_other_size e ne =
      let said = Says-from_read dealing (naming_of value) reads whole in
      let once = IsOnce-from_told dealing.is_twice dealing.hands said.held said.represents.twice e in
      says_size said.is_said once.once (North, λ q. ne (once.sizes North ∙ q))

  pub named_missized : dealing.is_twice ≡ false → (fault : LayoutFault) → MeetsHands dealing.hands (Err fault) → SaysDeal line value (Err (HandSize line))
  named_missized e fault meets =
      let said = Says-from_read dealing (naming_of value) reads whole in
      let once = IsOnce-from_told dealing.is_twice dealing.hands said.held said.represents.twice e in
      says_size said.is_said once.once (other_size said.held (AreMissized-from_words dealing said.held said.represents once fault meets))

pub some_of : {A : Type 0} (o : Option A) → true ≡ is_some o → (x : A) × (o ≡ Some x)
some_of (Some x) e = (x, refl)
some_of None e = absurd (cc)

pub none_of : {A : Type 0} (o : Option A) → false ≡ is_some o → o ≡ None
none_of (Some x) e = absurd (cc)
none_of None e = refl
