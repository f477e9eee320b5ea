-- A Deal value alone says one thing at most.
use Rattle.std.proofs.Common.{◌≡◌, ℕ, List, Result, Ok, Err, sym, ◌∙◌, ap, subst, arith, inl, inr}
use Rattle.cards.specs.Deal.{Deal}
use Rattle.pbn_deals.specs.declared.faults.PbnFault.{PbnFault}
use Rattle.pbn_deals.specs.declared.faults.PbnFault.TheVariants.{TagForm, OpenComment, SecondDeal, DealForm, CardTwice, HandSize, Inherited, TooManyBoards, OutOfMemory}
use Rattle.pbn_deals.specs.Dealing.{Holding, AreSized, AreMissized}
use Rattle.pbn_deals.specs.DealValue.{naming_of}
use Rattle.pbn_deals.specs.LayoutValue.{SaysLayout}
use Rattle.pbn_deals.proofs.OneDeal.{one_deal, one_held, held_moved, once_or_twice}

-- hands of one size are not of wrong sizes
sized_or_not : (held held' : List Holding) → held' ≡ held → AreSized held → AreMissized held' → ⊥
sized_or_not held held' e sized wrong = go (subst AreMissized e wrong) where
  go : AreMissized held → ⊥
  go wrong' = elim wrong' [
    | inl none ↦ absurd (omega (arith, none, sized.some_cards))
    | inr more ↦ elim more [
      | inl over ↦ absurd (omega (arith, over, sized.at_most_13))
      | inr apart ↦ apart.1 (sized.equal apart.0)
    ]
  ]

pub one_layout : (value : List ℕ) (one other : Result Deal PbnFault) → SaysLayout value one → SaysLayout value other → one ≡ other
one_layout v (Ok d) (Ok d') a b = ap Ok (one_deal a.0 d d' a.2 (held_moved a.0 b.0 d' (one_held (naming_of v) b.0 a.0 b.1 a.1) b.2))
one_layout v (Ok d) (Err (DealForm line)) a b = absurd (b.1 a.0 a.1)
one_layout v (Ok d) (Err (CardTwice line)) a b = absurd (once_or_twice a.0 b.1 (one_held (naming_of v) b.1 a.0 b.2 a.1) a.2.once b.3)
one_layout v (Ok d) (Err (HandSize line)) a b = absurd (sized_or_not a.0 b.1 (one_held (naming_of v) b.1 a.0 b.2 a.1) a.2.sized b.4)
one_layout v (Err (DealForm line)) (Ok d) a b = absurd (a.1 b.0 b.1)
one_layout v (Err (DealForm line)) (Err (DealForm line')) a b = ap (λ (n : ℕ). Err (DealForm n)) (a.0 ∙ sym b.0)
one_layout v (Err (DealForm line)) (Err (CardTwice line')) a b = absurd (a.1 b.1 b.2)
one_layout v (Err (DealForm line)) (Err (HandSize line')) a b = absurd (a.1 b.1 b.2)
one_layout v (Err (CardTwice line)) (Ok d) a b = absurd (once_or_twice b.0 a.1 (one_held (naming_of v) a.1 b.0 a.2 b.1) b.2.once a.3)
one_layout v (Err (CardTwice line)) (Err (DealForm line')) a b = absurd (b.1 a.1 a.2)
one_layout v (Err (CardTwice line)) (Err (CardTwice line')) a b = ap (λ (n : ℕ). Err (CardTwice n)) (a.0 ∙ sym b.0)
one_layout v (Err (CardTwice line)) (Err (HandSize line')) a b = absurd (once_or_twice b.1 a.1 (one_held (naming_of v) a.1 b.1 a.2 b.2) b.3 a.3)
one_layout v (Err (HandSize line)) (Ok d) a b = absurd (sized_or_not b.0 a.1 (one_held (naming_of v) a.1 b.0 a.2 b.1) b.2.sized a.4)
one_layout v (Err (HandSize line)) (Err (DealForm line')) a b = absurd (b.1 a.1 a.2)
one_layout v (Err (HandSize line)) (Err (CardTwice line')) a b = absurd (once_or_twice a.1 b.1 (one_held (naming_of v) b.1 a.1 b.2 a.2) a.3 b.3)
one_layout v (Err (HandSize line)) (Err (HandSize line')) a b = ap (λ (n : ℕ). Err (HandSize n)) (a.0 ∙ sym b.0)
one_layout v (Err (TagForm line)) other a b = absurd a
one_layout v (Err (OpenComment line)) other a b = absurd a
one_layout v (Err (SecondDeal line)) other a b = absurd a
one_layout v (Err (Inherited line)) other a b = absurd a
one_layout v (Err (TooManyBoards line)) other a b = absurd a
one_layout v (Err OutOfMemory) other a b = absurd a
one_layout v (Ok d) (Err (TagForm line)) a b = absurd b
one_layout v (Ok d) (Err (OpenComment line)) a b = absurd b
one_layout v (Ok d) (Err (SecondDeal line)) a b = absurd b
one_layout v (Ok d) (Err (Inherited line)) a b = absurd b
one_layout v (Ok d) (Err (TooManyBoards line)) a b = absurd b
one_layout v (Ok d) (Err OutOfMemory) a b = absurd b
one_layout v (Err (DealForm n)) (Err (TagForm line)) a b = absurd b
one_layout v (Err (DealForm n)) (Err (OpenComment line)) a b = absurd b
one_layout v (Err (DealForm n)) (Err (SecondDeal line)) a b = absurd b
one_layout v (Err (DealForm n)) (Err (Inherited line)) a b = absurd b
one_layout v (Err (DealForm n)) (Err (TooManyBoards line)) a b = absurd b
one_layout v (Err (DealForm n)) (Err OutOfMemory) a b = absurd b
one_layout v (Err (CardTwice n)) (Err (TagForm line)) a b = absurd b
one_layout v (Err (CardTwice n)) (Err (OpenComment line)) a b = absurd b
one_layout v (Err (CardTwice n)) (Err (SecondDeal line)) a b = absurd b
one_layout v (Err (CardTwice n)) (Err (Inherited line)) a b = absurd b
one_layout v (Err (CardTwice n)) (Err (TooManyBoards line)) a b = absurd b
one_layout v (Err (CardTwice n)) (Err OutOfMemory) a b = absurd b
one_layout v (Err (HandSize n)) (Err (TagForm line)) a b = absurd b
one_layout v (Err (HandSize n)) (Err (OpenComment line)) a b = absurd b
one_layout v (Err (HandSize n)) (Err (SecondDeal line)) a b = absurd b
one_layout v (Err (HandSize n)) (Err (Inherited line)) a b = absurd b
one_layout v (Err (HandSize n)) (Err (TooManyBoards line)) a b = absurd b
one_layout v (Err (HandSize n)) (Err OutOfMemory) a b = absurd b
