-- Cards that are named are one deal at most.
use Rattle.std.proofs.Common.{◌≡◌, ℕ, ◌<◌, false, List, get_or, Option, Some, None, refl, sym, ◌∙◌, ap, subst, arith}
use Rattle.cards.specs.declared.seats.Seat.{Seat}
use Rattle.cards.specs.Deal.{Deal, holder_of}
use Rattle.cards.proofs.PackLaws.{card_number-card_at}
use Rattle.cards.specs.Pack.{card_at}
use Rattle.std.proofs.lemmas.List.{ext_get_or}
use Rattle.pbn_deals.specs.Dealing.{Holding, IsDealOf, NamesOnce, NamesTwice}
use Rattle.pbn_deals.specs.DealValue.{Naming, full}

-- two deals of the same cards have the same holder of each card
same_holder : (held : List Holding) (one other : Deal) → IsDealOf held one → IsDealOf held other → (n : ℕ) → n < 52 → get_or one n None ≡ get_or other n None
same_holder held one other a b n h = go (get_or one n None) (get_or other n None) refl refl where
  at_card : (deal : Deal) → holder_of deal (card_at n) ≡ get_or deal n None
  at_card deal = ap (λ k. get_or deal k None) (card_number-card_at n h)

  go : (x y : Option Seat) → get_or one n None ≡ x → get_or other n None ≡ y → get_or one n None ≡ get_or other n None
  go (Some s) y e f = e ∙ sym (sym (at_card other) ∙ (b.holders (card_at n) s).1 ((a.holders (card_at n) s).0 (at_card one ∙ e)))
  go None (Some s) e f = (sym (at_card one) ∙ (a.holders (card_at n) s).1 ((b.holders (card_at n) s).0 (at_card other ∙ f))) ∙ sym f
  go None None e f = e ∙ sym f

pub one_deal : (held : List Holding) (one other : Deal) → IsDealOf held one → IsDealOf held other → one ≡ other
one_deal held one other a b =
    ext_get_or None one other (a.layout.whole_pack ∙ sym b.layout.whole_pack)
    (λ n h. same_holder held one other a b n (omega (arith, h, a.layout.whole_pack)))

abbrev whole_naming : List Holding → Naming
whole_naming held = record { held = held; is_partial = false }

pub one_held : (said : Option Naming) (held held' : List Holding) → said ≡ full held → said ≡ full held' → held ≡ held'
one_held said held held' e f =
    let same : full held ≡ full held' = sym e ∙ f in
    let inside : whole_naming held ≡ whole_naming held' = cc in
    ap (λ (x : Naming). x.held) inside

pub held_moved : (held held' : List Holding) (deal : Deal) → held' ≡ held → IsDealOf held' deal → IsDealOf held deal
held_moved held held' deal e d = subst (λ h. IsDealOf h deal) e d

pub once_or_twice : (held held' : List Holding) → held' ≡ held → NamesOnce held → NamesTwice held' → ⊥
once_or_twice held held' e once twice = let twice' = subst NamesTwice e twice in absurd (omega (arith, once twice'.0, twice'.1))
