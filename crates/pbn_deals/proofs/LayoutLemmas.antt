-- A layout from the words of bits is the deal of the cards named.
use Rattle.std.proofs.Common.{◌≡◌, ℕ, Bool, true, false, List, Option, Some, None, sym, ◌∙◌, ap, arith, inl, inr, Err}
use Rattle.cards.specs.declared.seats.Seat.TheVariants.{North}
use Rattle.cards.specs.declared.layouts.LayoutFault.{LayoutFault}
use Rattle.cards.specs.declared.layouts.LayoutFault.TheVariants.{StrayBit, CardTwice, HandSize}
use Rattle.cards.specs.Deal.{Deal}
use Rattle.cards.specs.FromHands.{MeetsHands, IsLayoutOf}
use Rattle.pbn_deals.specs.declared.dealings.Dealing.{Dealing}
use Rattle.pbn_deals.specs.Dealing.{Holding, NamesTwice, AreMissized, IsDealOf}
use Rattle.pbn_deals.specs.DealValue.{Naming, full}
use Rattle.pbn_deals.specs.Words.{Represents, IsOnce, TellsTwice, ReadsNaming}

-- the cards that a value names, where each hand is known
pub record Says (dealing : Dealing) (said : Option Naming) : Type 0 where
  pub held : List Holding
  pub is_said : said ≡ full held
  pub represents : Represents dealing held

pub Says-from_read : (dealing : Dealing) (said : Option Naming) → ReadsNaming (Some dealing) said → dealing.is_partial ≡ false → Says dealing said
Says-from_read dealing (Some naming) reads whole =
    let partial : naming.is_partial ≡ false = sym reads.1 ∙ whole in
    let name : Bool → Option Naming = λ b. Some (record { held = naming.held; is_partial = b }) in
    record { held = naming.held; is_said = ap name partial; represents = reads.0 }
Says-from_read dealing None reads whole = absurd reads

pub NamesTwice-from_told : (twice : Bool) (hands : List ℕ) (held : List Holding) → TellsTwice twice hands held → twice ≡ true → NamesTwice held
NamesTwice-from_told true hands held t e = t
NamesTwice-from_told false hands held t e = absurd (cc)

pub IsOnce-from_told : (twice : Bool) (hands : List ℕ) (held : List Holding) → TellsTwice twice hands held → twice ≡ false → IsOnce hands held
IsOnce-from_told false hands held t e = t
IsOnce-from_told true hands held t e = absurd (cc)

module _ (dealing : Dealing) (held : List Holding) (rep : Represents dealing held) (once : IsOnce dealing.hands held) where
  pub IsDealOf-from_words : (deal : Deal) → IsLayoutOf dealing.hands deal → IsDealOf held deal
  IsDealOf-from_words deal is = record {
    once = once.once;
    sized = record {
      some_cards = omega (arith, once.sizes North, is.sized.some_cards);
      at_most_13 = omega (arith, once.sizes North, is.sized.at_most_13);
      equal = λ seat. omega (arith, once.sizes North, once.sizes seat, is.sized.equal seat);
    };
    holders = λ card seat. (λ e. rep.named card seat (is.deals.no_others card seat e), λ h. is.deals.held card seat (rep.has card seat h));
    layout = is.layout;
  }

  pub AreMissized-from_words : (fault : LayoutFault) → MeetsHands dealing.hands (Err fault) → AreMissized held
  AreMissized-from_words StrayBit h = absurd (omega (arith, h.1, rep.cards_alone h.0))
  AreMissized-from_words CardTwice h = absurd (h.1.apart (once.apart h.1.card h.1.one h.1.other h.1.in_one h.1.in_other))
  AreMissized-from_words HandSize h =
      elim h.2 [
        | inl e ↦ inl (omega (arith, once.sizes North, e))
        | inr more ↦ elim more [
          | inl over ↦ inr (inl (omega (arith, once.sizes North, over)))
          | inr apart ↦ inr (inr (apart.0, λ e. apart.1 (once.sizes apart.0 ∙ (e ∙ sym (once.sizes North)))))
        ]
      ]
