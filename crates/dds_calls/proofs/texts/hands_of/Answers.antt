-- What a text names is in the words.
use Rattle.std.proofs.Common.{◌≡◌, ℕ, ◌∷◌, [], List, Option, Some, None, Bool, false, sym, ◌∙◌, ap, subst}
use Rattle.pbn_deals.specs.declared.dealings.Dealing.{Dealing}
use Rattle.pbn_deals.specs.Dealing.{Holding}
use Rattle.pbn_deals.specs.DealValue.{Naming, naming_of, full}
use Rattle.pbn_deals.specs.Words.{ReadsNaming, Represents}
use Rattle.dds_calls.specs.Texts.{IsNamed}
use Rattle.dds_calls.proofs.TextHands.{hands_are_of_cards, hand_bit_of, hands_with}
use Rattle.dds_calls.proofs.texts.hands_of.Goals as goal

named : (dealing : Dealing) (held : List Holding) → Represents dealing held → IsNamed held (hands_with dealing.hands)
named dealing held represents =
    record {
      of_cards = hands_are_of_cards dealing.hands;
      cards = λ card seat. (
        λ h. represents.named card seat (sym (hand_bit_of dealing.hands seat card) ∙ h),
        λ h. hand_bit_of dealing.hands seat card ∙ represents.has card seat h,
      );
    }

reads : (dealing : Dealing) (naming : Option Naming) → ReadsNaming (Some dealing) naming → dealing.is_partial ≡ false
    → (held : List Holding) × (naming ≡ full held) × IsNamed held (hands_with dealing.hands)
reads dealing (Some naming) is whole =
    let full_is : Some naming ≡ full naming.held = ap (λ (b : Bool). Some (record naming { is_partial = b })) (sym is.1 ∙ whole) in
    (naming.held, full_is, named dealing naming.held is.0)
reads dealing None is whole = absurd is

pub returns : goal.returns
returns c =
    let dealing = c.in_ok-dealing.dealing in
    let read = reads dealing (naming_of c.args.value.now) c.in_ok-dealing.ensures c.if-dealing.false in
    let hands : hands_with dealing.hands ≡ (c.suits_of.result ∷ c.suits_of-2.result ∷ c.suits_of-3.result ∷ c.suits_of-4.result ∷ []) = cc in
    let P : List (List ℕ) → Type 0 = λ list. IsNamed read.0 list in
    (read.0, read.1, subst P hands read.2)
