-- Of any cards that a text names, one is named twice, or the hands are of wrong sizes, or there is their deal.
use Rattle.std.proofs.Common.{◌≡◌, ℕ, ◌+◌, ◌≤◌, Bool, true, false, List, [], ◌∷◌, ◌++◌, refl, sym, ◌∙◌, ap, subst, arith, inl, inr, append_assoc, append-nil, lit<}
use Rattle.std.specs.Prelude.{slice_index}
use Rattle.std.specs.Int.{bit_at}
use lib.Count.{ones}
use Rattle.std.proofs.lemmas.Bool.{cases_eq}
use Rattle.std.proofs.lemmas.Nat.Bits.{bit_at-zero}
use Rattle.cards.specs.declared.seats.Seat.{Seat}
use Rattle.cards.specs.declared.seats.Seat.TheVariants.{North, East, South, West}
use Rattle.cards.specs.declared.pack.Card.{Card}
use Rattle.cards.specs.Pack.{card_number}
use Rattle.cards.specs.Deal.{Deal, count_of}
use Rattle.cards.specs.SameDeal.{count_of-deal_of_words}
use Rattle.cards.specs.Hands.{word_of, HasBit, IsDealt, deal_of_words}
use Rattle.cards.proofs.HandLaws.{Deals-from_words, AreDisjoint-from_dealt, IsLayout-from_words, at_most_one, some_card_twice, shared_of}
use Rattle.pbn_deals.specs.declared.dealings.Dealing.{Dealing}
use Rattle.pbn_deals.specs.Dealing.{Holding, held_by, cards_named, AreSized, IsDealOf}
use Rattle.pbn_deals.specs.Words.{Represents, IsOnce, TellsTwice}
use Rattle.pbn_deals.proofs.DealingLemmas.{Represents-add}
use Rattle.pbn_deals.proofs.LayoutLemmas.{IsDealOf-from_words}
use Rattle.pbn_deals.proofs.OneDeal.{one_deal, once_or_twice}

-- ---- any cards stand in words of bits
abbrev no_words : List ℕ
no_words = 0 ∷ 0 ∷ 0 ∷ 0 ∷ []

word_of-none : (seat : Seat) → word_of no_words seat ≡ 0
word_of-none North = refl
word_of-none East = refl
word_of-none South = refl
word_of-none West = refl

no_bit : (card : Card) (seat : Seat) → HasBit no_words seat card → ⊥
no_bit card seat h =
    let clear : bit_at (word_of no_words seat) (card_number card) ≡ 0 = ap (λ w. bit_at w (card_number card)) (word_of-none seat) ∙ bit_at-zero (card_number card) in
    absurd (omega (arith, clear, h))

no_cards : Represents (record { hands = no_words; is_twice = false; is_partial = false }) []
unfolding ones
no_cards = record {
  four = refl;
  cards_alone = elim [ North ↦ lit< tt | East ↦ lit< tt | South ↦ lit< tt | West ↦ lit< tt ];
  named = λ card seat h. absurd (no_bit card seat h);
  has = λ card seat h. absurd (omega (arith, h.1));
  twice = record {
    once = λ card. omega arith;
    apart = λ card one other a b. absurd (no_bit card one a);
    sizes = elim [ North ↦ refl | East ↦ refl | South ↦ refl | West ↦ refl ];
  };
}

worded_from : (after before : List Holding) (dealing : Dealing) → Represents dealing before → (all : Dealing) × Represents all (before ++ after)
worded_from [] before dealing rep = (dealing, subst (λ held. Represents dealing held) (sym (append-nil before)) rep)
worded_from (one ∷ after) before dealing rep =
    let more = worded_from after (before ++ held_by one.seat one.card ∷ []) _ (Represents-add dealing before one.seat one.card rep) in
    (more.0, subst (λ held. Represents more.0 held) (append_assoc before (held_by one.seat one.card ∷ []) after) more.1)

pub worded : (held : List Holding) → (dealing : Dealing) × Represents dealing held
worded held = worded_from held [] _ no_cards

module _ (dealing : Dealing) (held : List Holding) (rep : Represents dealing held) (once : IsOnce dealing.hands held) where
  one_holder : (i : ℕ) → bit_at (slice_index dealing.hands 0) i + bit_at (slice_index dealing.hands 1) i + bit_at (slice_index dealing.hands 2) i + bit_at (slice_index dealing.hands 3) i ≤ 1
  one_holder =
      let hands = dealing.hands in
      elim (cases_eq (shared_of (slice_index hands 0) (slice_index hands 1) (slice_index hands 2) (slice_index hands 3)) 0) [
        | inl none ↦ at_most_one hands none
        | inr some ↦
            let clash = some_card_twice hands rep.cards_alone some in
            absurd (clash.apart (once.apart clash.card clash.one clash.other clash.in_one clash.in_other))
      ]

  are_dealt : AreSized held → IsDealt dealing.hands
  are_dealt sized = record {
    four = rep.four;
    cards_alone = rep.cards_alone;
    one_holder = one_holder;
    sized = record {
      some_cards = omega (arith, once.sizes North, sized.some_cards);
      at_most_13 = omega (arith, once.sizes North, sized.at_most_13);
      equal = λ seat. omega (arith, once.sizes North, once.sizes seat, sized.equal seat);
    };
  }

  pub their_deal : AreSized held → IsDealOf held (deal_of_words dealing.hands)
  their_deal sized =
      let dealt = are_dealt sized in
      IsDealOf-from_words dealing held rep once (deal_of_words dealing.hands) (record {
        cards_alone = rep.cards_alone;
        disjoint = AreDisjoint-from_dealt dealing.hands dealt;
        sized = dealt.sized;
        deals = Deals-from_words dealing.hands dealt;
        layout = IsLayout-from_words dealing.hands dealt;
      })

-- ---- how many cards a seat of the deal holds
pub count_of_deal : (held : List Holding) (deal : Deal) → IsDealOf held deal → (seat : Seat) → count_of deal seat ≡ cards_named held seat
count_of_deal held deal is seat = let words = worded held in by_words words.0 words.1 words.0.is_twice words.1.twice where
  by_words : (dealing : Dealing) → Represents dealing held → (twice : Bool) → TellsTwice twice dealing.hands held → count_of deal seat ≡ cards_named held seat
  by_words dealing rep true twice = absurd (once_or_twice held held refl is.once twice)
  by_words dealing rep false once =
      let same : deal ≡ deal_of_words dealing.hands = one_deal held deal (deal_of_words dealing.hands) is (their_deal dealing held rep once is.sized) in
      ap (λ (d : Deal). count_of d seat) same ∙ (count_of-deal_of_words dealing.hands (are_dealt dealing held rep once is.sized) seat ∙ once.sizes seat)
