-- Any cards that a text names have an answer.
use Rattle.std.proofs.Common.{Bool, true, false, List, refl, arith, inl, inr, ◌⊎◌}
use lib.Count.{ones}
use Rattle.std.proofs.lemmas.Bool.{cases_eq, cases_lt}
use Rattle.cards.specs.declared.seats.Seat.TheVariants.{North, East, South, West}
use Rattle.cards.specs.Deal.{Deal}
use Rattle.cards.specs.Hands.{deal_of_words}
use Rattle.pbn_deals.specs.declared.dealings.Dealing.{Dealing}
use Rattle.pbn_deals.specs.Dealing.{Holding, cards_named, NamesOnce, NamesTwice, AreSized, AreMissized, IsDealOf}
use Rattle.pbn_deals.specs.Words.{Represents, TellsTwice}
use Rattle.pbn_deals.proofs.SomeDeal.{their_deal, worded}

-- ---- the sizes of the hands
sizes_cases : (held : List Holding) → AreSized held ⊎ AreMissized held
sizes_cases held =
    let size = cards_named held in
    elim (cases_eq (size North) 0) [
      | inl e ↦ inr (inl e)
      | inr some ↦ elim (cases_lt 13 (size North)) [
        | inl over ↦ inr (inr (inl over))
        | inr at_most ↦ elim (cases_eq (size East) (size North)) [
          | inr ne ↦ inr (inr (inr (East, ne)))
          | inl east ↦ elim (cases_eq (size South) (size North)) [
            | inr ne ↦ inr (inr (inr (South, ne)))
            | inl south ↦ elim (cases_eq (size West) (size North)) [
              | inr ne ↦ inr (inr (inr (West, ne)))
              | inl west ↦ inl (record {
                some_cards = omega (arith, some);
                at_most_13 = at_most;
                equal = elim [ North ↦ refl | East ↦ east | South ↦ south | West ↦ west ];
              })
            ]
          ]
        ]
      ]
    ]

-- ---- what holds of any cards that are named
pub data Judged (held : List Holding) : Type 0 where
  judged_twice : NamesTwice held → Judged held
  judged_missized : NamesOnce held → AreMissized held → Judged held
  judged_deal : (deal : Deal) → IsDealOf held deal → Judged held

judged_by : (dealing : Dealing) (held : List Holding) → Represents dealing held → (twice : Bool) → TellsTwice twice dealing.hands held → Judged held
judged_by dealing held rep true told = judged_twice told
judged_by dealing held rep false once =
    elim (sizes_cases held) [
      | inl sized ↦ judged_deal (deal_of_words dealing.hands) (their_deal dealing held rep once sized)
      | inr wrong ↦ judged_missized once.once wrong
    ]

pub judged : (held : List Holding) → Judged held
judged held = let words = worded held in judged_by words.0 held words.1 words.0.is_twice words.1.twice
