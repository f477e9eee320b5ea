-- The values of a play: no two, and no gain.
use Rattle.std.proofs.Common.{ℕ, ◌-◌, ◌≤◌, List, ◌∷◌, [], arith}
use Rattle.cards.specs.declared.seats.Side.{Side}
use Rattle.cards.specs.declared.seats.Side.TheVariants.{NorthSouth, EastWest}
use Rattle.cards.specs.declared.pack.Card.{Card}
use Rattle.cards.specs.Seats.{other_side}
use Rattle.cards.specs.Deal.{size_of, IsLayout}
use Rattle.play_rules.specs.History.{Opening}
use Rattle.play_rules.specs.Legal.{IsLegalHistory}
use Rattle.strategies.specs.Strategies.{CanWin}
use Rattle.strategies.proofs.LawProofs.{by_own_card}
use Rattle.strategies.proofs.UniqueProofs.{no_more_than_all}
use Rattle.play_values.specs.Laws.{CardCannotGain, HasOnePlayValue, FirstValueIsValue}
use Rattle.play_values.proofs.LegalLaws.{first_is_legal, last_can_play, last_unfinished}

-- what a side can win at most, if the other can win the others
most : (opening : Opening) (history : List Card) (side : Side) (one other : ℕ) → IsLayout opening.deal → IsLegalHistory opening history → other ≤ size_of opening.deal → CanWin opening side one history →
    CanWin opening (other_side side) (size_of opening.deal - other) history → one ≤ other
most opening history NorthSouth one other layout legal within own others = omega (arith, within, no_more_than_all opening one (size_of opening.deal - other) history layout legal own others)
most opening history EastWest one other layout legal within own others = omega (arith, within, no_more_than_all opening (size_of opening.deal - other) one history layout legal others own)

pub cannot_gain : CardCannotGain
cannot_gain opening declarers history card before after layout legal was is =
    let earlier = first_is_legal opening [] history (card ∷ []) legal in
    let can = last_can_play opening history card legal in
    let unfinished = last_unfinished opening history card layout legal in (
      λ turn.
          let win = (by_own_card opening declarers after history layout earlier unfinished turn).1 (card, can, is.declarers_win) in
          most opening history declarers after before layout earlier was.within win was.defenders_win,
      λ turn.
          let win = (by_own_card opening (other_side declarers) (size_of opening.deal - after) history layout earlier unfinished turn).1 (card, can, is.defenders_win) in
          most opening history declarers before after layout earlier is.within was.declarers_win win,
    )

pub one_play_value : HasOnePlayValue
one_play_value opening declarers history one other layout legal a b =
    omega (
      arith,
      most opening history declarers one other layout legal b.within a.declarers_win b.defenders_win,
      most opening history declarers other one layout legal a.within b.declarers_win a.defenders_win,
    )

pub first_value : FirstValueIsValue
first_value deal declarer trump tricks = (
  λ value. record { within = value.within; declarers_win = value.declarer_wins; defenders_win = value.defenders_win },
  λ value. record { within = value.within; declarer_wins = value.declarers_win; defenders_win = value.defenders_win },
)
