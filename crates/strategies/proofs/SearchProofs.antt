-- What one turn of the search may answer.
use Rattle.std.proofs.Common.{◌≡◌, ℕ, ◌+◌, ◌-◌, ◌<◌, ◌≤◌, Bool, true, false, not, List, [], ◌∷◌, ◌++◌, length, Contains, take, get_or, refl, sym, ◌∙◌, ap, subst, arith, inl, inr, MatchBool, None, Some, ltb}
use mathlib.Core.Bool.{beq}
use denote.Enum.Bare.{sameb}
use Rattle.cards.specs.contracts.seats.Side.{the_type}
use Rattle.cards.specs.Seats.{side_of}
use Rattle.std.proofs.lemmas.Bool.{false≢true, cases_Bool, ltb-true, ltb-false}
use Rattle.std.proofs.lemmas.List.{take_more}
use Rattle.cards.specs.declared.seats.Seat.{Seat}
use Rattle.cards.specs.declared.seats.Side.{Side}
use Rattle.cards.specs.declared.seats.Side.TheVariants.{NorthSouth, EastWest}
use Rattle.cards.specs.declared.pack.Card.{Card}
use Rattle.cards.specs.Deal.{size_of}
use Rattle.play_rules.specs.History.{Opening, tricks_of}
use Rattle.play_rules.proofs.HistoryLaws.{length-trick_of}
use Rattle.std.proofs.lemmas.List.Elements.{Contains-get_or, Contains-push_cases}
use Rattle.play_rules.specs.Legal.{CanPlay, IsUnfinished, cards_in_play, seat_to_play}
use Rattle.play_rules.specs.Position.{Position, IsReached, AreLegalCards, turn_of, with_card}
use Rattle.strategies.specs.Strategies.{CanWin, IsTurnOf}
use Rattle.strategies.specs.Values.{IsPlainValue}
use Rattle.strategies.proofs.LawProofs.{by_own_card, against_each_card, what_is_won}
use Rattle.strategies.proofs.Counting.{tricks-add_up}

-- North and South can win this many tricks from the position
abbrev CanTake : Position → ℕ → Type 0
CanTake position wanted = CanWin position.opening NorthSouth wanted position.history

-- East and West can win so many that North and South do not
abbrev IsHeldBelow : Position → ℕ → Type 0
IsHeldBelow position wanted = CanWin position.opening EastWest (size_of position.opening.deal + 1 - wanted) position.history

-- the card does not help the side whose turn it is
pub record IsNoHelp (position : Position) (wanted : ℕ) (card : Card) : Type 0 where
  pub to_north_south :
      IsTurnOf position.opening NorthSouth position.history →
      CanWin position.opening EastWest (size_of position.opening.deal + 1 - wanted) (position.history ++ card ∷ [])
  pub to_east_west :
      IsTurnOf position.opening EastWest position.history →
      CanWin position.opening NorthSouth wanted (position.history ++ card ∷ [])

-- whose turn it is, as the search knows it
abbrev pub IsOwn : Position → Bool → Type 0
IsOwn position own = MatchBool own (IsTurnOf position.opening NorthSouth position.history) (IsTurnOf position.opening EastWest position.history)

-- what the search answered for a card
abbrev pub IsAnswer : Position → ℕ → Card → Bool → Type 0
IsAnswer position wanted card answer =
    MatchBool answer (CanWin position.opening NorthSouth wanted (position.history ++ card ∷ [])) (CanWin position.opening EastWest (size_of position.opening.deal + 1 - wanted) (position.history ++ card ∷ []))

sides-apart : (side : Side) → side ≡ NorthSouth → side ≡ EastWest → ⊥
sides-apart side a b = cc

-- a card that the side to play would not choose
pub no_help : (position : Position) (wanted : ℕ) (card : Card) (answer own : Bool) → IsOwn position own → IsAnswer position wanted card answer → (answer ≡ own → ⊥) → IsNoHelp position wanted card
no_help position wanted card true true turn won apart = absurd (apart refl)
no_help position wanted card false false turn won apart = absurd (apart refl)
no_help position wanted card false true turn won apart = record { to_north_south = λ _. won; to_east_west = λ other. absurd (sides-apart _ turn other) }
no_help position wanted card true false turn won apart = record { to_north_south = λ other. absurd (sides-apart _ other turn); to_east_west = λ _. won }

-- a card that it would choose settles the turn
pub settled : (position : Position) (wanted : ℕ) (card : Card) (answer own : Bool) → IsReached position → IsUnfinished position.opening position.history → CanPlay position.opening position.history card → IsOwn position own → IsAnswer position wanted card answer → answer ≡ own → MatchBool own (CanTake position wanted) (IsHeldBelow position wanted)
settled position wanted card true true reached more can turn won same = (by_own_card position.opening NorthSouth wanted position.history reached.layout reached.legal more turn).1 (card, can, won)
settled position wanted card false false reached more can turn won same = (by_own_card position.opening EastWest (size_of position.opening.deal + 1 - wanted) position.history reached.layout reached.legal more turn).1 (card, can, won)
settled position wanted card true false reached more can turn won same = absurd (false≢true (sym same))
settled position wanted card false true reached more can turn won same = absurd (false≢true same)

-- where no card helps, the others hold their own
pub none_helps : (position : Position) (wanted : ℕ) (own : Bool) → IsReached position → IsUnfinished position.opening position.history → IsOwn position own → ((card : Card) → CanPlay position.opening position.history card → IsNoHelp position wanted card) → MatchBool (not own) (CanTake position wanted) (IsHeldBelow position wanted)
none_helps position wanted true reached more turn none =
    (against_each_card position.opening EastWest (size_of position.opening.deal + 1 - wanted) position.history reached.layout reached.legal more (λ other. sides-apart _ turn other)).1
    (λ card can. (none card can).to_north_south turn)
none_helps position wanted false reached more turn none =
    (against_each_card position.opening NorthSouth wanted position.history reached.layout reached.legal more (λ other. sides-apart _ other turn)).1
    (λ card can. (none card can).to_east_west turn)

-- at the end one side or the other has what it wants
pub over_settles : (position : Position) (wanted : ℕ) → length position.history ≡ cards_in_play position.opening → tricks_of NorthSouth position.opening.trump position.opening.leader position.history < wanted → tricks_of EastWest position.opening.trump position.opening.leader position.history < size_of position.opening.deal + 1 - wanted → ⊥
over_settles position wanted over few fewer =
    omega (arith, tricks-add_up position.opening.trump position.opening.leader position.history, length-trick_of position.history)

pub won_by : (position : Position) (side : Side) (wanted : ℕ) → IsReached position → wanted ≤ tricks_of side position.opening.trump position.opening.leader position.history → CanWin position.opening side wanted position.history
won_by position side wanted reached won = what_is_won position.opening side wanted position.history reached.layout reached.legal won

-- one card more was tried
pub IsNoHelp-more : (position : Position) (wanted : ℕ) (cards : List Card) (i : ℕ) (d : Card) → i < length cards → ((card : Card) → Contains (take i cards) card → IsNoHelp position wanted card) → IsNoHelp position wanted (get_or cards i d) → (card : Card) → Contains (take (i + 1) cards) card → IsNoHelp position wanted card
IsNoHelp-more position wanted cards i d lt before here card h =
    elim (Contains-push_cases (take i cards) (get_or cards i d) card (rw (take_more cards i d lt) at h)) [
      | inl a ↦ before card a
      | inr e ↦ subst (λ (c : Card). IsNoHelp position wanted c) e here
    ]

-- a turn tells that cards are left
pub turn-unfinished : (position : Position) (seat : Seat) → turn_of position ≡ Some seat → IsUnfinished position.opening position.history × (seat_to_play position.opening position.history ≡ seat)
turn-unfinished position seat h =
    elim (cases_Bool (ltb (length position.history) (cards_in_play position.opening))) [
      | inl t ↦ (ltb-true _ _ t, Some-seat (rw t at h))
      | inr f ↦ absurd (None-seat seat (rw f at h))
    ]
  where
    Some-seat : {a : Seat} → Some a ≡ Some seat → a ≡ seat
    Some-seat h = cc

    None-seat : (s : Seat) → None ≡ Some s → ⊥
    None-seat s h = cc

pub no_turn-over : (position : Position) → IsReached position → turn_of position ≡ None → length position.history ≡ cards_in_play position.opening
no_turn-over position reached h =
    elim (cases_Bool (ltb (length position.history) (cards_in_play position.opening))) [
      | inl t ↦ absurd (Some-none _ (rw t at h))
      | inr f ↦ omega (arith, ltb-false (length position.history) (cards_in_play position.opening) f, reached.within)
    ]
  where
    Some-none : (s : Seat) → Some s ≡ None → ⊥
    Some-none s h = cc

pub beq-same : (x y : Bool) → beq x y ≡ true → x ≡ y
beq-same true true h = refl
beq-same false false h = refl
beq-same true false h = absurd (false≢true h)
beq-same false true h = absurd (false≢true h)

pub beq-apart : (x y : Bool) → beq x y ≡ false → x ≡ y → ⊥
beq-apart true true h e = false≢true (sym h)
beq-apart false false h e = false≢true (sym h)
beq-apart true false h e = false≢true (sym e)
beq-apart false true h e = false≢true e

-- the test that the code makes of a side
side_test : (side : Side) → MatchBool (sameb the_type side NorthSouth) (side ≡ NorthSouth) (side ≡ EastWest)
side_test NorthSouth = refl
side_test EastWest = refl

-- the seat whose turn it is plays for the side that the search took
pub IsOwn-from_test : (position : Position) (seat : Seat) (side : Side) (own : Bool) → turn_of position ≡ Some seat → side ≡ side_of seat → own ≡ sameb the_type side NorthSouth → IsOwn position own
IsOwn-from_test position seat side own turn plays test =
    let plays' : side ≡ side_of (seat_to_play position.opening position.history) = plays ∙ ap side_of (sym (turn-unfinished position seat turn).1) in
    subst (λ (s : Side). MatchBool own (s ≡ NorthSouth) (s ≡ EastWest)) plays'
    (subst (λ (b : Bool). MatchBool b (side ≡ NorthSouth) (side ≡ EastWest)) (sym test) (side_test side))

-- a card of the list of legal cards may be played
pub CanPlay-at : (position : Position) (cards : List Card) (i : ℕ) (d : Card) → AreLegalCards position cards → i < length cards → CanPlay position.opening position.history (get_or cards i d)
CanPlay-at position cards i d legal lt = legal.legal (get_or cards i d) (Contains-get_or cards i d lt)

-- the answer after a card, in terms of the position before it
pub IsAnswer-from_after : (position after : Position) (wanted : ℕ) (card : Card) (answer : Bool) → after ≡ with_card position card → MatchBool answer (CanTake after wanted) (IsHeldBelow after wanted) → IsAnswer position wanted card answer
IsAnswer-from_after position after wanted card answer e h = subst (λ (p : Position). MatchBool answer (CanTake p wanted) (IsHeldBelow p wanted)) e h

-- both halves of a value, from those at the new table
pub IsPlainValue-from_table : (position : Position) (opening : Opening) (value : ℕ) → position.opening ≡ opening → position.history ≡ [] → value ≤ size_of position.opening.deal → CanWin position.opening NorthSouth value position.history → CanWin position.opening EastWest (size_of position.opening.deal + 1 - (value + 1)) position.history → IsPlainValue opening value
IsPlainValue-from_table position opening value is new within north_south east_west =
    let rest : size_of position.opening.deal + 1 - (value + 1) ≡ size_of position.opening.deal - value = omega arith in
    let win : (side : Side) (tricks : ℕ) → CanWin position.opening side tricks position.history → CanWin position.opening side tricks [] =
    λ side tricks w. subst (λ (h : List Card). CanWin position.opening side tricks h) new w in
    subst (λ (o : Opening). IsPlainValue o value) is
    (record {
      within = within;
      north_south = win NorthSouth value north_south;
      east_west = win EastWest (size_of position.opening.deal - value) (subst (λ (n : ℕ). CanWin position.opening EastWest n position.history) rest east_west);
    })
