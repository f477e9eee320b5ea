-- How many higher cards of a suit are in the four hands, counted rank by rank.
use Rattle.std.proofs.Common.{◌≡◌, ℕ, ◌+◌, ◌-◌, ◌<◌, Bool, cond, List, [], ◌∷◌, ◌++◌, length, take, get_or, Option, None, Some, refl, sym, ◌∙◌, ap, length-append, arith}
use Rattle.std.specs.Prelude.{slice_get}
use Rattle.std.specs.List.{filter_map, cons_option}
use Rattle.std.specs.Option.{is_some}
use Rattle.std.proofs.lemmas.List.{take_more}
use Rattle.std.proofs.lemmas.List.Elements.{filter_map-append}
use Rattle.std.proofs.lemmas.Option.{get_or_from_slice_get}
use Rattle.cards.specs.declared.pack.Rank.{Rank}
use Rattle.cards.specs.declared.pack.Rank.TheVariants.{Two}
use Rattle.cards.specs.declared.suits.Suit.{Suit}
use Rattle.cards.specs.declared.seats.Seat.{Seat}
use Rattle.cards.specs.Pack.{card_of, card_number, rank_at, rank_number}
use Rattle.cards.specs.Deal.{Deal, holder_of}
use Rattle.cards.proofs.PackLaws.{rank_number-rank_at}
use Rattle.patterns.specs.Holders.{falling_ranks}
use Rattle.pattern_step.proofs.LayoutLaws.{rank_there}

-- the rank in a place, the ace first
rank_in_place : (n : ℕ) → n < 13 → get_or falling_ranks n Two ≡ rank_at (12 - n)
rank_in_place n less =
    let number : rank_number (rank_at (12 - n)) ≡ 12 - n = rank_number-rank_at (12 - n) (omega arith) in
    let place : 12 - rank_number (rank_at (12 - n)) ≡ n = omega (arith, number, less) in
    get_or_from_slice_get falling_ranks n (rank_at (12 - n)) Two (ap (slice_get falling_ranks) (sym place) ∙ rank_there (rank_at (12 - n)))

-- the cards of a suit among the first ranks
abbrev pub held_above : Deal → Suit → ℕ → ℕ
held_above deal suit n = length (filter_map (λ rank. holder_of deal (card_of suit rank)) (take n falling_ranks))

pub one_more_above : (deal : Deal) (suit : Suit) (n : ℕ) → n < 13 → held_above deal suit (n + 1) ≡ held_above deal suit n + length (filter_map (λ rank. holder_of deal (card_of suit rank)) (rank_at (12 - n) ∷ []))
one_more_above deal suit n less =
    let holder : Rank → Option Seat = λ rank. holder_of deal (card_of suit rank) in
    let more = take_more falling_ranks n Two less ∙ ap (λ (r : Rank). take n falling_ranks ++ r ∷ []) (rank_in_place n less) in
    ap (λ (ranks : List Rank). length (filter_map holder ranks)) more
    ∙ (ap length (filter_map-append holder (take n falling_ranks) (rank_at (12 - n) ∷ [])) ∙ length-append (filter_map holder (take n falling_ranks)) (filter_map holder (rank_at (12 - n) ∷ [])))

-- a card that is held counts one
held_one : (holder : Option Seat) → length (cons_option holder []) ≡ cond (is_some holder) 1 0
held_one None = refl
held_one (Some seat) = refl

pub counted_more : (deal : Deal) (suit : Suit) (n number : ℕ) (rank : Rank) (held : Bool) → n < 13 → rank ≡ rank_at (12 - n) → number ≡ card_number (card_of suit rank) → held ≡ is_some (get_or deal number None) →
    held_above deal suit (n + 1) ≡ held_above deal suit n + cond held 1 0
counted_more deal suit n number rank held less rank_is number_is held_is =
    let here : get_or deal number None ≡ holder_of deal (card_of suit (rank_at (12 - n))) = ap (λ (k : ℕ). get_or deal k None) (number_is ∙ ap (λ (r : Rank). card_number (card_of suit r)) rank_is) in
    let test : held ≡ is_some (holder_of deal (card_of suit (rank_at (12 - n)))) = held_is ∙ ap (λ (o : Option Seat). is_some o) here in
    let one = held_one (holder_of deal (card_of suit (rank_at (12 - n)))) ∙ ap (λ (b : Bool). let m : ℕ = cond b 1 0 in m) (sym test) in
    omega (arith, one_more_above deal suit n less, one)
