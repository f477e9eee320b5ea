-- The leases that one search serves, and their declarers.
use Rattle.std.specs.Prelude.{ℕ, ◌+◌, Bool, true, false, not, ◌&&◌, List, [], ◌∷◌, ◌++◌, filter, is_some, nat_eq}
use Rattle.std.specs.List.{list_any}
use Rattle.cards.specs.declared.seats.Seat.{Seat}
use Rattle.cards.specs.declared.seats.Seat.TheVariants.{North, East, South, West}
use Rattle.cards.specs.declared.suits.Trump.{Trump}
use Rattle.cards.specs.declared.suits.Trump.TheVariants as trumps
use Rattle.cards.specs.Pack.{suit_number}
use Rattle.cards.specs.Seats.{seat_number}
use Rattle.lease_book.specs.declared.entries.Entry.{Entry}
use Rattle.certificate_graph.specs.declared.bundles.Bundle.{Bundle}
use Rattle.certificate_graph.specs.Bundles.{claim_for}
use Rattle.farm.specs.declared.tasks.Task.{Task}

-- the place of a denomination: no-trump, spades, hearts, diamonds, clubs
abbrev pub trump_place : Trump → ℕ
trump_place trumps.Nt = 0
trump_place (trumps.Suit suit) = suit_number suit + 1

-- whether board and denomination are the same
abbrev pub is_same_search : Entry → Entry → Bool
is_same_search one other = nat_eq one.board other.board && nat_eq (trump_place one.trump) (trump_place other.trump)

-- whether one search serves a lease and another
abbrev pub is_with : Task → Task → Bool
is_with first task = is_same_search first.entry task.entry

-- the leases that one search serves with the first, and the others
abbrev pub group_of : List Task → List Task
group_of [] = []
group_of (first ∷ rest) = filter (is_with first) (first ∷ rest)

abbrev pub others_of : List Task → List Task
others_of [] = []
others_of (first ∷ rest) = filter (λ task. not (is_with first task)) (first ∷ rest)

-- whether the bundle has a claim for the declarer of a lease
abbrev pub is_claimed : Bundle → Task → Bool
is_claimed bundle task = is_some (claim_for bundle.claims.items task.entry.declarer)

-- whether one of the leases is for this declarer
abbrev pub is_declared_in : List Task → Seat → Bool
is_declared_in group declarer = list_any (λ task. nat_eq (seat_number task.entry.declarer) (seat_number declarer)) group

-- the declarers of leases, each once
abbrev pub declarers_in : List Task → List Seat
declarers_in group = filter (is_declared_in group) (North ∷ East ∷ South ∷ West ∷ [])

-- a list with one more item at its end, or unchanged
abbrev pub kept_with : {X : Type 0} → Bool → X → List X → List X
kept_with true item items = items ++ item ∷ []
kept_with false item items = items
