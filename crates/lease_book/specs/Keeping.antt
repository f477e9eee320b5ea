-- What a book keeps beside its history, and what that has to be.
use Rattle.std.specs.Prelude.{◌≡◌, ℕ, suc, ◌-◌, ◌*◌, ◌/◌, ◌<◌, ◌≤◌, Bool, false, List, [], ◌∷◌, length, Option, None}
use Rattle.std.specs.Prelude.{Some}
use Rattle.std.specs.Prelude.{◌⊎◌, if◌then◌else◌, nat_eq, slice_index_or}
use Rattle.std.specs.List.{find, list_any}
use Rattle.cards.specs.Deal.{Deal}
use Rattle.pbn_deals.specs.declared.boards.Board.{Board}
use Rattle.lease_book.specs.declared.entries.Entry.{Entry}
use Rattle.lease_book.specs.declared.events.Grant.{Grant}
use Rattle.lease_book.specs.declared.events.Asked.{Asked}
use Rattle.lease_book.specs.declared.events.Reply.{Reply}
use Rattle.lease_book.specs.declared.events.Event.{Event}
use Rattle.lease_book.specs.declared.slots.Slot.{Slot}
use Rattle.lease_book.specs.Entries.{place_of}
use Rattle.lease_book.specs.Proofs.{IsProven}
use Rattle.lease_book.specs.Twins.{deal_of, first_board, is_first}
use Rattle.lease_book.specs.Histories.{Terms, given_in, held_after, number_for, published_when, first_published}
use Rattle.lease_book.specs.Histories.{published_in}
use Rattle.lease_book.specs.Histories.{times_leased, is_numbered, is_for_place}
use Rattle.lease_book.specs.Replies.{IsLegal}

-- the lease is one of these
abbrev pub Among : Grant → List Grant → Type 0
Among grant [] = ⊥
Among grant (first ∷ rest) = (first ≡ grant) ⊎ Among grant rest

-- no two are of one entry
abbrev pub AreApart : List Grant → Type 0
AreApart [] = Unit {0}
AreApart (grant ∷ rest) = (list_any (is_for_place (place_of grant.entry)) rest ≡ false) × AreApart rest

-- they are numbered in turn
abbrev pub AreNumberedFrom : ℕ → List Grant → Type 0
AreNumberedFrom number [] = Unit {0}
AreNumberedFrom number (grant ∷ rest) = (grant.lease ≡ number) × AreNumberedFrom (suc number) rest

-- what is published under the name of the entry in this place itself, without its twins
abbrev pub is_in_place : ℕ → Entry → Bool
is_in_place place entry = nat_eq (place_of entry) place

abbrev pub published_as : ℕ → Entry → Reply → Option ℕ
published_as place entry reply = number_for (is_in_place place entry) reply

abbrev pub published_by : ℕ → Asked → Reply → Option ℕ
published_by place asked reply = published_when (is_in_place place) asked reply

abbrev pub published_at : ℕ → List Event → Option ℕ
published_at place events = first_published (is_in_place place) events

-- what the history says of the entry in a place
abbrev pub slot_of : Terms → List Event → ℕ → Slot
slot_of terms events place =
    record {
      published = published_at place events;
      holder = find (is_for_place place) (held_after events);
      left = (if is_first terms.boards (place / 20) then terms.tries else 0) - times_leased events place;
    }

-- each number published under an entry's own name is proven of the deal of its board
abbrev pub AreProvenAsNamed : Terms → List Event → Type 0
AreProvenAsNamed terms events =
    (entry : Entry) (deal : Deal) (k : ℕ) → published_at (place_of entry) events ≡ Some k
    → deal_of terms.boards entry.board ≡ Some deal
    → IsProven (record { layout = deal; declarer = entry.declarer; trump = entry.trump; k = k })

-- each published number is proven of the deal of its board
abbrev pub AreProven : Terms → List Event → Type 0
AreProven terms events =
    (entry : Entry) (deal : Deal) (k : ℕ) → published_in terms.boards events entry ≡ Some k
    → deal_of terms.boards entry.board ≡ Some deal
    → IsProven (record { layout = deal; declarer = entry.declarer; trump = entry.trump; k = k })

-- what a book is: its history is legal, and what is kept beside it is what the history says
pub record IsKept (terms : Terms) (events : List Event) (leases : List Grant) (slots : List Slot) : Type 0 where
  pub legal : IsLegal terms events
  pub proven : AreProvenAsNamed terms events
  pub at_most_13 : (place k : ℕ) → published_at place events ≡ Some k → k ≤ 13
  pub few_boards : length terms.boards ≤ 4096
  pub sized : length slots ≡ 20 * length terms.boards
  pub given : leases ≡ given_in events
  pub numbered : AreNumberedFrom 1 leases
  pub there : (grant : Grant) → Among grant leases → place_of grant.entry < length slots
  pub found : (grant : Grant) → Among grant (held_after events) → find (is_numbered grant.lease) leases ≡ Some grant
  pub apart : AreApart (held_after events)
  pub slots_are : (place : ℕ) (d : Slot) → place < length slots
      → slice_index_or slots place d ≡ slot_of terms events place
  pub only_there : (place : ℕ) → length slots ≤ place → published_at place events ≡ None

-- for each board the number of the first with its deal
pub record AreFirsts (boards : List Board) (firsts : List ℕ) : Type 0 where
  pub sized : length firsts ≡ length boards
  pub firsts_are : (number d : ℕ) → number < length boards → slice_index_or firsts number d ≡ first_board boards number
