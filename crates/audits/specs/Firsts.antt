-- What sections show first of each entry.
use Rattle.std.specs.Prelude.{◌≡◌, ℕ, ◌*◌, ◌⊎◌, true, List, [], ◌∷◌, ◌++◌, length, Option, None, Some, is_some}
use Rattle.std.specs.Prelude.{All, Contains, Bool, MatchOption, slice_index_or, nat_eq}
use Rattle.std.specs.List.{find}
use Rattle.std.specs.Option.{option_or}
use Rattle.cards.specs.declared.suits.Trump.{Trump}
use Rattle.certificate_graph.specs.declared.bundles.Claim.{Claim}
use Rattle.checker.specs.declared.entries.Shown.{Shown}
use Rattle.pbn_deals.specs.declared.boards.Board.{Board}
use Rattle.lease_book.specs.declared.entries.Entry.{Entry}
use Rattle.lease_book.specs.Entries.{place_of}
use Rattle.lease_book.specs.Histories.{deal_of}
use Rattle.lease_book.specs.Twins.{is_first}
use Rattle.evidence.specs.Sections.{SectionShape}
use Rattle.audits.specs.Shown.{ShowsTricks, NoneShow, FirstShows}

-- these are the values that the section shows, all of them and no other
abbrev pub AreShownBy : SectionShape → List Shown → Type 0
AreShownBy section all =
    (shown : Shown)
    → (Contains all shown → ShowsTricks section shown.layout shown.declarer shown.trump shown.k)
    × (ShowsTricks section shown.layout shown.declarer shown.trump shown.k → Contains all shown)

-- the value is of the deal of the entry's board, of its declarer and of its denomination
pub record IsFor (boards : List Board) (entry : Entry) (shown : Shown) : Type 0 where
  pub deal_is : deal_of boards entry.board ≡ Some shown.layout
  pub declarer_is : shown.declarer ≡ entry.declarer
  pub trump_is : shown.trump ≡ entry.trump

-- each value in the place of an entry of a first board is for that entry
abbrev pub AreForEntries : List Board → List (Option Shown) → Type 0
AreForEntries boards firsts =
    (entry : Entry) (shown : Shown) → is_first boards entry.board ≡ true
    → slice_index_or firsts (place_of entry) None ≡ Some shown → IsFor boards entry shown

-- In the place of each entry of a board that is the first with its deal stands the value of the first of the sections
-- that show one for the entry; nothing, if none does.
abbrev pub AreFirstShown : List Board → List SectionShape → List (Option Shown) → Type 0
AreFirstShown boards sections firsts =
    (entry : Entry) → is_first boards entry.board ≡ true
    → MatchOption (slice_index_or firsts (place_of entry) None)
    (NoneShow (deal_of boards entry.board) entry sections)
    (λ shown. IsFor boards entry shown × FirstShows (deal_of boards entry.board) entry shown.k sections)

-- there are no places yet, or one for each entry
abbrev pub HasPlaces : List Board → List (Option Shown) → Type 0
HasPlaces boards firsts = (length firsts ≡ 0) ⊎ (length firsts ≡ 20 * length boards)

-- there is a value for the entry of each claim, on this board and in this denomination
abbrev pub AllKnown : List (Option Shown) → ℕ → Trump → List Claim → Type 0
AllKnown firsts board trump claims =
    All (λ claim.
    let entry : Entry = record { board = board; declarer = claim.declarer; trump = trump } in
    is_some (slice_index_or firsts (place_of entry) None) ≡ true) claims

-- whatever sections came before, the first values of those and this one are there now
abbrev pub AddsSection : List Board → SectionShape → List (Option Shown) → List (Option Shown) → Type 0
AddsSection boards section old new =
    (before : List SectionShape) → AreFirstShown boards before old → AreFirstShown boards (before ++ section ∷ []) new

-- the entry of a value, on this board; whether it has this place
abbrev pub entry_on : ℕ → Shown → Entry
entry_on board shown = record { board = board; declarer = shown.declarer; trump = shown.trump }

abbrev pub is_at : ℕ → ℕ → Shown → Bool
is_at board place shown = nat_eq (place_of (entry_on board shown)) place

-- each place has the value that it had, or else the first of these whose entry on the board has this place
abbrev pub AddsProofs : ℕ → List (Option Shown) → List (Option Shown) → List Shown → Type 0
AddsProofs board old new all =
    (place : ℕ)
    → slice_index_or new place None ≡ option_or (slice_index_or old place None) (find (is_at board place) all)
