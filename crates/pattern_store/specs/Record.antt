-- What a record says of the owners of the highest cards.
--
-- A word has the owners of eight cards of each suit, two bits each: a suit has sixteen bits of it, and the highest
-- card the lowest of these. The cards of a suit are told by their places, the highest by 0. A record has a word for
-- the first eight places of each suit, and one for those behind.
use Rattle.std.specs.Prelude.{◌≡◌, ℕ, ◌+◌, ◌-◌, ◌*◌, ◌/◌, ◌%◌, ◌^◌, ◌<◌, ◌≤◌, ◌⊎◌, bit_and, bit_xor}
use Rattle.std.specs.Prelude.{if◌then◌else◌, nat_lt}
use Rattle.std.specs.Int.{bit_at}
use Rattle.pattern_store.specs.declared.record.Owners.{Owners}
use Rattle.pattern_store.specs.declared.record.Record.{Record}

-- the owner in a place, by a suit's part of a word
abbrev pub owner_in : ℕ → ℕ → ℕ
owner_in part place = part / 2 ^ (2 * place) % 4

-- the owner in a place of a suit
abbrev pub owner_at : ℕ → ℕ → ℕ → ℕ
owner_at word suit place = owner_in (word / 2 ^ (16 * suit)) place

-- how many owners of a suit are named, by the depths of four suits, four bits each
abbrev pub depth_of : ℕ → ℕ → ℕ
depth_of depths suit = depths / 2 ^ (4 * suit) % 16

-- how many owners of all suits are named
abbrev pub named_in : ℕ → ℕ
named_in depths = depth_of depths 0 + depth_of depths 1 + depth_of depths 2 + depth_of depths 3

-- a record names more owners than these
abbrev pub NamesOver : ℕ → Record → Type 0
NamesOver named r = named < named_in r.depths

-- Of eight places of a suit, from this one on, a mask has both bits where the owner is named, and none elsewhere. So
-- many owners of the suit are named.
pub record MarksSuit (first depth part : ℕ) : Type 0 where
  pub named : (place : ℕ) → place < 8 → first + place < depth → owner_in part place ≡ 3
  pub others : (place : ℕ) → place < 8 → depth ≤ first + place → owner_in part place ≡ 0

-- the same in each of the four suits
abbrev pub Marks : ℕ → ℕ → ℕ → Type 0
Marks first depths mask = (suit : ℕ) → suit < 4 → MarksSuit first (depth_of depths suit) (mask / 2 ^ (16 * suit))

-- of eight places of each suit, from this one on, two words have the same owners where they are named
abbrev pub SameOwners : ℕ → ℕ → ℕ → ℕ → Type 0
SameOwners first depths one other = (suit place : ℕ) → suit < 4 → place < 8 → first + place < depth_of depths suit
    → owner_at one suit place ≡ owner_at other suit place

-- a word keeps of the owners those that are named, and has 0 elsewhere
pub record KeepsOwners (first depths owners kept : ℕ) : Type 0 where
  pub named : SameOwners first depths kept owners
  pub others : (suit place : ℕ) → suit < 4 → place < 8 → depth_of depths suit ≤ first + place
      → owner_at kept suit place ≡ 0

-- no owner after the eighth of a suit is named
abbrev pub NamesNoDeep : ℕ → Type 0
NamesNoDeep depths = (suit : ℕ) → suit < 4 → depth_of depths suit ≤ 8

-- the mask of a record has the owners that its depths name
abbrev pub IsMasked : Record → Type 0
IsMasked r = Marks 0 r.depths r.mask

-- the owners of the first eight cards of each suit that a record names, by its mask, are these
abbrev pub AgreesNear : Record → ℕ → Type 0
AgreesNear r near = bit_and (bit_xor r.near near) r.mask ≡ 0

-- so in each place that it names, where its mask is that of its depths
abbrev pub AgreesByOwners : Type 0
AgreesByOwners = (r : Record) (near : ℕ) → IsMasked r → AgreesNear r near → SameOwners 0 r.depths r.near near

-- Each bit of the owners of the first eight cards of each suit that a record names, by its mask, another record names
-- too, and it is the same.
abbrev pub NamesNoMoreNear : Record → Record → Type 0
NamesNoMoreNear one other = (bit : ℕ) → bit_at one.mask bit ≡ 1
    → (bit_at other.mask bit ≡ 1) × (bit_at one.near bit ≡ bit_at other.near bit)

-- those after the eighth that it names, if any, are owners that may be told
abbrev pub AgreesDeep : Record → (ℕ → Type 0) → Type 0
AgreesDeep r may_tell = NamesNoDeep r.depths ⊎ ((deep : ℕ) × may_tell deep × SameOwners 8 r.depths r.deep deep)

-- one of those is not the owner that may be told
abbrev pub DiffersDeep : Record → (ℕ → Type 0) → Type 0
DiffersDeep r may_tell = (deep : ℕ) × may_tell deep × (SameOwners 8 r.depths r.deep deep → ⊥)

-- it names an owner that is another one
abbrev pub Differs : Record → ℕ → (ℕ → Type 0) → Type 0
Differs r near may_tell = (AgreesNear r near → ⊥) ⊎ DiffersDeep r may_tell

-- a record names only owners that are known, and those as they are
pub record IsKnown (r : Record) (owners known : Owners) : Type 0 where
  pub near : AgreesNear r owners.near
  pub near_known : bit_and r.mask known.near ≡ r.mask
  pub deep : SameOwners 8 r.depths r.deep owners.deep
  pub deep_known : (suit place : ℕ) → suit < 4 → place < 8 → 8 + place < depth_of r.depths suit
      → owner_at known.deep suit place ≡ 3

-- of the owners after the eighth a record keeps those that it names, if any, of owners that may be told
abbrev pub DeepKept : Record → (ℕ → Type 0) → Type 0
DeepKept r may_tell = (NamesNoDeep r.depths × (r.deep ≡ 0))
    ⊎ ((deep : ℕ) × may_tell deep × KeepsOwners 8 r.depths deep r.deep)

-- a record names the owner in a place of a suit
abbrev pub Names : Record → ℕ → ℕ → Type 0
Names r suit place = place < depth_of r.depths suit

-- and this is the owner
abbrev pub owner_of : Record → ℕ → ℕ → ℕ
owner_of r suit place = if nat_lt place 8 then owner_at r.near suit place else owner_at r.deep suit (place - 8)

-- of the places of each suit from one on and up to another a record names only what another record names too, and the
-- same owners
pub record NamesNoMore (from to : ℕ) (one other : Record) : Type 0 where
  pub named : (suit place : ℕ) → suit < 4 → from ≤ place → place < to → Names one suit place → Names other suit place
  pub same : (suit place : ℕ) → suit < 4 → from ≤ place → place < to → Names one suit place
      → owner_of one suit place ≡ owner_of other suit place

-- a record serves where another does: the side gets as many tricks, and the other names too what it names, of up to
-- sixteen places
pub record Serves (one other : Record) : Type 0 where
  pub enough : other.need ≤ one.need
  pub no_more : NamesNoMore 0 16 one other

-- it does where both masks are those of the depths
abbrev pub IsServed : Record → Record → Type 0
IsServed one other = IsMasked one → IsMasked other → Serves one other
