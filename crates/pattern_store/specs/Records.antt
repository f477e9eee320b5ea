-- The records that are kept, by list, and what a look-up and an add say of them.
use Rattle.std.specs.Prelude.{◌≡◌, ℕ, ◌+◌, ◌*◌, ◌/◌, ◌%◌, ◌<◌, ◌≤◌, ◌⊎◌, Some, slice_get, length}
use Rattle.std.specs.Prelude as std
use Rattle.std.specs.Option.{option_map_or}
use Rattle.cards.specs.Seats.{side_number}
use Rattle.cards.specs.declared.seats.Side.{Side}
use Rattle.pattern_store.specs.declared.record.Record.{Record}
use Rattle.pattern_store.specs.declared.blocks.List.{List}
use Rattle.pattern_store.specs.declared.blocks.Block.{Block}
use Rattle.pattern_store.specs.Blocks.{record_at, Has}
use Rattle.pattern_store.specs.Shapes.{Shapes, ShapeIs, KeepsShapes, span_of}

-- what is kept: the shapes by number, the blocks, and how many of these there may be
pub record Kept : Type 0 where
  pub shapes : Shapes
  pub blocks : std.List Block
  pub room : ℕ

-- the number of a list of its shape: that of the seat that leads and of the side that wins, North's and South's first
abbrev pub list_number : ℕ → Side → ℕ
list_number leader side = leader % 4 * 2 + side_number side

-- a list has no blocks
abbrev pub IsEmpty : Kept → List → Type 0
IsEmpty kept list = (span_of kept.shapes list).used ≡ 0

-- the block with this number is one of the list
pub record IsBlockIn (blocks : std.List Block) (list : List) (number : ℕ) (block : Block) : Type 0 where
  pub is : slice_get blocks number ≡ Some block
  pub of_list : block.list ≡ list

-- the list has the record
pub record Holds (blocks : std.List Block) (list : List) (r : Record) : Type 0 where
  pub number : ℕ
  pub block : Block
  pub is : slice_get blocks number ≡ Some block
  pub of_list : block.list ≡ list
  pub has : Has block r

-- no list has a record
abbrev pub HoldNothing : std.List Block → Type 0
HoldNothing blocks = (list : List) (r : Record) → Holds blocks list r → ⊥

-- nothing is remembered
abbrev pub HoldsNothing : Kept → Type 0
HoldsNothing kept = HoldNothing kept.blocks

-- the record with this number, with a need of 0 where there is none
abbrev pub nothing : Record
nothing = record { near = 0; mask = 0; deep = 0; depths = 0; need = 0; first_card = 0 }

abbrev pub record_of : std.List Block → ℕ → Record
record_of blocks number = option_map_or (λ block. record_at block (number % 4)) (slice_get blocks (number / 4)) nothing

-- the record with this number is one of the list, with it the side gets as many tricks, and this can be said of it
pub record Finds (kept : Kept) (list : List) (need : ℕ) (Agrees : Record → Type 0) (number : ℕ) : Type 0 where
  pub holds : Holds kept.blocks list (record_of kept.blocks number)
  pub enough : need ≤ (record_of kept.blocks number).need
  pub agrees : Agrees (record_of kept.blocks number)

-- there are no more blocks than before, or than there is room for
abbrev pub Within : std.List Block → std.List Block → ℕ → Type 0
Within old new room = (length new ≤ length old) ⊎ (length new ≤ room)

-- what a list has then it had before
pub record Keeps (old new : std.List Block) (room : ℕ) : Type 0 where
  pub stays : (list : List) (r : Record) → Holds new list r → Holds old list r
  pub within : Within old new room

-- what a list has then it had before, or it is the record told, in this list
abbrev pub HoldsToo : std.List Block → std.List Block → List → Record → Type 0
HoldsToo old new list told = (other : List) (r : Record) → Holds new other r
    → Holds old other r ⊎ ((other ≡ list) × (r ≡ told))

-- a record is put into the block with this number, which is one of a list then
pub record Puts (old new : std.List Block) (number : ℕ) (list : List) (told : Record) : Type 0 where
  pub stays : HoldsToo old new list told
  pub there : number < length old → 0 < told.need → Holds new list told
  pub count : length new ≡ length old

-- What a list has then it had before, or it is the record told, in the list of the lengths told and of this number.
-- Shapes keep their numbers. There are no more blocks than before, or than there is room for.
pub record Adds (old new : Kept) (lengths number : ℕ) (told : Record) : Type 0 where
  pub keeps : KeepsShapes old.shapes new.shapes
  pub told_only : (list : List) (r : Record) → Holds new.blocks list r → Holds old.blocks list r
      ⊎ (ShapeIs new.shapes list.shape lengths × ((list.number ≡ number) × (r ≡ told)))
  pub within : Within old.blocks new.blocks old.room
  pub room : new.room ≡ old.room

-- A record goes along a list, and one goes on. What the list has then it had before, or it is the one that came; so
-- is what goes on. All else stays.
pub record Goes (old new : Kept) (list : List) (came goes : Record) : Type 0 where
  pub shapes : new.shapes ≡ old.shapes
  pub stays : HoldsToo old.blocks new.blocks list came
  pub moved : Holds old.blocks list goes ⊎ (goes ≡ came)
  pub count : length new.blocks ≡ length old.blocks
  pub room : new.room ≡ old.room

-- a record is added to a list, or nothing is
pub record Appends (old new : Kept) (list : List) (added : Record) : Type 0 where
  pub keeps : KeepsShapes old.shapes new.shapes
  pub stays : HoldsToo old.blocks new.blocks list added
  pub within : Within old.blocks new.blocks old.room
  pub room : new.room ≡ old.room
