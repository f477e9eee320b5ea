-- What is in a block, and what a record that goes past leaves of it.
use Rattle.std.specs.Prelude.{◌≡◌, ◌≢◌, ℕ, ◌<◌, ◌⊎◌, slice_index_or}
use Rattle.pattern_store.specs.declared.record.Record.{Record}
use Rattle.pattern_store.specs.declared.blocks.Facts.{Facts}
use Rattle.pattern_store.specs.declared.blocks.List.{List}
use Rattle.pattern_store.specs.declared.blocks.Block.{Block}
use Rattle.pattern_store.specs.Record.{IsServed}

-- what a place past the last one would have
abbrev pub no_facts : Facts
no_facts = record { depths = 0; need = 0; first_card = 0 }

-- the record in a place
abbrev pub record_at : Block → ℕ → Record
record_at block place = record {
  near = slice_index_or block.near place 0;
  mask = slice_index_or block.masks place 0;
  deep = slice_index_or block.deep place 0;
  depths = (slice_index_or block.facts place no_facts).depths;
  need = (slice_index_or block.facts place no_facts).need;
  first_card = (slice_index_or block.facts place no_facts).first_card;
}

-- in some place a block has such a record
abbrev pub AtSomePlace : Block → (Record → Type 0) → Type 0
AtSomePlace block Is = (place : ℕ) × (place < 4) × Is (record_at block place)

-- a record is put into a place, and all else stays
pub record SetsPlace (old new : Block) (place : ℕ) (r : Record) : Type 0 where
  pub here : record_at new place ≡ r
  pub elsewhere : (other : ℕ) → other < 4 → other ≢ place → record_at new other ≡ record_at old other
  pub list : new.list ≡ old.list

-- the block has the record in a place, and something is known by it
pub record Has (block : Block) (r : Record) : Type 0 where
  pub place : ℕ
  pub is_place : place < 4
  pub is : record_at block place ≡ r
  pub known : 0 < r.need

-- a block of a list has this record in its first place, and no other
pub record IsBlockOf (block : Block) (list : List) (r : Record) : Type 0 where
  pub of_list : block.list ≡ list
  pub first : record_at block 0 ≡ r
  pub only : (other : Record) → Has block other → other ≡ r

-- A record goes past a block, and one goes on. What the block has then it had before, or it is the one that came; so is
-- what goes on.
pub record Passes (old new : Block) (came goes : Record) : Type 0 where
  pub stays : (r : Record) → Has new r → Has old r ⊎ (r ≡ came)
  pub moved : Has old goes ⊎ (goes ≡ came)
  pub list : new.list ≡ old.list

-- Only such a record is lost as the one told serves: each other one that the block had, or that came, the block has
-- then, or it goes on.
abbrev pub LosesServed : Record → Block → Block → Record → Record → Type 0
LosesServed told old new came goes = (r : Record) → 0 < r.need → Has old r ⊎ (r ≡ came)
    → (Has new r ⊎ (r ≡ goes)) ⊎ IsServed told r
