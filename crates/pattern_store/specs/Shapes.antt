-- The shapes by number: the lengths of each, and where its lists lie.
use Rattle.std.specs.Prelude.{◌≡◌, ◌≢◌, ℕ, ◌<◌, ◌^◌, ◌==◌, if◌then◌else◌, Some, slice_get, slice_index_or, length}
use Rattle.std.specs.Prelude as std
use Rattle.std.specs.Option.{option_map_or}
use Rattle.pattern_store.specs.declared.blocks.List.{List}
use Rattle.pattern_store.specs.declared.spans.Span.{Span}

-- for how many blocks the run of a list has room: a list without any has no run
abbrev pub room_in : Span → ℕ
room_in span = if span.used == 0 then 0 else 2 ^ span.doublings

abbrev pub Shapes : Type 0
Shapes = std.List (ℕ × std.List Span)

-- the shape with this number has these lengths
pub record ShapeIs (shapes : Shapes) (shape lengths : ℕ) : Type 0 where
  pub spans : std.List Span
  pub is : slice_get shapes shape ≡ Some (lengths, spans)

-- shapes keep their numbers
abbrev pub KeepsShapes : Shapes → Shapes → Type 0
KeepsShapes old new = (shape lengths : ℕ) → ShapeIs old shape lengths → ShapeIs new shape lengths

-- where a list lies that is empty
abbrev pub nowhere : Span
nowhere = record { first = 0; used = 0; doublings = 0 }

-- where the blocks of a list lie, nowhere if there is no such list
abbrev pub span_of : Shapes → List → Span
span_of shapes list =
    option_map_or (λ (shape : ℕ × std.List Span). slice_index_or shape.1 list.number nowhere)
    (slice_get shapes list.shape) nowhere

-- there is such a shape, and the list is one of its eight
pub record IsListOf (shapes : Shapes) (list : List) : Type 0 where
  pub lengths : ℕ
  pub spans : std.List Span
  pub is : slice_get shapes list.shape ≡ Some (lengths, spans)
  pub within : list.number < 8
  pub has_span : list.number < length spans

-- the blocks of a list lie there now, and those of all others where they lay
pub record SetsSpan (old new : Shapes) (list : List) (span : Span) : Type 0 where
  pub keeps : KeepsShapes old new
  pub here : IsListOf old list → span_of new list ≡ span
  pub elsewhere : (other : List) → other ≢ list → span_of new other ≡ span_of old other
