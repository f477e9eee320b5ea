-- A whole text of evidence of plays. It is cut at the lines `DPP 1`: a piece goes from one of them, or from the
-- beginning of the text, to the next or to the end. It is a section, or damaged.
use Rattle.std.specs.Prelude.{◌≡◌, ℕ, ◌+◌, ◌-◌, ◌<◌, ◌≤◌, List, [], ◌∷◌, ◌++◌, length, ◌⊎◌}
use Rattle.memchr.specs.Find.{OccursAt}
use Rattle.evidence.specs.Damages.{IsDamageOf}
use Rattle.evidence.specs.declared.damages.Damage.{Damage}
use Rattle.play_evidence.specs.Sections.{PlaySectionShape}
use Rattle.play_evidence.specs.SectionTexts.{title, IsTextOf}
use Rattle.play_evidence.specs.declared.wholes.WholeEvidence.{WholeEvidence}
use Rattle.cards.specs.Bytes as ascii

-- what is where two pieces meet: the end of a line, and a title
abbrev pub border : List ℕ
border = ascii.line_feed ∷ title

-- the piece ends before the first title that comes after the end of a line
pub record EndsAtTitle (text piece rest : List ℕ) : Type 0 where
  pub whole : text ≡ piece ++ rest
  pub some : 1 ≤ length piece
  pub here : OccursAt text border (length piece - 1)
  pub first : (place : ℕ) → place < length piece - 1 → OccursAt text border place → ⊥

-- there is no such title, and the piece is all of a text that is not empty
pub record EndsWithText (text piece rest : List ℕ) : Type 0 where
  pub whole : text ≡ piece
  pub some : 1 ≤ length piece
  pub nothing : rest ≡ []
  pub none : (place : ℕ) → OccursAt text border place → ⊥

-- the first piece of a text, and what comes after it
abbrev pub IsFirstPiece : List ℕ → List ℕ → List ℕ → Type 0
IsFirstPiece text piece rest = EndsAtTitle text piece rest ⊎ EndsWithText text piece rest

-- The pieces of a text that begins at this byte, in their order: these of them are sections, and those that begin at
-- these bytes are damaged.
pub data ArePieces : ℕ → List ℕ → List PlaySectionShape → List ℕ → Type 0 where
  no_piece : (at : ℕ) → ArePieces at [] [] []
  is_section : (at : ℕ) (text piece rest : List ℕ) (section : PlaySectionShape) (sections : List PlaySectionShape)
      (damaged : List ℕ) → IsFirstPiece text piece rest → IsTextOf piece section
      → ArePieces (at + length piece) rest sections damaged
      → ArePieces at text (section ∷ sections) damaged
  is_damaged : (at : ℕ) (text piece rest : List ℕ) (sections : List PlaySectionShape) (damaged : List ℕ)
      → IsFirstPiece text piece rest → ((section : PlaySectionShape) → IsTextOf piece section → ⊥)
      → ArePieces (at + length piece) rest sections damaged
      → ArePieces at text sections (at ∷ damaged)

-- the sections of a whole text, and its damage
pub record IsWhole (text : List ℕ) (sections : List PlaySectionShape) (damage : Damage) : Type 0 where
  pub damaged : List ℕ
  pub pieces : ArePieces 0 text sections damaged
  pub damage_is : IsDamageOf damaged damage

-- the piece that begins at this byte is a section, which is added, or it is damaged, and counted
abbrev pub AddsPiece : ℕ → List ℕ → WholeEvidence → WholeEvidence → Type 0
AddsPiece at piece old new =
    ((section : PlaySectionShape) × IsTextOf piece section
    × (new.sections.items ≡ old.sections.items ++ section ∷ []) × (new.damage ≡ old.damage))
    ⊎ (((section : PlaySectionShape) → IsTextOf piece section → ⊥) × (new.sections.items ≡ old.sections.items)
    × ((damaged : List ℕ) → IsDamageOf damaged old.damage → IsDamageOf (damaged ++ at ∷ []) new.damage))
