-- What the reader's values say, without where their bytes lie, and what its steps do unless memory runs out.
use Rattle.std.specs.Prelude.{◌≡◌, ◌<◌, ℕ, List, [], ◌∷◌, length, Option, Some, None, Result, Ok, Err, Bool, false}
use Rattle.std.specs.Borrow.{Bor}
use Rattle.std.proofs.Common.{Vec, Global}
use Rattle.pbn_deals.specs.declared.boards.Board.{Board}
use Rattle.pbn_deals.specs.Lines.{lines_of}
use Rattle.pbn_deals.specs.Reading.{LineEnd, Scans, Ends, Stops}
use Rattle.pbn_deals.specs.declared.tags.Tag as code
use Rattle.pbn_deals.specs.declared.games.GameTags.{GameTags}
use Rattle.pbn_deals.specs.declared.faults.PbnFault.{PbnFault}
use Rattle.pbn_deals.specs.declared.faults.PbnFault.TheVariants.{OutOfMemory}
use Rattle.pbn_deals.specs.Tags.{Tag}
use Rattle.pbn_deals.specs.Games.{Tags}
use Rattle.cards.specs.Bytes as ascii

abbrev pub tag_seen : Option code.Tag → Option Tag
tag_seen (Some tag) = Some (record { name = tag.name.now; value = tag.value.now; rest = tag.rest.now })
tag_seen None = None

abbrev pub tags_seen : GameTags → Tags
tags_seen tags = record { name = tags.name; deal = tags.deal }

-- a fact of each fault but that memory ran out
abbrev pub UnlessMemory : PbnFault → Type 0 → Type 0
UnlessMemory OutOfMemory P = Unit {0}
UnlessMemory fault P = P

-- what a step makes of a game, or its fault
abbrev pub Steps : {X : Type 0} → (Result Tags PbnFault → Type 0) → Result X PbnFault → GameTags → Type 0
Steps takes (Ok done) tags = takes (Ok (tags_seen tags))
Steps takes (Err fault) tags = UnlessMemory fault (takes (Err fault))

-- What a tag pair does, unless memory runs out: from its bracket on the line does what it does from after the pair on.
abbrev pub ReadsTag : ℕ → ℕ → GameTags → GameTags → List ℕ → Result (Bor (List ℕ)) PbnFault → Type 0
ReadsTag number count old new text (Ok after) =
    (last : LineEnd) →
    Scans number count false (tags_seen new) after.now last →
    Scans number count false (tags_seen old) (ascii.open_bracket ∷ text) last
ReadsTag number count old new text (Err fault) =
    UnlessMemory fault (Scans number count false (tags_seen old) (ascii.open_bracket ∷ text) (Stops fault))

-- what a line does, unless memory runs out
abbrev pub ReadsLine : ℕ → ℕ → GameTags → GameTags → List ℕ → Result Bool PbnFault → Type 0
ReadsLine number count old new line (Ok is_open) =
    Scans number count false (tags_seen old) line (Ends (tags_seen new) is_open)
ReadsLine number count old new line (Err fault) =
    UnlessMemory fault (Scans number count false (tags_seen old) line (Stops fault))

-- the first line of a text, and what stands after its line feed
abbrev pub CutsLine : List ℕ → Bor (List ℕ) × Option (Bor (List ℕ)) → Type 0
CutsLine text (line, Some after) = (lines_of text ≡ line.now ∷ lines_of after.now) × (length after.now < length text)
CutsLine text (line, None) = lines_of text ≡ line.now ∷ []

-- the boards of a vector
abbrev pub boards_seen : Result (Vec Board Global) PbnFault → Result (List Board) PbnFault
boards_seen (Ok boards) = Ok boards.items
boards_seen (Err fault) = Err fault
