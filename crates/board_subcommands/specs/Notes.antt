-- What is said of a run that was done and is no fault: each note at most once.
use Rattle.std.specs.Prelude.{◌≡◌, ℕ, ◌<◌, nat_lt, Bool, true, false, List, [], ◌∷◌, ◌++◌, ◌⊎◌, codes}
use Rattle.std.specs.Fmt.{decimal}
use Rattle.cards.specs.Devices.{Device}
use Rattle.board_subcommands.specs.declared.notes.Searches.{Searches}
use Rattle.board_subcommands.specs.declared.notes.Lacking.{Lacking}
use Rattle.board_subcommands.specs.declared.notes.Lacking.TheVariants.{Nothing, Searched, Unshown, Rows}
use Rattle.board_subcommands.specs.declared.notes.Notes.{Notes}
use Rattle.board_subcommands.specs.Counted.{counted}
use Rattle.run_ends.specs.Telling.{IsTold}
use Rattle.cards.specs.Bytes as ascii

-- nothing is said
abbrev pub quiet_notes : Notes
quiet_notes = record { lacks_boards = false; undealt = 0; read_only = false; lacking = Nothing }

-- ---- the notes
-- no board was found
abbrev pub no_board_text : List ℕ
no_board_text =
    codes "ddfarm: note: no board was found" ++ ascii.line_feed
    ∷ codes "  the input has to be plain text in PBN, not UTF-16, and its lines have to end by LF or CR LF"
    ++ ascii.line_feed ∷ []

-- boards have no deal
abbrev pub undealt_text : ℕ → List ℕ
undealt_text count =
    codes "ddfarm: note: "
    ++ (counted count (codes "1 board has") (codes " boards have")
    ++ (codes " no deal, so there is no table" ++ ascii.line_feed ∷ []))

-- a file of evidence can only be read
abbrev pub read_only_text : List ℕ
read_only_text =
    codes "ddfarm: note: evidence: the file can only be read, so nothing is added to it" ++ ascii.line_feed ∷ []

-- how many tables are incomplete, as the beginning of a note
abbrev pub counted_tables : ℕ → List ℕ
counted_tables tables =
    codes "ddfarm: note: "
    ++ counted tables (codes "1 table is incomplete: ") (codes " tables are incomplete: ")

-- how searches ended
abbrev pub counts_text : Searches → List ℕ
counts_text searches =
    counted searches.steps (codes "1 search ran out of steps, ") (codes " searches ran out of steps, ")
    ++ (decimal searches.memory
    ++ (codes " out of memory, "
    ++ (counted searches.refused (codes "1 answer was refused") (codes " answers were refused")
    ++ ascii.line_feed ∷ [])))

-- a text, if it holds
abbrev pub text_if : Bool → List ℕ → List ℕ
text_if true text = text
text_if false text = []

-- what helps searches that ran out of steps, and searches that ran out of memory
abbrev pub steps_advice : ℕ → List ℕ
steps_advice count = text_if (nat_lt 0 count) (codes "; --budget gives a search more steps")

abbrev pub memory_advice : ℕ → List ℕ
memory_advice count = text_if (nat_lt 0 count) (codes "; use fewer --solvers or give more memory")

-- the second line after searches: how often each was made, and what helps
abbrev pub advice_line : Searches → List ℕ
advice_line searches =
    codes "  each missing result was tried as often as --tries says"
    ++ (steps_advice searches.steps ++ (memory_advice searches.memory ++ ascii.line_feed ∷ []))

-- tables are incomplete after searches
abbrev pub searched_text : ℕ → Searches → List ℕ
searched_text tables searches = counted_tables tables ++ (counts_text searches ++ advice_line searches)

-- tables lack results that evidence doesn't show
abbrev pub unshown_text : ℕ → List ℕ
unshown_text tables =
    counted_tables tables
    ++ (codes "the evidence does not show all results" ++ 10
    ∷ codes "  table --evidence searches the rest and adds it to the file" ++ ascii.line_feed ∷ [])

-- rows of leads are missing after searches
abbrev pub counted_rows : ℕ → List ℕ
counted_rows rows =
    codes "ddfarm: note: " ++ counted rows (codes "1 row is missing: ") (codes " rows are missing: ")

-- what helps them
abbrev pub lead_advice : Searches → List ℕ
lead_advice searches =
    text_if (nat_lt 0 searches.steps) (codes "  --budget gives a search more steps\n")
    ++ text_if (nat_lt 0 searches.memory) (codes "  use fewer --solvers or give more memory\n")

abbrev pub missing_text : ℕ → Searches → List ℕ
missing_text rows searches = counted_rows rows ++ (counts_text searches ++ lead_advice searches)

-- ---- what is printed
-- a text, if it holds
abbrev pub TellsIf : Bool → List ℕ → Device → Device → Type 0
TellsIf true text errors errors' = IsTold errors errors' text
TellsIf false text errors errors' = errors' ≡ errors

-- that boards have no deal, if any have none
abbrev pub TellsUndealt : ℕ → Device → Device → Type 0
TellsUndealt count errors errors' =
    ((count ≡ 0) × (errors' ≡ errors)) ⊎ ((0 < count) × IsTold errors errors' (undealt_text count))

-- which tables are incomplete, if any are, or which rows are missing
abbrev pub TellsLacking : Lacking → Device → Device → Type 0
TellsLacking Nothing errors errors' = errors' ≡ errors
TellsLacking (Searched tables searches) errors errors' = IsTold errors errors' (searched_text tables searches)
TellsLacking (Unshown tables) errors errors' = IsTold errors errors' (unshown_text tables)
TellsLacking (Rows rows searches) errors errors' = IsTold errors errors' (missing_text rows searches)

-- all notes, one after the other
pub record TellsNotes (notes : Notes) (errors errors' : Device) : Type 0 where
  pub with_boards : Device
  pub with_deals : Device
  pub with_file : Device
  pub boards : TellsIf notes.lacks_boards no_board_text errors with_boards
  pub deals : TellsUndealt notes.undealt with_boards with_deals
  pub file : TellsIf notes.read_only read_only_text with_deals with_file
  pub tables : TellsLacking notes.lacking with_file errors'
