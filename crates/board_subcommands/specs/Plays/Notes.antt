-- What is said of a run that wrote plays: each note at most once.
use Rattle.std.specs.Prelude.{◌≡◌, ℕ, ◌<◌, nat_eq, Bool, true, false, List, ◌++◌, ◌⊎◌, codes}
use Rattle.cards.specs.Devices.{Device}
use Rattle.play_pages.specs.declared.making.PlaysReport.{PlaysReport}
use Rattle.run_ends.specs.Telling.{IsTold}
use Rattle.board_subcommands.specs.Counted.{counted}
use Rattle.board_subcommands.specs.Notes.{TellsIf, no_board_text}

-- a note of a number of things
abbrev pub note_text : ℕ → List ℕ → List ℕ → List ℕ
note_text count one others = codes "ddfarm: note: " ++ counted count one others

-- the note, if there are any
abbrev pub TellsCount : ℕ → List ℕ → List ℕ → Device → Device → Type 0
TellsCount count one others errors errors' =
    ((count ≡ 0) × (errors' ≡ errors)) ⊎ ((0 < count) × IsTold errors errors' (note_text count one others))

-- the board was passed out, or no play is recorded
abbrev pub TellsPassedOver : ℕ → Device → Device → Type 0
TellsPassedOver count = TellsCount count (codes "1 game has no play\n") (codes " games have no play\n")

-- a play has no deal, no contract or no declarer
abbrev pub TellsLacking : ℕ → Device → Device → Type 0
TellsLacking count =
    TellsCount count (codes "1 game lacks its deal, its contract or its declarer\n")
    (codes " games lack their deal, their contract or their declarer\n")

-- a card is not legal
abbrev pub TellsIllegal : ℕ → Device → Device → Type 0
TellsIllegal count =
    TellsCount count (codes "1 play ends at a card that is not legal\n")
    (codes " plays end at a card that is not legal\n")

-- the section has an irregularity, or a word that is no card
abbrev pub TellsCut : ℕ → Device → Device → Type 0
TellsCut count =
    TellsCount count (codes "1 play ends at an irregularity, or at a word that is no card\n")
    (codes " plays end at an irregularity, or at a word that is no card\n")

-- a number was not found, or evidence doesn't show it
abbrev pub TellsMissing : Bool → ℕ → Device → Device → Type 0
TellsMissing true count =
    TellsCount count (codes "1 number is unknown: the evidence does not show it\n")
    (codes " numbers are unknown: the evidence does not show them\n")
TellsMissing false count =
    TellsCount count (codes "1 number is unknown\n  --budget gives a search more steps\n")
    (codes " numbers are unknown\n  --budget gives a search more steps\n")

-- all notes, one after the other, of a search or of an audit
pub record TellsReport (report : PlaysReport) (is_audit : Bool) (errors errors' : Device) : Type 0 where
  pub with_boards : Device
  pub with_passed_over : Device
  pub with_lacking : Device
  pub with_illegal : Device
  pub with_cut : Device
  pub boards : TellsIf (nat_eq report.games 0) no_board_text errors with_boards
  pub passed_over : TellsPassedOver report.passed_over with_boards with_passed_over
  pub lacking : TellsLacking report.lacking with_passed_over with_lacking
  pub illegal : TellsIllegal report.illegal with_lacking with_illegal
  pub cut : TellsCut report.cut with_illegal with_cut
  pub missing : TellsMissing is_audit report.missing with_cut errors'
