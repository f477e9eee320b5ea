-- What explains a fault, on a second line that begins with two blanks.
use Rattle.std.specs.Prelude.{ℕ, List, [], ◌∷◌, ◌++◌, codes, Option, None, Some, nat_lt, nat_eq, ◌||◌}
use Rattle.std.specs.Prelude.{if◌then◌else◌}
use Rattle.std.specs.List.{flat_map}
use Rattle.pbn_deals.specs.declared.faults.PbnFault.{PbnFault}
use Rattle.pbn_deals.specs.declared.faults.PbnFault.TheVariants as pbn
use Rattle.streams.specs.declared.opening.CannotOpen.{CannotOpen}
use Rattle.streams.specs.declared.opening.CannotOpen.TheVariants.{Missing, Denied, NotAFile, Exists}
use Rattle.streams.specs.declared.opening.CannotOpen.TheVariants.{PbnText, Refused}
use Rattle.run_ends.specs.declared.named_files.FileFault.{FileFault}
use Rattle.run_ends.specs.declared.named_files.FileFault.TheVariants as file
use Rattle.cards.specs.Bytes as ascii

-- a line of this text, after two blanks; there is no line without a text
abbrev pub second_line : List ℕ → List ℕ
second_line [] = []
second_line (byte ∷ more) = codes "  " ++ (byte ∷ more) ++ ascii.line_feed ∷ []

-- ---- a file that can't be opened
abbrev pub reason_text : CannotOpen → List ℕ
reason_text Missing = codes "no such file"
reason_text Denied = codes "permission denied"
reason_text NotAFile = codes "not a regular file"
reason_text Exists = codes "the file is there already"
reason_text PbnText = codes "a PBN file, not a file of evidence"
reason_text Refused = codes "the system does not open it"

-- a byte of a name, or a question mark for a control character
abbrev pub shown_byte : ℕ → ℕ
shown_byte byte = if nat_lt byte ascii.blank || nat_eq byte 127 then 63 else byte

abbrev pub shown_name : List ℕ → List ℕ
shown_name name = flat_map (λ byte. shown_byte byte ∷ []) name

-- the name of the file, if it has one, and why it can't be opened
abbrev pub opening_line : Option (List ℕ) → CannotOpen → List ℕ
opening_line None why = second_line (reason_text why)
opening_line (Some name) why = codes "  " ++ shown_name name ++ codes ": " ++ reason_text why ++ ascii.line_feed ∷ []

-- ---- other faults
-- a refused PBN text
abbrev pub text_explanation : PbnFault → List ℕ
text_explanation (pbn.TagForm line) = codes "a tag pair is a name and a quoted value in brackets, on one line"
text_explanation (pbn.OpenComment line) = codes "the comment that begins in this line has no end"
text_explanation (pbn.SecondDeal line) = codes "a game has one Deal: an empty line must separate two boards"
text_explanation (pbn.DealForm line) =
    codes "this Deal is not four hands as in PBN: spades.hearts.diamonds.clubs, T for the ten"
text_explanation (pbn.CardTwice line) = codes "this Deal has a card twice"
text_explanation (pbn.HandSize line) = codes "each hand of a board has thirteen cards"
text_explanation (pbn.Inherited line) =
    codes "a value that begins with # repeats that of an earlier game: write the value itself"
text_explanation (pbn.TooManyBoards line) = codes "at most 4096 boards are read at a time: divide the file"
text_explanation pbn.OutOfMemory = []

-- a file that was opened
abbrev pub file_explanation : FileFault → List ℕ
file_explanation (file.Open why) = []
file_explanation file.Read = codes "the file cannot be read to its end; a folder cannot be read at all"

-- ---- all that is written of a fault after its line
-- the line that explains it, by the name of the file, what explains the fault, and why a file can't be opened, if that
-- is the fault
abbrev pub explained : Option (List ℕ) → List ℕ → Option CannotOpen → List ℕ
explained name explanation (Some why) = opening_line name why
explained name explanation None = second_line explanation
