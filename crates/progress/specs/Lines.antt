-- What is told of the work.
use Rattle.std.specs.Prelude.{ℕ, ◌-◌, ◌==◌, List, ◌++◌, codes, ◌⊎◌, ⊤, if◌then◌else◌}
use Rattle.std.specs.Fmt.{decimal}
use Rattle.cards.specs.Devices.{Device, Adds, AddsBeginning}
use Rattle.lease_book.specs.declared.events.Reply.{Reply}
use Rattle.lease_book.specs.declared.events.Reply.TheVariants.{Published}
use Rattle.progress.specs.declared.counts.Counts.{Counts}

-- `37 of 200 results, `
abbrev pub counted : ℕ → ℕ → List ℕ → List ℕ
counted done all name = decimal done ++ (codes " of " ++ (decimal all ++ name))

-- `ddfarm: 37 of 200 results, 1 of 10 boards, `
abbrev pub counts_text : Counts → List ℕ
counts_text counts = codes "ddfarm: "
    ++ (counted counts.published counts.results (codes " results, ") ++ counted counts.finished counts.boards
    (codes " boards, "))

-- a line of the counts after so many seconds
abbrev pub line_text : Counts → ℕ → List ℕ
line_text counts seconds = counts_text counts ++ (decimal seconds ++ codes " s\n")

-- how many tables are incomplete, at the end of the last line
abbrev pub incomplete_text : ℕ → List ℕ
incomplete_text count =
    if count == 1 then codes "1 table incomplete\n" else decimal count ++ codes " tables incomplete\n"

-- the last line, such as `ddfarm: 200 of 200 results, 10 of 10 boards, 41 s, 0 tables incomplete`
abbrev pub last_line_text : Counts → ℕ → List ℕ
last_line_text counts seconds =
    counts_text counts
    ++ (decimal seconds ++ (codes " s, " ++ incomplete_text (counts.boards - counts.finished)))

-- the reply is that a result was published
abbrev pub IsPublished : Reply → Type 0
IsPublished (Published k) = ⊤
IsPublished _ = ⊥

-- a text goes out, or a beginning of it where the sink fails
abbrev pub Tells : Device → Device → List ℕ → Type 0
Tells old new text = Adds old new text ⊎ AddsBeginning old new text
