-- Tables of a run that begins with what a file of evidence shows.
use Rattle.std.specs.Prelude.{◌≡◌, ℕ, ◌+◌, ◌≤◌, min, true, false, List, [], ◌++◌, length}
use Rattle.std.specs.Prelude.{Option, Some, Result, Ok, Err}
use Rattle.std.proofs.Common.{Vec, Global}
use Rattle.farm.specs.declared.settings.Settings.{Settings}
use Rattle.tournaments.specs.declared.pages.PageForm.{PageForm}
use Rattle.board_subcommands.specs.declared.table.options.TableOptions.{TableOptions}
use Rattle.cards.specs.Devices.{Device, one_more}
use Rattle.pbn_deals.specs.declared.boards.Board.{Board}
use Rattle.pbn_deals.specs.Reading.{TextAnswers}
use Rattle.streams.specs.Inputs.{IsReadToEnd, Loses}
use Rattle.streams.specs.RunStreams.{Devices}
use Rattle.evidence.specs.declared.parts.Part.{Part}
use Rattle.evidence.specs.Sections.{SectionShape}
use Rattle.evidence.specs.Wholes.{Whole}
use Rattle.lease_book.specs.declared.entries.Entry.{Entry}
use Rattle.lease_book.specs.declared.events.Event.{Event}
use Rattle.lease_book.specs.Books.{Ledger}
use Rattle.lease_book.specs.Entries.{place_of}
use Rattle.lease_book.specs.Twins.{is_first}
use Rattle.lease_book.specs.Histories.{Terms, published_in, times_leased}
use Rattle.lease_book.specs.Moments.{MayTell}
use Rattle.evidence_solvers.specs.declared.faults.KeepFault.{KeepFault}
use Rattle.certificate_graph.specs.Solvers.{MayFind}
use Rattle.farm.specs.declared.unclaimed.Unclaimed.{Unclaimed}
use Rattle.farm.specs.Runs.{IsRun}
use Rattle.farm.specs.Searched.{AreSearched}
use Rattle.tables.specs.declared.results.Report.{Report}
use Rattle.tournaments.specs.declared.faults.MakeFault.{MakeFault}
use Rattle.tournaments.specs.declared.faults.MakeFault.TheVariants.{OutOfMemory, Read, Pbn, NoThread, Write}
use Rattle.tournaments.specs.Making.{RunFact, HasBoards, MakesPage}
use Rattle.tournaments.specs.Putting.{page_fact}
use Rattle.audits.specs.declared.reading.EvidenceRead.{EvidenceRead}
use Rattle.audits.specs.Reads.{sections_of, ReadsUntil}
use Rattle.audits.specs.Shown.{PublishesShown}
use Rattle.board_subcommands.specs.declared.faults.BoardFault.{BoardFault}
use Rattle.board_subcommands.specs.declared.finished_runs.FinishedRun.{FinishedRun}
use Rattle.board_subcommands.specs.declared.table.beside.TablesBeside.{TablesBeside}
use Rattle.board_subcommands.specs.Audit.Runs.{unread}
use Rattle.board_subcommands.specs.Table.Pages.{IsOutcomeOf}
use Rattle.board_subcommands.specs.Faults.{make_fault}

-- How often an entry is leased at most: once for what evidence shows, and then as often as settings say, but never more
-- than 1000 times.
abbrev pub tries_beside : ℕ → ℕ
tries_beside tries = min (1 + tries) 1000

-- A run that begins with what sections show. Each number of an audit of theirs is published, and each entry of a board
-- that is the first with its deal was leased once for that, and no entry more than once. The run goes on from there,
-- and of what follows this is so.
pub record IsRunBeside (sections : List SectionShape) (may_tell : MayTell) (is_searched : RunFact) (terms : Terms)
    (events : List Event)
    : Type 0 where
  pub run : IsRun may_tell terms events
  pub shown : List Event
  pub later : List Event
  pub events_are : events ≡ shown ++ later
  pub audited : PublishesShown terms.boards sections shown
  pub leased : (entry : Entry) → is_first terms.boards entry.board ≡ true → times_leased shown (place_of entry) ≡ 1
  pub leased_once : (place : ℕ) → times_leased shown place ≤ 1
  pub kept :
      (entry : Entry) (k : ℕ) → published_in terms.boards shown entry ≡ Some k
      → published_in terms.boards events entry ≡ Some k
  pub searched : is_searched terms later

-- the same of the sections of a file, which tells this and was read so far
pub record IsRunBesideFile (told : Option (List ℕ)) (read : EvidenceRead) (may_tell : MayTell) (is_searched : RunFact)
    (terms : Terms) (events : List Event)
    : Type 0 where
  pub left : Whole
  pub parts : List Part
  pub read_is : ReadsUntil (unread (record { bytes = told; failed = 0 })) left parts read.damage read.ended
  pub run : IsRunBeside (sections_of parts) may_tell is_searched terms events

-- so many events published what the file shows
pub record IsRunAfter (told : Option (List ℕ)) (read : EvidenceRead) (may_tell : MayTell) (is_searched : RunFact)
    (shown : ℕ) (terms : Terms) (events : List Event)
    : Type 0 where
  pub run : IsRunBesideFile told read may_tell is_searched terms events
  pub shown_are : length run.run.shown ≡ shown

-- this is so of the events after those
pub record IsRunKept (told : Option (List ℕ)) (read : EvidenceRead) (may_tell : MayTell) (is_searched : RunFact)
    (Keeps : List Event → Type 0) (terms : Terms) (events : List Event)
    : Type 0 where
  pub run : IsRunBesideFile told read may_tell is_searched terms events
  pub keeps : Keeps run.run.later

-- boards with the term of settings, and tries beside a file
abbrev pub terms_beside : List Board → Settings → Terms
terms_beside boards settings = record { boards = boards; term = settings.term; tries = tries_beside settings.tries }

-- the source was read to its end, and this is the book of such a run over the boards that its text says
pub record IsBookBeside (told : Option (List ℕ)) (may_tell : MayTell) (is_searched : RunFact) (settings : Settings)
    (source source' : Device) (text : List ℕ) (book : Ledger) (read : EvidenceRead) (shown : ℕ)
    : Type 0 where
  pub all : IsReadToEnd source source' text
  pub boards : List Board
  pub boards_are : TextAnswers text (Ok boards)
  pub terms_are : book.terms ≡ terms_beside boards settings
  pub run : IsRunAfter told read may_tell is_searched shown (terms_beside boards settings) book.events

-- Such a book, or why there is none. If the source failed or memory ran out, the bytes that were read are the first of
-- the source.
abbrev pub MakesBookBeside :
    Option (List ℕ) → MayFind → MayTell → Settings → Device → Device
    → Result (Vec ℕ Global × Ledger × EvidenceRead × Unclaimed × ℕ) MakeFault → Type 0
MakesBookBeside told may_find may_tell settings source source' (Ok (text, book, read, unclaimed, shown)) =
    IsBookBeside told may_tell (AreSearched may_find settings.budget unclaimed) settings source source' text.items book
    read shown
MakesBookBeside told may_find may_tell settings source source' (Err OutOfMemory) = Loses source source' source.failed
MakesBookBeside told may_find may_tell settings source source' (Err Read) =
    Loses source source' (one_more source.failed)
MakesBookBeside told may_find may_tell settings source source' (Err (Pbn fault)) =
    (text : List ℕ) × IsReadToEnd source source' text × TextAnswers text (Err fault)
MakesBookBeside told may_find may_tell settings source source' (Err NoThread) =
    (boards : List Board) × HasBoards source source' boards
MakesBookBeside told may_find may_tell settings source source' (Err Write) = ⊥

-- the page of tables of such a run
abbrev pub MakesPageBeside : RunFact → TableOptions → Devices → Devices
    → Result (Report × Ledger) MakeFault → Type 0
MakesPageBeside is_run options old new made =
    MakesPage is_run (page_fact options.page) options.settings.term (tries_beside options.settings.tries) old
    new made

-- a run beside a file which tells this, wherever reading it ended, and however many leases got no claim
abbrev pub IsRunBesideSome : Option (List ℕ) → MayFind → MayTell → ℕ → RunFact
IsRunBesideSome told may_find may_tell budget terms events =
    (read : EvidenceRead) × (unclaimed : Unclaimed)
    × IsRunBesideFile told read may_tell (AreSearched may_find budget unclaimed) terms events

-- what came of a page beside a file: but for what is said of the file, it is what comes of one without
abbrev pub IsOutcomeBeside : PageForm → Report → Ledger → Unclaimed → FinishedRun → Type 0
IsOutcomeBeside page report book unclaimed outcome =
    (plain : FinishedRun) × IsOutcomeOf page report book unclaimed plain × (outcome.status ≡ plain.status)
    × (record outcome.notes { read_only = false } ≡ plain.notes)

-- why no tables were written beside a file that tells this, or only a beginning
abbrev pub MakesNone : Option (List ℕ) → MayFind → MayTell → TableOptions → Devices → Devices → BoardFault → Type 0
MakesNone told may_find may_tell options old new fault =
    (made : MakeFault) × (fault ≡ make_fault made)
    × MakesPageBeside (IsRunBesideSome told may_find may_tell options.settings.budget) options old new (Err made)

-- how far the file was read, and the damage of what was read
abbrev pub read_in : FinishedRun → EvidenceRead
read_in outcome = record { damage = outcome.damage; ended = outcome.read }

-- The tables of the boards of the input beside a file that tells this, before its end is known.
abbrev pub PutsBeside : Option (List ℕ) → MayFind → MayTell → TableOptions → Devices → Devices
    → Result TablesBeside BoardFault → Type 0
PutsBeside told may_find may_tell options old new (Ok made) =
    (report : Report) × (unclaimed : Unclaimed)
    × IsOutcomeBeside options.page.form report made.book unclaimed made.outcome
    × MakesPageBeside
    (IsRunAfter told (read_in made.outcome) may_tell (AreSearched may_find options.settings.budget unclaimed) made.shown)
    options old new (Ok (report, made.book))
PutsBeside told may_find may_tell options old new (Err fault) = MakesNone told may_find may_tell options old new fault

-- The tables of the boards of the input beside a file that tells this. The file was read so far, and this is the damage
-- of what was read. Its end is such for the events after what it shows, by what is said of it.
abbrev pub WritesBeside : Option (List ℕ) → MayFind → MayTell → (Result Unit KeepFault → List Event → Type 0)
    → TableOptions → Devices → Devices → Result FinishedRun BoardFault → Type 0
WritesBeside told may_find may_tell Keeps options old new (Ok outcome) =
    (report : Report) × (book : Ledger) × (unclaimed : Unclaimed)
    × IsOutcomeBeside options.page.form report book unclaimed outcome
    × MakesPageBeside
    (IsRunKept told (read_in outcome) may_tell (AreSearched may_find options.settings.budget unclaimed)
    (Keeps outcome.kept))
    options old new (Ok (report, book))
WritesBeside told may_find may_tell Keeps options old new (Err fault) =
    MakesNone told may_find may_tell options old new fault × ((kept : Result Unit KeepFault) × Keeps kept [])
