-- The subcommands: their words in the terms of `clap`, what the words say, and what a run does for them.
use Rattle.std.specs.Prelude.{List, [], ◌∷◌, codes, ◌≡◌, ℕ, Option, Some, None, if◌then◌else◌}
use Rattle.clap.specs.Words.{Shape, Row, Text}
use Rattle.command_words.specs.declared.commands.Letters.{Letters}
use Rattle.board_subcommands.specs.Table.Options as table
use Rattle.board_subcommands.specs.Audit.Options as audit
use Rattle.board_subcommands.specs.Leads.Options as leads
use Rattle.board_subcommands.specs.Plays.Options as plays
use Rattle.deal_subcommands.specs.Solve.Options as solve
use Rattle.deal_subcommands.specs.Check.Options as check
use Rattle.deal_subcommands.specs.Line.Options as line
use Rattle.deal_subcommands.specs.Play.Options as play
use Rattle.deal_subcommands.specs.CardTricks.Options as cards
use Rattle.deal_subcommands.specs.Plain.Options as plain
use Rattle.std.specs.Str.{bytes_eq}
use Rattle.command_words.specs.Says.{SaysDeal}
use Rattle.command_words.specs.declared.reading.LayoutWords.{LayoutWords}
use Rattle.board_subcommands.specs.declared.table.options.TableOptions.{TableOptions}
use Rattle.board_subcommands.specs.declared.audit.options.AuditOptions.{AuditOptions}
use Rattle.board_subcommands.specs.declared.leads.options.LeadsOptions.{LeadsOptions}
use Rattle.board_subcommands.specs.declared.plays.options.PlaysOptions.{PlaysOptions}
use Rattle.deal_subcommands.specs.declared.solve.options.SolveOptions.{SolveOptions}
use Rattle.deal_subcommands.specs.declared.play.options.PlayOptions.{PlayOptions}
use Rattle.deal_subcommands.specs.declared.card_tricks.options.CardsOptions.{CardsOptions}
use Rattle.command_line.specs.declared.subcommands.Subcommand.{Subcommand}
use Rattle.command_line.specs.declared.subcommands.Subcommand.TheVariants.{Table, Audit, Leads, Plays, Solve, Check, Line, Play, Cards, Plain}
use Rattle.lease_book.specs.Moments.{MayTell}
use Rattle.certificate_graph.specs.Solvers.{MayFind, MayFindCards}
use Rattle.play_claims.specs.Solvers.{MayFindPlay}
use Rattle.cards.specs.Devices.{Device}
use Rattle.streams.specs.RunStreams.{RunDevices}
use Rattle.run_ends.specs.NamedFiles.{Opens}
use Rattle.run_ends.specs.declared.statuses.Status.{Status}
use Rattle.board_subcommands.specs.Table.KeptFiles.{OpensToKeep}
use Rattle.board_subcommands.specs.Table.Kept.{Left}
use Rattle.board_subcommands.specs.Table.Runs.{RunsTable}
use Rattle.board_subcommands.specs.Audit.Runs.{RunsAudit}
use Rattle.board_subcommands.specs.Leads.Runs.{RunsLeads}
use Rattle.board_subcommands.specs.Plays.Runs.{RunsPlays}
use Rattle.deal_subcommands.specs.Solve.Runs.{RunsSolve}
use Rattle.deal_subcommands.specs.Check.Runs.{RunsCheck}
use Rattle.deal_subcommands.specs.Line.Runs.{RunsLine}
use Rattle.deal_subcommands.specs.Play.Runs.{RunsPlay}
use Rattle.deal_subcommands.specs.CardTricks.Runs.{RunsCards}
use Rattle.deal_subcommands.specs.Plain.Runs.{RunsPlain}

-- the ten subcommands
abbrev pub shapes : Letters → List Shape
shapes letters = table.shape ∷ audit.shape ∷ leads.shape ∷ plays.shape ∷ solve.shape letters ∷ check.shape letters
    ∷ line.shape letters ∷ play.shape letters ∷ cards.shape letters ∷ plain.shape letters ∷ []

-- the subcommands by their names
pub data Name : Type 0 where
  table_name : Name
  audit_name : Name
  leads_name : Name
  plays_name : Name
  solve_name : Name
  check_name : Name
  line_name : Name
  play_name : Name
  cards_name : Name
  plain_name : Name

abbrev pub name_of : Text → Option Name
name_of text =
    if bytes_eq text (codes "table") then Some table_name else
    if bytes_eq text (codes "audit") then Some audit_name else
    if bytes_eq text (codes "leads") then Some leads_name else
    if bytes_eq text (codes "plays") then Some plays_name else
    if bytes_eq text (codes "solve") then Some solve_name else
    if bytes_eq text (codes "check") then Some check_name else
    if bytes_eq text (codes "line") then Some line_name else
    if bytes_eq text (codes "play") then Some play_name else
    if bytes_eq text (codes "cards") then Some cards_name else
    if bytes_eq text (codes "plain") then Some plain_name else None

-- the words after this name say this subcommand, on a machine with this number of processors
abbrev pub SaysNamed : Option Name → List Row → ℕ → Subcommand → Type 0
SaysNamed (Some table_name) said processors asked =
    (options : TableOptions) × (asked ≡ Table options) × table.Says said processors options
SaysNamed (Some audit_name) said processors asked =
    (options : AuditOptions) × (asked ≡ Audit options) × audit.Says said options
SaysNamed (Some leads_name) said processors asked =
    (options : LeadsOptions) × (asked ≡ Leads options) × leads.Says said processors options
SaysNamed (Some plays_name) said processors asked =
    (options : PlaysOptions) × (asked ≡ Plays options) × plays.Says said processors options
SaysNamed (Some solve_name) said processors asked =
    (options : SolveOptions) × (asked ≡ Solve options) × solve.Says said options
SaysNamed (Some check_name) said processors asked =
    (options : LayoutWords) × (asked ≡ Check options) × SaysDeal said (codes "DECLARER") options
SaysNamed (Some line_name) said processors asked =
    (options : LayoutWords) × (asked ≡ Line options) × SaysDeal said (codes "DECLARER") options
SaysNamed (Some play_name) said processors asked =
    (options : PlayOptions) × (asked ≡ Play options) × play.Says said options
SaysNamed (Some cards_name) said processors asked =
    (options : CardsOptions) × (asked ≡ Cards options) × cards.Says said options
SaysNamed (Some plain_name) said processors asked =
    (options : LayoutWords) × (asked ≡ Plain options) × SaysDeal said (codes "LEADER") options
SaysNamed None said processors asked = ⊥

abbrev pub Says : Text → List Row → ℕ → Subcommand → Type 0
Says text said processors asked = SaysNamed (name_of text) said processors asked

abbrev pub SaysMatched : Option (Text × List Row) → ℕ → Subcommand → Type 0
SaysMatched (Some matched) processors asked = Says matched.0 matched.1 processors asked
SaysMatched None processors asked = ⊥

-- what a solver may find of declarers, of cards, and of recorded plays
pub record MaySolve : Type 1 where
  pub answers : MayFind
  pub cards : MayFindCards
  pub plays : MayFindPlay

-- What may come of the opening of a file that is to be read, of one that is to be read and added to, and of the making
-- of a new one.
pub record MayOpen : Type 1 where
  pub to_read : Opens
  pub to_keep : OpensToKeep
  pub to_make : Opens

-- What a run leaves of files of evidence: what the file has that it added to, where it tells that, and what the file is
-- that it made.
pub record LeftFiles : Type 0 where
  pub kept : Left
  pub made : Option Device

-- A whole run, by what the solver may find, the clock may tell and the opening of a file may come to, and by what the
-- output has handed on. What can't be done is reported on the error output.
abbrev pub RunsSubcommand : MaySolve → MayTell → MayOpen → Subcommand → LeftFiles → RunDevices → RunDevices
    → Option (List ℕ) → Status → Type 0
RunsSubcommand may_solve may_tell may_open (Table options) left old new handed_on status =
    RunsTable may_solve.answers may_tell may_open.to_read may_open.to_keep options left.kept old new handed_on status
RunsSubcommand may_solve may_tell may_open (Audit options) left old new handed_on status =
    RunsAudit may_open.to_read options old new handed_on status
RunsSubcommand may_solve may_tell may_open (Leads options) left old new handed_on status =
    RunsLeads may_solve.cards may_open.to_read options old new handed_on status
RunsSubcommand may_solve may_tell may_open (Plays options) left old new handed_on status =
    RunsPlays may_solve.plays may_open.to_read may_open.to_make options old new left.made handed_on status
RunsSubcommand may_solve may_tell may_open (Solve options) left old new handed_on status =
    RunsSolve may_solve.answers options old new status
RunsSubcommand may_solve may_tell may_open (Check options) left old new handed_on status =
    RunsCheck options old new status
RunsSubcommand may_solve may_tell may_open (Line options) left old new handed_on status =
    RunsLine options old new status
RunsSubcommand may_solve may_tell may_open (Play options) left old new handed_on status =
    RunsPlay may_open.to_read options old new status
RunsSubcommand may_solve may_tell may_open (Cards options) left old new handed_on status =
    RunsCards may_solve.cards may_open.to_read may_open.to_make options old new left.made handed_on status
RunsSubcommand may_solve may_tell may_open (Plain options) left old new handed_on status =
    RunsPlain options old new status
