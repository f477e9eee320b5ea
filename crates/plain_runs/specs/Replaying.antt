-- The text of tables that is made of a text and a whole list of requests.
use Rattle.std.specs.Prelude.{[], ◌≡◌, ℕ, List, Result, Ok, Err}
use Rattle.cards.specs.Devices.{Device, Adds, AddsBeginning}
use Rattle.pbn_deals.specs.declared.boards.Board.{Board}
use Rattle.pbn_deals.specs.Reading.{TextAnswers}
use Rattle.lease_book.specs.declared.events.Event.{Event}
use Rattle.lease_book.specs.declared.events.Reply.{Reply}
use Rattle.plain_runs.specs.declared.requests.Request.{Request}
use Rattle.plain_runs.specs.Replays.{IsReplayed}
use Rattle.tables.specs.declared.results.Report.{Report}
use Rattle.tournaments.specs.declared.faults.MakeFault.{MakeFault}
use Rattle.tournaments.specs.declared.faults.MakeFault.TheVariants.{OutOfMemory, Read, Pbn, NoThread, Write}
use Rattle.lease_book.specs.TrueHistories.{IsTrueHistory}
use Rattle.tournaments.specs.Making.{AreReported}
use Rattle.tournaments.specs.Pages.{history_text}

-- The boards are the boards of the text, and the history answers the requests, each hand-in judged by its texts. It is
-- legal, and it publishes exactly the numbers of the first good hand-ins, each once, and each the double-dummy value.
pub record IsHistoryOf (text : List ℕ) (term tries : ℕ) (requests : List Request) (boards : List Board)
    (events : List Event)
    : Type 0 where
  pub read : TextAnswers text (Ok boards)
  pub replies : List Reply
  pub replayed :
      IsReplayed (record { boards = boards; term = term; tries = tries }) requests
      (record { terms = record { boards = boards; term = term; tries = tries }; events = events }) replies
  pub history : IsTrueHistory (record { boards = boards; term = term; tries = tries }) events

-- the sink has got the text of the boards with the numbers of that history
pub record FillsFromRequests (text : List ℕ) (term tries : ℕ) (requests : List Request) (sink sink' : Device)
    (report : Report)
    : Type 0 where
  pub boards : List Board
  pub events : List Event
  pub history : IsHistoryOf text term tries requests boards events
  pub written : Adds sink sink' (history_text [] boards events)
  pub counts : AreReported boards events report

-- a beginning of that text was written, and then the sink failed
pub record BeginsFromRequests (text : List ℕ) (term tries : ℕ) (requests : List Request) (sink sink' : Device)
    : Type 0 where
  pub boards : List Board
  pub events : List Event
  pub history : IsHistoryOf text term tries requests boards events
  pub written : AddsBeginning sink sink' (history_text [] boards events)

-- The answer, and the bytes in the sink. After a fault something was written only if the sink failed.
abbrev pub ReplaysTables : List ℕ → ℕ → ℕ → List Request → Device → Device → Result Report MakeFault → Type 0
ReplaysTables text term tries requests sink sink' (Ok report) =
    FillsFromRequests text term tries requests sink sink' report
ReplaysTables text term tries requests sink sink' (Err OutOfMemory) = sink' ≡ sink
ReplaysTables text term tries requests sink sink' (Err Read) = ⊥
ReplaysTables text term tries requests sink sink' (Err (Pbn fault)) = TextAnswers text (Err fault) × (sink' ≡ sink)
ReplaysTables text term tries requests sink sink' (Err NoThread) = ⊥
ReplaysTables text term tries requests sink sink' (Err Write) = BeginsFromRequests text term tries requests sink sink'
