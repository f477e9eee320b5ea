-- The text of opening leads that is made of a text of boards.
use Rattle.std.specs.Prelude.{◌≡◌, ℕ, ◌-◌, List, length, count_by, is_some, Result, Ok, Err, ⊤}
use Rattle.std.proofs.Common.{Vec, Global}
use Rattle.cards.specs.Devices.{Device, Adds, AddsBeginning, one_more}
use Rattle.streams.specs.Inputs.{IsReadToEnd, Loses}
use Rattle.streams.specs.RunStreams.{Devices}
use Rattle.streams.specs.declared.inputs.InputFault.{InputFault}
use Rattle.streams.specs.declared.inputs.InputFault.TheVariants as input
use Rattle.pbn_deals.specs.declared.boards.Board.{Board}
use Rattle.pbn_deals.specs.Reading.{TextAnswers}
use Rattle.certificate_graph.specs.Solvers.{MayFindCards}
use Rattle.opening_leads.specs.declared.faults.LeadFault.{LeadFault}
use Rattle.opening_leads.specs.declared.faults.LeadFault.TheVariants.{OutOfMemory, Read, Pbn, Write}
use Rattle.opening_leads.specs.declared.counts.LeadReport.{LeadReport}
use Rattle.opening_leads.specs.Leads.{Leads}
use Rattle.opening_leads.specs.Answers.{AreFoundOn}
use Rattle.opening_leads.specs.Texts.{counted_rows, leads_text, missing_count}
use Rattle.opening_leads.specs.declared.rows.Counted.TheVariants as counted

-- The source was read to its end, these are the boards of its text, and the leads are those that were found for them.
pub record FindsLeads (may_find : MayFindCards) (budget : ℕ) (old new : Device) (boards : List Board)
    (leads : ℕ → Leads)
    : Type 0 where
  pub text : List ℕ
  pub all : IsReadToEnd old new text
  pub read : TextAnswers text (Ok boards)
  pub found : AreFoundOn may_find budget boards leads

-- how many boards have no deal
abbrev pub undealt_count : List Board → ℕ
undealt_count boards = length boards - count_by (λ board. is_some board.deal) boards

-- the report counts the boards, and the rows that are missing with the reasons why
pub record IsReportOf (boards : List Board) (leads : ℕ → Leads) (report : LeadReport) : Type 0 where
  pub boards_are : report.boards ≡ length boards
  pub undealt : report.undealt ≡ undealt_count boards
  pub missing : report.missing ≡ missing_count boards leads
  pub steps : report.steps ≡ counted_rows counted.Steps boards leads
  pub memory : report.memory ≡ counted_rows counted.Memory boards leads
  pub refused : report.refused ≡ counted_rows counted.Refused boards leads

-- the leads were written, and this is the report of them
pub record WritesLeads (may_find : MayFindCards) (budget : ℕ) (old new : Devices) (report : LeadReport) : Type 0 where
  pub boards : List Board
  pub leads : ℕ → Leads
  pub finds : FindsLeads may_find budget old.source new.source boards leads
  pub written : Adds old.sink new.sink (leads_text boards leads)
  pub reported : IsReportOf boards leads report

-- a beginning of the text was written, and then the sink failed
pub record BeginsLeads (may_find : MayFindCards) (budget : ℕ) (old new : Devices) : Type 0 where
  pub boards : List Board
  pub leads : ℕ → Leads
  pub finds : FindsLeads may_find budget old.source new.source boards leads
  pub written : AddsBeginning old.sink new.sink (leads_text boards leads)

-- The answer, the bytes read from the source and the bytes in the sink. If the source failed or memory ran out, the
-- bytes that were read are the first of the source. After a fault something was written only if the sink failed.
abbrev pub MakesLeads : MayFindCards → ℕ → Devices → Devices → Result LeadReport LeadFault → Type 0
MakesLeads may_find budget old new (Ok report) = WritesLeads may_find budget old new report
MakesLeads may_find budget old new (Err OutOfMemory) =
    Loses old.source new.source old.source.failed × (new.sink ≡ old.sink)
MakesLeads may_find budget old new (Err Read) =
    Loses old.source new.source (one_more old.source.failed) × (new.sink ≡ old.sink)
MakesLeads may_find budget old new (Err (Pbn fault)) =
    (text : List ℕ) × IsReadToEnd old.source new.source text × TextAnswers text (Err fault) × (new.sink ≡ old.sink)
MakesLeads may_find budget old new (Err Write) = BeginsLeads may_find budget old new

-- why a source could not be read
abbrev pub input_fault : InputFault → LeadFault
input_fault input.OutOfMemory = OutOfMemory
input_fault input.Read = Read

-- the boards that a text says, or its first fault, or memory ran out
abbrev pub TakesBoards : List ℕ → Result (Vec Board Global) LeadFault → Type 0
TakesBoards text (Ok boards) = TextAnswers text (Ok boards.items)
TakesBoards text (Err OutOfMemory) = ⊤
TakesBoards text (Err Read) = ⊥
TakesBoards text (Err (Pbn fault)) = TextAnswers text (Err fault)
TakesBoards text (Err Write) = ⊥
