-- Why runs for boards fail or are refused: the status of such a run, and what is printed of the fault.
use Rattle.std.specs.Prelude.{ℕ, List, [], Option, None, Some, codes}
use Rattle.pbn_deals.specs.Faults.{fault_text, fault_line}
use Rattle.tournaments.specs.declared.faults.MakeFault.{MakeFault}
use Rattle.tournaments.specs.declared.faults.MakeFault.TheVariants as make
use Rattle.audits.specs.declared.faults.AuditFault.{AuditFault}
use Rattle.audits.specs.declared.faults.AuditFault.TheVariants as audit
use Rattle.evidence_solvers.specs.declared.faults.KeepFault.{KeepFault}
use Rattle.evidence_solvers.specs.declared.faults.KeepFault.TheVariants as keep
use Rattle.opening_leads.specs.declared.faults.LeadFault.{LeadFault}
use Rattle.opening_leads.specs.declared.faults.LeadFault.TheVariants as lead
use Rattle.streams.specs.declared.opening.CannotOpen.{CannotOpen}
use Rattle.run_ends.specs.Explanations.{file_explanation, text_explanation}
use Rattle.run_ends.specs.Telling.{after_line}
use Rattle.run_ends.specs.declared.named_files.FileFault.TheVariants as file
use Rattle.run_ends.specs.declared.statuses.Status.{Status}
use Rattle.run_ends.specs.declared.statuses.Status.TheVariants.{Failed, Refused}
use Rattle.board_subcommands.specs.declared.faults.BoardFault.{BoardFault}
use Rattle.board_subcommands.specs.declared.faults.BoardFault.TheVariants as fault

-- memory or a device has failed, or the text is refused
abbrev pub status : BoardFault → Status
status (fault.Pbn refusal) = Refused
status _ = Failed

-- why no tables were made
abbrev pub make_fault : MakeFault → BoardFault
make_fault make.OutOfMemory = fault.OutOfMemory
make_fault make.Read = fault.Read
make_fault (make.Pbn refusal) = fault.Pbn refusal
make_fault make.NoThread = fault.NoThread
make_fault make.Write = fault.Write

-- why no tables were made of evidence
abbrev pub audit_fault : AuditFault → BoardFault
audit_fault (audit.Page made) = make_fault made
audit_fault audit.Evidence = fault.Evidence file.Read

-- why no leads were written
abbrev pub lead_fault : LeadFault → BoardFault
lead_fault lead.OutOfMemory = fault.OutOfMemory
lead_fault lead.Read = fault.Read
lead_fault (lead.Pbn refusal) = fault.Pbn refusal
lead_fault lead.Write = fault.Write

-- what is said of a fault
abbrev pub said : BoardFault → List ℕ
said fault.OutOfMemory = codes "out of memory"
said fault.Read = codes "reading failed"
said fault.NoThread = codes "a thread could not be started"
said fault.Write = codes "writing failed"
said (fault.Pbn refusal) = after_line (fault_line refusal) (fault_text refusal)
said (fault.Boards (file.Open why)) = codes "boards: cannot open"
said (fault.Boards file.Read) = codes "boards: reading failed"
said (fault.Evidence (file.Open why)) = codes "evidence: cannot open"
said (fault.Evidence file.Read) = codes "evidence: reading failed"
said (fault.Unkept keep.OutOfMemory) = codes "evidence: out of memory"
said (fault.Unkept keep.TooLong) = codes "evidence: a piece is too long"
said (fault.Unkept keep.Write) = codes "evidence: writing failed"

-- a file that can't be opened
abbrev pub opening : BoardFault → Option CannotOpen
opening (fault.Boards (file.Open why)) = Some why
opening (fault.Evidence (file.Open why)) = Some why
opening _ = None

-- evidence that was not kept
abbrev pub keep_explanation : KeepFault → List ℕ
keep_explanation keep.OutOfMemory = codes "the numbers are written, but memory ran out for some of their evidence"
keep_explanation keep.TooLong = codes "the numbers are written, but evidence of over 512 MiB in one piece is not kept"
keep_explanation keep.Write = codes "the numbers are written, but some of their evidence is not in the file"

-- nothing explains faults whose line says all
abbrev pub explanation : BoardFault → List ℕ
explanation fault.OutOfMemory = []
explanation fault.Read = []
explanation fault.NoThread = []
explanation fault.Write = []
explanation (fault.Pbn refusal) = text_explanation refusal
explanation (fault.Boards why) = file_explanation why
explanation (fault.Evidence why) = file_explanation why
explanation (fault.Unkept why) = keep_explanation why
