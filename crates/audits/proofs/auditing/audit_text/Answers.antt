-- The evidence is not touched where there are no boards.
use Rattle.std.proofs.Common.{ℕ, List, Err, refl, subst}
use Rattle.cards.specs.Devices.{Device}
use Rattle.streams.specs.Inputs.{IsReadToEnd, StopsReading}
use Rattle.streams.specs.declared.inputs.InputFault.{InputFault}
use Rattle.tournaments.specs.declared.faults.MakeFault.{MakeFault}
use Rattle.tournaments.specs.declared.faults.MakeFault.TheVariants.{OutOfMemory, Read, Pbn, NoThread, Write}
use Rattle.tournaments.specs.Texts.{TakesBoards}
use Rattle.streams.proofs.ReadLaws.{Loses-all}
use Rattle.evidence.specs.Wholes.{Whole}
use Rattle.audits.specs.declared.faults.AuditFault.TheVariants.{Page}
use Rattle.audits.specs.Audits.{IsHalted}
use Rattle.audits.proofs.ReadLaws.{untouched}
use Rattle.audits.proofs.auditing.audit_text.Goals as goal

without_boards : (source source' : Device) (evidence : Whole) (text : List ℕ) (fault : MakeFault) → IsReadToEnd source source' text → TakesBoards text (Err fault) → IsHalted source source' evidence evidence (Page fault)
without_boards source source' evidence text OutOfMemory all takes = (Loses-all all, untouched evidence)
without_boards source source' evidence text Read all takes = absurd takes
without_boards source source' evidence text (Pbn fault) all takes = (text, all, takes, refl)
without_boards source source' evidence text NoThread all takes = absurd takes
without_boards source source' evidence text Write all takes = absurd takes

pub returns-in-Err-OutOfMemory : goal.returns-in-Err-OutOfMemory
returns-in-Err-OutOfMemory g c =
    (subst (λ (fault : InputFault). StopsReading (g.I.Source.state c.args.input.now) (g.I.Source.state c.read_all.new.source) fault) c.in-Err-OutOfMemory.field-0-is c.in-Err-OutOfMemory.ensures.fault, untouched c.args.evidence.now)

pub returns-in-Err : goal.returns-in-Err
returns-in-Err g c =
    let takes : TakesBoards c.in-Ok.text.items (Err c.in-Err.fault) = subst (λ (text : List ℕ). TakesBoards text (Err c.in-Err.fault)) c.as_slice.ensures.value c.in-Err.ensures.boards in
    without_boards _ _ c.args.evidence.now c.in-Ok.text.items c.in-Err.fault c.in-Ok.ensures.all takes
