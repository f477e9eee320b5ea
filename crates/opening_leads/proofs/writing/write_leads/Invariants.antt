-- The sink has the first line and the boards so far.
use Rattle.std.proofs.Common.{take, codes}
use Rattle.std.specs.List.{flat_map, enumerate_from}
use Rattle.cards.specs.Devices.{Device, Adds}
use Rattle.tables.specs.TablesText.{ended_line}
use Rattle.opening_leads.specs.Tasks.{leads_in}
use Rattle.opening_leads.specs.Texts.{numbered_text}
use Rattle.opening_leads.proofs.writing.write_leads.Given as goal

abbrev pub invariant-loop-place : goal.invariant-loop-place
invariant-loop-place g l = record {
  begun : Device;
  first_line : Adds (g.S.Sink.state l.fn.sink) begun (ended_line (codes "% PBN 2.1"));
  wrote : Adds begun (g.S.Sink.state l.sink) (flat_map (numbered_text (leads_in l.table)) (take l.place (enumerate_from 0 l.boards)));
}
