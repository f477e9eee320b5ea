-- What was put beside the file, and what the file has after that.
use Rattle.std.proofs.Common.{ℕ, List, drop, Option, Result, Ok, ap, refl, subst, sym}
use Rattle.std.specs.Io.Take.{take_remaining}
use Rattle.certificate_graph.specs.Solvers.{MayFind}
use Rattle.evidence_solvers.specs.Added.{IsKeptFor}
use Rattle.evidence_solvers.specs.declared.faults.KeepFault.{KeepFault}
use Rattle.lease_book.specs.declared.events.Event.{Event}
use Rattle.streams.specs.RunStreams.{devices}
use Rattle.board_subcommands.specs.Table.Beside.{MakesNone, PutsBeside}
use Rattle.board_subcommands.proofs.BesideLaws.{kept_beside, shown_within}
use Rattle.board_subcommands.proofs.table.kept.write_beside.Goals as goal

pub later-requires : goal.later-requires
later-requires g c = shown_within _ _ _ c.args.making.options _ _ c.in-Ok.tables c.in-Ok.ensures

pub returns-in-Err : goal.returns-in-Err
returns-in-Err g c =
    let kept = ap (λ parts. parts.1) c.into_parts-file.ensures in
    let file = ap (λ parts. parts.0) c.into_parts-file.ensures in
    let told = take_remaining g.R.Kept.Read.remaining c.args.opened.front in
    let may_tell = g.C.Clock.may_tell c.args.making.means.now.clock.now in
    let old = devices (g.I.Source.state c.args.input.now) (g.O.Sink.state c.args.output.now) in
    let new = devices (g.I.Source.state c.write_tables_beside-made.new.input) (g.O.Sink.state c.write_tables_beside-made.new.output) in
    let same = ap g.P.Solver.may_find c.new-keeping.ensures in
    let none = subst (λ (f : MayFind). MakesNone told f may_tell c.args.making.options old new c.in-Err.fault) same c.in-Err.ensures in
    record {
      now = g.R.Kept.Write.contents c.into_parts-file.result.0;
      left_is = refl;
      said = tt;
      writes = (none, (c.into_parts-file.result.1, rw (kept, file) c.close.ensures));
    }

pub returns : goal.returns
returns g c =
    let keeps = rw c.later.ensures at c.close-2.ensures in
    let kept = ap (λ parts. parts.1) c.into_parts-file-2.ensures in
    let file = ap (λ parts. parts.0) c.into_parts-file-2.ensures in
    let later = drop c.in-Ok.tables.shown c.in-Ok.tables.book.events in
    let said = subst (λ (k : Result Unit KeepFault). IsKeptFor g.T.Held.may_be g.T.Held.held later (g.R.Kept.Write.contents c.close-2.result.file) k) (sym kept) keeps in
    let held = subst (λ (n : Option (List ℕ)). IsKeptFor g.T.Held.may_be g.T.Held.held later n c.into_parts-file-2.result.1) (sym (ap g.R.Kept.Write.contents file)) said in
    let told = take_remaining g.R.Kept.Read.remaining c.args.opened.front in
    let may_tell = g.C.Clock.may_tell c.args.making.means.now.clock.now in
    let old = devices (g.I.Source.state c.args.input.now) (g.O.Sink.state c.args.output.now) in
    let new = devices (g.I.Source.state c.write_tables_beside-made.new.input) (g.O.Sink.state c.write_tables_beside-made.new.output) in
    let same = ap g.P.Solver.may_find c.new-keeping.ensures in
    let puts = subst (λ (f : MayFind). PutsBeside told f may_tell c.args.making.options old new (Ok c.in-Ok.tables)) same c.in-Ok.ensures in
    let may_find = g.P.Solver.may_find c.args.making.means.now.solver.now in
    record {
      now = g.R.Kept.Write.contents c.into_parts-file-2.result.0;
      left_is = refl;
      said = rw c.with_file.ensures refl;
      writes = rw c.with_file.ensures
          (kept_beside told may_find may_tell c.args.making.options old new c.in-Ok.tables (λ (k : Result Unit KeepFault) (e : List Event). IsKeptFor g.T.Held.may_be g.T.Held.held e (g.R.Kept.Write.contents c.into_parts-file-2.result.0) k) c.args.opened.access _ puts held);
    }
