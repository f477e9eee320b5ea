use Rattle.std.proofs.Common.{◌-◌, ◌≤◌, arith, sym, subst}
use Rattle.cards.specs.Deal.{size_of}
use Rattle.cards.specs.Seats.{next_of, side_of, other_side}
use Rattle.checker.specs.declared.entry_faults.EntryFault.TheVariants.{Declarer, Defenders}
use Rattle.certificate_graph.specs.Graphs.{IsGraph}
use Rattle.checker.specs.Witnesses.{seen_as}
use Rattle.checker.specs.Claims.{Shows, ShowValue}
use Rattle.checker.specs.EntryFaults.{IsPartFault, IsEntryFault}
use Rattle.checker.proofs.EntryLaws.{named_fault, named_right}
use Rattle.checker.proofs.PartLaws.{err_out}
use Rattle.checker.proofs.ClaimsAreSound.{entries_sound}
use Rattle.checker.proofs.entries.check_both.Goals as goal

pub returns-in_err-map_err : goal.returns-in_err-map_err
returns-in_err-map_err c =
    let deal = c.args.layout.now in
    let declarers = seen_as c.args.declarers.now in
    let within : c.args.k ≤ size_of deal = omega (arith, c.len-size.ensures.size) in
    let Told = IsEntryFault deal c.args.declarer c.args.trump c.args.k declarers (seen_as c.args.defenders.now) in
    let told = named_fault Declarer c.check_part.result c.map_err.result
    (Shows declarers deal (next_of c.args.declarer) c.args.trump (side_of c.args.declarer) c.args.k) (IsPartFault declarers deal (next_of c.args.declarer) c.args.trump (side_of c.args.declarer) c.args.k) Told
    c.in_err-map_err.field-0.0 (rw (c.next-leader.ensures, c.side-side.ensures) at c.check_part.ensures) c.map_err.ensures.cases c.in_err-map_err.was (λ fault wrong. (within, wrong)) in
    err_out _ Told c.from_residual.result _ c.from_residual.ensures.1 (λ fault e. subst Told (sym e) told)

pub returns-in_err-map_err-2 : goal.returns-in_err-map_err-2
returns-in_err-map_err-2 c =
    let deal = c.args.layout.now in
    let declarers = seen_as c.args.declarers.now in
    let defenders = seen_as c.args.defenders.now in
    let leader = next_of c.args.declarer in
    let side = side_of c.args.declarer in
    let others = size_of deal - c.args.k in
    let within : c.args.k ≤ size_of deal = omega (arith, c.len-size.ensures.size) in
    let shows = named_right Declarer c.check_part.result c.map_err.result
    (Shows declarers deal leader c.args.trump side c.args.k) (IsPartFault declarers deal leader c.args.trump side c.args.k)
    c.in_ok-map_err.field-0 (rw (c.next-leader.ensures, c.side-side.ensures) at c.check_part.ensures) c.map_err.ensures.cases c.in_ok-map_err.was in
    let Told = IsEntryFault deal c.args.declarer c.args.trump c.args.k declarers defenders in
    let told = named_fault Defenders c.check_part-2.result c.map_err-2.result
    (Shows defenders deal leader c.args.trump (other_side side) others) (IsPartFault defenders deal leader c.args.trump (other_side side) others) Told
    c.in_err-map_err-2.field-0.0 (rw (c.next-leader.ensures, c.other.ensures, c.side-side.ensures, c.len-size.ensures.size) at c.check_part-2.ensures) c.map_err-2.ensures.cases c.in_err-map_err-2.was (λ fault wrong. (within, shows, wrong)) in
    err_out _ Told c.from_residual-in_err-map_err-2.result _ c.from_residual-in_err-map_err-2.ensures.1 (λ fault e. subst Told (sym e) told)

pub invariant_of-result : goal.invariant_of-result
invariant_of-result c =
    let deal = c.args.layout.now in
    let declarers = seen_as c.args.declarers.now in
    let defenders = seen_as c.args.defenders.now in
    let leader = next_of c.args.declarer in
    let side = side_of c.args.declarer in
    let others = size_of deal - c.args.k in
    let shows = named_right Declarer c.check_part.result c.map_err.result
    (Shows declarers deal leader c.args.trump side c.args.k) (IsPartFault declarers deal leader c.args.trump side c.args.k)
    c.in_ok-map_err.field-0 (rw (c.next-leader.ensures, c.side-side.ensures) at c.check_part.ensures) c.map_err.ensures.cases c.in_ok-map_err.was in
    let shows' = named_right Defenders c.check_part-2.result c.map_err-2.result
    (Shows defenders deal leader c.args.trump (other_side side) others) (IsPartFault defenders deal leader c.args.trump (other_side side) others)
    c.in_ok-map_err-2.field-0 (rw (c.next-leader.ensures, c.other.ensures, c.side-side.ensures, c.len-size.ensures.size) at c.check_part-2.ensures) c.map_err-2.ensures.cases c.in_ok-map_err-2.was in
    let show : ShowValue deal c.args.declarer c.args.trump c.args.k declarers defenders =
    record { within = omega (arith, c.len-size.ensures.size); declarers_win = shows; defenders_win = shows' } in
    let is = subst IsGraph c.graph.ensures c.invariant.ensures in
    let are = subst IsGraph c.graph-2.ensures c.invariant-2.ensures in
    record {
      graphs = record { declarers = declarers; defenders = defenders; declarers_are = is; defenders_are = are; show = show };
      value = entries_sound deal c.args.declarer c.args.trump c.args.k declarers defenders c.len-size.ensures.layout is are show;
    }
