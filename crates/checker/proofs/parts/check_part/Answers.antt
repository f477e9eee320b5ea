use Rattle.std.proofs.Common.{◌≡◌, Some, rules, arith, sym, ◌∙◌, ap, subst}
use Rattle.std.proofs.lemmas.Bool.{false≢true}
use Rattle.std.specs.Option.{option_copied}
use Rattle.checker.specs.Roots.{root_of}
use Rattle.checker.specs.Witnesses.{seen_as}
use Rattle.checker.specs.EntryFaults.{IsPartFault}
use Rattle.checker.proofs.PartLaws.{HasTitle, has_number, root_told, err_out}
use Rattle.checker.proofs.parts.check_part.Goals as goal
use Rattle.checker.proofs.parts.check_part.Goals.{else-claim-eq0-via-then-claim-eq0+else-is_some, else-claim-eq0-via-else-claim-eq0}

pub returns-in_err-check_root : goal.returns-in_err-check_root
returns-in_err-check_root c =
    let rooted = seen_as c.args.witness.now in
    let claim = c.args.claim.now in
    let root = c.in-Some.root.now in
    let read = rw (c.nodes.ensures, c.graph-graph.ensures, c.root-number.ensures) at c.node_at-root.ensures in
    let there : root_of rooted ≡ Some root = sym read ∙ ap option_copied c.in-Some.is in
    let title : HasTitle rooted claim.trump claim.side claim.need root = record {
      there = there;
      needed = elim c.else-claim-eq0.branch [
        | else-claim-eq0-via-then-claim-eq0+else-is_some w ↦ absurd (false≢true ((rw c.root-number.ensures at w.if-is_some.ensures) ∙ has_number rooted.graph.nodes rooted.root root there))
        | else-claim-eq0-via-else-claim-eq0 w ↦ omega arith
      ];
      trump_is = search rules;
      side_is = search rules;
    } in
    let Told = IsPartFault rooted claim.layout.now claim.leader claim.trump claim.side claim.need in
    let told = root_told rooted claim.layout.now claim.leader claim.trump claim.side claim.need root c.in_err-check_root.field-0.0 title c.in_err-check_root.ensures in
    err_out _ Told c.from_residual.result _ c.from_residual.ensures.1 (λ fault e. subst Told (sym e) told)
