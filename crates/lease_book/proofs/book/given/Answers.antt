use Rattle.std.proofs.Common.{◌≡◌, ◌+◌, ◌-◌, sym, ◌∙◌, ap, arith}
use Rattle.std.specs.List.{find}
use Rattle.lease_book.specs.Histories.{is_numbered}
use Rattle.lease_book.proofs.HeldLaws.{find_numbered, find_below, find_above}
use Rattle.lease_book.proofs.book.given.Goals as goal
use Rattle.lease_book.proofs.book.given.Goals.{then-lease-eq0-via-then-lease-eq0, then-lease-eq0-via-else-lease-eq0+then-lease-leases}

pub returns-then-lease-eq0 : goal.returns-then-lease-eq0
returns-then-lease-eq0 c =
    elim c.then-lease-eq0.branch [
      | then-lease-eq0-via-then-lease-eq0 w ↦ sym (find_below 1 c.args.leases.now c.args.lease c.requires (omega arith))
      | then-lease-eq0-via-else-lease-eq0+then-lease-leases w ↦ sym (find_above 1 c.args.leases.now c.args.lease c.requires (omega arith))
    ]

pub returns : goal.returns
returns c =
    let e : 1 + (c.args.lease - 1) ≡ c.args.lease = omega arith in
    sym (ap (λ n. find (is_numbered n) c.args.leases.now) (sym e) ∙ find_numbered 1 c.args.leases.now (c.args.lease - 1) _ c.requires (omega arith))
