use Rattle.std.proofs.Common.{refl}
use Rattle.std.proofs.lemmas.Bool.{false≢true}
use Rattle.lease_book.proofs.IdleLaws.{none_held, one_held, one_open, idle_done}
use Rattle.lease_book.proofs.OpenLaws.{nothing_open}
use Rattle.lease_book.proofs.book.Book.is_idle.Goals as goal

pub returns-in-Some-clause-idle : goal.returns-in-Some-clause-idle
returns-in-Some-clause-idle c =
    let book = c.self.inside in
    rw (← c.self.view_is) (
      λ wrong. absurd (false≢true wrong),
      λ idle. absurd (one_open _ book.events.items book.leases.items book.slots c.self.invariant c.in-Some.place c.at-open.result c.at-open.ensures c.in-Some.ensures idle.none_open),
    )

pub returns-in-Some-first_held-clause-idle : goal.returns-in-Some-first_held-clause-idle
returns-in-Some-first_held-clause-idle c =
    let book = c.self.inside in
    rw (← c.self.view_is) (
      λ wrong. absurd (false≢true wrong),
      λ idle. absurd (one_held _ book.events.items book.leases.items book.slots c.self.invariant _ c.in-Some-first_held.ensures idle.none_held),
    )

pub returns-in-None-clause-idle : goal.returns-in-None-clause-idle
returns-in-None-clause-idle c =
    let book = c.self.inside in
    rw (← c.self.view_is) (
      λ _. record {
        none_held = none_held _ book.events.items book.leases.items book.slots c.self.invariant c.in-None.ensures;
        none_open = nothing_open _ book.events.items book.leases.items book.slots c.self.invariant c.in_default.ensures;
      },
      λ _. refl,
    )

pub returns-in-None-clause-done : goal.returns-in-None-clause-done
returns-in-None-clause-done c =
    let book = c.self.inside in
    rw (← c.self.view_is)
    (λ _. idle_done _ book.events.items c.self.invariant.legal
    (none_held _ book.events.items book.leases.items book.slots c.self.invariant c.in-None.ensures)
    (nothing_open _ book.events.items book.leases.items book.slots c.self.invariant c.in_default.ensures))
