-- Each turn gives a lease, which is kept or used up.
use Rattle.std.proofs.Common.{◌≡◌, ◌≤◌, length}
use Rattle.audits.proofs.PublishLaws.{Works}
use Rattle.audits.proofs.publishing.hand_in_firsts.Given as goal

abbrev pub invariant-loop-turn : goal.invariant-loop-turn
invariant-loop-turn l =
    record {
      terms : l.book.terms ≡ l.initial.book.terms;
      turns : l._turn ≤ length l.book.events;
      works : Works l.book.terms l.now l.firsts l.book.events l.kept.items;
    }
