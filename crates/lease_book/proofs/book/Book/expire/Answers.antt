use Rattle.std.proofs.Common.{◌∙◌, ap}
use Rattle.lease_book.specs.declared.events.Asked.TheVariants.{Expire}
use Rattle.lease_book.specs.declared.events.Reply.TheVariants.{Freed}
use Rattle.lease_book.proofs.Answering.{kept_in, replied}
use Rattle.lease_book.proofs.ExpireLaws.{freed_reply, kept_expired}
use Rattle.lease_book.proofs.book.Book.expire.Goals as goal

pub invariant_of-self-2 : goal.invariant_of-self-2
invariant_of-self-2 c =
    let book = c.self.inside in
    rw c.free_past-freed.ensures.freed
    (kept_in _ book.events.items _ _ (Expire c.args.now) (Freed c.free_past-freed.result) book.leases.items _ c.add.ensures.events c.make_room.ensures.events
    (rw c.free_past-freed.ensures.count (kept_expired _ book.events.items book.leases.items book.slots c.self.invariant c.args.now)))

pub returns-clause-ok : goal.returns-clause-ok
returns-clause-ok c =
    let book = c.self.inside in
    replied _ book.events.items _ _ c.args.self.now (Expire c.args.now) (Freed c.free_past-freed.result) c.add.result c.self.view_is c.add.ensures.events c.make_room.ensures.events c.add.ensures.reply
    (ap (λ n. Freed n) c.free_past-freed.ensures.count ∙ freed_reply _ book.events.items book.leases.items book.slots c.self.invariant c.args.now)
