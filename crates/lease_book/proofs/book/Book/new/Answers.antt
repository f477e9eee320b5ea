use Rattle.std.proofs.Common.{ap, ◌∙◌, ◌*◌, ◌≤◌, length, arith}
use Rattle.lease_book.specs.Slots.{new_slot, tries_of}
use Rattle.lease_book.proofs.BookLaws.{kept_new}
use Rattle.lease_book.proofs.book.Book.new.Goals as goal

pub invariant_of-result : goal.invariant_of-result
invariant_of-result c =
    let few : length c.args.boards.items ≤ 4096 = omega (arith, c.len.ensures, c.args.boards.ok.0) in
    rw (c.new-3.ensures.items, c.new-4.ensures.items, c.in-Ok.ensures)
    (kept_new _ c.in-Ok-new.slots few
    (c.in-Ok-new.ensures.sized ∙ ap (λ boards. 20 * length boards) c.in-Ok.ensures)
    (λ place d l. c.in-Ok-new.ensures.slots place d l ∙ ap (λ boards. new_slot (tries_of boards c.args.tries place)) c.in-Ok.ensures))
