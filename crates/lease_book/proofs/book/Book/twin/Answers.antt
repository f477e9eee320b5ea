use Rattle.std.proofs.Common.{ℕ, ap}
use Rattle.lease_book.proofs.TwinLaws.{least_twin}
use Rattle.lease_book.proofs.book.Book.twin.Goals as goal

pub returns-clause-twin : goal.returns-clause-twin
returns-clause-twin c =
    let entry = c.args.entry in
    rw (← c.self.view_is) (ap (λ (board : ℕ). record { board = board; declarer = entry.declarer; trump = entry.trump }) c.first.ensures)

pub returns-clause-least : goal.returns-clause-least
returns-clause-least c = rw (← c.self.view_is, c.first.ensures) (least_twin c.self.inside.boards c.args.entry)
