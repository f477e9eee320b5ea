use Rattle.std.proofs.Common.{rules}
use Rattle.lease_book.proofs.slots.Slot.is_open.Goals as goal

pub returns-then-is_none-2 : goal.returns-then-is_none-2
returns-then-is_none-2 c = search rules
