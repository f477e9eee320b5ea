use Rattle.std.proofs.Common.{refl}
use Rattle.pbn_deals.specs.DealValue.{naming_of}
use Rattle.pbn_deals.proofs.LayoutLemmas.{Says-from_read, NamesTwice-from_told, IsOnce-from_told, IsDealOf-from_words, AreMissized-from_words}
use Rattle.pbn_deals.proofs.deal_values.read_layout.Goals as goal

pub returns-then-dealing-2 : goal.returns-then-dealing-2
returns-then-dealing-2 c =
    let dealing = c.in-Some.dealing in
    let said = Says-from_read dealing (naming_of c.args.value.now) c.in-Some.ensures c.if-dealing.false in
    (refl, said.held, said.is_said, NamesTwice-from_told dealing.is_twice dealing.hands said.held said.represents.twice c.if-dealing-2.true)

pub returns-in-Ok : goal.returns-in-Ok
returns-in-Ok c =
    let dealing = c.in-Some.dealing in
    let said = Says-from_read dealing (naming_of c.args.value.now) c.in-Some.ensures c.if-dealing.false in
    let once = IsOnce-from_told dealing.is_twice dealing.hands said.held said.represents.twice c.if-dealing-2.false in
    (said.held, said.is_said, IsDealOf-from_words dealing said.held said.represents once c.in-Ok.layout c.in-Ok.ensures.cases)

pub returns-in-Err : goal.returns-in-Err
returns-in-Err c =
    let dealing = c.in-Some.dealing in
    let said = Says-from_read dealing (naming_of c.args.value.now) c.in-Some.ensures c.if-dealing.false in
    let once = IsOnce-from_told dealing.is_twice dealing.hands said.held said.represents.twice c.if-dealing-2.false in
    (refl, said.held, said.is_said, once.once, AreMissized-from_words dealing said.held said.represents once c.in-Err.field-0 c.in-Err.ensures.cases)
