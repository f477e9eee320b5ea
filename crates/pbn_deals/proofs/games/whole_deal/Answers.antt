use Rattle.pbn_deals.proofs.GameLemmas.{part_named, named_twice, named_layout, named_other_size, named_missized}
use Rattle.pbn_deals.proofs.games.whole_deal.Goals as goal
use Rattle.pbn_deals.proofs.games.whole_deal.Goals.{in_default-via-in-Ok+else-size-eq13, in_default-via-in_default}

pub returns-then-dealing : goal.returns-then-dealing
returns-then-dealing c = λ value reads. part_named c.args.line value c.args.dealing.now reads c.if-dealing.true

pub returns-then-dealing-2 : goal.returns-then-dealing-2
returns-then-dealing-2 c = λ value reads. named_twice c.args.line value c.args.dealing.now reads c.if-dealing.false c.if-dealing-2.true

pub returns-in-Ok : goal.returns-in-Ok
returns-in-Ok c = λ value reads. named_layout c.args.line value c.args.dealing.now reads c.if-dealing.false c.if-dealing-2.false c.in-Ok.layout c.in-Ok.ensures.cases c.if-size-eq13.true

pub returns-in_default : goal.returns-in_default
returns-in_default c = λ value reads.
    elim c.in_default.branch [
      | in_default-via-in-Ok+else-size-eq13 w ↦ named_other_size c.args.line value c.args.dealing.now reads c.if-dealing.false c.if-dealing-2.false w.if-size-eq13.false
      | in_default-via-in_default w ↦ named_missized c.args.line value c.args.dealing.now reads c.if-dealing.false c.if-dealing-2.false w.in_default.field-0 w.in_default.ensures.cases
    ]
