use Rattle.std.proofs.Common.{[], ◌∷◌, ◌++◌, List, ap, ◌∙◌, rules}
use Rattle.lease_desk.specs.declared.receipts.Receipt.{Receipt}
use Rattle.lease_desk.specs.Askings.{asked_of}
use Rattle.lease_desk.specs.Desks.{opening_of}
use Rattle.lease_desk.proofs.CallLaws.{told_by}
use Rattle.lease_desk.proofs.desk.Desk.call.Goals as goal

pub returns : goal.returns
returns g c = record {
  chair = search rules;
  number = search rules;
  ok =
      let told = c.in_ok-told.told in
      told_by _ _ (opening_of c.args.self.now) c.args.chair.now.number c.args.chair.now.receipts.items c.push_reserved.new.self.items (asked_of c.args.asking) told c.requires.knows
      (c.push_reserved.ensures.items ∙ ap (λ (l : List Receipt). l ++ told ∷ []) c.reserve.ensures.items) c.in_ok-told.ensures.ok;
  err = tt;
}
