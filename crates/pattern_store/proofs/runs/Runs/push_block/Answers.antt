use Rattle.std.proofs.Common.{List, refl, rules, sym, subst}
use Rattle.pattern_store.specs.declared.blocks.Block.{Block}
use Rattle.pattern_store.specs.Records.{Keeps}
use Rattle.pattern_store.proofs.FoundLaws.{keeps_pushed}
use Rattle.pattern_store.proofs.runs.Runs.push_block.Goals as goal

pub returns-in_ok-push-clause-keeps : goal.returns-in_ok-push-clause-keeps
returns-in_ok-push-clause-keeps c =
    let blocks = c.args.self.now.blocks.items in
    subst (λ (b : List Block). Keeps blocks b c.args.self.now.room) (sym c.in_ok-push.ensures.items)
    (keeps_pushed blocks c.new.result c.no_list.result _ c.args.self.now.room c.new.ensures refl (search rules))
