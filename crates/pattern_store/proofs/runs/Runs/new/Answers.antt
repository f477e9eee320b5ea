use Rattle.std.proofs.Common.{List, ◌∷◌, [], ◌++◌, refl, ap, ◌∙◌, sym, subst}
use Rattle.pattern_store.specs.declared.blocks.Block.{Block}
use Rattle.pattern_store.specs.Records.{HoldNothing}
use Rattle.pattern_store.proofs.FoundLaws.{holds_nothing}
use Rattle.pattern_store.proofs.runs.Runs.new.Goals as goal

pub returns-clause-nothing : goal.returns-clause-nothing
returns-clause-nothing c =
    subst HoldNothing (sym (c.in_ok-push.ensures.items ∙ ap (λ (b : List Block). b ++ (c.new.result ∷ [])) c.new-blocks.ensures.items))
    (holds_nothing c.new.result c.no_list.result _ c.new.ensures refl)
