use Rattle.std.proofs.Common.{◌∙◌, rules, tests}
use Rattle.std.proofs.lemmas.Iterator.{YieldsList-from_slice}
use Rattle.std.proofs.lemmas.Iterator.Search.{find_from_yields_List}
use Rattle.certificate_graph.specs.Bundles.{is_for}
use Rattle.certificate_graph.proofs.bundles.Bundle.claim_for.Goals as goal

pub returns : goal.returns
returns c =
    c.copied.ensures ∙ find_from_yields_List (is_for c.args.declarer) _ _ _ c.find.ensures.ran (YieldsList-from_slice c.args.self.now.claims.items cc) (λ x b q k. search (rules, tests))
