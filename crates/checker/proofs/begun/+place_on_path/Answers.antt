use Rattle.std.proofs.Common.{rules, [], ◌∷◌}
use Rattle.checker.proofs.BegunLaws.{none_leads, path_told}
use Rattle.checker.proofs.PathLaws.{tree_after}
use Rattle.checker.proofs.begun.+place_on_path.Goals as goal

pub place_on_path-requires : goal.place_on_path-requires
place_on_path-requires t c = (search rules, tree_after c.args.place (_ ∷ []) c.in-Some-place_after.below c.requires c.in-Some-place_after.ensures)

pub returns-in-None-place_after : goal.returns-in-None-place_after
returns-in-None-place_after t c = none_leads c.args.place c.args.cards.now c.in-Some.rest.now c.in-Some.card.now c.in-Some.ensures.cases.0 c.in-None-place_after.ensures

pub returns-in-Some-place_after : goal.returns-in-Some-place_after
returns-in-Some-place_after t c =
    path_told c.place_on_path.result c.args.place c.in-Some-place_after.below c.args.cards.now c.in-Some.rest.now c.in-Some.card.now c.in-Some.ensures.cases.0 c.requires
    c.in-Some-place_after.ensures c.place_on_path.ensures
