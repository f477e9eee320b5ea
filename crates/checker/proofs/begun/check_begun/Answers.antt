use Rattle.std.proofs.Common.{length, subst}
use Rattle.certificate_graph.specs.Trees.{TrickTree}
use Rattle.checker.specs.Places.{LeadsTo}
use Rattle.checker.proofs.PathLaws.{names_after, path_is_short}
use Rattle.checker.proofs.BegunLaws.{begun_told}
use Rattle.checker.proofs.begun.check_begun.Goals as goal

pub trick_begun-requires : goal.trick_begun-requires
trick_begun-requires c =
    path_is_short 4 c.args.node.now.tree c.args.cards.now c.in-Some.place c.requires.form
    (subst (λ (t : TrickTree). LeadsTo t c.args.cards.now c.in-Some.place) c.root.ensures c.in-Some.ensures)

pub check_place-requires-clause-named : goal.check_place-requires-clause-named
check_place-requires-clause-named c =
    names_after (length c.args.graph.now.nodes) c.args.node.now.tree c.args.cards.now c.in-Some.place c.requires.children
    (subst (λ (t : TrickTree). LeadsTo t c.args.cards.now c.in-Some.place) c.root.ensures c.in-Some.ensures)

pub returns : goal.returns
returns c =
    begun_told c.check_place.result c.args.graph.now c.args.node.now c.args.cards.now c.in-Some-trick_begun.played c.in-Some.place (4, c.requires.form)
    (subst (λ (t : TrickTree). LeadsTo t c.args.cards.now c.in-Some.place) c.root.ensures c.in-Some.ensures) c.in-Some-trick_begun.ensures.0 c.in-Some-trick_begun.ensures.1 c.check_place.ensures
