-- What stands in a place of a tree.
use Rattle.certificate_graph.specs.declared.places.PlaceView.{PlaceView}
use Rattle.certificate_graph.specs.declared.places.PlaceView.TheVariants as view
use Rattle.certificate_graph.specs.Trees.{TrickTree, Own, Reply, Leaf}

abbrev pub tree_seen : PlaceView → TrickTree
tree_seen (view.Own card below) = Own card below
tree_seen (view.Reply branches) = Reply branches
tree_seen (view.Leaf children) = Leaf children
