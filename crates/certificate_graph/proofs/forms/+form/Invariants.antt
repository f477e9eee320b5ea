use Rattle.certificate_graph.specs.Trees.{tree_size, branches_size}
use Rattle.certificate_graph.proofs.forms.+form.Given as goal

abbrev pub decreases-has_form : goal.decreases-has_form
decreases-has_form l = tree_size l.place.now

abbrev pub decreases-have_form : goal.decreases-have_form
decreases-have_form l = branches_size l.branches.now
