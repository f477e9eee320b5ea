-- A tree's room falls with each card, and the branches of one place run out of cards.
use Rattle.std.proofs.Common.{◌+◌, ◌-◌, ◌*◌}
use Rattle.certificate_graph.proofs.tree_reading.+tree.Given as goal

abbrev pub decreases-read_tree : goal.decreases-read_tree
decreases-read_tree l = 100 * l.room

abbrev pub decreases-read_branch : goal.decreases-read_branch
decreases-read_branch l = 100 * l.room + 1

abbrev pub decreases-read_own : goal.decreases-read_own
decreases-read_own l = 100 * l.room + 2

abbrev pub decreases-read_branches : goal.decreases-read_branches
decreases-read_branches l = 100 * l.room + 2 + (60 - l.least)

abbrev pub decreases-read_reply : goal.decreases-read_reply
decreases-read_reply l = 100 * l.room + 70
