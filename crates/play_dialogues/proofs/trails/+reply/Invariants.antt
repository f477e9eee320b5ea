-- With each card fewer are left.
use Rattle.std.proofs.Common.{◌-◌, length}
use Rattle.play_rules.specs.Legal.{cards_in_play}
use Rattle.play_dialogues.proofs.trails.+reply.Given as goal

abbrev pub decreases-reply : goal.decreases-reply
decreases-reply l =
    cards_in_play l.playing.now.position.opening - length l.playing.now.position.history
