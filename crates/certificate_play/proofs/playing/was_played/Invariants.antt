-- The card is none of those so far.
use Rattle.std.proofs.Common.{Contains, take}
use Rattle.certificate_play.proofs.playing.was_played.Given as goal

abbrev pub invariant-loop-played : goal.invariant-loop-played
invariant-loop-played l = Contains (take l.played-index l.history) l.card → ⊥
