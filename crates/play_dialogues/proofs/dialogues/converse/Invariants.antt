-- The lines so far were answered, and nothing has failed.
use Rattle.play_dialogues.proofs.ConverseLaws.{IsUnderway}
use Rattle.play_dialogues.proofs.TrailLaws.{IsFit}
use Rattle.play_dialogues.proofs.dialogues.converse.Given as goal

abbrev pub invariant-loop-turn : goal.invariant-loop-turn
invariant-loop-turn g l = record {
  under : IsUnderway l.fn.trail l.trail (g.I.Source.state l.fn.input) (g.I.Source.state l.input) (g.O.Sink.state l.fn.output) (g.O.Sink.state l.output) l._turn;
  fit : IsFit l.fn.trail.now l.trail;
}
