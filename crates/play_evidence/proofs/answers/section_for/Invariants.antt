-- No section so far is of the play.
use Rattle.play_evidence.proofs.AnswerLemmas.{IsPassed}
use Rattle.play_evidence.proofs.answers.section_for.Given as goal

abbrev pub invariant-loop-section : goal.invariant-loop-section
invariant-loop-section l = IsPassed l.sections l.layout l.leader l.trump l.cards l.section-index
