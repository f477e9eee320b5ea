use Rattle.std.proofs.Common.{refl, sym, subst}
use Rattle.play_evidence.specs.Answers.{IsOfPlay}
use Rattle.play_evidence.proofs.AnswerLemmas.{pass, take_here, none_here}
use Rattle.play_evidence.proofs.answers.section_for.Goals as goal

pub loop-section-preserved : goal.loop-section-preserved
loop-section-preserved c =
    pass c.args.sections.now c.args.layout.now c.args.leader c.args.trump c.args.cards.now c.loop-section.section-index c.section-item.result c.loop-section-test.true c.section-item.is
    (λ of.
    let parts = subst (λ s. IsOfPlay s c.args.layout.now c.args.leader c.args.trump c.args.cards.now) (sym c.contents.ensures) of in
    let yes = c.if-is_of_play.ensures.1 parts in cc)
    c.loop-section.invariant

pub returns-then-is_of_play : goal.returns-then-is_of_play
returns-then-is_of_play c = record {
  of_play = subst (λ s. IsOfPlay s c.args.layout.now c.args.leader c.args.trump c.args.cards.now) c.contents.ensures (c.if-is_of_play.ensures.0 refl);
  first = λ bundle shape.
      take_here c.args.sections.now c.args.layout.now c.args.leader c.args.trump c.args.cards.now c.loop-section.section-index c.section-item.result bundle c.loop-section-test.true c.section-item.is
      shape c.loop-section.invariant;
}

pub returns : goal.returns
returns c = λ bundle empty.
    none_here c.args.sections.now c.args.layout.now c.args.leader c.args.trump c.args.cards.now c.loop-section.section-index bundle c.loop-section-test.false empty c.loop-section.invariant
