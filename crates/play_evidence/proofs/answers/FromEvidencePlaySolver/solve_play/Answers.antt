use Rattle.play_evidence.proofs.AnswerLemmas.{copied}
use Rattle.play_evidence.proofs.answers.FromEvidencePlaySolver.solve_play.Goals as goal

pub returns-in-Ok : goal.returns-in-Ok
returns-in-Ok c =
    let found = rw c.as_slice-sections.ensures.value at c.in-Some.ensures in
    let same = c.in-Ok.ensures in
    found.first c.in-Ok.bundle
    (copied c.in-Some.section.now c.contents.result c.in-Ok.bundle c.args.layout.now c.args.leader c.args.trump c.args.cards.now c.contents.ensures found.of_play
    same.claims same.ns same.ew)
