use Rattle.std.proofs.Common.{◌∙◌, rules, sym, subst}
use Rattle.std.proofs.lemmas.Bool.{OnTrue_from}
use Rattle.std.proofs.lemmas.Bool.Decides.{Decides-eqb}
use Rattle.certificate_graph.specs.declared.versions.Version.{Version}
use Rattle.pattern_step.specs.declared.pat_cards.PatCard.{PatCard}
use Rattle.pattern_step.specs.PatCards.{IsLegal}
use Rattle.checker.specs.Steps.{IsAnswered}
use Rattle.checker.proofs.CardSetLaws.{AreSets, no_others, each_has, each_is_answered}
use Rattle.checker.proofs.card_sets.answer_by_sets.Goals as goal
use Rattle.checker.proofs.card_sets.answer_by_sets.Goals.{in-One, in-Two}

pub returns-then-missing-eq0-clause-legal : goal.returns-then-missing-eq0-clause-legal
returns-then-missing-eq0-clause-legal c =
    let legal = c.legal_set-legal.result in
    let with_branch = c.branch_set-branches.result in
    let sets : AreSets c.args.pattern.now c.args.seat c.args.led c.args.branches.now legal with_branch = record {
      pattern = c.invariant.ensures;
      small = search rules;
      small' = search rules;
      legal_are = c.legal_set-legal.ensures;
      branches_are = c.branch_set-branches.ensures;
    } in
    OnTrue_from _ _ (λ none. no_others c.args.pattern.now c.args.seat c.args.led c.args.branches.now legal with_branch sets ((Decides-eqb _ _).0 none))

pub returns-then-missing-eq0-clause-each : goal.returns-then-missing-eq0-clause-each
returns-then-missing-eq0-clause-each c =
    let legal = c.legal_set-legal.result in
    let with_branch = c.branch_set-branches.result in
    let branches = c.args.branches.now in
    let seat = c.args.seat in
    let led = c.args.led in
    let shape = c.args.pattern.now in
    let sets : AreSets shape seat led branches legal with_branch = record {
      pattern = c.invariant.ensures;
      small = search rules;
      small' = search rules;
      legal_are = c.legal_set-legal.ensures;
      branches_are = c.branch_set-branches.ensures;
    } in
    OnTrue_from _ _ (λ none. elim c.match-version.branch [
      | in-One w ↦ subst (λ (v : Version). (card : PatCard) → IsLegal shape seat led card → IsAnswered v shape seat branches card) (sym w.in-One.is)
          (each_has shape seat led branches legal with_branch sets ((Decides-eqb _ _).0 none) (sym w.missing-is ∙ c.if-missing-eq0.true))
      | in-Two w ↦ subst (λ (v : Version). (card : PatCard) → IsLegal shape seat led card → IsAnswered v shape seat branches card) (sym w.in-Two.is)
          (each_is_answered shape seat led branches legal with_branch sets ((Decides-eqb _ _).0 none) (sym w.missing-is ∙ c.if-missing-eq0.true))
    ])
