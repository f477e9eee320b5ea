-- What `solve` writes is read back.
use Rattle.std.specs.Prelude.{ℕ, ◌≤◌}
use Rattle.certificate_graph.specs.Graphs.{GraphShape, IsGraph}
use Rattle.certificate_graph.specs.Texts.{graph_text}
use Rattle.deal_subcommands.specs.Answers.{IsAnswer}
use Rattle.deal_subcommands.specs.Solve.Runs.{answer_text}

-- such a text is cut into the number and the two texts that it was made of
abbrev pub AnswersAreReadBack : Type 0
AnswersAreReadBack =
    (tricks : ℕ) (declarers defenders : GraphShape) → tricks ≤ 13 → IsGraph declarers → IsGraph defenders →
    IsAnswer (answer_text tricks declarers defenders) tricks (graph_text declarers) (graph_text defenders)
