-- Laws of graphs and their texts.
use Rattle.std.specs.Prelude.{◌≡◌, List, ℕ, Result, Ok}
use Rattle.certificate_graph.specs.declared.faults.TextFault.{TextFault}
use Rattle.certificate_graph.specs.Graphs.{GraphShape, IsGraph}
use Rattle.certificate_graph.specs.Texts.{graph_text}
use Rattle.certificate_graph.specs.TextFaults.{TextAnswers}

-- the text is that of the graph
abbrev pub IsTextOf : List ℕ → GraphShape → Type 0
IsTextOf text graph = IsGraph graph × (text ≡ graph_text graph)

-- each graph has a text, and no other
abbrev pub EachGraphHasOneText : Type 0
EachGraphHasOneText =
    (graph : GraphShape) → IsGraph graph
    → (text : List ℕ) × IsTextOf text graph × ((other : List ℕ) → IsTextOf other graph → other ≡ text)

-- no text is that of two graphs
abbrev pub NoTextHasTwoGraphs : Type 0
NoTextHasTwoGraphs =
    (text : List ℕ) (one other : GraphShape) → IsTextOf text one → IsTextOf text other → one ≡ other

-- what is written of a graph is read back as that graph
abbrev pub GraphsAreReadBack : Type 0
GraphsAreReadBack =
    (graph : GraphShape) → IsGraph graph
    → TextAnswers (graph_text graph) (Ok graph)
    × ((answer : Result GraphShape TextFault) → TextAnswers (graph_text graph) answer → answer ≡ Ok graph)

-- each text has an answer, and no other
abbrev pub EachTextHasOneAnswer : Type 0
EachTextHasOneAnswer =
    (text : List ℕ) → (answer : Result GraphShape TextFault) × TextAnswers text answer
    × ((other : Result GraphShape TextFault) → TextAnswers text other → other ≡ answer)
