-- What `solve` writes for the bytes of a layout.
use Rattle.std.specs.Prelude.{◌≡◌, ℕ, ◌<◌, ◌≤◌, List, [], ◌∷◌, ◌++◌, Option, None, Some, Result, Ok, Err, codes, ⊤}
use Rattle.std.specs.Fmt.{decimal}
use Rattle.cards.specs.declared.seats.Seat.{Seat}
use Rattle.cards.specs.declared.suits.Trump.{Trump}
use Rattle.cards.specs.Deal.{Deal}
use Rattle.cards.specs.Devices.{Device, Adds, AddsBeginning}
use Rattle.pbn_deals.specs.LayoutValue.{SaysLayout}
use Rattle.certificate_graph.specs.declared.answers.Answer.{Answer}
use Rattle.certificate_graph.specs.Graphs.{GraphShape, IsGraph}
use Rattle.certificate_graph.specs.Texts.{graph_text}
use Rattle.certificate_graph.specs.declared.bundles.Bundle.{Bundle}
use Rattle.certificate_graph.specs.Solvers.{MayFind}
use Rattle.certificate_graph.specs.Bundles.{MayAnswer}
use Rattle.deal_subcommands.specs.declared.faults.DealFault.{DealFault}
use Rattle.deal_subcommands.specs.declared.faults.DealFault.TheVariants.{OutOfMemory, Write, Layout, NoAnswer}
use Rattle.std.specs.Prelude.{None}
use Rattle.streams.specs.RunStreams.{RunDevices}
use Rattle.run_ends.specs.declared.statuses.Status.{Status}
use Rattle.deal_subcommands.specs.Runs.{Runs, Finishes}
use Rattle.deal_subcommands.specs.declared.solve.options.SolveOptions.{SolveOptions}
use Rattle.cards.specs.Bytes as ascii

-- the first line: `result `, the number, LF
abbrev pub result_line : ℕ → List ℕ
result_line tricks = codes "result " ++ (decimal tricks ++ ascii.line_feed ∷ [])

-- the text of an answer: the first line, the text of declarer's graph, an empty line, that of the defenders' graph
abbrev pub answer_text : ℕ → GraphShape → GraphShape → List ℕ
answer_text tricks declarers defenders =
    result_line tricks ++ (graph_text declarers ++ ascii.line_feed ∷ graph_text defenders)

-- an answer of the solver for the deal, of at most 13 tricks and with two graphs
pub record IsFound (may_find : MayFind) (deal : Deal) (declarer : Seat) (trump : Trump) (budget : ℕ) (answer : Answer)
    : Type 0 where
  pub found : MayAnswer may_find deal declarer trump budget (Some answer)
  pub few : answer.k ≤ 13
  pub graphs : IsGraph answer.declarer × IsGraph answer.defenders

-- the solver has no answer, or claims over 13 tricks, of which there is no result line
abbrev pub IsNoAnswer : Option Answer → Type 0
IsNoAnswer None = ⊤
IsNoAnswer (Some answer) = 13 < answer.k

-- what comes of the solver's answer for a deal; memory ran out in the solver, or for the answer's graphs
abbrev pub FindsAnswer : MayFind → Deal → Seat → Trump → ℕ → Result Answer DealFault → Type 0
FindsAnswer may_find deal declarer trump budget (Ok answer) = IsFound may_find deal declarer trump budget answer
FindsAnswer may_find deal declarer trump budget (Err NoAnswer) =
    (answer : Option Answer) × MayAnswer may_find deal declarer trump budget answer × IsNoAnswer answer
FindsAnswer may_find deal declarer trump budget (Err OutOfMemory) =
    (found : Option Bundle) × may_find deal (declarer ∷ []) trump budget found
FindsAnswer may_find deal declarer trump budget (Err _) = ⊥

-- the bytes spell a layout, and the text is that of an answer of the solver for it
pub record IsAnswerText (may_find : MayFind) (value : List ℕ) (declarer : Seat) (trump : Trump) (budget : ℕ)
    (text : List ℕ) : Type 0 where
  pub deal : Deal
  pub spelt : SaysLayout value (Ok deal)
  pub answer : Answer
  pub found : IsFound may_find deal declarer trump budget answer
  pub is : text ≡ answer_text answer.k answer.declarer answer.defenders

-- the bytes spell a layout, for which no answer was found, for this reason
abbrev pub LacksAnswer : MayFind → List ℕ → Seat → Trump → ℕ → DealFault → Type 0
LacksAnswer may_find value declarer trump budget fault =
    (deal : Deal) × SaysLayout value (Ok deal) × FindsAnswer may_find deal declarer trump budget (Err fault)

-- What was answered, and what the sink has got. With all refusals but that of the sink nothing was written.
abbrev pub SolvesLayout : MayFind → List ℕ → Seat → Trump → ℕ → Device → Device → Result Unit DealFault → Type 0
SolvesLayout may_find value declarer trump budget sink sink' (Ok _) =
    (text : List ℕ) × IsAnswerText may_find value declarer trump budget text × Adds sink sink' text
SolvesLayout may_find value declarer trump budget sink sink' (Err Write) =
    (text : List ℕ) × IsAnswerText may_find value declarer trump budget text × AddsBeginning sink sink' text
SolvesLayout may_find value declarer trump budget sink sink' (Err (Layout fault)) =
    SaysLayout value (Err fault) × (sink' ≡ sink)
SolvesLayout may_find value declarer trump budget sink sink' (Err NoAnswer) =
    LacksAnswer may_find value declarer trump budget NoAnswer × (sink' ≡ sink)
SolvesLayout may_find value declarer trump budget sink sink' (Err OutOfMemory) =
    LacksAnswer may_find value declarer trump budget OutOfMemory × (sink' ≡ sink)
SolvesLayout may_find value declarer trump budget sink sink' (Err _) = ⊥

-- a whole run: the input stays as it was
abbrev pub RunsSolve : MayFind → SolveOptions → RunDevices → RunDevices → Status → Type 0
RunsSolve may_find options old new status =
    Runs (λ before after answer.
    Finishes (SolvesLayout may_find options.deal.layout.now options.deal.seat options.deal.trump options.budget
    before.sink after.sink) before after answer)
    None old new status
