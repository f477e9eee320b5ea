-- The answer for a whole text, from those for its parts.
use Rattle.std.proofs.Common.{◌≡◌, ℕ, List, [], length, All, Result, Ok, Err, sym, ◌∙◌, ap, subst, arith, inl, inr, ◌⊎◌}
use Rattle.std.specs.Prelude.{IsErrAnd}
use Rattle.std.specs.Fmt.{decimal}
use Rattle.std.specs.Str.Parse.{digits_value}
use Rattle.cards.specs.declared.seats.Side.{Side}
use Rattle.cards.specs.declared.suits.Trump.{Trump}
use Rattle.certificate_graph.specs.declared.nodes.Node.{Node}
use Rattle.certificate_graph.specs.declared.versions.Version.{Version}
use Rattle.certificate_graph.specs.declared.faults.TextFault.{TextFault}
use Rattle.certificate_graph.specs.declared.faults.TextFault.TheVariants.{OutOfMemory}
use Rattle.certificate_graph.specs.Graphs.{GraphShape, IsNode}
use Rattle.certificate_graph.specs.Texts.{title_text, trump_text, side_text, count_text, nodes_text}
use Rattle.certificate_graph.specs.TextFaults.{IsTextFault, IsCountFault, StopsAt, TextAnswers}
use Rattle.certificate_graph.specs.Readings.{MayFail, AreAllNodes, ReadsCount, IsCountLineFault}
use Rattle.certificate_graph.proofs.NumberLemmas.{decimal_of_value}

-- three lines that are right
pub record Heads (text : List ℕ) (version : Version) (trump : Trump) (side : Side) (rest : List ℕ) : Type 0 where
  pub second : List ℕ
  pub third : List ℕ
  pub title : text ≡ title_text version second
  pub of_trump : second ≡ trump_text trump third
  pub of_side : third ≡ side_text side rest

pub heads_are : (text second third : List ℕ) (version : Version) (trump : Trump) (side : Side) (rest : List ℕ) → text ≡ title_text version second → second ≡ trump_text trump third → third ≡ side_text side rest → Heads text version trump side rest
heads_are text second third version trump side rest a b c = record { second = second; third = third; title = a; of_trump = b; of_side = c }

pub fault_after : (text : List ℕ) (version : Version) (trump : Trump) (side : Side) (rest : List ℕ) (fault : TextFault) → Heads text version trump side rest → IsCountFault rest fault → IsTextFault text fault
fault_after text version trump side rest fault heads wrong =
    inr (version, heads.second, heads.title, inr (trump, heads.third, heads.of_trump, inr (side, rest, heads.of_side, wrong)))

pub count_fault : (text : List ℕ) (fault : TextFault) → IsCountLineFault text fault → IsCountFault text fault
count_fault text fault (inl wrong) = inl (wrong.0, λ digits rest number e. wrong.1 digits rest (record { number = number; is = e }))
count_fault text fault (inr large) = inr (large.0, large.1, large.2.number, large.2.is, inl (large.3, large.4))

pub nodes_fault : (text : List ℕ) (count : ℕ) (rest : List ℕ) (fault : TextFault) → ReadsCount text count rest → StopsAt count rest fault → IsCountFault text fault
nodes_fault text count rest fault read stops =
    inr (
      read.digits,
      rest,
      read.begins.number,
      read.begins.is,
      inr ((let value = read.value in omega (arith, read.within)), subst (λ n. StopsAt n rest fault) (sym read.value) stops),
    )

-- the nodes' fault, or memory ran out
pub nodes_answer : (text : List ℕ) (version : Version) (trump : Trump) (side : Side) (third : List ℕ) (count : ℕ) (rest : List ℕ) (fault : TextFault) → Heads text version trump side third → ReadsCount third count rest → MayFail (StopsAt count rest) fault → MayFail (IsTextFault text) fault
nodes_answer text version trump side third count rest fault heads read (inl none) = inl none
nodes_answer text version trump side third count rest fault heads read (inr stops) = inr (fault_after text version trump side third fault heads (nodes_fault third count rest fault read stops))

-- the exit of a `?`
pub answer_fault : (text : List ℕ) (r : Result GraphShape TextFault) (told : TextFault) → IsErrAnd r (λ fault. fault ≡ told) → MayFail (IsTextFault text) told → (r ≡ Err OutOfMemory) ⊎ TextAnswers text r
answer_fault text (Ok graph) told e f = absurd e
answer_fault text (Err fault) told e (inl none) = inl (ap Err (e ∙ none))
answer_fault text (Err fault) told e (inr wrong) = inr (subst (IsTextFault text) (sym e) wrong)

pub graph_read : (text : List ℕ) (version : Version) (trump : Trump) (side : Side) (third : List ℕ) (count : ℕ) (rest : List ℕ) (nodes : List Node) → Heads text version trump side third → ReadsCount third count rest → AreAllNodes count rest nodes → TextAnswers text (Ok (record { version = version; trump = trump; side = side; nodes = nodes }))
graph_read text version trump side third count rest nodes heads read all =
    let value : digits_value 10 read.digits ≡ length nodes = read.value ∙ sym all.all in
    let small = read.within in
    let digits : read.digits ≡ decimal (length nodes) =
    sym (decimal_of_value read.digits read.begins.number (let v = read.value in omega arith)) ∙ ap decimal value in
    let line : third ≡ count_text (decimal (length nodes)) (nodes_text nodes []) =
    read.begins.is ∙ (ap (λ ds. count_text ds rest) digits ∙ ap (count_text (decimal (length nodes))) all.is) in (
      record { size = (let e = all.all in omega arith); each = subst (λ n. All (IsNode n) nodes) (sym all.all) all.each },
      heads.title ∙ ap (title_text version) (heads.of_trump ∙ ap (trump_text trump) (heads.of_side ∙ ap (side_text side) line)),
    )
