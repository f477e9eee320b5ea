use Rattle.std.proofs.Common.{ℕ, List, [], ◌∷◌, ◌++◌, append_assoc}
use Rattle.std.specs.Fmt.{decimal}
use Rattle.cards.proofs.WriteLemmas.{AddsBeginning-then, Writes-then}
use Rattle.certificate_graph.proofs.PieceLemmas.{short_lens}
use Rattle.certificate_graph.proofs.WriteLemmas.{writes_same, stops_within}
use Rattle.certificate_graph.proofs.writing.write_lens.Goals as goal

-- a length and the byte after it
abbrev len_text : ℕ → ℕ → List ℕ
len_text len after = decimal len ++ (after ∷ [])

pub returns-then-west-lt10 : goal.returns-then-west-lt10
returns-then-west-lt10 g c =
    writes_same _ _ c.write_all.result
    (short_lens _ _ _ _ c.if-north-lt10.true c.if-east-lt10.true c.if-south-lt10.true c.if-west-lt10.true) c.write_all.ensures

pub returns-in_err-write_len-2 : goal.returns-in_err-write_len-2
returns-in_err-write_len-2 g c =
    let end = c.from_residual-in_err-write_len-2 in
    let left = len_text c.args.south 46 ++ len_text c.args.west 47 in
    stops_within _ _ end.result _ left end.ensures.1 (simp append_assoc)
    (AddsBeginning-then c.in_ok-write_len.ensures c.in_err-write_len-2.ensures)

pub returns-in_err-write_len-3 : goal.returns-in_err-write_len-3
returns-in_err-write_len-3 g c =
    let end = c.from_residual-in_err-write_len-3 in
    let left = len_text c.args.west 47 in
    stops_within _ _ end.result _ left end.ensures.1 (simp append_assoc)
    (AddsBeginning-then c.in_ok-write_len.ensures (AddsBeginning-then c.in_ok-write_len-2.ensures c.in_err-write_len-3.ensures))

pub returns : goal.returns
returns g c =
    let done = c.write_len-4.result in
    writes_same _ _ done (simp append_assoc)
    (Writes-then done _ _ c.in_ok-write_len.ensures (Writes-then done _ _ c.in_ok-write_len-2.ensures
    (Writes-then done _ _ c.in_ok-write_len-3.ensures c.write_len-4.ensures)))
