use Rattle.std.proofs.Common.{◌∷◌, ◌++◌, ℤ, subst, w32}
use Rattle.std.proofs.lemmas.Int.{to_z-of_z}
use Rattle.cards.specs.Devices.{Adds, AddsBeginning}
use Rattle.cards.proofs.WriteLemmas.{AddsBeginning-stop, AddsBeginning-then, Writes-then, Writes-err}
use Rattle.par.specs.Texts.{score_text}
use Rattle.tables.proofs.ParLines.{score_line-is}
use Rattle.tables.proofs.pars.write_score_line.Goals as goal

pub returns-in_err-write_all : goal.returns-in_err-write_all
returns-in_err-write_all g c =
    let text = score_text c.args.score in
    rw (score_line-is c.args.end.now text) (Writes-err c.from_residual.result _ c.from_residual.ensures.1 (AddsBeginning-stop (text ++ (34 ∷ 93 ∷ c.args.end.now)) c.in_err-write_all.ensures))

pub returns-in_err-write_score : goal.returns-in_err-write_score
returns-in_err-write_score g c =
    let text = score_text c.args.score in
    let begun = subst (λ (score : ℤ). AddsBeginning (g.S.Sink.state c.write_all.new.sink) (g.S.Sink.state c.write_score.new.sink) (score_text score)) (to_z-of_z w32 c.args.score c.ranges.score) c.in_err-write_score.ensures in
    rw (score_line-is c.args.end.now text) (Writes-err c.from_residual-in_err-write_score.result _ c.from_residual-in_err-write_score.ensures.1 (AddsBeginning-then c.in_ok-write_all.ensures (AddsBeginning-stop (34 ∷ 93 ∷ c.args.end.now) begun)))

pub returns : goal.returns
returns g c =
    let text = score_text c.args.score in
    let last = c.write_line.result in
    let added = subst (λ (score : ℤ). Adds (g.S.Sink.state c.write_all.new.sink) (g.S.Sink.state c.write_score.new.sink) (score_text score)) (to_z-of_z w32 c.args.score c.ranges.score) c.in_ok-write_score.ensures in
    rw (score_line-is c.args.end.now text) (Writes-then last _ _ c.in_ok-write_all.ensures (Writes-then last _ _ added c.write_line.ensures))
