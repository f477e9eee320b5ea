use Rattle.std.proofs.Common.{None, Some, ◌∙◌, ap, ℤ, subst, arith, w32}
use Rattle.std.proofs.lemmas.Int.{to_z-of_z, fits_signed_from_abs}
use Rattle.par.specs.Texts.{score_text}
use Rattle.cards.specs.Devices.{Writes}
use Rattle.cards.proofs.WriteLemmas.{Adds-none}
use Rattle.sheets.specs.declared.pars.ParPlace.TheVariants.{Score, Contracts}
use Rattle.sheets.proofs.ParLemmas.{par-text}
use Rattle.sheets.proofs.pars.ParValuesValues.write.Goals as goal

pub returns-in-Some-Score : goal.returns-in-Some-Score
returns-in-Some-Score g c =
    let score = c.self.inside.score in
    let contracts = c.self.inside.contracts.now in
    let text = par-text score contracts c.args.name.now c.par_place.result (Some Score) c.self.invariant c.par_place.ensures (c.in-Some-Score.is ∙ ap (λ p. Some p) c.in-Some-Score.field-0-is) in
    let kept = to_z-of_z w32 score (fits_signed_from_abs w32 score (omega (arith, c.self.invariant.0))) in
    let wrote = subst (λ (s : ℤ). Writes (g.S.Sink.state c.args.sink.now) (g.S.Sink.state c.write_score.new.sink) (score_text s) c.write_score.result) kept c.write_score.ensures in
    rw (← c.self.view_is, text) wrote

pub returns-in-Some-Contracts : goal.returns-in-Some-Contracts
returns-in-Some-Contracts g c =
    let score = c.self.inside.score in
    let contracts = c.self.inside.contracts.now in
    let text = par-text score contracts c.args.name.now c.par_place.result (Some Contracts) c.self.invariant c.par_place.ensures (c.in-Some-Contracts.is ∙ ap (λ p. Some p) c.in-Some-Contracts.field-0-is) in
    rw (← c.self.view_is, text) c.write_contracts.ensures

pub returns-in-None : goal.returns-in-None
returns-in-None g c =
    let device = g.S.Sink.state c.args.sink.now in
    let score = c.self.inside.score in
    let contracts = c.self.inside.contracts.now in
    let text = par-text score contracts c.args.name.now c.par_place.result None c.self.invariant c.par_place.ensures c.in-None.is in
    rw (← c.self.view_is, text) (Adds-none device)
