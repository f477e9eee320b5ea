use Rattle.std.proofs.Common.{rules, codes, None, Some, ℤ, subst, arith, w32}
use Rattle.std.proofs.lemmas.Int.{to_z-of_z, fits_signed_from_abs}
use Rattle.cards.specs.Devices.{Adds, AddsBeginning}
use Rattle.cards.proofs.WriteLemmas.{AddsBeginning-stop, Writes-then, Writes-err}
use Rattle.par.specs.Texts.{score_text, contracts_text}
use Rattle.tables.specs.ParText.{tag_text, body_line}
use Rattle.tables.specs.declared.pars.BoardPar.TheVariants.{Known, NoDealer, NoVulnerability}
use Rattle.tables.proofs.ParLines.{par_text-is}
use Rattle.tables.proofs.pars.write_par.Goals as goal

pub returns-in_default : goal.returns-in_default
returns-in_default g c = rw (c.in_default.is, par_text-is c.args.end.now None) (search rules)

pub returns-in_err-write_score_line-in-Known : goal.returns-in_err-write_score_line-in-Known
returns-in_err-write_score_line-in-Known g c =
    let end = c.args.end.now in
    let score = c.in-Known.score in
    let contracts = c.in-Known.contracts in
    let small = rw c.in-Known.is at (rw c.in-Some.is at c.requires) in
    let kept = to_z-of_z w32 score (fits_signed_from_abs w32 score (omega (arith, small.0))) in
    let begun = subst (λ (s : ℤ). AddsBeginning (g.S.Sink.state c.args.sink.now) (g.S.Sink.state c.write_score_line.new.sink) (body_line end (tag_text (codes "OptimumScore") (score_text s)))) kept c.in_err-write_score_line-in-Known.ensures in
    rw (c.in-Some.is, c.in-Known.is, par_text-is end (Some (Known c.in-Known.dealer c.in-Known.vulnerable score contracts)))
    (Writes-err c.from_residual.result _ c.from_residual.ensures.1 (AddsBeginning-stop (body_line end (tag_text (codes "ParContract") (contracts_text contracts.items))) begun))

pub returns-in_ok-write_score_line-in-Known : goal.returns-in_ok-write_score_line-in-Known
returns-in_ok-write_score_line-in-Known g c =
    let end = c.args.end.now in
    let score = c.in-Known.score in
    let contracts = c.in-Known.contracts in
    let small = rw c.in-Known.is at (rw c.in-Some.is at c.requires) in
    let kept = to_z-of_z w32 score (fits_signed_from_abs w32 score (omega (arith, small.0))) in
    let added = subst (λ (s : ℤ). Adds (g.S.Sink.state c.args.sink.now) (g.S.Sink.state c.write_score_line.new.sink) (body_line end (tag_text (codes "OptimumScore") (score_text s)))) kept c.in_ok-write_score_line-in-Known.ensures in
    rw (c.in-Some.is, c.in-Known.is, par_text-is end (Some (Known c.in-Known.dealer c.in-Known.vulnerable score contracts)))
    (Writes-then c.write_contracts_line.result _ _ added (rw c.as_slice.ensures.value at c.write_contracts_line.ensures))

pub returns-in-NoDealer : goal.returns-in-NoDealer
returns-in-NoDealer g c = rw (c.in-Some.is, c.in-NoDealer.is, par_text-is c.args.end.now (Some NoDealer)) c.write_line.ensures

pub returns-in-NoVulnerability : goal.returns-in-NoVulnerability
returns-in-NoVulnerability g c = rw (c.in-Some.is, c.in-NoVulnerability.is, par_text-is c.args.end.now (Some NoVulnerability)) c.write_line-in-NoVulnerability.ensures
