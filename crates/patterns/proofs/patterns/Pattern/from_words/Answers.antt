use Rattle.std.proofs.Common.{subst, inr}
use Rattle.std.proofs.lemmas.Result.{err_from_is_err_and}
use Rattle.patterns.specs.Shapes.{Shape}
use Rattle.patterns.specs.Parts.{IsFault}
use Rattle.patterns.proofs.patterns.Pattern.from_words.Goals as goal

pub returns-in_err-held : goal.returns-in_err-held
returns-in_err-held c =
    let p = err_from_is_err_and c.from_residual.result c.from_residual.ensures.1 in
    let told = c.in-Some.ensures in
    rw (p.1, p.2) (inr (told.0, subst (λ (s : Shape). IsFault 1 13 s c.in_err-held.field-0.0) told.1 c.in_err-held.ensures))
