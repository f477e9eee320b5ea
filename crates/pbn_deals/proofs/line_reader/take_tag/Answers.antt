use Rattle.std.proofs.Common.{Err, refl, sym}
use Rattle.std.proofs.lemmas.Result.{err_from_is_err_and}
use Rattle.pbn_deals.specs.Views.{tags_seen}
use Rattle.pbn_deals.specs.Games.{TakesTag}
use Rattle.pbn_deals.specs.Reading.{at_tag, at_faulty_tag, at_no_tag}
use Rattle.pbn_deals.proofs.GameLemmas.{unless_memory-weaker}
use Rattle.pbn_deals.proofs.line_reader.take_tag.Goals as goal

pub returns-in_default-clause-pair : goal.returns-in_default-clause-pair
returns-in_default-clause-pair c = at_no_tag refl (sym c.in_default.ensures.value)

pub returns-clause-pair : goal.returns-clause-pair
returns-clause-pair c = λ last h. at_tag refl (sym c.in-Some.ensures.value) c.in_ok-take.ensures h

pub returns-in_err-take-clause-pair : goal.returns-in_err-take-clause-pair
returns-in_err-take-clause-pair c =
    let found = c.in-Some in
    let fault = c.in_err-take.field-0.0 in
    let p = err_from_is_err_and c.from_residual.result c.from_residual.ensures.1 in
    rw (p.1, p.2) (unless_memory-weaker fault (TakesTag c.args.number c.args.count (tags_seen c.args.tags.now) found.tag.name.now found.tag.value.now (Err fault)) _
    (λ takes. at_faulty_tag refl (sym found.ensures.value) takes) c.in_err-take.ensures)
