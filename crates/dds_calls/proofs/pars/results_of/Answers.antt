-- The facts of each step, put together.
use Rattle.std.proofs.Common.{rules, ◌≡◌, List, ℤ, pos, FitsSigned, to_z, of_z, w32, length, ◌∙◌, ap, subst, sym}
use Rattle.std.proofs.lemmas.Int.{to_z-of_z}
use Rattle.par.specs.declared.contracts.ParContract.{ParContract}
use Rattle.par.specs.Boards.{tricks_in}
use Rattle.par.specs.Par.{IsPar}
use Rattle.par.specs.ParContracts.{AreParContracts}
use Rattle.dds_calls.specs.Pars.{in_places}
use Rattle.dds_calls.proofs.NoneListed.{none_listed}
use Rattle.dds_calls.proofs.pars.results_of.Goals as goal

pub returns : goal.returns
returns c =
    let tricks = tricks_in c.args.tricks.now in
    let vulnerable = c.args.vulnerable in
    let par = c.par_of-score.result in
    let count = c.number_of.result in
    let list = c.par_contracts-list.result.items in
    let par_fits : FitsSigned w32 par = search rules in
    let count_fits : FitsSigned w32 count = search rules in
    let score : to_z w32 (of_z w32 par) ≡ par = to_z-of_z w32 par par_fits in
    let number : to_z w32 (of_z w32 count) ≡ count = to_z-of_z w32 count count_fits in
    record {
      score = subst (IsPar tricks c.args.dealer vulnerable) (sym score) c.par_of-score.ensures.par;
      list = list;
      par_contracts = c.par_contracts-list.ensures;
      places = c.places_of.ensures ∙ ap in_places c.as_slice-2.ensures.value;
      number = λ other. number
          ∙ (c.number_of.ensures.counted other
          ∙ ap (λ (xs : List ParContract). pos (length xs)) c.as_slice.ensures.value);
      passed_out = λ zero. (
        none_listed tricks vulnerable list
            (subst (λ (score : ℤ). AreParContracts tricks vulnerable score list) zero c.par_contracts-list.ensures),
        number ∙ c.number_of.ensures.passed_out zero,
      );
    }
