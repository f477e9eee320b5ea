-- Which of the two stands for a board's results.
use Rattle.std.proofs.Common.{◌≡◌, ◌<◌, cond, ap, arith}
use Rattle.std.specs.Fmt.{decimal}
use Rattle.std.proofs.lemmas.Bool.{ne_eqb, eq-eqb}
use Rattle.tables.specs.TablesText.{Results, published_count, is_complete}
use Rattle.sheets.specs.declared.templates.TheConstants.{INCOMPLETE}
use Rattle.sheets.specs.Facts.{with_value}
use Rattle.sheets.specs.Results.{complete_text, results_text}

pub if_incomplete : (results : Results) → published_count results < 20 →
    results_text results ≡ with_value INCOMPLETE.now (decimal (published_count results))
unfolding is_complete
if_incomplete results few =
    ap (λ b. cond b (complete_text results) (with_value INCOMPLETE.now (decimal (published_count results))))
    (ne_eqb (published_count results) 20 (λ e. omega (arith, few, e)))

pub if_complete : (results : Results) → published_count results ≡ 20 → results_text results ≡ complete_text results
unfolding is_complete
if_complete results all =
    ap (λ b. cond b (complete_text results) (with_value INCOMPLETE.now (decimal (published_count results))))
    (eq-eqb (published_count results) 20 all)
