use Rattle.std.proofs.Common.{◌≡◌, ℕ, List, Bor, ◌∙◌, ap, take, drop}
use Rattle.std.specs.Fmt.{decimal}
use Rattle.tables.specs.TablesText.{incomplete_text}
use Rattle.tables.proofs.NumberLemmas.{last_place, right_in_two-great}
use Rattle.tables.proofs.tables.write_incomplete.Goals as goal
use Rattle.tables.proofs.tables.write_incomplete.Goals.{then-published-lt10, else-published-lt10}

pub returns : goal.returns
unfolding incomplete_text
returns g c =
    let number = c.args.published in
    let now : Bor (List ℕ) → List ℕ = λ text. text.now in
    let digits : c.if-published-lt10.digits.now ≡ decimal number =
    elim c.if-published-lt10.branch [
      | then-published-lt10 w ↦ ap now w.digits-is ∙ (ap (λ places. take 1 (drop 1 places)) c.two_places-places.ensures ∙ last_place number w.if-published-lt10.true)
      | else-published-lt10 w ↦ ap now w.digits-is ∙ (c.two_places-places.ensures ∙ right_in_two-great number w.if-published-lt10.false c.requires)
    ] in
    rw digits at c.write_line.ensures
