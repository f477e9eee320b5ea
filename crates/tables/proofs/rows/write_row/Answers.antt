use Rattle.std.proofs.Common.{◌≡◌, ℕ, List, Bor, [], ◌∷◌, ◌++◌, ◌∙◌, ap, append-nil}
use Rattle.std.specs.Fmt.{decimal}
use Rattle.cards.specs.Pack.{trump_letters}
use Rattle.cards.specs.Seats.{seat_letter}
use Rattle.tables.specs.TablesText.{right_in_two, row_text}
use Rattle.tables.proofs.RowLemmas.{right_in_two-short, right_in_two-full, row-from_pieces}
use Rattle.tables.proofs.rows.write_row.Goals as goal
use Rattle.tables.proofs.rows.write_row.Goals.{then-letters-lt2, else-letters-lt2}

pub returns : goal.returns
unfolding row_text
returns g c =
    let now : Bor (List ℕ) → List ℕ = λ text. text.now in
    let letters : List ℕ = c.as_bytes-letters.result.now in
    let named : letters ≡ trump_letters c.args.trump = c.as_bytes-letters.ensures.value ∙ c.letters.ensures in
    let padded : c.if-letters-lt2.indent.now ++ letters ≡ right_in_two letters =
    elim c.if-letters-lt2.branch [
      | then-letters-lt2 w ↦ ap (λ indent. indent ++ letters) (ap now w.indent-is) ∙ right_in_two-short letters w.if-letters-lt2.true
      | else-letters-lt2 w ↦ ap (λ indent. indent ++ letters) (ap now w.indent-is) ∙ right_in_two-full letters w.if-letters-lt2.false
    ] in
    let declarer : c.as_bytes.result.now ≡ seat_letter c.args.declarer = c.as_bytes.ensures.value ∙ c.letter.ensures in
    let text = row-from_pieces (seat_letter c.args.declarer) c.if-letters-lt2.indent.now letters (right_in_two (trump_letters c.args.trump)) (32 ∷ (right_in_two (decimal c.args.tricks) ++ [])) (padded ∙ ap right_in_two named) in
    rw (declarer, c.two_places.ensures, text, append-nil (right_in_two (decimal c.args.tricks))) at c.write_line.ensures
