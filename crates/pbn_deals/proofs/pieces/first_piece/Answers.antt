use Rattle.std.proofs.Common.{◌≡◌, [], ◌∷◌, map, refl, Bool, true, false, sym, ap, subst, ◌∙◌}
use Rattle.pbn_deals.specs.Letters.{is_blank}
use Rattle.pbn_deals.specs.declared.pieces.Piece.TheVariants as seen
use Rattle.pbn_deals.specs.Pieces.{Space, Comment, HasPieces}
use Rattle.pbn_deals.proofs.FirstPiecesOf.{ComeFirst, as_first, line_comment_at, blanks_at, data_at}
use Rattle.pbn_deals.proofs.pieces.first_piece.Goals as goal
use Rattle.pbn_deals.proofs.pieces.first_piece.Goals.{else-first-eq91-via-then-first-eq91+else-not-in_data, else-first-eq91-via-else-first-eq91, else-not-in_data-2-via-then-not-in_data-2+else-is_blank, else-not-in_data-2-via-else-not-in_data-2}

true_or_false : {b : Bool} → b ≡ true → b ≡ false → ⊥
true_or_false e f = let g : true ≡ false = sym e ∙ f in absurd (cc)

pub returns-then-first-eq59 : goal.returns-then-first-eq59
returns-then-first-eq59 c = λ pieces is_open h.
    let others = c.in_ok-first.others.now in
    let is = c.in_ok-first.ensures ∙ ap (λ byte. byte ∷ others) c.if-first-eq59.true in
    as_first (seen.Comment c.args.text) (Comment c.args.text.now ∷ []) refl refl (line_comment_at c.args.text.now others is c.args.in_data pieces is_open h)

pub returns-then-is_blank : goal.returns-then-is_blank
returns-then-is_blank c = λ pieces is_open h.
    let text = c.args.text.now in
    let outside : c.args.in_data ≡ false = c.if-not-in_data-2.true in
    let come = blanks_at text c.in_ok-first.others.now c.after_blanks-after.result.now c.front_of.result.now c.in_ok-first.first c.in_ok-first.ensures c.after_blanks-after.ensures.value c.front_of.ensures (sym c.is_blank.ensures ∙ c.if-is_blank.true) pieces is_open
    (subst (λ flag. HasPieces flag text pieces is_open) outside h) in
    as_first (seen.Blanks c.front_of.result) (map Space c.front_of.result.now) refl refl (subst (λ flag. ComeFirst (map Space c.front_of.result.now) c.front_of.result.now flag text c.after_blanks-after.result.now pieces is_open) (sym outside) come)

pub returns-else-not-in_data-2 : goal.returns-else-not-in_data-2
returns-else-not-in_data-2 c = λ pieces is_open h.
    let first = c.in_ok-first.first in
    let no_other : c.args.in_data ≡ false → (first ≡ 91 → ⊥) × (is_blank first ≡ false) = λ outside. (
      elim c.else-first-eq91.branch [
        | else-first-eq91-via-then-first-eq91+else-not-in_data w ↦ λ e. true_or_false w.if-not-in_data.false outside
        | else-first-eq91-via-else-first-eq91 w ↦ w.if-first-eq91.false
      ],
      elim c.else-not-in_data-2.branch [
        | else-not-in_data-2-via-then-not-in_data-2+else-is_blank w ↦ sym w.is_blank.ensures ∙ w.if-is_blank.false
        | else-not-in_data-2-via-else-not-in_data-2 w ↦ absurd (true_or_false w.if-not-in_data-2.false outside)
      ],
    ) in
    let run = c.after_data-after.ensures in
    let (seen_first, are, same, come) = data_at c.args.text.now c.in_ok-first.others.now run.front c.after_data-after.result.now c.front_of-else-not-in_data-2.result.now first c.args.in_data c.in_ok-first.ensures c.front_of-else-not-in_data-2.ensures c.if-first-eq59.false c.if-first-eq123.false c.if-first-eq34.false no_other run.whole run.no_sign pieces is_open h in
    as_first (seen.Data c.front_of-else-not-in_data-2.result) seen_first (are, same) refl come
