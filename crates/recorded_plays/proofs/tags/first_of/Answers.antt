use Rattle.std.proofs.Common.{◌≡◌, true, false, not, sym, ◌∙◌, ap}
use Rattle.board_conditions.proofs.Named.{first_found, first_stays}
use Rattle.recorded_plays.proofs.tags.first_of.Goals as goal
use Rattle.recorded_plays.proofs.tags.first_of.Goals.{else-is_none-via-then-is_none+else-is_same_name, else-is_none-via-else-is_none}

pub returns-then-is_same_name : goal.returns-then-is_same_name
returns-then-is_same_name c = λ pieces bytes e.
    first_found c.args.capitals.now c.args.name.now c.args.value bytes c.args.before pieces c.if-is_none.ensures (sym c.if-is_same_name.ensures) e

pub returns-else-is_none : goal.returns-else-is_none
returns-else-is_none c = λ pieces bytes e.
    first_stays c.args.capitals.now c.args.name.now c.args.value.now bytes c.args.before pieces (λ none. elim c.else-is_none.branch [
      | else-is_none-via-then-is_none+else-is_same_name w ↦ sym w.is_same_name.ensures ∙ w.if-is_same_name.false
      | else-is_none-via-else-is_none w ↦ absurd (let x : false ≡ true = sym none ∙ (c.is_none.ensures ∙ ap not w.if-is_none.false) in cc)
    ]) e
