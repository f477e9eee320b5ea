use Rattle.std.proofs.Common.{Option, Some, None, List, ℕ, cond, ◌&&◌, sym, ◌∙◌, ap, ap₂}
use Rattle.std.specs.Borrow.{Bor}
use Rattle.std.specs.Option.{option_copied, option_or}
use Rattle.board_conditions.specs.Titles.{is_title}
use Rattle.pbn_deals.specs.Tags.{is_same_name}
use Rattle.board_conditions.proofs.KeptNamed.{copied_or, pair-more}
use Rattle.board_conditions.proofs.game_texts.first_title.Goals as goal

pub returns : goal.returns
returns c = λ pieces bytes e.
    ap (λ (o : Option (Bor (List ℕ))). option_copied o) c.or.ensures
    ∙ (copied_or c.args.before c.value_in_pair.result
    ∙ (ap₂ option_or e (c.value_in_pair.ensures ∙ ap (λ b. cond (is_same_name c.args.capitals.now c.args.name.now && b) (Some c.args.value.now) None) c.is_title.ensures)
    ∙ sym (pair-more is_title c.args.capitals.now c.args.name.now c.args.value.now bytes pieces)))
