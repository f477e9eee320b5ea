use Rattle.std.proofs.Common.{Option, Some, None, List, ℕ, codes, cond, ◌&&◌, sym, ◌∙◌, ap, ap₂}
use Rattle.std.specs.Borrow.{Bor}
use Rattle.std.specs.Option.{option_copied, option_or}
use Rattle.board_conditions.specs.Words.{says_dealer}
use Rattle.pbn_deals.specs.Tags.{is_same_name}
use Rattle.board_conditions.proofs.KeptNamed.{copied_or, pair-more}
use Rattle.board_conditions.proofs.game_texts.first_dealer.Goals as goal

pub returns : goal.returns
returns c = λ pieces bytes e.
    ap (λ (o : Option (Bor (List ℕ))). option_copied o) c.or.ensures
    ∙ (copied_or c.args.before c.value_in_pair.result
    ∙ (ap₂ option_or e (c.value_in_pair.ensures ∙ ap (λ b. cond (is_same_name (codes "DEALER") c.args.name.now && b) (Some c.args.value.now) None) c.says_dealer.ensures)
    ∙ sym (pair-more says_dealer (codes "DEALER") c.args.name.now c.args.value.now bytes pieces)))
