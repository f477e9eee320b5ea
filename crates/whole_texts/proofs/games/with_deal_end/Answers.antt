use Rattle.std.proofs.Common.{◌≡◌, true, false, not, sym, ◌∙◌, ap}
use Rattle.whole_texts.proofs.Surveys.{deal_found, deal_kept}
use Rattle.whole_texts.proofs.games.with_deal_end.Goals as goal
use Rattle.whole_texts.proofs.games.with_deal_end.Goals.{else-is_none-via-then-is_none+else-has_deal, else-is_none-via-else-is_none}

pub returns-then-has_deal : goal.returns-then-has_deal
returns-then-has_deal c = λ lines old in_table kind is_open facts deal.
    deal_found lines kind c.args.end.now c.args.before c.if-is_none.ensures deal (sym (c.if-has_deal.ensures old in_table kind is_open facts))

pub returns-else-is_none : goal.returns-else-is_none
returns-else-is_none c = λ lines old in_table kind is_open facts deal.
    elim c.else-is_none.branch [
      | else-is_none-via-then-is_none+else-has_deal w ↦
          deal_kept lines kind c.args.end.now c.args.before deal (λ none. sym (w.has_deal.ensures old in_table kind is_open facts) ∙ w.if-has_deal.false)
      | else-is_none-via-else-is_none w ↦
          deal_kept lines kind c.args.end.now c.args.before deal (λ none. absurd (let x : false ≡ true = sym none ∙ (c.is_none.ensures ∙ ap not w.if-is_none.false) in cc))
    ]
