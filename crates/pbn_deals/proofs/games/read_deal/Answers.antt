use Rattle.std.proofs.Common.{◌≡◌, true, false, sym, ◌∙◌}
use Rattle.pbn_deals.specs.DealValue.{naming_of, after_blanks}
use Rattle.pbn_deals.specs.Tags.{is_inherited}
use Rattle.pbn_deals.specs.Games.{says_inherited, says_nothing, says_other_form}
use Rattle.pbn_deals.proofs.GameLemmas.{not_named}
use Rattle.pbn_deals.proofs.games.read_deal.Goals as goal

pub returns-then-is_inherited : goal.returns-then-is_inherited
returns-then-is_inherited c =
    let inherited : is_inherited (after_blanks c.args.value.now) ≡ true = rw c.after_blanks.ensures.value at (sym c.is_inherited.ensures ∙ c.if-is_inherited.true) in
    says_inherited inherited

pub returns-then-is_no_deal : goal.returns-then-is_no_deal
returns-then-is_no_deal c =
    let own : is_inherited (after_blanks c.args.value.now) ≡ false = rw c.after_blanks.ensures.value at (sym c.is_inherited.ensures ∙ c.if-is_inherited.false) in
    says_nothing own c.if-is_no_deal.ensures

pub returns-in-None : goal.returns-in-None
returns-in-None c =
    let own : is_inherited (after_blanks c.args.value.now) ≡ false = rw c.after_blanks.ensures.value at (sym c.is_inherited.ensures ∙ c.if-is_inherited.false) in
    says_other_form own c.if-is_no_deal.ensures (not_named (naming_of c.args.value.now) c.in-None.ensures)
