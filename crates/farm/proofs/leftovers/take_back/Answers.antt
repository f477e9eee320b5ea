use Rattle.std.proofs.Common.{sym, ap, ◌∙◌}
use Rattle.lease_book.specs.Settling.{is_settled}
use Rattle.farm.proofs.RoundLaws.{one_back}
use Rattle.farm.proofs.leftovers.take_back.Goals as goal

pub returns : goal.returns
returns c =
    one_back c.args.book.now c.give_up.new.self c.args.place c.in-Some.lease c.in_ok-give_up.field-0 c.history.ensures.legal
    (sym c.holder.ensures ∙ c.in-Some.is)
    (ap (is_settled c.in-Some.lease) (sym c.history.ensures.events) ∙ sym c.is_settled.ensures ∙ c.if-is_settled.false)
    c.in_ok-give_up.ensures.ok
