use Rattle.std.proofs.lemmas.Result.{err_from_is_err_and}
use Rattle.pbn_deals.specs.Games.{second_deal, faulty_deal, deal_too_many, only_deal}
use Rattle.pbn_deals.proofs.GameLemmas.{unless_memory, some_of, none_of}
use Rattle.pbn_deals.proofs.games.GameTags.take_deal.Goals as goal

pub returns-then-is_some : goal.returns-then-is_some
returns-then-is_some c = second_deal (some_of c.args.self.now.deal c.if-is_some.ensures).1

pub returns-in_err-deal : goal.returns-in_err-deal
returns-in_err-deal c =
    let p = err_from_is_err_and c.from_residual.result c.from_residual.ensures.1 in
    rw (p.1, p.2) (unless_memory c.in_err-deal.field-0.0 _ (faulty_deal (none_of c.args.self.now.deal c.if-is_some.ensures) c.in_err-deal.ensures))

pub returns-then-count-ge-MOST_BOARDS : goal.returns-then-count-ge-MOST_BOARDS
returns-then-count-ge-MOST_BOARDS c = deal_too_many (none_of c.args.self.now.deal c.if-is_some.ensures) c.in_ok-deal.ensures c.if-count-ge-MOST_BOARDS.true

pub returns : goal.returns
returns c = only_deal (none_of c.args.self.now.deal c.if-is_some.ensures) c.in_ok-deal.ensures c.if-count-ge-MOST_BOARDS.false
