use Rattle.std.proofs.Common.{sym}
use Rattle.pbn_deals.specs.Games.{TakesBoard, TakesDeal, TakesTag, board_tag, deal_tag, other_tag}
use Rattle.pbn_deals.specs.Views.{tags_seen}
use Rattle.pbn_deals.proofs.GameLemmas.{Steps-weaker}
use Rattle.pbn_deals.proofs.games.GameTags.take.Goals as goal

pub returns-then-is_board : goal.returns-then-is_board
returns-then-is_board c =
    let old = tags_seen c.args.self.now in
    Steps-weaker (TakesBoard c.args.line old c.args.value.now) (TakesTag c.args.line c.args.count old c.args.name.now c.args.value.now)
    (λ r h. board_tag (sym c.if-is_board.ensures) h) c.take_board.result c.take_board.new.self c.take_board.ensures

pub returns-then-is_deal : goal.returns-then-is_deal
returns-then-is_deal c =
    let old = tags_seen c.args.self.now in
    Steps-weaker (TakesDeal c.args.line c.args.count old c.args.value.now) (TakesTag c.args.line c.args.count old c.args.name.now c.args.value.now)
    (λ r h. deal_tag (sym c.if-is_board.ensures) (sym c.if-is_deal.ensures) h) c.take_deal.result c.take_deal.new.self c.take_deal.ensures

pub returns-else-is_deal : goal.returns-else-is_deal
returns-else-is_deal c = other_tag (sym c.if-is_board.ensures) (sym c.if-is_deal.ensures)
