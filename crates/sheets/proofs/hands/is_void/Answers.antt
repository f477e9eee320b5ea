use Rattle.std.proofs.Common.{Bool, not, refl, sym, ◌∙◌, ap, arith}
use Rattle.std.specs.List.{list_all}
use Rattle.std.proofs.lemmas.Bool.{and_from}
use Rattle.std.proofs.lemmas.List.{take_all}
use Rattle.std.proofs.lemmas.List.Folds.{list_all_more, list_all_at}
use Rattle.cards.specs.declared.pack.Rank.{Rank}
use Rattle.cards.specs.declared.pack.Rank.TheVariants.{Two}
use Rattle.cards.specs.declared.suits.Suit.{Suit}
use Rattle.cards.specs.declared.seats.Seat.{Seat}
use Rattle.cards.specs.Pack.{card_of}
use Rattle.cards.specs.Deal.{Deal, holder_of, is_held_by}
use Rattle.sheets.specs.HandText.{ranks_falling}
use Rattle.sheets.proofs.hands.is_void.Goals as goal

abbrev lacks : Deal → Seat → Suit → Rank → Bool
lacks deal seat suit rank = not (is_held_by seat (holder_of deal (card_of suit rank)))

pub returns-then-is_held : goal.returns-then-is_held
returns-then-is_held c =
    sym (list_all_at (lacks c.args.layout.now c.args.seat c.args.suit) ranks_falling c.loop-rank.rank-index Two (omega arith)
    (ap not (sym c.is_held.ensures ∙ c.if-is_held.true)))

pub loop-rank-preserved : goal.loop-rank-preserved
loop-rank-preserved c = record {
  items = refl;
  none =
      list_all_more (lacks c.args.layout.now c.args.seat c.args.suit) ranks_falling c.loop-rank.rank-index Two (omega arith)
      ∙ and_from _ _ c.loop-rank.invariant.none (ap not (sym c.is_held.ensures ∙ c.if-is_held.false));
}

pub returns : goal.returns
returns c =
    sym (sym (ap (list_all (lacks c.args.layout.now c.args.seat c.args.suit)) (take_all c.loop-rank.rank-index ranks_falling (omega arith)))
    ∙ c.loop-rank.invariant.none)
