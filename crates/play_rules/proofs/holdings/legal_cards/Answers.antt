use Rattle.std.proofs.Common.{◌<◌, ◌+◌, ◌++◌, ◌∷◌, [], length, arith, length-append}
use Rattle.play_rules.specs.Holdings.{AreListedTo, MayBePlayed}
use Rattle.play_rules.proofs.HoldingLaws.{MayBePlayed-from_suit, Follows-from_MayBePlayed, AreListedTo-more, AreListedTo-skip, length-le-count_of}
use Rattle.play_rules.proofs.holdings.legal_cards.Goals as goal
use Rattle.play_rules.proofs.holdings.legal_cards.Goals.{then-is_playable, else-is_playable}

pub push-requires : goal.push-requires
push-requires c =
    let left = c.args.left.now in
    let player = c.args.player in
    let trick = c.args.trick.now in
    let cards = c.loop-place.cards.items in
    let card = c.card_listed-card.result in
    let playable = c.if-is_playable.ensures in
    let may : MayBePlayed left player trick card = MayBePlayed-from_suit left player trick _ card c.suit_to_follow-suit.ensures playable.0 playable.1 in
    let more : AreListedTo left player trick (c.loop-place.place + 1) (cards ++ card ∷ []) = AreListedTo-more left player trick c.loop-place.place cards card c.card_listed-card.ensures c.loop-place.invariant may in
    let few = length-le-count_of left player (cards ++ card ∷ []) more.in_order (λ x h. (more.legal x h).held) in
    let room : length cards < 13 = omega (arith, few, length-append cards (card ∷ []), c.requires) in
    (omega arith, room)

pub loop-place-preserved : goal.loop-place-preserved
loop-place-preserved c =
    let left = c.args.left.now in
    let player = c.args.player in
    let trick = c.args.trick.now in
    let cards = c.loop-place.cards.items in
    let card = c.card_listed-card.result in
    elim c.if-is_playable.branch [
      | then-is_playable w ↦
          let playable = w.if-is_playable.ensures in
          let may : MayBePlayed left player trick card = MayBePlayed-from_suit left player trick _ card c.suit_to_follow-suit.ensures playable.0 playable.1 in
          rw (w.cards-is, w.push.ensures.items) (AreListedTo-more left player trick c.loop-place.place cards card c.card_listed-card.ensures c.loop-place.invariant may)
      | else-is_playable w ↦
          rw w.cards-is (AreListedTo-skip left player trick c.loop-place.place cards card c.card_listed-card.ensures c.loop-place.invariant
          (λ may. w.if-is_playable.ensures (may.held, Follows-from_MayBePlayed left player trick _ card c.suit_to_follow-suit.ensures may)))
    ]
