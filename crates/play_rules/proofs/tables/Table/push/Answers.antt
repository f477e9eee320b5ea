use Rattle.std.proofs.Common.{arith, sym, ◌≡◌, ◌<◌, ◌∙◌, length, subst}
use Rattle.cards.specs.declared.seats.Side.TheVariants.{NorthSouth, EastWest}
use Rattle.play_rules.specs.Left.{without}
use Rattle.play_rules.specs.Legal.{CanPlay, IsUnfinished}
use Rattle.play_rules.specs.Position.{Position}
use Rattle.play_rules.proofs.PositionLaws.{Summarizes-goes_on, Summarizes-won_north_south, Summarizes-won_east_west, three_cards, tricks-small}
use Rattle.play_rules.proofs.tables.Table.push.Goals as goal

pub invariant_of-self : goal.invariant_of-self
unfolding without
invariant_of-self c =
    let more = subst (λ (p : Position). IsUnfinished p.opening p.history) (sym c.self.view_is) c.requires.unfinished in
    let can = subst (λ (p : Position). CanPlay p.opening p.history c.args.card) (sym c.self.view_is) c.requires.legal in
    let short : length c.self.inside.trick.items < 3 = omega (arith, c.len.ensures.value, c.if-len-lt3.true) in
    rw (c.push.ensures.items, c.push-then-len-lt3.ensures.items, c.number.ensures.place, c.next-self-inside.ensures)
    (Summarizes-goes_on _ _ c.args.card c.self.invariant more can short)

pub overflow_add-self : goal.overflow_add-self
overflow_add-self c = omega (arith, tricks-small NorthSouth _ c.self.invariant.reached, c.self.invariant.north_south_is)

pub invariant_of-self-in-NorthSouth : goal.invariant_of-self-in-NorthSouth
unfolding without
invariant_of-self-in-NorthSouth c =
    let more = subst (λ (p : Position). IsUnfinished p.opening p.history) (sym c.self.view_is) c.requires.unfinished in
    let can = subst (λ (p : Position). CanPlay p.opening p.history c.args.card) (sym c.self.view_is) c.requires.legal in
    let full : length c.self.inside.trick.items ≡ 3 = omega (arith, c.len.ensures.value, c.len.ensures.fits, c.if-len-lt3.false) in
    let won = rw (c.deref.ensures.0, c.deref-2.ensures.0, c.deref-3.ensures.0) at c.winner-winner.ensures.winner in
    rw (c.push.ensures.items, c.clear.ensures, c.number.ensures.place)
    (Summarizes-won_north_south _ _ c.args.card _ _ _ c.winner-winner.result c.self.invariant more can (three_cards _ _ _ _ full) won (sym c.side.ensures ∙ c.in-NorthSouth.is))

pub overflow_add-self-in-EastWest : goal.overflow_add-self-in-EastWest
overflow_add-self-in-EastWest c = omega (arith, tricks-small EastWest _ c.self.invariant.reached, c.self.invariant.east_west_is)

pub invariant_of-self-in-EastWest : goal.invariant_of-self-in-EastWest
unfolding without
invariant_of-self-in-EastWest c =
    let more = subst (λ (p : Position). IsUnfinished p.opening p.history) (sym c.self.view_is) c.requires.unfinished in
    let can = subst (λ (p : Position). CanPlay p.opening p.history c.args.card) (sym c.self.view_is) c.requires.legal in
    let full : length c.self.inside.trick.items ≡ 3 = omega (arith, c.len.ensures.value, c.len.ensures.fits, c.if-len-lt3.false) in
    let won = rw (c.deref.ensures.0, c.deref-2.ensures.0, c.deref-3.ensures.0) at c.winner-winner.ensures.winner in
    rw (c.push.ensures.items, c.clear.ensures, c.number.ensures.place)
    (Summarizes-won_east_west _ _ c.args.card _ _ _ c.winner-winner.result c.self.invariant more can (three_cards _ _ _ _ full) won (sym c.side.ensures ∙ c.in-EastWest.is))
