use Rattle.cards.specs.declared.suits.Suit.TheVariants.{Spades}
use Rattle.cards.specs.declared.pack.Rank.TheVariants.{Two}
use Rattle.cards.specs.Pack.{card_of}
use Rattle.recorded_plays.proofs.Walks.{is_revoke, is_out_of_turn, is_not_held}
use Rattle.recorded_plays.proofs.follow.Walk.reason.Goals as goal

pub bounds-deref-len : goal.bounds-deref-len
bounds-deref-len c = rw (c.deref.ensures.0, c.len.ensures.value) (is_revoke c.args.self.now c.args.card c.args.fault c.requires.walk c.requires.refused c.in-MustFollow.is (card_of Spades Two)).0

pub returns-in-MustFollow : goal.returns-in-MustFollow
returns-in-MustFollow c = rw (c.deref.ensures.0, c.len.ensures.value) (is_revoke c.args.self.now c.args.card c.args.fault c.requires.walk c.requires.refused c.in-MustFollow.is (card_of Spades Two)).1

pub returns-in-Some : goal.returns-in-Some
returns-in-Some c = is_out_of_turn c.args.self.now c.args.card c.args.fault c.requires.walk c.requires.refused c.requires.unfinished c.in_default.not-MustFollow c.number.result c.number.ensures.place c.in-Some.holder c.in-Some.is

pub returns-in-None : goal.returns-in-None
returns-in-None c = is_not_held c.args.self.now c.args.card c.args.fault c.requires.walk c.requires.refused c.requires.unfinished c.in_default.not-MustFollow c.number.result c.number.ensures.place c.in-None.is
