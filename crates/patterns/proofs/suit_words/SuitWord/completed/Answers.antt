use Rattle.std.proofs.Common.{◌≡◌, ◌-◌, length, arith}
use Rattle.cards.specs.declared.seats.Seat.TheVariants.{North, East, South, West}
use Rattle.patterns.specs.Shapes.{suit_size}
use Rattle.patterns.proofs.HolderLaws.{counts_add_up}
use Rattle.patterns.proofs.MoreOwners.{stays, stays_without, gets_longer}
use Rattle.patterns.proofs.suit_words.SuitWord.completed.Goals as goal

pub overflow_sub-lows : goal.overflow_sub-lows
overflow_sub-lows c =
    let owned = c.requires.owned in
    omega (arith, counts_add_up c.args.self.owners, owned North, owned East, owned South, owned West, c.size.ensures.size, c.from.ensures, c.owner_count.ensures.count)

pub returns-then-lows-eq0 : goal.returns-then-lows-eq0
returns-then-lows-eq0 c =
    let lows : suit_size c.args.self - length c.args.self.owners ≡ 0 = omega (arith, c.size.ensures.size, c.from.ensures, c.owner_count.ensures.count, c.if-lows-eq0.true) in
    stays_without c.args.self c.requires.owned lows

pub returns-in-Some : goal.returns-in-Some
returns-in-Some c =
    let lows : c.from.result - c.owner_count.result ≡ suit_size c.args.self - length c.args.self.owners = omega (arith, c.size.ensures.size, c.from.ensures, c.owner_count.ensures.count) in
    gets_longer c.args.self c.with_owners.result c.requires.owned _ c.in-Some.seat lows c.in-Some.ensures c.with_owners.ensures.lens c.with_owners.ensures.owners

pub returns-in-None : goal.returns-in-None
returns-in-None c =
    let lows : c.from.result - c.owner_count.result ≡ suit_size c.args.self - length c.args.self.owners = omega (arith, c.size.ensures.size, c.from.ensures, c.owner_count.ensures.count) in
    stays c.args.self c.requires.owned _ lows c.in-None.ensures
