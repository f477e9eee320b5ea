use Rattle.play_rules.proofs.HoldingLaws.{listed_place-at}
use Rattle.play_rules.proofs.holdings.card_listed.Goals as goal

pub returns : goal.returns
returns c = rw (c.at.ensures, c.at-2.ensures) (listed_place-at c.args.place c.requires)
