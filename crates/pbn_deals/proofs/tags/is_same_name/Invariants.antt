-- The rest of the name is compared with the rest of the capitals.
use Rattle.std.proofs.Common.{◌≡◌, drop}
use Rattle.pbn_deals.specs.Tags.{is_same_name}
use Rattle.pbn_deals.proofs.tags.is_same_name.Given as goal

abbrev pub invariant-loop-capital : goal.invariant-loop-capital
invariant-loop-capital l =
    is_same_name l.capitals l.name ≡ is_same_name (drop l.capital-index l.capitals) l.rest
