-- Which sides are vulnerable on a board (Law 2).
use Rattle.cards.specs.declared.seats.Side.{Side}
use Rattle.cards.specs.declared.seats.Side.TheVariants as side
use Rattle.par.specs.declared.scores.Vulnerability.{Vulnerability}
use Rattle.par.specs.declared.scores.Vulnerability.TheVariants.{NotVulnerable, Vulnerable}
use Rattle.par.specs.declared.vulnerable_sides.VulnerableSides.{VulnerableSides}
use Rattle.par.specs.declared.vulnerable_sides.VulnerableSides.TheVariants.{Neither, NorthSouth, EastWest, Both}

-- whether the side is vulnerable
abbrev pub vulnerability_of : VulnerableSides → Side → Vulnerability
vulnerability_of Neither side = NotVulnerable
vulnerability_of NorthSouth side.NorthSouth = Vulnerable
vulnerability_of NorthSouth side.EastWest = NotVulnerable
vulnerability_of EastWest side.NorthSouth = NotVulnerable
vulnerability_of EastWest side.EastWest = Vulnerable
vulnerability_of Both side = Vulnerable
