-- The tags of the conditions from which a board's par was taken (PBN 2.1, 3.4.9 and 3.4.10).
use Rattle.std.specs.Prelude.{ℕ, List, [], ◌∷◌, codes, Option, None, Some}
use Rattle.std.specs.List.{flat_map}
use Rattle.cards.specs.Bytes as ascii
use Rattle.cards.specs.Seats.{seat_letter}
use Rattle.par.specs.declared.vulnerable_sides.VulnerableSides.{VulnerableSides}
use Rattle.par.specs.declared.vulnerable_sides.VulnerableSides.TheVariants as sides
use Rattle.tables.specs.declared.pars.BoardPar.{BoardPar}
use Rattle.tables.specs.declared.pars.BoardPar.TheVariants.{Known, NoDealer, NoVulnerability}
use Rattle.tables.specs.ParText.{tag_text, body_line}

-- the vulnerable sides as PBN names them
abbrev pub sides_shown : VulnerableSides → List ℕ
sides_shown sides.Neither = codes "None"
sides_shown sides.NorthSouth = codes "NS"
sides_shown sides.EastWest = codes "EW"
sides_shown sides.Both = codes "All"

-- the lines without their ends: none if par isn't printed or isn't known
abbrev pub condition_bodies : Option BoardPar → List (List ℕ)
condition_bodies None = []
condition_bodies (Some (Known dealer vulnerable score contracts)) =
    tag_text (codes "Dealer") (seat_letter dealer) ∷ tag_text (codes "Vulnerable") (sides_shown vulnerable) ∷ []
condition_bodies (Some NoDealer) = []
condition_bodies (Some NoVulnerability) = []

-- the lines with their ends
unfoldable pub conditions_text : Option BoardPar → List ℕ
conditions_text par = flat_map (body_line (ascii.line_feed ∷ [])) (condition_bodies par)
