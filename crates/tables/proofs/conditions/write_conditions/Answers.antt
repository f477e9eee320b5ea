use Rattle.cards.specs.Seats.{seat_letter}
use Rattle.cards.proofs.WriteLemmas.{Adds-none}
use Rattle.tables.specs.ConditionTags.{sides_shown, conditions_text}
use Rattle.tables.proofs.ConditionLines.{lines-are}
use Rattle.tables.proofs.conditions.write_conditions.Goals as goal

pub returns-in_default : goal.returns-in_default
unfolding conditions_text
returns-in_default g c = rw c.in_default.is (Adds-none _)

pub returns-in-Known : goal.returns-in-Known
unfolding conditions_text
returns-in-Known g c =
    rw (c.in-Some.is, c.in-Known.is)
    (rw (lines-are (seat_letter c.in-Known.dealer) (sides_shown c.in-Known.vulnerable))
    at (rw (c.as_bytes.ensures.value, c.letter.ensures, c.sides_shown.ensures) at c.write_pieces.ensures))

pub returns-in-NoDealer : goal.returns-in-NoDealer
unfolding conditions_text
returns-in-NoDealer g c = rw (c.in-Some.is, c.in-NoDealer.is) (Adds-none _)

pub returns-in-NoVulnerability : goal.returns-in-NoVulnerability
unfolding conditions_text
returns-in-NoVulnerability g c = rw (c.in-Some.is, c.in-NoVulnerability.is) (Adds-none _)
