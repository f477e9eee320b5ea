use Rattle.std.proofs.Common.{◌≡◌, ◌↔◌, Bool, IsTrue, sym, ◌∙◌}
use Rattle.cards.specs.declared.seats.Seat.TheVariants.{North, East, South, West}
use Rattle.patterns.proofs.SeatLaws.{for_each_seat}
use Rattle.pattern_step.specs.declared.pat_cards.PatCard.{PatCard}
use Rattle.pattern_step.proofs.trick_winners.low_players.Goals as goal

-- a member of the set is told by its test
member : (inside test : Bool) (card played low : PatCard) → inside ≡ test → card ≡ played → IsTrue test ↔ (card ≡ low) → IsTrue inside ↔ (played ≡ low)
member inside test card played low is by told = (λ h. sym by ∙ told.0 (sym is ∙ h), λ h. is ∙ told.1 (by ∙ h))

pub returns : goal.returns
returns c = for_each_seat _
    (member _ _ _ _ _ (c.of.ensures North) c.played_by.ensures c.is_low_of.ensures)
    (member _ _ _ _ _ (c.of.ensures East) c.played_by-2.ensures c.is_low_of-2.ensures)
    (member _ _ _ _ _ (c.of.ensures South) c.played_by-3.ensures c.is_low_of-3.ensures)
    (member _ _ _ _ _ (c.of.ensures West) c.played_by-4.ensures c.is_low_of-4.ensures)
