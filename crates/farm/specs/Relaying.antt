-- The relays of a run, and the messages that went through them.
use Rattle.std.specs.Prelude.{◌≡◌, true, List}
use Rattle.farm_relay.specs.Relays.{IsOpened, AreAllOf, IsNothingLost, AreMarksPut, is_ended}
use Rattle.farm.specs.declared.settings.Settings.{Settings}
use Rattle.farm.specs.declared.tasks.Group.{Group}
use Rattle.farm.specs.declared.tasks.FoundBundle.{FoundBundle}
use Rattle.farm.specs.declared.tasks.CheckedClaim.{CheckedClaim}
use Rattle.farm.specs.declared.relays.Relays.{Relays}
use Rattle.farm.specs.declared.relays.RelayEnds.{RelayEnds}

-- Relays that were opened with these ends: the first with a place for each solver, the others with 64. Nothing has gone
-- through them.
pub record AreOpened (settings : Settings) (relays : Relays) (ends : RelayEnds) : Type 0 where
  pub groups : IsOpened settings.solvers 1 settings.solvers relays.groups ends.lent.items ends.groups.items
  pub found : IsOpened 64 settings.solvers settings.checkers relays.found ends.finds.items ends.found.items
  pub claims : IsOpened 64 settings.checkers settings.checkers relays.claims ends.claims.items ends.heard.items

-- these are all ends of the relays, and no others
pub record AreAllEndsOf (relays : Relays) (ends : RelayEnds) : Type 0 where
  pub groups : AreAllOf relays.groups ends.lent.items ends.groups.items
  pub found : AreAllOf relays.found ends.finds.items ends.found.items
  pub claims : AreAllOf relays.claims ends.claims.items ends.heard.items

-- Nothing that these ends put was lost: each group that the lender put was taken by a solver or is left, each message
-- that solvers put was taken by a checker or is left, and each claim that checkers put was taken by a clerk or is left.
pub record IsRelayed (ends : RelayEnds) : Type 0 where
  pub unsolved : List Group
  pub unchecked : List FoundBundle
  pub unheard : List CheckedClaim
  pub groups : IsNothingLost ends.lent.items ends.groups.items unsolved
  pub found : IsNothingLost ends.finds.items ends.found.items unchecked
  pub claims : IsNothingLost ends.claims.items ends.heard.items unheard

-- the takers of each relay took no more end marks than were put into it
pub record AreAllMarksPut (relays : Relays) (ends : RelayEnds) : Type 0 where
  pub groups : AreMarksPut relays.groups ends.lent.items ends.groups.items
  pub found : AreMarksPut relays.found ends.finds.items ends.found.items
  pub claims : AreMarksPut relays.claims ends.claims.items ends.heard.items

-- all relays were ended
pub record AreEnded (relays : Relays) : Type 0 where
  pub groups : is_ended relays.groups ≡ true
  pub found : is_ended relays.found ≡ true
  pub claims : is_ended relays.claims ≡ true
