-- Threads may share a crew, whose desk has a snapshot in it: the prover doesn't find that by itself.
use denote.RattleType.{RattleType}
use denote.Ref.{NamedLft}
use denote.Struct.Declared.{shape}
use denote.Param.Send.{IsSync, sendable, recorded_sync, struct_sync, shr_sync}
use Rattle.cards.proofs.layouts.Layout.TheSendSync as layout
use Rattle.farm.proofs.settings.Settings.TheSendSync as settings
use Rattle.lease_desk.proofs.Sharing.{desk_sync}
use Rattle.farm.specs.contracts.crews.Crew as crew
use Rattle.farm.proofs.means.Means.TheSendSync as means
use Rattle.farm.proofs.lease_lock.LeaseLock.TheSendSync as lease_lock

module _ (a : NamedLft) (S G C : RattleType) (s : IsSync S) (g : IsSync G) (c : IsSync C) where
  crew_field : IsSync (crew.the_field a S G C).row
  crew_field = struct_sync (shape (crew.the_type a S G C)) (search sendable, (shr_sync _ _ _ desk_sync, (search (sendable, layout.the_sync) depth 20, (settings.the_field_sync, (search (sendable, means.the_field_sync) depth 20, (shr_sync _ _ _ lease_lock.the_sync, tt))))))

  pub crew_sync : IsSync (crew.the_row a S G C)
  crew_sync = recorded_sync (crew.the_field a S G C).row (crew.the_type a S G C).D (crew.the_type a S G C).to (crew.the_type a S G C).to_one crew_field
