-- The last bytes of the tricks, before it is said that not all evidence is in its file.
use Rattle.std.specs.Prelude.{◌≡◌, ◌⊎◌, ℕ, Bool, true, false, List, Option, Result, Err}
use Rattle.cards.specs.Devices.{Device, Fails}
use Rattle.streams.specs.Flushes.{HandsOn}
use Rattle.run_ends.specs.declared.statuses.Status.{Status}
use Rattle.deal_subcommands.specs.declared.faults.DealFault.{DealFault}
use Rattle.deal_subcommands.specs.declared.faults.DealFault.TheVariants.{Unkept, Write}

-- not all evidence is in its file
abbrev pub lacks_evidence : Result Status DealFault → Bool
lacks_evidence (Err Unkept) = true
lacks_evidence _ = false

-- Then the output has handed on all first, to where this is; or it can't, and that is the fault. Otherwise it stays as
-- it was.
abbrev pub HandsOnFirst : Result Status DealFault → Device → Device → Option (List ℕ) → Result Status DealFault → Type 0
HandsOnFirst answer sink sink' handed_on ended =
    ((lacks_evidence answer ≡ true) × HandsOn sink sink' handed_on × (ended ≡ answer))
    ⊎ (((lacks_evidence answer ≡ true) × Fails sink sink' × (ended ≡ Err Write))
    ⊎ ((lacks_evidence answer ≡ false) × (sink' ≡ sink) × (ended ≡ answer)))
