-- The ranges of settings.
use Rattle.std.specs.Prelude.{ℕ, ◌≤◌}

-- so many threads may look for answers, and so many may check them
abbrev pub AreThreads : ℕ → Type 0
AreThreads threads = (1 ≤ threads) × (threads ≤ 64)

-- so many entries may be leased at a time
abbrev pub IsBatch : ℕ → Type 0
IsBatch batch = (1 ≤ batch) × (batch ≤ 20)
