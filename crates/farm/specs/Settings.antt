-- How tables are made: the numbers and their defaults.
use Rattle.std.specs.Prelude.{◌≡◌, ℕ, Result, Ok, Err}
use Rattle.farm.specs.declared.settings.Settings.{Settings}
use Rattle.farm.specs.declared.settings.SettingsFault.{SettingsFault}

pub record Numbers : Type 0 where
  pub solvers : ℕ
  pub checkers : ℕ
  pub term : ℕ
  pub tries : ℕ
  pub budget : ℕ
  pub batch : ℕ

abbrev pub numbers_in : Settings → Numbers
numbers_in settings = record {
  solvers = settings.solvers;
  checkers = settings.checkers;
  term = settings.term;
  tries = settings.tries;
  budget = settings.budget;
  batch = settings.batch;
}

abbrev pub defaults : Numbers
defaults = record { solvers = 2; checkers = 2; term = 600; tries = 3; budget = 10000000; batch = 20 }

-- where a number is in its range, settings with it and with all else as it was; else the fault of its option
abbrev pub Sets : Type 0 → Numbers → SettingsFault → Result Settings SettingsFault → Type 0
Sets InRange numbers fault (Ok settings) = InRange × (numbers_in settings ≡ numbers)
Sets InRange numbers fault (Err told) = (InRange → ⊥) × (told ≡ fault)
