-- Options with a number: how each is named, its range, and what stands for a missing one.
use Rattle.std.specs.Prelude.{ℕ, Bool, true, false, ◌≤◌, List, codes, min, max}
use Rattle.command_words.specs.declared.kinds.NumberOption.{NumberOption}

pub record OptionNumbers : Type 0 where
  pub name : List ℕ
  pub least : ℕ
  pub most : ℕ
  -- the number that stands for a missing one, in digits
  pub default : List ℕ
  -- whether on the command line the number of processors stands for a missing one
  pub is_by_machine : Bool

-- what a row of the table says
abbrev pub numbers_of : NumberOption → OptionNumbers
numbers_of row = record {
  name = row.name.now;
  least = row.least;
  most = row.most;
  default = row.default_text.now;
  is_by_machine = row.is_by_machine;
}

-- the number is in the option's range
abbrev pub IsIn : OptionNumbers → ℕ → Type 0
IsIn option number = (option.least ≤ number) × (number ≤ option.most)

-- the number of an option's range that is next to this one
abbrev pub nearest_in : OptionNumbers → ℕ → ℕ
nearest_in option number = max option.least (min option.most number)

-- how many threads look for answers
abbrev pub solvers_option : OptionNumbers
solvers_option = record { name = codes "solvers"; least = 1; most = 64; default = codes "2"; is_by_machine = true }

-- how many steps a search may take
abbrev pub budget_option : OptionNumbers
budget_option = record {
  name = codes "budget";
  least = 1;
  most = 1000000000;
  default = codes "10000000";
  is_by_machine = false;
}
