-- A number of things, as it is printed.
use Rattle.std.specs.Prelude.{◌==◌, ℕ, List, ◌++◌, if◌then◌else◌}
use Rattle.std.specs.Fmt.{decimal}

-- the words for one thing, or the number and the words for any other number
abbrev pub counted : ℕ → List ℕ → List ℕ → List ℕ
counted count one others = if count == 1 then one else decimal count ++ others
