-- Settings that setters have made.
use Rattle.std.proofs.Common.{◌≡◌, ◌∙◌, Option, Some, Result, Ok, Err, sym, ap, subst}
use Rattle.std.specs.Result.{result_ok}
use Rattle.farm.specs.Settings.{Numbers, Sets, numbers_in}
use Rattle.farm.specs.declared.settings.Settings.{Settings}
use Rattle.farm.specs.declared.settings.SettingsFault.{SettingsFault}

-- settings that a setter has made of others with these numbers
pub set_to : (InRange : Type 0) (set : Numbers → Numbers) (made : Settings) (from numbers : Numbers) (fault : SettingsFault)
    (answer : Result Settings SettingsFault) (kept : Option Settings) → Sets InRange (set from) fault answer
    → kept ≡ result_ok answer → kept ≡ Some made → from ≡ numbers → numbers_in made ≡ set numbers
set_to InRange set made from numbers fault (Ok settings) kept h of is before =
    let all : Some settings ≡ Some made = sym of ∙ is in
    let same : settings ≡ made = cc in
    let now : numbers_in made ≡ set from = subst (λ (s : Settings). numbers_in s ≡ set from) same h.1 in
    now ∙ ap set before
set_to InRange set made from numbers fault (Err told) kept h of is before = cc
