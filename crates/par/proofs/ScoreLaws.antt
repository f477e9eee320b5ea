-- The penalty for all undertricks in one step, and who scores.
use Rattle.std.proofs.Common.{◌≡◌, ℕ, zero, suc, ◌+◌, ◌-◌, ◌*◌, ◌<◌, ◌≤◌, pos, neg_ℤ, ◌<ℤ◌, inl, inr, ltb, refl, arith, lt-ltb, le-ltb}
use Rattle.std.proofs.lemmas.Bool.{cases_Bool}
use Rattle.std.proofs.lemmas.Int.{ints}
use Rattle.par.specs.declared.scores.Vulnerability.{Vulnerability}
use Rattle.par.specs.declared.scores.Doubling.{Doubling}
use Rattle.par.specs.declared.scores.Vulnerability.TheVariants.{NotVulnerable, Vulnerable}
use Rattle.par.specs.declared.scores.Doubling.TheVariants.{Undoubled, Doubled}
use Rattle.par.specs.Scores.{undertrick_penalty, penalty, tricks_bid, trick_score, game_or_part_score, made_score}
use Rattle.par.specs.Laws.{MadeContractsGain, FailingContractsLose}

pub undoubled : (under : ℕ) → penalty Undoubled NotVulnerable under ≡ 50 * under
undoubled zero = refl
undoubled (suc under) = omega (arith, undoubled under)

pub undoubled_vulnerable : (under : ℕ) → penalty Undoubled Vulnerable under ≡ 100 * under
undoubled_vulnerable zero = refl
undoubled_vulnerable (suc under) = omega (arith, undoubled_vulnerable under)

pub doubled_few : (under : ℕ) → under ≤ 3 → penalty Doubled NotVulnerable under ≡ 200 * under - 100
doubled_few zero few = refl
doubled_few (suc zero) few = refl
doubled_few (suc (suc zero)) few = refl
doubled_few (suc (suc (suc zero))) few = refl
doubled_few (suc (suc (suc (suc under)))) few = absurd (omega arith)

from_three : (more : ℕ) → penalty Doubled NotVulnerable (suc (suc (suc more))) ≡ 500 + 300 * more
from_three zero = refl
from_three (suc more) =
    let one : undertrick_penalty Doubled NotVulnerable (suc (suc (suc more))) ≡ 300 = refl in
    omega (arith, one, from_three more)

pub doubled_many : (under : ℕ) → 3 < under → penalty Doubled NotVulnerable under ≡ 300 * under - 400
doubled_many zero many = absurd (omega arith)
doubled_many (suc zero) many = absurd (omega arith)
doubled_many (suc (suc zero)) many = absurd (omega arith)
doubled_many (suc (suc (suc more))) many = omega (arith, from_three more)

from_one : (more : ℕ) → penalty Doubled Vulnerable (suc more) ≡ 200 + 300 * more
from_one zero = refl
from_one (suc more) =
    let one : undertrick_penalty Doubled Vulnerable (suc more) ≡ 300 = refl in
    omega (arith, one, from_one more)

pub doubled_vulnerable : (under : ℕ) → penalty Doubled Vulnerable under ≡ 300 * under - 100
doubled_vulnerable zero = refl
doubled_vulnerable (suc more) = omega (arith, from_one more)

undertrick_penalty-above : (doubling : Doubling) (vulnerability : Vulnerability) (others : ℕ) →
    0 < undertrick_penalty doubling vulnerability others
undertrick_penalty-above Undoubled NotVulnerable others = omega arith
undertrick_penalty-above Undoubled Vulnerable others = omega arith
undertrick_penalty-above Doubled NotVulnerable zero = omega arith
undertrick_penalty-above Doubled NotVulnerable (suc zero) = omega arith
undertrick_penalty-above Doubled NotVulnerable (suc (suc zero)) = omega arith
undertrick_penalty-above Doubled NotVulnerable (suc (suc (suc others))) = omega arith
undertrick_penalty-above Doubled Vulnerable zero = omega arith
undertrick_penalty-above Doubled Vulnerable (suc others) = omega arith

-- an undertrick costs something
pub penalty-above : (doubling : Doubling) (vulnerability : Vulnerability) (under : ℕ) →
    0 < under → 0 < penalty doubling vulnerability under
penalty-above doubling vulnerability zero some = absurd (omega arith)
penalty-above doubling vulnerability (suc others) some =
    omega (arith, undertrick_penalty-above doubling vulnerability others)

above_zero : (points : ℕ) → 0 < points → pos 0 <ℤ pos points
above_zero points some = omega (arith, ints)

below_zero : (lost : ℕ) → 0 < lost → neg_ℤ (pos lost) <ℤ pos 0
below_zero zero some = absurd (omega arith)
below_zero (suc lost) some = omega (arith, ints)

premium-above : (vulnerability : Vulnerability) (points : ℕ) → 0 < game_or_part_score vulnerability points
premium-above NotVulnerable points = elim (cases_Bool (ltb points 100)) [ inl t ↦ rw t (omega arith) | inr f ↦ rw f (omega arith) ]
premium-above Vulnerable points = elim (cases_Bool (ltb points 100)) [ inl t ↦ rw t (omega arith) | inr f ↦ rw f (omega arith) ]

pub made : MadeContractsGain
made bid doubling vulnerability tricks makes =
    let premium = premium-above vulnerability (trick_score bid doubling) in
    let over = tricks - tricks_bid bid in
    let some : 0 < made_score bid doubling vulnerability over = omega arith in
    rw (le-ltb tricks (tricks_bid bid) makes) (above_zero (made_score bid doubling vulnerability over) some)

pub failing : FailingContractsLose
failing bid doubling vulnerability tricks fails =
    rw (lt-ltb tricks (tricks_bid bid) fails)
    (below_zero (penalty doubling vulnerability (tricks_bid bid - tricks))
    (penalty-above doubling vulnerability (tricks_bid bid - tricks) (omega arith)))
