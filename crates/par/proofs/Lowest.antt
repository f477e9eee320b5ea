-- From a contract that stands to a par contract.
use Rattle.std.proofs.Common.{◌≡◌, ◌≢◌, ℕ, ◌<◌, inl, inr, arith}
use Rattle.std.specs.Prelude.{ℤ, pos, ◌<ℤ◌}
use Rattle.std.proofs.lemmas.Int.{ints}
use Rattle.std.proofs.lemmas.Bool.{cases_lt}
use Rattle.cards.specs.declared.seats.Seat.{Seat}
use Rattle.cards.specs.declared.seats.Side.{Side}
use Rattle.cards.specs.declared.seats.Side.TheVariants.{NorthSouth, EastWest}
use Rattle.cards.specs.declared.suits.Trump.{Trump}
use Rattle.par.specs.Scores.{score, tricks_bid}
use Rattle.par.proofs.ScoreLaws.{made, failing}
use Rattle.par.specs.declared.vulnerable_sides.VulnerableSides.{VulnerableSides}
use Rattle.par.specs.declared.contracts.Contract.{Contract}
use Rattle.par.specs.VulnerableSides.{vulnerability_of}
use Rattle.par.specs.FinalScores.{gain_by, final_score, final_outcome, final_doubling, most_tricks}
use Rattle.par.specs.Laws.{NoneAtZero}

-- no final score is 0
final_score-some : (tricks : Seat → Trump → ℕ) (vulnerable : VulnerableSides) (contract : Contract) →
    final_score tricks vulnerable contract ≢ pos 0
final_score-some tricks vulnerable contract e =
    let taken = most_tricks tricks contract.side contract.bid.denomination in
    let doubling = final_doubling (final_outcome tricks contract) in
    let side = vulnerability_of vulnerable contract.side in
    elim (cases_lt taken (tricks_bid contract.bid)) [
      | inl fails ↦ below (score contract.bid doubling side taken) (failing contract.bid doubling side taken fails) e
      | inr makes ↦ above (score contract.bid doubling side taken) (made contract.bid doubling side taken makes) e
    ]
  where
    below : (x : ℤ) → x <ℤ pos 0 → x ≡ pos 0 → ⊥
    below x h e = absurd (omega (arith, ints))

    above : (x : ℤ) → pos 0 <ℤ x → x ≡ pos 0 → ⊥
    above x h e = absurd (omega (arith, ints))

-- if par is 0, there is none
pub none_at_zero : NoneAtZero
none_at_zero tricks vulnerable contract par =
    final_score-some tricks vulnerable contract
    (by_side contract.side (final_score tricks vulnerable contract) par.stands.score)
  where
    by_side : (side : Side) (points : ℤ) → gain_by NorthSouth side points ≡ pos 0 → points ≡ pos 0
    by_side NorthSouth points e = e
    by_side EastWest points e = omega (arith, ints)
