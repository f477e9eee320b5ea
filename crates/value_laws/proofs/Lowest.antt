-- The laws about par contracts.
use Rattle.std.proofs.Common.{◌≡◌, ◌≢◌, ℕ, zero, suc, ◌<◌, ◌≤◌, ◌⊎◌, inl, inr, Some, get_or, refl, sym, ◌∙◌, ap, subst, arith}
use Rattle.std.specs.Prelude.{ℤ, pos, neg_ℤ, ◌≤ℤ◌, ◌<ℤ◌}
use Rattle.std.proofs.lemmas.Int.{ints}
use Rattle.std.proofs.lemmas.Bool.{cases_eq}
use Rattle.cards.specs.declared.seats.Side.{Side}
use Rattle.cards.specs.declared.seats.Side.TheVariants.{NorthSouth, EastWest}
use Rattle.cards.specs.Seats.{other_side, side_of}
use Rattle.par.specs.declared.bids.Level.{Level}
use Rattle.par.specs.declared.bids.Level.TheVariants.{One}
use Rattle.par.specs.declared.bids.Bid.{Bid}
use Rattle.par.specs.Bids.{level_number, Supersedes}
use Rattle.par.specs.Scores.{score}
use Rattle.par.proofs.BidLaws.{levels, level_number-in_place, level-above, level-below, one_level}
use Rattle.par.specs.declared.contracts.Contract.{Contract}
use Rattle.par.specs.FinalScores.{gain_by, gain_of, final_score}
use Rattle.par.specs.ParContracts.{Stands, IsParContract, at_level}
use Rattle.value_laws.specs.ParLaws.{HasParContract}
use Rattle.par.proofs.IntLaws.{cases_int_lt, neg-neg}
use Rattle.value_laws.proofs.IntLaws.{cases_int_eq}
use Rattle.par.proofs.Ladder.{rung, above_of, above_of-rung, rung-above_of, above_of-below, above_of-less, Supersedes-rung, worth}
use Rattle.par.proofs.Plans.{contract_of}
use Rattle.par.proofs.Reaching.{value, north_south_value, value_is_par, worth-is}
use Rattle.value_laws.proofs.PlayedOut.{one_par}
use Rattle.value_laws.proofs.Standing.{share, share-other, search_below, IsHighest, some_highest}

gain_by-other : (side : Side) (points : ℤ) → gain_by (other_side side) side points ≡ neg_ℤ points
gain_by-other NorthSouth points = refl
gain_by-other EastWest points = refl

-- a level of the number after this one
abbrev level_in : ℕ → Level
level_in place = get_or levels place One

module _ (final : Contract → ℤ) (par : ℤ) where
  Stands-highest : (found : IsHighest final par) → Stands final par (contract_of found.side (rung found.above))
  Stands-highest found = record {
    score = by_side found.side found.score;
    unbeaten = λ higher supersedes.
        let less : above_of higher < found.above =
        subst (λ (n : ℕ). above_of higher < n) (above_of-rung found.above found.within) (above_of-less higher (rung found.above) supersedes)
        in
        let most = rw (worth-is final (other_side found.side) higher) at (found.unbeaten (above_of higher) less) in
        rw (gain_by-other found.side (worth final found.side found.above), found.score, ← share-other found.side par) most;
  }
    where
      by_side : (side : Side) → worth final side found.above ≡ share side par →
          gain_of final NorthSouth (Some (contract_of side (rung found.above))) ≡ par
      by_side NorthSouth e = e
      by_side EastWest e = ap neg_ℤ e ∙ neg-neg par

  beaten : (contract : Contract) (above : ℕ) → above < above_of contract.bid
      → gain_of final (other_side contract.side) (Some contract) <ℤ worth final (other_side contract.side) above
      → Stands final par contract → ⊥
  beaten contract above less better stands =
      let supersedes : Supersedes (rung above) contract.bid =
      subst (λ (bid : Bid). Supersedes (rung above) bid) (rung-above_of contract.bid)
      (Supersedes-rung above (above_of contract.bid) less (above_of-below contract.bid))
      in
      apart _ _ (stands.unbeaten (rung above) supersedes) better
    where
      apart : (x y : ℤ) → x ≤ℤ y → y <ℤ x → ⊥
      apart x y h k = absurd (omega (arith, ints))

  decide_stands : (contract : Contract) → Stands final par contract ⊎ (Stands final par contract → ⊥)
  decide_stands contract =
      let others = other_side contract.side in
      let gain = gain_of final others (Some contract) in
      elim (cases_int_eq (gain_of final NorthSouth (Some contract)) par) [
        | inr apart ↦ inr (λ stands. apart stands.score)
        | inl score ↦ elim (search_below (λ i. gain <ℤ worth final others i) (λ i. worth final others i ≤ℤ gain)
            (λ i. cases_int_lt gain (worth final others i)) (above_of contract.bid)) [
              | inl found ↦ inr (beaten contract found.0 found.1 found.2)
              | inr none ↦ inl (record {
                score = score;
                unbeaten = λ higher supersedes.
                    rw (worth-is final others higher) at (none (above_of higher) (above_of-less higher contract.bid supersedes));
              })
            ]
      ]

  -- the lowest level at which a contract of this side and denomination stands, if it is one of the first n levels
  abbrev LowestWithin : Contract → ℕ → Type 0
  LowestWithin contract n = (level : Level) × (level_number level ≤ n) × IsParContract final par (at_level contract level)

  abbrev NoneWithin : Contract → ℕ → Type 0
  NoneWithin contract n = (level : Level) → level_number level ≤ n → Stands final par (at_level contract level) → ⊥

  lowest_within : (contract : Contract) (n : ℕ) → n ≤ 7 → LowestWithin contract n ⊎ NoneWithin contract n
  lowest_within contract zero small = inr (λ level h stands. absurd (omega (arith, level-above level)))
  lowest_within contract (suc n) small =
      let level = level_in n in
      let number : level_number level ≡ suc n = level_number-in_place n (omega arith) in
      elim (lowest_within contract n (omega arith)) [
        | inl found ↦ inl (found.0, omega (arith, found.1), found.2)
        | inr none ↦ elim (decide_stands (at_level contract level)) [
          | inl stands ↦ inl (
            level,
            omega arith,
            record {
              stands = stands;
              lowest = λ lower. none lower.0 (omega (arith, lower.1)) lower.2;
            },
          )
          | inr not ↦ inr (λ other h stands. elim (cases_eq (level_number other) (suc n)) [
            | inl same ↦ not (subst (λ (l : Level). Stands final par (at_level contract l)) (one_level other level (same ∙ sym number)) stands)
            | inr apart ↦ none other (omega arith) stands
          ])
        ]
      ]

  pub some_lowest : (contract : Contract) → Stands final par contract → (found : Contract) × IsParContract final par found
  some_lowest contract stands =
      elim (lowest_within contract 7 (omega arith)) [
        | inl found ↦ (at_level contract found.0, found.2)
        | inr none ↦ absurd (none contract.bid.level (level-below contract.bid.level) stands)
      ]

value-share : (final : Contract → ℤ) (dealer : Side) → value final dealer (other_side dealer) ≡ share dealer (north_south_value final dealer)
value-share final NorthSouth = refl
value-share final EastWest = sym (neg-neg (value final EastWest NorthSouth))

share-some : (side : Side) (par : ℤ) → par ≢ pos 0 → share side par ≢ pos 0
share-some NorthSouth par some e = some e
share-some EastWest par some e = some (omega (arith, ints))

-- if par isn't 0, there is a par contract
pub has_par_contract : HasParContract
has_par_contract tricks dealer vulnerable par is_par some =
    let final = final_score tricks vulnerable in
    let side = side_of dealer in
    let same : north_south_value final side ≡ par =
    one_par tricks dealer vulnerable (north_south_value final side) par (value_is_par tricks dealer vulnerable) is_par
    in
    let is : value final side (other_side side) ≡ share side par = value-share final side ∙ ap (share side) same in
    let found = some_highest final par side is (share-some side par some) in
    some_lowest final par (contract_of found.side (rung found.above)) (Stands-highest final par found)
