-- If par isn't 0, some contract stands: the highest one to which the bidding may lead.
use Rattle.std.proofs.Common.{◌≡◌, ◌≢◌, ℕ, zero, suc, ◌<◌, ◌≤◌, ◌⊎◌, inl, inr, refl, sym, ◌∙◌, ap, subst, arith}
use Rattle.std.specs.Prelude.{ℤ, pos, neg_ℤ, ◌≤ℤ◌, ◌<ℤ◌}
use Rattle.std.specs.Int.{int_min, int_max}
use Rattle.std.proofs.lemmas.Int.{ints, clamps}
use Rattle.std.proofs.lemmas.Bool.{cases_eq}
use Rattle.cards.specs.declared.seats.Side.{Side}
use Rattle.cards.specs.declared.seats.Side.TheVariants.{NorthSouth, EastWest}
use Rattle.cards.specs.Seats.{other_side}
use Rattle.par.specs.declared.contracts.Contract.{Contract}
use Rattle.par.proofs.IntLaws.{cases_int_lt, le-trans}
use Rattle.value_laws.proofs.IntLaws.{cases_int_eq, neg-swap, max-first}
use Rattle.par.proofs.Ladder.{worth, best, after, after-best, best-reached, after-others, other_side-twice}
use Rattle.par.proofs.Reaching.{value}

-- par, as a gain of this side
abbrev pub share : Side → ℤ → ℤ
share NorthSouth par = par
share EastWest par = neg_ℤ par

pub share-other : (side : Side) (par : ℤ) → share (other_side side) par ≡ neg_ℤ (share side par)
share-other NorthSouth par = refl
share-other EastWest par = omega (arith, ints)

-- a number below n of which something holds, or it holds of none
pub search_below : (P Q : ℕ → Type 0) → ((i : ℕ) → P i ⊎ Q i) → (n : ℕ) → ((i : ℕ) × (i < n) × P i) ⊎ ((i : ℕ) → i < n → Q i)
search_below P Q decide zero = inr (λ i h. absurd (omega arith))
search_below P Q decide (suc n) =
    elim (search_below P Q decide n) [
      | inl found ↦ inl (found.0, omega (arith, found.1), found.2)
      | inr none ↦ elim (decide n) [
        | inl here ↦ inl (n, omega arith, here)
        | inr not ↦ inr (λ i h. elim (cases_eq i n) [
          | inl same ↦ subst Q (sym same) not
          | inr apart ↦ none i (omega arith)
        ])
      ]
    ]

module _ (final : Contract → ℤ) (par : ℤ) where
  -- the bidding may lead to the side's contract with so many higher bids
  pub record Leads (side : Side) (above : ℕ) : Type 0 where
    pub gain : after final side above ≡ share side par
    pub bound : (s : Side) (higher : ℕ) → higher < above → after final s higher ≤ℤ share s par

  -- its final score is par, and the others have no better one above it
  pub record IsHighest : Type 0 where
    pub side : Side
    pub above : ℕ
    pub within : above ≤ 34
    pub score : worth final side above ≡ share side par
    pub unbeaten : (higher : ℕ) → higher < above → worth final (other_side side) higher ≤ℤ share (other_side side) par

  -- a side that is worth more than it gains there is overbid: the others gain as much by a higher bid
  overbid : (side : Side) (above : ℕ) → (after final side above ≡ worth final side above → ⊥) →
      (low : ℕ) × (low < above) × (after final side above ≡ neg_ℤ (best final (other_side side) low))
  overbid side zero apart = absurd (apart refl)
  overbid side (suc low) apart =
      (low, omega arith, min-other (worth final side (suc low)) (neg_ℤ (best final (other_side side) low)) apart)
    where
      min-other : (x y : ℤ) → (int_min x y ≡ x → ⊥) → int_min x y ≡ y
      min-other x y h = elim (cases_int_lt y x) [
        | inl less ↦ omega (arith, ints, clamps)
        | inr no_less ↦ absurd (h (omega (arith, ints, clamps)))
      ]

  -- a contract to which the bidding may lead, higher than this one
  Leads-higher : (side s : Side) (above higher : ℕ) → Leads side above → higher < above
      → after final s higher ≡ share s par → Leads s higher
  Leads-higher side s above higher leads less gain = record {
    gain = gain;
    bound = λ t more h. leads.bound t more (omega arith);
  }

  -- the others overbid
  Leads-overbid : (side : Side) (above low : ℕ) → Leads side above → low < above
      → after final side above ≡ neg_ℤ (best final (other_side side) low)
      → (higher : ℕ) × (higher < above) × Leads (other_side side) higher
  Leads-overbid side above low leads less e =
      let others = other_side side in
      let reached = best-reached final others low in
      let minus = share-other side par in
      let gain : after final others reached.above ≡ share others par =
      swap (after final others reached.above) (best final others low) (after final side above) (share side par) (share others par)
      reached.gain e leads.gain minus
      in
      let h : reached.above < above = omega (arith, reached.within) in
      (reached.above, h, Leads-higher side others above reached.above leads h gain)
    where
      swap : (a b x y z : ℤ) → a ≡ b → x ≡ neg_ℤ b → x ≡ y → z ≡ neg_ℤ y → a ≡ z
      swap a b x y z p q r s = omega (arith, ints)

  -- the others' better contract would be overbid
  Leads-answer : (side : Side) (above higher : ℕ) → Leads side above → higher < above
      → share (other_side side) par <ℤ worth final (other_side side) higher
      → (next : ℕ) × (next < above) × Leads side next
  Leads-answer side above higher leads less better =
      let others = other_side side in
      let most : after final others higher ≤ℤ share others par = leads.bound others higher less in
      let over = overbid others higher (λ e. apart (after final others higher) (worth final others higher) (share others par) e most better) in
      let own : after final others higher ≡ neg_ℤ (best final side over.0) =
      over.2 ∙ ap (λ s. neg_ℤ (best final s over.0)) (other_side-twice side)
      in
      let reached = best-reached final side over.0 in
      let h : reached.above < above = omega (arith, reached.within, over.1) in
      let gain : after final side reached.above ≡ share side par =
      meet (after final side reached.above) (best final side over.0) (after final others higher) (share side par) (share others par)
      reached.gain own most (share-other side par) (leads.bound side reached.above h)
      in
      (reached.above, h, Leads-higher side side above reached.above leads h gain)
    where
      apart : (x y z : ℤ) → x ≡ y → x ≤ℤ z → z <ℤ y → ⊥
      apart x y z e h k = absurd (omega (arith, ints))

      meet : (a b x y z : ℤ) → a ≡ b → x ≡ neg_ℤ b → x ≤ℤ z → z ≡ neg_ℤ y → a ≤ℤ y → a ≡ y
      meet a b x y z p q h e k = omega (arith, ints)

  -- the contract itself, or a higher one to which the bidding may lead
  step : (side : Side) (above : ℕ) → above ≤ 34 → Leads side above
      → IsHighest ⊎ ((s : Side) × (higher : ℕ) × (higher < above) × Leads s higher)
  step side above within leads =
      let others = other_side side in
      elim (cases_int_eq (worth final side above) (share side par)) [
        | inr apart ↦
            let over = overbid side above (λ e. apart (sym e ∙ leads.gain)) in
            let next = Leads-overbid side above over.0 leads over.1 over.2 in
            inr (others, next.0, next.1, next.2)
        | inl score ↦ elim (search_below (λ i. share others par <ℤ worth final others i) (λ i. worth final others i ≤ℤ share others par)
            (λ i. cases_int_lt (share others par) (worth final others i)) above) [
              | inr none ↦ inl (record { side = side; above = above; within = within; score = score; unbeaten = none })
              | inl found ↦
                  let next = Leads-answer side above found.0 leads found.1 found.2 in
                  inr (side, next.0, next.1, next.2)
            ]
      ]

  pub highest : (room : ℕ) (side : Side) (above : ℕ) → above < room → above ≤ 34 → Leads side above → IsHighest
  highest zero side above small within leads = absurd (omega arith)
  highest (suc room) side above small within leads =
      elim (step side above within leads) [
        | inl found ↦ found
        | inr next ↦ highest room next.0 next.1 (omega (arith, next.2)) (omega (arith, next.2)) next.3
      ]

-- what holds of a side and of the other one holds of both
both : (P : Side → Type 0) (side : Side) → P side → P (other_side side) → (s : Side) → P s
both P NorthSouth own others NorthSouth = own
both P NorthSouth own others EastWest = others
both P EastWest own others NorthSouth = others
both P EastWest own others EastWest = own

module _ (final : Contract → ℤ) (par : ℤ) (dealer : Side)
    (is : value final dealer (other_side dealer) ≡ share dealer par) where
  -- the dealer's side does best by a bid
  Leads-own : int_min (pos 0) (neg_ℤ (best final (other_side dealer) 34)) ≤ℤ best final dealer 34
      → (above : ℕ) × (above ≤ 34) × Leads final par dealer above
  Leads-own more =
      let reached = best-reached final dealer 34 in
      let most : best final dealer 34 ≡ share dealer par = sym (max-first _ _ more) ∙ is in
      let gain : after final dealer reached.above ≡ share dealer par = reached.gain ∙ most in
      let minus = share-other dealer par in (
        reached.above,
        reached.within,
        record {
          gain = gain;
          bound = both (λ s. (higher : ℕ) → higher < reached.above → after final s higher ≤ℤ share s par) dealer
              (λ higher h. rw (← most) (after-best final dealer higher 34 (omega (arith, reached.within))))
              (λ higher h. rw minus (neg-swap _ _ (subst (λ (x : ℤ). x ≤ℤ neg_ℤ (after final (other_side dealer) higher)) gain
              (after-others final dealer higher reached.above h))));
        },
      )

  -- the dealer's side does best by a pass, and the others by a bid
  Leads-others : share dealer par ≢ pos 0 → best final dealer 34 <ℤ int_min (pos 0) (neg_ℤ (best final (other_side dealer) 34))
      → (above : ℕ) × (above ≤ 34) × Leads final par (other_side dealer) above
  Leads-others some less =
      let others = other_side dealer in
      let reached = best-reached final others 34 in
      let minus = share-other dealer par in
      let own : best final dealer 34 ≤ℤ share dealer par = less-own (best final dealer 34) (best final others 34) (share dealer par) is in
      let most : best final others 34 ≡ share others par = other-best (best final dealer 34) (best final others 34) (share dealer par) (share others par) is minus less some in (
        reached.above,
        reached.within,
        record {
          gain = reached.gain ∙ most;
          bound = both (λ s. (higher : ℕ) → higher < reached.above → after final s higher ≤ℤ share s par) dealer
              (λ higher h. le-trans _ _ _ (after-best final dealer higher 34 (omega (arith, reached.within))) own)
              (λ higher h. rw (← most) (after-best final others higher 34 (omega (arith, reached.within))));
        },
      )
    where
      less-own : (x y v : ℤ) → int_max x (int_min (pos 0) (neg_ℤ y)) ≡ v → x ≤ℤ v
      less-own x y v e = omega (arith, ints, clamps)

      other-best : (x y v w : ℤ) → int_max x (int_min (pos 0) (neg_ℤ y)) ≡ v → w ≡ neg_ℤ v
          → x <ℤ int_min (pos 0) (neg_ℤ y) → v ≢ pos 0 → y ≡ w
      other-best x y v w e k less apart =
          elim (cases_int_lt (neg_ℤ y) (pos 0)) [
            | inl below ↦ omega (arith, ints, clamps)
            | inr no_less ↦ absurd (apart (omega (arith, ints, clamps)))
          ]

  pub some_highest : share dealer par ≢ pos 0 → IsHighest final par
  some_highest some =
      elim (cases_int_lt (best final dealer 34) (int_min (pos 0) (neg_ℤ (best final (other_side dealer) 34)))) [
        | inl less ↦
            let start = Leads-others some less in
            highest final par 35 (other_side dealer) start.0 (omega (arith, start.1)) start.1 start.2
        | inr more ↦
            let start = Leads-own more in
            highest final par 35 dealer start.0 (omega (arith, start.1)) start.1 start.2
      ]
