-- The list of the par contracts.
use Rattle.std.proofs.Common.{◌≡◌, ℕ, ◌+◌, ◌-◌, ◌*◌, ◌<◌, ◌≤◌, ◌⊎◌, inl, inr, eqb}
use Rattle.std.proofs.Common.{List, [], ◌∷◌, ◌++◌, length, map, get_or, refl, sym, ◌∙◌, ap, subst, arith}
use Rattle.std.specs.Prelude.{ℤ, ◌≤ℤ◌, ◌<ℤ◌, AllPairs, Contains}
use Rattle.std.specs.List.{IsDistinct}
use Rattle.std.proofs.lemmas.List.{get_or-map, length-map}
use Rattle.std.proofs.lemmas.List.Elements.{Contains-get_or, Contains-push, Contains-push_cases, Contains-append_left}
use Rattle.std.proofs.lemmas.List.Quantifiers.{all_pairs_push}
use Rattle.std.proofs.lemmas.Map.Keys.{IsDistinct-from_apart}
use Rattle.std.proofs.lemmas.Map.Steps.{length-le_from_distinct_below}
use Rattle.std.proofs.lemmas.Map.Views.{Contains-from_any}
use Rattle.std.proofs.lemmas.Int.{ints}
use Rattle.std.proofs.lemmas.Bool.{cases_lt, cases_eq, eqb-true, ne_eqb}
use Rattle.cards.specs.declared.suits.Trump.{Trump}
use Rattle.cards.specs.declared.suits.Trump.TheVariants as trump
use Rattle.cards.specs.declared.seats.Side.{Side}
use Rattle.cards.specs.declared.seats.Side.TheVariants.{NorthSouth, EastWest}
use Rattle.cards.specs.Seats.{side_number}
use Rattle.par.specs.declared.bids.Bid.{Bid}
use Rattle.par.specs.declared.bids.Level.{Level}
use Rattle.par.specs.declared.bids.Level.TheVariants.{One}
use Rattle.par.specs.Bids.{bid_number, level_number, rank_of}
use Rattle.par.proofs.BidLaws.{one_bid, one_level, in_order, bid_number-below, rank-below, denomination_at, denomination_at-rank}
use Rattle.cards.specs.declared.seats.Seat.{Seat}
use Rattle.par.specs.declared.vulnerable_sides.VulnerableSides.{VulnerableSides}
use Rattle.par.specs.declared.contracts.Contract.{Contract}
use Rattle.par.specs.declared.contracts.ParContract.{ParContract}
use Rattle.par.specs.FinalScores.{final_score}
use Rattle.par.specs.ParContracts.{Stands, IsParContract, at_level, IsListedBefore, as_printed, AreParContracts}

-- what holds of the bids of the numbers so far and of the next one
pub one_more_bid : (P : Bid → Type 0) (low number : ℕ) (next : Bid) → bid_number next ≡ number → P next
    → ((bid : Bid) → low < bid_number bid → bid_number bid < number → P bid)
    → (bid : Bid) → low < bid_number bid → bid_number bid < number + 1 → P bid
one_more_bid P low number next is here before bid above below =
    elim (cases_eq (bid_number bid) number) [
      | inl same ↦ subst P (one_bid next bid (is ∙ sym same)) here
      | inr apart ↦ before bid above (omega arith)
    ]

pub better_apart : (x y a b : ℤ) → x ≡ a → y ≡ b → y <ℤ x → a ≤ℤ b → ⊥
better_apart x y a b p q h k = absurd (omega (arith, ints))

-- the same of levels
pub one_more_level : (P : Level → Type 0) (number : ℕ) (next : Level) → level_number next ≡ number → P next
    → ((level : Level) → level_number level < number → P level)
    → (level : Level) → level_number level < number + 1 → P level
one_more_level P number next is here before level below =
    elim (cases_eq (level_number level) number) [
      | inl same ↦ subst P (one_level next level (is ∙ sym same)) here
      | inr apart ↦ before level (omega arith)
    ]

-- ---- the places of contracts in the list of all
abbrev pub place_of : Contract → ℕ
place_of contract = 2 * (34 - bid_number contract.bid) + side_number contract.side

side-below : (side : Side) → side_number side < 2
side-below NorthSouth = omega arith
side-below EastWest = omega arith

one_side : (side other : Side) → side_number side ≡ side_number other → side ≡ other
one_side NorthSouth NorthSouth e = refl
one_side EastWest EastWest e = refl
one_side NorthSouth EastWest e = absurd (omega (arith, e))
one_side EastWest NorthSouth e = absurd (omega (arith, e))

pub place-below : (contract : Contract) → place_of contract < 70
place-below contract = omega (arith, side-below contract.side)

abbrev contract_of : Side → Bid → Contract
contract_of side bid = record { side = side; bid = bid }

same_contract : (one other : Contract) → one.side ≡ other.side → one.bid ≡ other.bid → one ≡ other
same_contract one other sides bids = ap (λ side. contract_of side one.bid) sides ∙ ap (contract_of other.side) bids

-- the numbers behind a place
parts : (a b s t : ℕ) → s < 2 → t < 2 → 2 * a + s ≡ 2 * b + t → (a ≡ b) × (s ≡ t)
parts a b s t h k e = (omega arith, omega arith)

pub one_place : (one other : Contract) → place_of one ≡ place_of other → one ≡ other
one_place one other e =
    let split = parts (34 - bid_number one.bid) (34 - bid_number other.bid) (side_number one.side) (side_number other.side)
    (side-below one.side) (side-below other.side) e
    in
    let numbers : bid_number one.bid ≡ bid_number other.bid =
    omega (arith, split.0, bid_number-below one.bid, bid_number-below other.bid)
    in
    same_contract one other (one_side one.side other.side split.1) (one_bid one.bid other.bid numbers)

-- contracts are listed by their places
pub IsListedBefore-place : (one other : Contract) → place_of one < place_of other → IsListedBefore one other
IsListedBefore-place one other less =
    let below = bid_number-below one.bid in
    let below' = bid_number-below other.bid in
    let side = side-below one.side in
    let side' = side-below other.side in
    elim (cases_lt (bid_number other.bid) (bid_number one.bid)) [
      | inl higher ↦ inl ((in_order one.bid other.bid).1 higher)
      | inr no_higher ↦
          let bids : bid_number one.bid ≡ bid_number other.bid = omega arith in
          let first : side_number one.side ≡ 0 = omega arith in
          let second : side_number other.side ≡ 1 = omega arith in
          inr (one_bid one.bid other.bid bids, one_side one.side NorthSouth first, one_side other.side EastWest second)
    ]

-- ---- a side has one par contract in a denomination
abbrev key_of : Contract → ℕ
key_of contract = 2 * rank_of contract.bid.denomination + side_number contract.side

key-below : (contract : Contract) → key_of contract < 10
key-below contract = omega (arith, rank-below contract.bid.denomination, side-below contract.side)

module _ (final : Contract → ℤ) (par : ℤ) where
  no_lower : (one other : Contract) → one.side ≡ other.side → one.bid.denomination ≡ other.bid.denomination
      → IsParContract final par one → IsParContract final par other
      → level_number one.bid.level < level_number other.bid.level → ⊥
  no_lower one other sides denominations is is' less =
      let same : one ≡ at_level other one.bid.level =
      ap (λ side. contract_of side one.bid) sides
      ∙ ap (λ d. contract_of other.side (record { level = one.bid.level; denomination = d })) denominations
      in
      is'.lowest (one.bid.level, less, subst (Stands final par) same is.stands)

  one_key : (one other : Contract) → IsParContract final par one → IsParContract final par other
      → key_of one ≡ key_of other → one ≡ other
  one_key one other is is' e =
      let split = parts (rank_of one.bid.denomination) (rank_of other.bid.denomination) (side_number one.side)
      (side_number other.side) (side-below one.side) (side-below other.side) e
      in
      let sides : one.side ≡ other.side = one_side one.side other.side split.1 in
      let denominations : one.bid.denomination ≡ other.bid.denomination =
      sym (denomination_at-rank one.bid.denomination)
      ∙ (ap denomination_at split.0 ∙ denomination_at-rank other.bid.denomination)
      in
      elim (cases_lt (level_number one.bid.level) (level_number other.bid.level)) [
        | inl less ↦ absurd (no_lower one other sides denominations is is' less)
        | inr not ↦ elim (cases_lt (level_number other.bid.level) (level_number one.bid.level)) [
          | inl less ↦ absurd (no_lower other one (sym sides) (sym denominations) is' is less)
          | inr not' ↦
              let levels : one.bid.level ≡ other.bid.level = one_level one.bid.level other.bid.level (omega arith) in
              same_contract one other sides
              (ap (λ (l : Level). bid_of l one.bid.denomination) levels ∙ ap (bid_of other.bid.level) denominations)
        ]
      ]
    where
      bid_of : Level → Trump → Bid
      bid_of level denomination = record { level = level; denomination = denomination }

  -- ---- the list as far as a place
  pub record Listed (place : ℕ) (contracts : List Contract) : Type 0 where
    pub legal : (contract : Contract) → Contains contracts contract → IsParContract final par contract
    pub before : (contract : Contract) → Contains contracts contract → place_of contract < place
    pub all : (contract : Contract) → place_of contract < place → IsParContract final par contract → Contains contracts contract
    pub rising : AllPairs (λ one other. place_of one < place_of other) contracts

  pub Listed-none : Listed 0 []
  Listed-none = record {
    legal = λ contract h. absurd (omega (arith, h.1));
    before = λ contract h. absurd (omega (arith, h.1));
    all = λ contract less. absurd (omega arith);
    rising = λ i j d less h. absurd (omega arith);
  }

  next_place : (contract other : Contract) (place : ℕ) → place_of contract ≡ place → place_of other < place + 1
      → (place_of other < place) ⊎ (other ≡ contract)
  next_place contract other place at less =
      elim (cases_eq (place_of other) place) [
        | inl same ↦ inr (one_place other contract (same ∙ sym at))
        | inr apart ↦ inl (omega arith)
      ]

  pub Listed-more : (place : ℕ) (contracts : List Contract) (contract : Contract) → place_of contract ≡ place
      → Listed place contracts → IsParContract final par contract → Listed (place + 1) (contracts ++ contract ∷ [])
  Listed-more place contracts contract at listed is = record {
    legal = λ other h. elim (Contains-push_cases contracts contract other h) [
      | inl old ↦ listed.legal other old
      | inr same ↦ subst (IsParContract final par) same is
    ];
    before = λ other h. elim (Contains-push_cases contracts contract other h) [
      | inl old ↦ let less : place_of other < place = listed.before other old in omega arith
      | inr same ↦ omega (arith, ap place_of same)
    ];
    all = λ other less is'. elim (next_place contract other place at less) [
      | inl old ↦ Contains-append_left contracts (contract ∷ []) other (listed.all other old is')
      | inr same ↦ subst (Contains (contracts ++ contract ∷ [])) (sym same) (Contains-push contracts contract)
    ];
    rising = all_pairs_push (λ one other. place_of one < place_of other) contracts contract listed.rising
        (λ k d h. let less : place_of (get_or contracts k d) < place = listed.before (get_or contracts k d) (Contains-get_or contracts k d h) in omega arith);
  }

  pub Listed-skip : (place : ℕ) (contracts : List Contract) (contract : Contract) → place_of contract ≡ place
      → Listed place contracts → (IsParContract final par contract → ⊥) → Listed (place + 1) contracts
  Listed-skip place contracts contract at listed not = record {
    legal = listed.legal;
    before = λ other h. let less : place_of other < place = listed.before other h in omega arith;
    all = λ other less is. elim (next_place contract other place at less) [
      | inl old ↦ listed.all other old is
      | inr same ↦ absurd (not (subst (IsParContract final par) same is))
    ];
    rising = listed.rising;
  }

  -- at most ten
  pub Listed-few : (place : ℕ) (contracts : List Contract) → Listed place contracts → length contracts ≤ 10
  Listed-few place contracts listed =
      let keys = map key_of contracts in
      let same : length keys ≡ length contracts = length-map contracts key_of in
      let at : (i : ℕ) (d : ℕ) → i < length contracts → get_or keys i d ≡ key_of (get_or contracts i some) =
      λ i d h. get_or-map key_of contracts i some d h
      in
      let distinct : IsDistinct eqb keys = IsDistinct-from_apart eqb keys (λ i j d less h.
      let second : j < length contracts = omega arith in
      let first : i < length contracts = omega arith in
      let one = get_or contracts i some in
      let other = get_or contracts j some in
      let apart : key_of one ≡ key_of other → ⊥ = λ e.
      let is = listed.legal one (Contains-get_or contracts i some first) in
      let is' = listed.legal other (Contains-get_or contracts j some second) in
      let places : place_of one < place_of other = listed.rising i j some less second in
      absurd (omega (arith, ap place_of (one_key one other is is' e)))
      in
      rw (at i d first, at j d second) (ne_eqb (key_of one) (key_of other) apart))
      in
      let few : length keys ≤ 10 = length-le_from_distinct_below keys 10 distinct (λ q found.
      let contains = Contains-from_any (λ x y. eqb-true x y) q keys found in
      let place : contains.0 < length contracts = omega (arith, contains.1) in
      let key : key_of (get_or contracts contains.0 some) ≡ q = sym (at contains.0 q place) ∙ contains.2 in
      omega (arith, key-below (get_or contracts contains.0 some)))
      in
      omega arith
    where
      some : Contract
      some = record { side = NorthSouth; bid = record { level = One; denomination = trump.Nt } }

pub AreParContracts-listed : (tricks : Seat → Trump → ℕ) (vulnerable : VulnerableSides) (par : ℤ) (contracts : List Contract)
    (list : List ParContract) → Listed (final_score tricks vulnerable) par 70 contracts
    → list ≡ map (as_printed tricks) contracts → AreParContracts tricks vulnerable par list
AreParContracts-listed tricks vulnerable par contracts list listed is = record {
  contracts = contracts;
  exactly = λ contract. (listed.legal contract, listed.all contract (place-below contract));
  in_order = λ i j d less h. IsListedBefore-place _ _ (listed.rising i j d less h);
  printed = is;
}
