-- The numbers of bids.
use Rattle.std.proofs.Common.{◌≡◌, ℕ, zero, suc, ◌-◌, ◌/◌, ◌%◌, ◌<◌, ◌≤◌, List, [], ◌∷◌, get_or, refl, sym, ◌∙◌, ap, inl, inr, arith}
use Rattle.std.proofs.lemmas.Bool.{cases_lt}
use Rattle.cards.specs.declared.suits.Suit.TheVariants.{Spades, Hearts, Diamonds, Clubs}
use Rattle.cards.specs.declared.suits.Trump.{Trump}
use Rattle.cards.specs.declared.suits.Trump.TheVariants as trump
use Rattle.par.specs.declared.bids.Level.{Level}
use Rattle.par.specs.declared.bids.Level.TheVariants.{One, Two, Three, Four, Five, Six, Seven}
use Rattle.par.specs.declared.bids.Bid.{Bid}
use Rattle.par.specs.Bids.{level_number, rank_of, bid_number}
use Rattle.par.specs.Laws.{AreInOrder, HaveNumbers}

pub level-above : (level : Level) → 1 ≤ level_number level
level-above One = omega arith
level-above Two = omega arith
level-above Three = omega arith
level-above Four = omega arith
level-above Five = omega arith
level-above Six = omega arith
level-above Seven = omega arith

pub level-below : (level : Level) → level_number level ≤ 7
level-below One = omega arith
level-below Two = omega arith
level-below Three = omega arith
level-below Four = omega arith
level-below Five = omega arith
level-below Six = omega arith
level-below Seven = omega arith

pub rank-below : (denomination : Trump) → rank_of denomination < 5
rank-below (trump.Suit Clubs) = omega arith
rank-below (trump.Suit Diamonds) = omega arith
rank-below (trump.Suit Hearts) = omega arith
rank-below (trump.Suit Spades) = omega arith
rank-below trump.Nt = omega arith

-- the levels and the denominations in their places
abbrev pub levels : List Level
levels = One ∷ Two ∷ Three ∷ Four ∷ Five ∷ Six ∷ Seven ∷ []

pub level_number-in_place : (place : ℕ) → place < 7 → level_number (get_or levels place One) ≡ suc place
level_number-in_place zero h = refl
level_number-in_place (suc zero) h = refl
level_number-in_place (suc (suc zero)) h = refl
level_number-in_place (suc (suc (suc zero))) h = refl
level_number-in_place (suc (suc (suc (suc zero)))) h = refl
level_number-in_place (suc (suc (suc (suc (suc zero))))) h = refl
level_number-in_place (suc (suc (suc (suc (suc (suc zero)))))) h = refl
level_number-in_place (suc (suc (suc (suc (suc (suc (suc place))))))) h = absurd (omega arith)

abbrev trumps : List Trump
trumps = trump.Nt ∷ trump.Suit Spades ∷ trump.Suit Hearts ∷ trump.Suit Diamonds ∷ trump.Suit Clubs ∷ []

pub rank_of-in_place : (place : ℕ) → place < 5 →
    rank_of (get_or trumps (4 - place) trump.Nt) ≡ place
rank_of-in_place zero h = refl
rank_of-in_place (suc zero) h = refl
rank_of-in_place (suc (suc zero)) h = refl
rank_of-in_place (suc (suc (suc zero))) h = refl
rank_of-in_place (suc (suc (suc (suc zero)))) h = refl
rank_of-in_place (suc (suc (suc (suc (suc place))))) h = absurd (omega arith)

-- a bid supersedes those with lower numbers
pub in_order : AreInOrder
in_order bid other =
    let above = level-above bid.level in
    let above' = level-above other.level in
    let below = rank-below bid.denomination in
    let below' = rank-below other.denomination in (
      λ supersedes. elim supersedes [ inl same ↦ omega arith | inr higher ↦ omega arith ],
      λ less. elim (cases_lt (level_number other.level) (level_number bid.level)) [
        | inl higher ↦ inr higher
        | inr not ↦
            let same : level_number bid.level ≡ level_number other.level = omega arith in
            inl (same, omega arith)
      ],
    )

-- the bid with so many lower ones
abbrev pub bid_at : ℕ → Bid
bid_at number =
    record {
      level = get_or levels (number / 5) One;
      denomination = get_or trumps (4 - number % 5) trump.Nt;
    }

pub bid_number-bid_at : (number : ℕ) → number < 35 → bid_number (bid_at number) ≡ number
bid_number-bid_at number h =
    let level : number / 5 < 7 = omega arith in
    let rank : number % 5 < 5 = omega arith in
    rw (level_number-in_place (number / 5) level, rank_of-in_place (number % 5) rank) (omega arith)

pub bid_number-below : (bid : Bid) → bid_number bid < 35
bid_number-below bid = omega (arith, level-below bid.level, rank-below bid.denomination)

-- the level and the denomination of a number
abbrev level_at : ℕ → Level
level_at number = get_or levels (number - 1) One

level_at-number : (level : Level) → level_at (level_number level) ≡ level
level_at-number One = refl
level_at-number Two = refl
level_at-number Three = refl
level_at-number Four = refl
level_at-number Five = refl
level_at-number Six = refl
level_at-number Seven = refl

-- two levels with one number are one
pub one_level : (level other : Level) → level_number level ≡ level_number other → level ≡ other
one_level level other e = sym (level_at-number level) ∙ (ap level_at e ∙ level_at-number other)

abbrev pub denomination_at : ℕ → Trump
denomination_at rank = get_or trumps (4 - rank) trump.Nt

pub denomination_at-rank : (denomination : Trump) → denomination_at (rank_of denomination) ≡ denomination
denomination_at-rank (trump.Suit Clubs) = refl
denomination_at-rank (trump.Suit Diamonds) = refl
denomination_at-rank (trump.Suit Hearts) = refl
denomination_at-rank (trump.Suit Spades) = refl
denomination_at-rank trump.Nt = refl

abbrev bid_of : Level → Trump → Bid
bid_of level denomination = record { level = level; denomination = denomination }

-- two bids with one number are one
pub one_bid : HaveNumbers
one_bid bid other e =
    let above = level-above bid.level in
    let above' = level-above other.level in
    let below = rank-below bid.denomination in
    let below' = rank-below other.denomination in
    let level_numbers : level_number bid.level ≡ level_number other.level = omega arith in
    let ranks : rank_of bid.denomination ≡ rank_of other.denomination = omega arith in
    let same_level : bid.level ≡ other.level = one_level bid.level other.level level_numbers in
    let denominations : bid.denomination ≡ other.denomination =
    sym (denomination_at-rank bid.denomination)
    ∙ (ap denomination_at ranks ∙ denomination_at-rank other.denomination)
    in
    ap (λ level. bid_of level bid.denomination) same_level ∙ ap (bid_of other.level) denominations
