-- Bids and their order (Law 18).
use Rattle.std.specs.Prelude.{◌≡◌, ℕ, ◌+◌, ◌-◌, ◌*◌, ◌<◌, ◌⊎◌}
use Rattle.cards.specs.declared.suits.Suit.TheVariants.{Spades, Hearts, Diamonds, Clubs}
use Rattle.cards.specs.declared.suits.Trump.{Trump}
use Rattle.cards.specs.declared.suits.Trump.TheVariants as trump
use Rattle.par.specs.declared.bids.Level.{Level}
use Rattle.par.specs.declared.bids.Level.TheVariants.{One, Two, Three, Four, Five, Six, Seven}
use Rattle.par.specs.declared.bids.Bid.{Bid}

-- the number of odd tricks, tricks in excess of six (Law 18A)
abbrev pub level_number : Level → ℕ
level_number One = 1
level_number Two = 2
level_number Three = 3
level_number Four = 4
level_number Five = 5
level_number Six = 6
level_number Seven = 7

-- the rank of the denominations: clubs, diamonds, hearts, spades, no-trump, rising (Law 18E)
abbrev pub rank_of : Trump → ℕ
rank_of (trump.Suit Clubs) = 0
rank_of (trump.Suit Diamonds) = 1
rank_of (trump.Suit Hearts) = 2
rank_of (trump.Suit Spades) = 3
rank_of trump.Nt = 4

-- A bid supersedes another one if it names either the same number of odd tricks in a denomination that ranks higher, or
-- a greater number of odd tricks in any denomination (Law 18B).
abbrev pub Supersedes : Bid → Bid → Type 0
Supersedes bid other =
    ((level_number bid.level ≡ level_number other.level) × (rank_of other.denomination < rank_of bid.denomination))
    ⊎ (level_number other.level < level_number bid.level)

-- how many bids are lower, 0 to 34
abbrev pub bid_number : Bid → ℕ
bid_number bid = 5 * (level_number bid.level - 1) + rank_of bid.denomination
