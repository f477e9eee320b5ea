-- The score of a contract (Law 77): what declarer's side scores for it. Each table of the Law is a definition, with a
-- line for each case. The Law's column of redoubled contracts is left out.
use Rattle.std.specs.Prelude.{ℕ, zero, suc, ◌+◌, ◌-◌, ◌*◌, if◌then◌else◌, nat_lt, ℤ, pos, neg_ℤ}
use Rattle.cards.specs.declared.suits.Suit.TheVariants.{Spades, Hearts, Diamonds, Clubs}
use Rattle.cards.specs.declared.suits.Trump.{Trump}
use Rattle.cards.specs.declared.suits.Trump.TheVariants as trump
use Rattle.par.specs.declared.bids.Level.{Level}
use Rattle.par.specs.declared.bids.Level.TheVariants.{Six, Seven}
use Rattle.par.specs.declared.bids.Bid.{Bid}
use Rattle.par.specs.declared.scores.Vulnerability.{Vulnerability}
use Rattle.par.specs.declared.scores.Vulnerability.TheVariants.{NotVulnerable, Vulnerable}
use Rattle.par.specs.declared.scores.Doubling.{Doubling}
use Rattle.par.specs.declared.scores.Doubling.TheVariants.{Undoubled, Doubled}
use Rattle.par.specs.declared.scores.ContractResult.{ContractResult}
use Rattle.par.specs.declared.scores.ContractResult.TheVariants.{Made, Down}
use Rattle.par.specs.Bids.{level_number}

-- ---- the outcome
-- how many tricks the bid says that declarer will take
abbrev pub tricks_bid : Bid → ℕ
tricks_bid bid = 6 + level_number bid.level

-- the contract is made with this many overtricks, or it is down this many tricks
abbrev pub outcome_of : Bid → ℕ → ContractResult
outcome_of bid tricks =
    if nat_lt tricks (tricks_bid bid) then Down (tricks_bid bid - tricks) else Made (tricks - tricks_bid bid)

-- ---- trick score
-- for each odd trick bid and made
abbrev pub trick_value : Trump → ℕ
trick_value (trump.Suit Clubs) = 20
trick_value (trump.Suit Diamonds) = 20
trick_value (trump.Suit Hearts) = 30
trick_value (trump.Suit Spades) = 30
trick_value trump.Nt = 30

-- more for the first odd trick
abbrev pub first_trick_more : Trump → ℕ
first_trick_more (trump.Suit suit) = 0
first_trick_more trump.Nt = 10

-- how many times that
abbrev pub times : Doubling → ℕ
times Undoubled = 1
times Doubled = 2

-- the trick score of a contract that is made
abbrev pub trick_score : Bid → Doubling → ℕ
trick_score bid doubling =
    times doubling * (level_number bid.level * trick_value bid.denomination + first_trick_more bid.denomination)

-- ---- premium score
-- a trick score of 100 or more is game, and a lower one is a part score
abbrev pub part_score_premium : ℕ
part_score_premium = 50

abbrev pub game_premium : Vulnerability → ℕ
game_premium NotVulnerable = 300
game_premium Vulnerable = 500

abbrev pub game_or_part_score : Vulnerability → ℕ → ℕ
game_or_part_score vulnerability points =
    if nat_lt points 100 then part_score_premium else game_premium vulnerability

-- a small slam is a bid of twelve tricks, a grand slam one of thirteen
abbrev pub slam_premium : Level → Vulnerability → ℕ
slam_premium Six NotVulnerable = 500
slam_premium Six Vulnerable = 750
slam_premium Seven NotVulnerable = 1000
slam_premium Seven Vulnerable = 1500
slam_premium _ vulnerability = 0

-- for making a doubled contract
abbrev pub doubled_premium : Doubling → ℕ
doubled_premium Undoubled = 0
doubled_premium Doubled = 50

-- for each overtrick
abbrev pub overtrick_value : Trump → Doubling → Vulnerability → ℕ
overtrick_value denomination Undoubled vulnerability = trick_value denomination
overtrick_value denomination Doubled NotVulnerable = 100
overtrick_value denomination Doubled Vulnerable = 200

-- ---- undertrick penalties
-- for one undertrick, after this many others
abbrev pub undertrick_penalty : Doubling → Vulnerability → ℕ → ℕ
undertrick_penalty Undoubled NotVulnerable others = 50
undertrick_penalty Undoubled Vulnerable others = 100
undertrick_penalty Doubled NotVulnerable zero = 100
undertrick_penalty Doubled NotVulnerable (suc zero) = 200
undertrick_penalty Doubled NotVulnerable (suc (suc zero)) = 200
undertrick_penalty Doubled NotVulnerable (suc (suc (suc others))) = 300
undertrick_penalty Doubled Vulnerable zero = 200
undertrick_penalty Doubled Vulnerable (suc others) = 300

-- for this many undertricks
abbrev pub penalty : Doubling → Vulnerability → ℕ → ℕ
penalty doubling vulnerability zero = 0
penalty doubling vulnerability (suc others) =
    penalty doubling vulnerability others + undertrick_penalty doubling vulnerability others

-- ---- the score
-- for a contract that is made
abbrev pub made_score : Bid → Doubling → Vulnerability → ℕ → ℕ
made_score bid doubling vulnerability over =
    trick_score bid doubling
    + over * overtrick_value bid.denomination doubling vulnerability
    + game_or_part_score vulnerability (trick_score bid doubling)
    + slam_premium bid.level vulnerability
    + doubled_premium doubling

abbrev pub outcome_score : Bid → Doubling → Vulnerability → ContractResult → ℤ
outcome_score bid doubling vulnerability (Made over) = pos (made_score bid doubling vulnerability over)
outcome_score bid doubling vulnerability (Down under) = neg_ℤ (pos (penalty doubling vulnerability under))

-- the score of declarer's side, which takes this many tricks
abbrev pub score : Bid → Doubling → Vulnerability → ℕ → ℤ
score bid doubling vulnerability tricks = outcome_score bid doubling vulnerability (outcome_of bid tricks)
