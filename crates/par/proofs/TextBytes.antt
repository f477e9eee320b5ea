-- The bytes of the texts of par: a blank, `+` to `9`, or a letter.
use Rattle.std.proofs.Common.{◌≡◌, ℕ, zero, suc, ◌<◌, ◌≤◌, ◌^◌, Bool, true, ◌||◌, List, [], ◌∷◌, ◌++◌, All, eqb, refl, ◌∙◌, arith, nat_le}
use Rattle.std.specs.Prelude.{codes, ℤ, unsigned_abs, ◌&&◌}
use Rattle.std.specs.Fmt.{decimal}
use Rattle.std.specs.List.{flat_map, list_all}
use Rattle.std.specs.Str.Parse.{AllDigits}
use Rattle.std.proofs.lemmas.Bool.{and_from, or_left, le-leb}
use Rattle.std.proofs.lemmas.Fmt.{decimal_is_IsNumeral}
use Rattle.std.proofs.lemmas.List.Elements.{All-head, All-tail}
use Rattle.std.proofs.lemmas.List.Folds.{list_all-append}
use Rattle.std.proofs.lemmas.Str.Parse.{digit_at}
use Rattle.cards.specs.declared.seats.Seat.{Seat}
use Rattle.cards.specs.declared.seats.Seat.TheVariants.{North, East, South, West}
use Rattle.cards.specs.declared.seats.Side.{Side}
use Rattle.cards.specs.declared.seats.Side.TheVariants.{NorthSouth, EastWest}
use Rattle.cards.specs.declared.suits.Suit.TheVariants.{Spades, Hearts, Diamonds, Clubs}
use Rattle.cards.specs.declared.suits.Trump.{Trump}
use Rattle.cards.specs.declared.suits.Trump.TheVariants as trump
use Rattle.cards.specs.Pack.{trump_letters}
use Rattle.cards.specs.Seats.{seat_letter, side_letters}
use Rattle.par.specs.declared.bids.Bid.{Bid}
use Rattle.par.specs.declared.bids.Level.{Level}
use Rattle.par.specs.declared.bids.Level.TheVariants.{One, Two, Three, Four, Five, Six, Seven}
use Rattle.par.specs.declared.scores.Doubling.{Doubling}
use Rattle.par.specs.declared.scores.Doubling.TheVariants.{Undoubled, Doubled}
use Rattle.par.specs.declared.scores.ContractResult.{ContractResult}
use Rattle.par.specs.declared.scores.ContractResult.TheVariants.{Made, Down}
use Rattle.par.specs.Bids.{level_number}
use Rattle.par.specs.declared.contracts.Declarers.{Declarers}
use Rattle.par.specs.declared.contracts.Declarers.TheVariants.{Either, Only}
use Rattle.par.specs.declared.contracts.ParContract.{ParContract}
use Rattle.par.specs.Texts.{gaining_side, score_text, declarers_text, bid_text, doubling_text, outcome_text, contract_text, next_text, contracts_text, IsSmallResult}

abbrev pub is_par_byte : ℕ → Bool
is_par_byte byte =
    (nat_le 43 byte && nat_le byte 57) || ((nat_le 65 byte && nat_le byte 90) || (eqb byte 32 || (nat_le 97 byte && nat_le byte 122)))

abbrev pub are_par_bytes : List ℕ → Bool
are_par_bytes text = list_all is_par_byte text

bytes-append : (one other : List ℕ) → are_par_bytes one ≡ true → are_par_bytes other ≡ true → are_par_bytes (one ++ other) ≡ true
bytes-append one other a b =
    list_all-append is_par_byte one other ∙ and_from (are_par_bytes one) (are_par_bytes other) a b

-- ---- a number
digit-byte : (byte : ℕ) → 48 ≤ byte → byte ≤ 57 → is_par_byte byte ≡ true
digit-byte byte from to =
    or_left (nat_le 43 byte && nat_le byte 57) ((nat_le 65 byte && nat_le byte 90) || (eqb byte 32 || (nat_le 97 byte && nat_le byte 122)))
    (and_from (nat_le 43 byte) (nat_le byte 57) (le-leb 43 byte (omega (arith, from))) (le-leb byte 57 to))

digits-bytes : (text : List ℕ) → AllDigits 10 text → are_par_bytes text ≡ true
digits-bytes [] h = refl
digits-bytes (byte ∷ bytes) h =
    let range = digit_at (byte ∷ bytes) 0 h (omega arith) in
    and_from (is_par_byte byte) (are_par_bytes bytes) (digit-byte byte range.0 range.1) (digits-bytes bytes h.1)

number-bytes : (n : ℕ) → n < 2 ^ 16 → are_par_bytes (decimal n) ≡ true
number-bytes n small = digits-bytes (decimal n) (decimal_is_IsNumeral n (omega (arith, small))).0.1

-- ---- the score
side-bytes : (side : Side) → are_par_bytes (side_letters side) ≡ true
side-bytes NorthSouth = refl
side-bytes EastWest = refl

pub score-bytes : (par : ℤ) → unsigned_abs par < 2 ^ 16 → are_par_bytes (score_text par) ≡ true
score-bytes par small =
    bytes-append (side_letters (gaining_side par)) (codes " " ++ decimal (unsigned_abs par)) (side-bytes (gaining_side par))
    (bytes-append (codes " ") (decimal (unsigned_abs par)) refl (number-bytes (unsigned_abs par) small))

-- ---- a contract
seat-bytes : (seat : Seat) → are_par_bytes (seat_letter seat) ≡ true
seat-bytes North = refl
seat-bytes East = refl
seat-bytes South = refl
seat-bytes West = refl

declarers-bytes : (declarers : Declarers) → are_par_bytes (declarers_text declarers) ≡ true
declarers-bytes (Either side) = side-bytes side
declarers-bytes (Only seat) = seat-bytes seat

denomination-bytes : (denomination : Trump) → are_par_bytes (trump_letters denomination) ≡ true
denomination-bytes trump.Nt = refl
denomination-bytes (trump.Suit Spades) = refl
denomination-bytes (trump.Suit Hearts) = refl
denomination-bytes (trump.Suit Diamonds) = refl
denomination-bytes (trump.Suit Clubs) = refl

level-small : (level : Level) → level_number level < 2 ^ 16
level-small One = omega arith
level-small Two = omega arith
level-small Three = omega arith
level-small Four = omega arith
level-small Five = omega arith
level-small Six = omega arith
level-small Seven = omega arith

bid-bytes : (bid : Bid) → are_par_bytes (bid_text bid) ≡ true
bid-bytes bid =
    bytes-append (decimal (level_number bid.level)) (trump_letters bid.denomination)
    (number-bytes (level_number bid.level) (level-small bid.level)) (denomination-bytes bid.denomination)

doubling-bytes : (doubling : Doubling) → are_par_bytes (doubling_text doubling) ≡ true
doubling-bytes Undoubled = refl
doubling-bytes Doubled = refl

outcome-bytes : (outcome : ContractResult) → IsSmallResult outcome → are_par_bytes (outcome_text outcome) ≡ true
outcome-bytes (Made zero) small = refl
outcome-bytes (Made (suc over)) small =
    bytes-append (codes "+") (decimal (suc over)) refl (number-bytes (suc over) (omega (arith, small)))
outcome-bytes (Down under) small =
    bytes-append (codes "-") (decimal under) refl (number-bytes under (omega (arith, small)))

contract-bytes : (contract : ParContract) → IsSmallResult contract.outcome → are_par_bytes (contract_text contract) ≡ true
unfolding contract_text
contract-bytes contract small =
    let ending = doubling_text contract.doubling ++ outcome_text contract.outcome in
    let bid = bid_text contract.bid ++ ending in
    bytes-append (declarers_text contract.declarers) (codes " " ++ bid) (declarers-bytes contract.declarers)
    (bytes-append (codes " ") bid refl
    (bytes-append (bid_text contract.bid) ending (bid-bytes contract.bid)
    (bytes-append (doubling_text contract.doubling) (outcome_text contract.outcome) (doubling-bytes contract.doubling)
    (outcome-bytes contract.outcome small))))

abbrev pub AreSmall : List ParContract → Type 0
AreSmall contracts = All (λ contract. IsSmallResult contract.outcome) contracts

others-bytes : (contracts : List ParContract) → AreSmall contracts → are_par_bytes (flat_map next_text contracts) ≡ true
others-bytes [] small = refl
others-bytes (contract ∷ contracts) small =
    bytes-append (next_text contract) (flat_map next_text contracts)
    (bytes-append (codes ", ") (contract_text contract) refl
    (contract-bytes contract (All-head (λ (c : ParContract). IsSmallResult c.outcome) contract contracts small)))
    (others-bytes contracts (All-tail (λ (c : ParContract). IsSmallResult c.outcome) contract contracts small))

pub contracts-bytes : (contracts : List ParContract) → AreSmall contracts → are_par_bytes (contracts_text contracts) ≡ true
contracts-bytes [] small = refl
contracts-bytes (contract ∷ contracts) small =
    bytes-append (contract_text contract) (flat_map next_text contracts)
    (contract-bytes contract (All-head (λ (c : ParContract). IsSmallResult c.outcome) contract contracts small))
    (others-bytes contracts (All-tail (λ (c : ParContract). IsSmallResult c.outcome) contract contracts small))
