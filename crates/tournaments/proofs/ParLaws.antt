-- The pars of a tournament's boards, gathered one by one.
use Rattle.std.proofs.Common.{◌≡◌, ℕ, ◌+◌, ◌-◌, ◌<◌, ◌≤◌, Bool, true, false, List, [], ◌∷◌, ◌++◌, length, get_or, take, Option, Some, sym, ◌∙◌, ap, subst, arith, All}
use Rattle.std.specs.Prelude.{ℤ, IfSome, nat_lt, if◌then◌else◌, slice_index}
use Rattle.std.specs.List.{AllZip, enumerate_from}
use Rattle.std.proofs.lemmas.List.{take_more, take_all}
use Rattle.std.proofs.lemmas.List.Elements.{All-map, All-push}
use Rattle.std.proofs.lemmas.List.FromFn.{length-enumerate_from, get_or-enumerate_from}
use Rattle.cards.specs.declared.seats.Seat.{Seat}
use Rattle.cards.specs.declared.suits.Suit.TheVariants.{Spades, Hearts, Diamonds, Clubs}
use Rattle.cards.specs.declared.suits.Trump.{Trump}
use Rattle.cards.specs.declared.suits.Trump.TheVariants as trump
use Rattle.cards.specs.Orders.{trump_number}
use Rattle.par.specs.declared.bids.Bid.{Bid}
use Rattle.par.specs.declared.bids.Level.{Level}
use Rattle.par.specs.declared.bids.Level.TheVariants.{One, Two, Three, Four, Five, Six, Seven}
use Rattle.par.specs.Bids.{level_number}
use Rattle.par.specs.declared.scores.ContractResult.TheVariants.{Made, Down}
use Rattle.par.specs.Scores.{tricks_bid, outcome_of}
use Rattle.par.specs.declared.vulnerable_sides.VulnerableSides.{VulnerableSides}
use Rattle.par.specs.declared.contracts.Contract.{Contract}
use Rattle.par.specs.declared.contracts.ParContract.{ParContract}
use Rattle.par.specs.FinalScores.{first_hand, second_hand, most_tricks}
use Rattle.par.specs.ParContracts.{AreParContracts, as_printed}
use Rattle.board_conditions.specs.declared.conditions.Conditions.{Conditions}
use Rattle.tables.specs.declared.pars.BoardPar.{BoardPar}
use Rattle.par.specs.Texts.{IsSmallResult}
use Rattle.tables.specs.ParText.{IsSmallPar}
use Rattle.tables.specs.TablesText.{Results}
use Rattle.tournaments.specs.BoardTricks.{AreAtMost13, IsRow}
use Rattle.tournaments.specs.Pages.{Pars, AreSmallPars}
use Rattle.tournaments.specs.Pars.{IsBoardPar}

-- ---- the tricks of a board
module _ (results : Results) (declarer : Seat) (n s h d c : ℕ) where
  pub row_from : results declarer trump.Nt ≡ Some n → results declarer (trump.Suit Spades) ≡ Some s → results declarer (trump.Suit Hearts) ≡ Some h → results declarer (trump.Suit Diamonds) ≡ Some d → results declarer (trump.Suit Clubs) ≡ Some c → n ≤ 13 → s ≤ 13 → h ≤ 13 → d ≤ 13 → c ≤ 13 → IsRow results declarer (n ∷ s ∷ h ∷ d ∷ c ∷ [])
  row_from in_n in_s in_h in_d in_c most_n most_s most_h most_d most_c = record { are = are; at_most = at_most }
    where
      are : (denomination : Trump) → results declarer denomination ≡ Some (slice_index (n ∷ s ∷ h ∷ d ∷ c ∷ []) (trump_number denomination))
      are trump.Nt = in_n
      are (trump.Suit Spades) = in_s
      are (trump.Suit Hearts) = in_h
      are (trump.Suit Diamonds) = in_d
      are (trump.Suit Clubs) = in_c

      at_most : (denomination : Trump) → slice_index (n ∷ s ∷ h ∷ d ∷ c ∷ []) (trump_number denomination) ≤ 13
      at_most trump.Nt = most_n
      at_most (trump.Suit Spades) = most_s
      at_most (trump.Suit Hearts) = most_h
      at_most (trump.Suit Diamonds) = most_d
      at_most (trump.Suit Clubs) = most_c

-- ---- the contracts
at_most_seven : (level : Level) → level_number level ≤ 7
at_most_seven One = omega arith
at_most_seven Two = omega arith
at_most_seven Three = omega arith
at_most_seven Four = omega arith
at_most_seven Five = omega arith
at_most_seven Six = omega arith
at_most_seven Seven = omega arith

small_outcome : (bid : Bid) (tricks : ℕ) → tricks ≤ 13 → IsSmallResult (outcome_of bid tricks)
small_outcome bid tricks most = go (nat_lt tricks (tricks_bid bid))
  where
    seven : level_number bid.level ≤ 7
    seven = at_most_seven bid.level

    go : (fails : Bool) → IsSmallResult (if fails then Down (tricks_bid bid - tricks) else Made (tricks - tricks_bid bid))
    go true = let small : tricks_bid bid - tricks ≤ 13 = omega (arith, seven) in omega (arith, small)
    go false = let small : tricks - tricks_bid bid ≤ 13 = omega (arith, most) in omega (arith, small)

small_most : (tricks : Seat → Trump → ℕ) → AreAtMost13 tricks → (contract : Contract) → most_tricks tricks contract.side contract.bid.denomination ≤ 13
small_most tricks most contract =
    let first = most (first_hand contract.side) contract.bid.denomination in
    let second = most (second_hand contract.side) contract.bid.denomination in
    omega (arith, first, second)

pub small_contracts : (tricks : Seat → Trump → ℕ) (vulnerable : VulnerableSides) (score : ℤ) (list : List ParContract) → AreAtMost13 tricks → AreParContracts tricks vulnerable score list → All (λ (contract : ParContract). IsSmallResult contract.outcome) list
small_contracts tricks vulnerable score list most are =
    subst (All (λ (contract : ParContract). IsSmallResult contract.outcome)) (sym are.printed)
    (All-map (λ (contract : ParContract). IsSmallResult contract.outcome) (as_printed tricks) are.contracts
    (λ k d within. let contract = get_or are.contracts k d in small_outcome contract.bid (most_tricks tricks contract.side contract.bid.denomination) (small_most tricks most contract)))

-- ---- the boards
zip_push : {A B : Type 0} (R : A → B → Type 0) (xs : List A) (ys : List B) (x : A) (y : B) → AllZip R xs ys → R x y → AllZip R (xs ++ x ∷ []) (ys ++ y ∷ [])
zip_push R [] [] x y all r = (r, tt)
zip_push R [] (z ∷ ys) x y all r = absurd all
zip_push R (w ∷ xs) [] x y all r = absurd all
zip_push R (w ∷ xs) (z ∷ ys) x y all r = (all.0, zip_push R xs ys x y all.1 r)

next_place : (conditions : List Conditions) (place : ℕ) (d : Conditions) → place < length conditions → take (place + 1) (enumerate_from 0 conditions) ≡ take place (enumerate_from 0 conditions) ++ (place, get_or conditions place d) ∷ []
next_place conditions place d within =
    let numbered = enumerate_from 0 conditions in
    let long = length-enumerate_from 0 conditions in
    let at : get_or numbered place (0, d) ≡ (place, get_or conditions place d) = get_or-enumerate_from 0 conditions place (0, d) within ∙ ap (λ (n : ℕ). (n, get_or conditions place d)) (let e : 0 + place ≡ place = omega arith in e) in
    take_more numbered place (0, d) (omega (arith, within, long)) ∙ ap (λ (z : ℕ × Conditions). take place numbered ++ z ∷ []) at

abbrev pub AreParsSoFar : (ℕ → Results) → List (ℕ × Conditions) → Pars → Type 0
AreParsSoFar results numbered pars = AllZip (λ (numbered : ℕ × Conditions) (par : Option BoardPar). IsBoardPar (results numbered.0) numbered.1 par) numbered pars

pub one_more : (results : ℕ → Results) (conditions : List Conditions) (place : ℕ) (d : Conditions) (pars : Pars) (par : Option BoardPar)
    → place < length conditions → AreParsSoFar results (take place (enumerate_from 0 conditions)) pars
    → IsBoardPar (results place) (get_or conditions place d) par
    → AreParsSoFar results (take (place + 1) (enumerate_from 0 conditions)) (pars ++ par ∷ [])
one_more results conditions place d pars par within so_far is =
    subst (λ (numbered : List (ℕ × Conditions)). AreParsSoFar results numbered (pars ++ par ∷ [])) (sym (next_place conditions place d within))
    (zip_push (λ (numbered : ℕ × Conditions) (par : Option BoardPar). IsBoardPar (results numbered.0) numbered.1 par) (take place (enumerate_from 0 conditions)) pars (place, get_or conditions place d) par so_far is)

-- past the last
pub all_of : (results : ℕ → Results) (conditions : List Conditions) (place : ℕ) (pars : Pars) → length conditions ≤ place → AreParsSoFar results (take place (enumerate_from 0 conditions)) pars → AreParsSoFar results (enumerate_from 0 conditions) pars
all_of results conditions place pars past so_far =
    let long = length-enumerate_from 0 conditions in
    subst (λ (numbered : List (ℕ × Conditions)). AreParsSoFar results numbered pars) (take_all place (enumerate_from 0 conditions) (omega (arith, past, long))) so_far

pub small_more : (pars : Pars) (par : Option BoardPar) → AreSmallPars pars → IfSome par IsSmallPar → AreSmallPars (pars ++ par ∷ [])
small_more pars par small is = All-push (λ (par : Option BoardPar). IfSome par IsSmallPar) pars par small is
