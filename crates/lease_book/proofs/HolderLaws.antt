-- Boards with the same deal are found by their holders.
use Rattle.std.proofs.Common.{◌≡◌, ◌≢◌, ℕ, ◌+◌, ◌<◌, ◌≤◌, Bool, true, false, cond, ◌&&◌, List, [], ◌∷◌, length, Option, None, Some, is_none, refl, sym, ◌∙◌, ap, ⊎_elim, arith}
use Rattle.std.specs.Prelude.{nat_eq}
use Rattle.std.specs.List.{position_or_len}
use Rattle.std.proofs.lemmas.Bool.{both_ways, cases_lt, lt-ltb, le-ltb}
use Rattle.std.proofs.lemmas.Option.{none-some, same_Some}
use Rattle.cards.specs.declared.seats.Seat.{Seat}
use Rattle.cards.specs.declared.seats.Seat.TheVariants.{North, East, South, West}
use Rattle.cards.specs.Deal.{Deal, is_same_holder, is_same_deal}
use Rattle.cards.specs.SameDeal.{is_same_deal-Decides}
use Rattle.pbn_deals.specs.declared.boards.Board.{Board}
use Rattle.lease_book.specs.Twins.{deal_of_board, deal_of, is_dealt, first_board}
use Rattle.lease_book.specs.Holders.{holder_number, holders_of, are_same_holders, noted_or, noted_after, first_before, AreNoted}
use Rattle.lease_book.proofs.TwinLaws.{first_passes, this_deal, deal_there, first_is, first_below}

-- holders have the same number exactly where they are the same
same_number : (one other : Option Seat) → nat_eq (holder_number one) (holder_number other) ≡ is_same_holder one other
same_number None None = refl
same_number None (Some North) = refl
same_number None (Some East) = refl
same_number None (Some South) = refl
same_number None (Some West) = refl
same_number (Some North) None = refl
same_number (Some East) None = refl
same_number (Some South) None = refl
same_number (Some West) None = refl
same_number (Some North) (Some North) = refl
same_number (Some North) (Some East) = refl
same_number (Some North) (Some South) = refl
same_number (Some North) (Some West) = refl
same_number (Some East) (Some North) = refl
same_number (Some East) (Some East) = refl
same_number (Some East) (Some South) = refl
same_number (Some East) (Some West) = refl
same_number (Some South) (Some North) = refl
same_number (Some South) (Some East) = refl
same_number (Some South) (Some South) = refl
same_number (Some South) (Some West) = refl
same_number (Some West) (Some North) = refl
same_number (Some West) (Some East) = refl
same_number (Some West) (Some South) = refl
same_number (Some West) (Some West) = refl

-- so deals have the same holders exactly where they are the same
pub same_holders : (one other : Deal) → are_same_holders (holders_of one) (holders_of other) ≡ is_same_deal one other
same_holders [] [] = refl
same_holders [] (holder ∷ other) = refl
same_holders (holder ∷ one) [] = refl
same_holders (holder ∷ one) (another ∷ other) =
    ap (λ b. b && are_same_holders (holders_of one) (holders_of other)) (same_number holder another)
    ∙ ap (λ b. is_same_holder holder another && b) (same_holders one other)

module _ (boards : List Board) (number : ℕ) where
  -- a place that is not the first of a deal
  pub no_first : (deal : Deal) → position_or_len (is_dealt deal) boards ≢ number → first_before boards (number + 1) deal ≡ first_before boards number deal
  no_first deal ne =
      let place = position_or_len (is_dealt deal) boards in
      ⊎_elim
      (λ (l : place < number).
      let m : place < number + 1 = omega (arith, l) in
      ap (λ b. cond b (Some place) None) (lt-ltb place (number + 1) m ∙ sym (lt-ltb place number l)))
      (λ (l : number ≤ place).
      let m : number + 1 ≤ place = omega (arith, l, ne) in
      ap (λ b. cond b (Some place) None) (le-ltb place (number + 1) m ∙ sym (le-ltb place number l)))
      (cases_lt place number)

  -- the deal of the first board with it
  at_first : (deal : Deal) → number < length boards → position_or_len (is_dealt deal) boards ≡ number → deal_of boards number ≡ Some deal
  at_first deal l same =
      let found = first_passes (is_dealt deal) boards (omega (arith, l, same)) in
      ap (deal_of boards) (sym same) ∙ ap deal_of_board found.1 ∙ this_deal deal (found.0).deal found.2

  -- a board without a deal
  pub noted_none : (noted : List ℕ → Option ℕ) → number < length boards → deal_of boards number ≡ None → AreNoted boards number noted → AreNoted boards (number + 1) noted
  noted_none noted l none are deal = are deal ∙ sym (no_first deal (λ same. none-some deal (sym none ∙ at_first deal l same)))

  module _ (deal : Deal) (has : deal_of boards number ≡ Some deal) (noted : List ℕ → Option ℕ) (are : AreNoted boards number noted) where
    place_le : position_or_len (is_dealt deal) boards ≤ number
    place_le = omega (arith, first_is boards number deal has, first_below boards number deal has number has)

    -- what is told of a board with a deal
    pub first_told : noted_or (noted (holders_of deal)) number ≡ first_board boards number
    first_told =
        let place = position_or_len (is_dealt deal) boards in
        ap (λ o. noted_or o number) (are deal)
        ∙ ⊎_elim
        (λ (l : place < number). ap (λ b. noted_or (cond b (Some place) None) number) (lt-ltb place number l))
        (λ (l : number ≤ place). ap (λ b. noted_or (cond b (Some place) None) number) (le-ltb place number l) ∙ omega (arith, l, place_le))
        (cases_lt place number)
        ∙ sym (first_is boards number deal has)

    same_place : (other : Deal) → position_or_len (is_dealt other) boards ≡ number → deal ≡ other
    same_place other same = same_Some deal other (sym has ∙ at_first other (deal_there boards number deal has) same)

    -- and what is noted after it
    pub noted_more : (after : List ℕ → Option ℕ) → ((others : List ℕ) → after others ≡ noted_after (noted (holders_of deal)) (holders_of deal) number others (noted others)) → AreNoted boards (number + 1) after
    noted_more after changed other =
        changed (holders_of other)
        ∙ ap (λ b. cond (is_none (noted (holders_of deal)) && b) (Some number) (noted (holders_of other))) (same_holders deal other)
        ∙ ap (λ (o : Option ℕ). cond (is_none o && is_same_deal deal other) (Some number) (noted (holders_of other))) (are deal)
        ∙ ap (λ (o : Option ℕ). cond (is_none (first_before boards number deal) && is_same_deal deal other) (Some number) o) (are other)
        ∙ ⊎_elim old new (cases_lt (position_or_len (is_dealt deal) boards) number)
      where
        old : position_or_len (is_dealt deal) boards < number → cond (is_none (first_before boards number deal) && is_same_deal deal other) (Some number) (first_before boards number other) ≡ first_before boards (number + 1) other
        old l =
            let place = position_or_len (is_dealt deal) boards in
            ap (λ b. cond (is_none (cond b (Some place) None) && is_same_deal deal other) (Some number) (first_before boards number other)) (lt-ltb place number l)
            ∙ sym (no_first other (λ same. omega (arith, l, same, ap (λ (d : Deal). position_or_len (is_dealt d) boards) (same_place other same))))

        by_same : number ≤ position_or_len (is_dealt deal) boards → (b : Bool) → is_same_deal deal other ≡ b → cond b (Some number) (first_before boards number other) ≡ first_before boards (number + 1) other
        by_same l true e =
            let place = position_or_len (is_dealt other) boards in
            let same : place ≡ number = omega (arith, l, place_le, ap (λ (d : Deal). position_or_len (is_dealt d) boards) ((is_same_deal-Decides deal other).0 e)) in
            sym (ap (λ b. cond b (Some place) None) (lt-ltb place (number + 1) (omega (arith, same))) ∙ ap (λ (n : ℕ). Some n) same)
        by_same l false e = sym (no_first other (λ same. both_ways (is_same_deal deal other) e ((is_same_deal-Decides deal other).1 (same_place other same))))

        new : number ≤ position_or_len (is_dealt deal) boards → cond (is_none (first_before boards number deal) && is_same_deal deal other) (Some number) (first_before boards number other) ≡ first_before boards (number + 1) other
        new l =
            let place = position_or_len (is_dealt deal) boards in
            ap (λ b. cond (is_none (cond b (Some place) None) && is_same_deal deal other) (Some number) (first_before boards number other)) (le-ltb place number l)
            ∙ by_same l (is_same_deal deal other) refl
