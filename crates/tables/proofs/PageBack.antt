-- The entries of a complete table are all known.
use Rattle.std.proofs.Common.{◌≡◌, Bool, true, false, cond, List, [], ◌∷◌, length, None, refl, ◌∙◌, ap, arith}
use Rattle.std.specs.Prelude.{is_some, filter}
use Rattle.std.specs.List.{AllByRecursion}
use Rattle.std.proofs.lemmas.Bool.{eqb-true}
use Rattle.std.proofs.lemmas.List.Sums.{length-filter, count_by-le-length}
use Rattle.cards.specs.declared.seats.Seat.{Seat}
use Rattle.cards.specs.declared.seats.Seat.TheVariants.{North, East, South, West}
use Rattle.cards.specs.declared.suits.Suit.TheVariants.{Spades, Hearts, Diamonds, Clubs}
use Rattle.cards.specs.declared.suits.Trump.{Trump}
use Rattle.cards.specs.declared.suits.Trump.TheVariants as trump
use Rattle.tables.specs.TablesText.{Results, entries, is_complete, published_count}

abbrev pub is_known : Results → Seat × Trump → Bool
is_known results entry = is_some (results entry.0 entry.1)

all_kept : {X : Type 0} (p : X → Bool) (xs : List X) → length (filter p xs) ≡ length xs → AllByRecursion (λ x. p x ≡ true) xs
all_kept p [] h = tt
all_kept {X} p (x ∷ xs) h = go (p x) refl (all_kept p xs) h
  where
    go : (b : Bool) → p x ≡ b → (length (filter p xs) ≡ length xs → AllByRecursion (λ y. p y ≡ true) xs) → length (cond b (x ∷ filter p xs) (filter p xs)) ≡ length (x ∷ xs) → AllByRecursion (λ y. p y ≡ true) (x ∷ xs)
    go true e more k = (e, more (omega (arith, k)))
    go false e more k = absurd (omega (arith, k, length-filter p xs, count_by-le-length p xs))

pub all_known : (results : Results) → is_complete results ≡ true → AllByRecursion (λ entry. is_known results entry ≡ true) entries
unfolding is_complete published_count
all_known results e = all_kept (is_known results) entries (length-filter (is_known results) entries ∙ eqb-true _ 20 e)

pub known-at : (results : Results) → AllByRecursion (λ entry. is_known results entry ≡ true) entries → (declarer : Seat) (denomination : Trump) → is_some (results declarer denomination) ≡ true
known-at results h North trump.Nt = h.0
known-at results h North (trump.Suit Spades) = h.1.0
known-at results h North (trump.Suit Hearts) = h.1.1.0
known-at results h North (trump.Suit Diamonds) = h.1.1.1.0
known-at results h North (trump.Suit Clubs) = h.1.1.1.1.0
known-at results h South trump.Nt = h.1.1.1.1.1.0
known-at results h South (trump.Suit Spades) = h.1.1.1.1.1.1.0
known-at results h South (trump.Suit Hearts) = h.1.1.1.1.1.1.1.0
known-at results h South (trump.Suit Diamonds) = h.1.1.1.1.1.1.1.1.0
known-at results h South (trump.Suit Clubs) = h.1.1.1.1.1.1.1.1.1.0
known-at results h East trump.Nt = h.1.1.1.1.1.1.1.1.1.1.0
known-at results h East (trump.Suit Spades) = h.1.1.1.1.1.1.1.1.1.1.1.0
known-at results h East (trump.Suit Hearts) = h.1.1.1.1.1.1.1.1.1.1.1.1.0
known-at results h East (trump.Suit Diamonds) = h.1.1.1.1.1.1.1.1.1.1.1.1.1.0
known-at results h East (trump.Suit Clubs) = h.1.1.1.1.1.1.1.1.1.1.1.1.1.1.0
known-at results h West trump.Nt = h.1.1.1.1.1.1.1.1.1.1.1.1.1.1.1.0
known-at results h West (trump.Suit Spades) = h.1.1.1.1.1.1.1.1.1.1.1.1.1.1.1.1.0
known-at results h West (trump.Suit Hearts) = h.1.1.1.1.1.1.1.1.1.1.1.1.1.1.1.1.1.0
known-at results h West (trump.Suit Diamonds) = h.1.1.1.1.1.1.1.1.1.1.1.1.1.1.1.1.1.1.0
known-at results h West (trump.Suit Clubs) = h.1.1.1.1.1.1.1.1.1.1.1.1.1.1.1.1.1.1.1.0

-- where a result isn't known, the table isn't complete
pub unknown_incomplete : (results : Results) (declarer : Seat) (denomination : Trump) → results declarer denomination ≡ None → is_complete results ≡ false
unknown_incomplete results declarer denomination unknown = go (is_complete results) refl
  where
    go : (complete : Bool) → is_complete results ≡ complete → is_complete results ≡ false
    go false e = e
    go true e = absurd (let known = known-at results (all_known results e) declarer denomination in let none = ap is_some unknown in cc)
