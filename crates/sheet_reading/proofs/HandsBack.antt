-- What is shown of a hand tells which cards it has.
use Rattle.std.proofs.Common.{◌≡◌, ℕ, Bool, true, false, true≢false, cond, not, eqb, List, [], ◌∷◌, ◌++◌, refl, sym, ◌∙◌, ap}
use Rattle.std.specs.List.{flat_map, list_all}
use Rattle.std.proofs.lemmas.Bool.{and_parts, not-true, eq-eqb}
use Rattle.std.proofs.lemmas.List.{append_cancel_left}
use Rattle.cards.specs.declared.seats.Seat.{Seat}
use Rattle.cards.specs.declared.suits.Suit.{Suit}
use Rattle.cards.specs.declared.pack.Rank.{Rank}
use Rattle.cards.specs.declared.pack.Rank.TheVariants.{Two, Three, Four, Five, Six, Seven, Eight, Nine, Ten, Jack}
use Rattle.cards.specs.declared.pack.Rank.TheVariants.{Queen, King, Ace}
use Rattle.cards.specs.Pack.{card_of}
use Rattle.cards.specs.Deal.{Deal, holder_of, is_held_by}
use Rattle.sheets.specs.HandText.{rank_shown, ranks_falling, cards_shown, holding_shown, is_void}

-- ---- the first byte of a rank
abbrev first_byte : Rank → ℕ
first_byte Two = 50
first_byte Three = 51
first_byte Four = 52
first_byte Five = 53
first_byte Six = 54
first_byte Seven = 55
first_byte Eight = 56
first_byte Nine = 57
first_byte Ten = 49
first_byte Jack = 74
first_byte Queen = 81
first_byte King = 75
first_byte Ace = 65

abbrev other_bytes : Rank → List ℕ
other_bytes Ten = 48 ∷ []
other_bytes _ = []

rank-bytes : (rank : Rank) → rank_shown rank ≡ first_byte rank ∷ other_bytes rank
rank-bytes Two = refl
rank-bytes Three = refl
rank-bytes Four = refl
rank-bytes Five = refl
rank-bytes Six = refl
rank-bytes Seven = refl
rank-bytes Eight = refl
rank-bytes Nine = refl
rank-bytes Ten = refl
rank-bytes Jack = refl
rank-bytes Queen = refl
rank-bytes King = refl
rank-bytes Ace = refl

-- ---- some of the ranks
abbrev shown_if : Bool → Rank → List ℕ
shown_if held rank = cond held (rank_shown rank) []

abbrev text_of : (Rank → Bool) → List Rank → List ℕ
text_of held ranks = flat_map (λ rank. shown_if (held rank) rank) ranks

-- one of the ranks begins with this byte
abbrev is_first : List Rank → ℕ → Bool
is_first [] byte = false
is_first (rank ∷ ranks) byte = cond (eqb (first_byte rank) byte) true (is_first ranks byte)

-- no two of the ranks begin with one byte
abbrev AreApart : List Rank → Type 0
AreApart [] = Unit {0}
AreApart (rank ∷ ranks) = (is_first ranks (first_byte rank) ≡ false) × AreApart ranks

abbrev AreSame : (Rank → Bool) → (Rank → Bool) → List Rank → Type 0
AreSame one other [] = Unit {0}
AreSame one other (rank ∷ ranks) = (one rank ≡ other rank) × AreSame one other ranks

cons-first : {x y : ℕ} {xs ys : List ℕ} → x ∷ xs ≡ y ∷ ys → x ≡ y
cons-first e = cc

begins : (held : Rank → Bool) (ranks : List Rank) (byte : ℕ) (bytes : List ℕ) → text_of held ranks ≡ byte ∷ bytes →
    is_first ranks byte ≡ true
begins held [] byte bytes e = absurd (cc)
begins held (rank ∷ ranks) byte bytes e = go (held rank) (begins held ranks byte bytes) e
  where
    found : (same : Bool) → eqb (first_byte rank) byte ≡ same → first_byte rank ≡ byte →
        cond same true (is_first ranks byte) ≡ true
    found true is h = refl
    found false is h = absurd (true≢false (sym (eq-eqb (first_byte rank) byte h) ∙ is))

    later : (same : Bool) → is_first ranks byte ≡ true → cond same true (is_first ranks byte) ≡ true
    later true h = refl
    later false h = h

    go : (own : Bool) → (text_of held ranks ≡ byte ∷ bytes → is_first ranks byte ≡ true) →
        shown_if own rank ++ text_of held ranks ≡ byte ∷ bytes → is_first (rank ∷ ranks) byte ≡ true
    go true more h =
        found (eqb (first_byte rank) byte) refl
        (cons-first (sym (ap (λ t. t ++ text_of held ranks) (rank-bytes rank)) ∙ h))
    go false more h = later (eqb (first_byte rank) byte) (more h)

-- a rank that is shown, and is not among those of the other text
apart : (rank : Rank) (ranks : List Rank) (one other : Rank → Bool) → is_first ranks (first_byte rank) ≡ false →
    rank_shown rank ++ text_of one ranks ≡ text_of other ranks → ⊥
apart rank ranks one other free e =
    true≢false (sym (begins other ranks (first_byte rank) (other_bytes rank ++ text_of one ranks)
    (sym e ∙ ap (λ t. t ++ text_of one ranks) (rank-bytes rank))) ∙ free)

pub same-cards : (one other : Rank → Bool) (ranks : List Rank) → AreApart ranks → text_of one ranks ≡ text_of other ranks →
    AreSame one other ranks
same-cards one other [] h e = tt
same-cards one other (rank ∷ ranks) h e = go (one rank) (other rank) (same-cards one other ranks h.1) refl refl e
  where
    go : (a b : Bool) → (text_of one ranks ≡ text_of other ranks → AreSame one other ranks) → one rank ≡ a → other rank ≡ b →
        shown_if a rank ++ text_of one ranks ≡ shown_if b rank ++ text_of other ranks → AreSame one other (rank ∷ ranks)
    go true true more is are k =
        (is ∙ sym are, more (append_cancel_left (rank_shown rank) (text_of one ranks) (text_of other ranks) k))
    go true false more is are k = absurd (apart rank ranks one other h.0 k)
    go false true more is are k = absurd (apart rank ranks other one h.0 (sym k))
    go false false more is are k = (is ∙ sym are, more k)

-- ---- a holding
module _ (one other : Deal) (seat : Seat) (suit : Suit) where
  abbrev held_in : Deal → Rank → Bool
  held_in deal rank = is_held_by seat (holder_of deal (card_of suit rank))

  none-shown : (deal : Deal) (ranks : List Rank) → list_all (λ rank. not (held_in deal rank)) ranks ≡ true →
      text_of (held_in deal) ranks ≡ []
  none-shown deal [] h = refl
  none-shown deal (rank ∷ ranks) h =
      let parts = and_parts (not (held_in deal rank)) (list_all (λ r. not (held_in deal r)) ranks) h in
      ap (λ b. shown_if b rank ++ text_of (held_in deal) ranks) (not-true (held_in deal rank) parts.0)
      ∙ none-shown deal ranks parts.1

  no-dash : (deal : Deal) → 0xE2 ∷ 0x80 ∷ 0x93 ∷ [] ≡ text_of (held_in deal) ranks_falling → ⊥
  no-dash deal e = true≢false (sym (begins (held_in deal) ranks_falling 0xE2 (0x80 ∷ 0x93 ∷ []) (sym e)))

  same-texts : (a b : Bool) → is_void one seat suit ≡ a → is_void other seat suit ≡ b →
      cond a (0xE2 ∷ 0x80 ∷ 0x93 ∷ []) (cards_shown one seat suit) ≡ cond b (0xE2 ∷ 0x80 ∷ 0x93 ∷ []) (cards_shown other seat suit) →
      text_of (held_in one) ranks_falling ≡ text_of (held_in other) ranks_falling
  same-texts true true is are e = none-shown one ranks_falling is ∙ sym (none-shown other ranks_falling are)
  same-texts true false is are e = absurd (no-dash other e)
  same-texts false true is are e = absurd (no-dash one (sym e))
  same-texts false false is are e = e

  at-rank : AreSame (held_in one) (held_in other) ranks_falling → (rank : Rank) → held_in one rank ≡ held_in other rank
  at-rank h Ace = h.0
  at-rank h King = h.1.0
  at-rank h Queen = h.1.1.0
  at-rank h Jack = h.1.1.1.0
  at-rank h Ten = h.1.1.1.1.0
  at-rank h Nine = h.1.1.1.1.1.0
  at-rank h Eight = h.1.1.1.1.1.1.0
  at-rank h Seven = h.1.1.1.1.1.1.1.0
  at-rank h Six = h.1.1.1.1.1.1.1.1.0
  at-rank h Five = h.1.1.1.1.1.1.1.1.1.0
  at-rank h Four = h.1.1.1.1.1.1.1.1.1.1.0
  at-rank h Three = h.1.1.1.1.1.1.1.1.1.1.1.0
  at-rank h Two = h.1.1.1.1.1.1.1.1.1.1.1.1.0

  pub same-holding : holding_shown one seat suit ≡ holding_shown other seat suit → (rank : Rank) → held_in one rank ≡ held_in other rank
  same-holding e =
      at-rank (same-cards (held_in one) (held_in other) ranks_falling
      (refl, (refl, (refl, (refl, (refl, (refl, (refl, (refl, (refl, (refl, (refl, (refl, (refl, tt)))))))))))))
      (same-texts (is_void one seat suit) (is_void other seat suit) refl refl e))
