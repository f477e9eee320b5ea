-- The ends of lines.
use Rattle.std.proofs.Common.{List, [], ◌∷◌, ◌≡◌, ◌++◌, refl, ap, map, inl, inr, ◌⊎◌, sym, subst}
use Rattle.pbn_deals.specs.Pieces.{Line}
use Rattle.pbn_deals.proofs.RowsBack.{IsEnded, AreEnded, row_of}

abbrev pub Ended : List Line → Type 0
Ended lines = AreEnded (map row_of lines)

-- ---- lines that all have ends
abbrev pub AllEnded : List Line → Type 0
AllEnded [] = Unit {0}
AllEnded (line ∷ lines) = IsEnded (row_of line) × AllEnded lines

none_of : (lines others : List Line) → map row_of (lines ++ others) ≡ [] → (lines ≡ []) × (others ≡ [])
none_of [] [] e = (refl, refl)
none_of [] (line ∷ others) e = absurd (cc)
none_of (line ∷ lines) others e = absurd (cc)

pub ended_split : (lines others : List Line) → Ended (lines ++ others) → (AllEnded lines × Ended others) ⊎ (Ended lines × (others ≡ []))
ended_split [] others h = inl (tt, h)
ended_split (line ∷ lines) others (inl (is, more)) =
    elim (ended_split lines others more) [
      | inl (all, rest) ↦ inl ((is, all), rest)
      | inr (some, none) ↦ inr (inl (is, some), none)
    ]
ended_split (line ∷ lines) others (inr (u, n)) = let none = none_of lines others n in inr (inr (u, ap (map row_of) none.0), none.1)

all_of : (lines : List Line) → AllEnded lines → Ended lines
all_of [] h = tt
all_of (line ∷ lines) h = inl (h.0, all_of lines h.1)

pub front_ended : (lines others : List Line) → Ended (lines ++ others) → Ended lines
front_ended lines others h =
    elim (ended_split lines others h) [
      | inl both ↦ all_of lines both.0
      | inr both ↦ both.0
    ]

pub back_ended : (lines others : List Line) → Ended (lines ++ others) → Ended others
back_ended lines others h =
    elim (ended_split lines others h) [
      | inl both ↦ both.1
      | inr both ↦ subst Ended (sym both.1) tt
    ]
