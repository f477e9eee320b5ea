-- `==` of two keys says whether they are the same.
use Rattle.std.proofs.Common.{◌≡◌, ◌≢◌, Bool, true, false, ◌&&◌, ℕ, List, refl, sym, ◌∙◌, ap, nat_eq, inl, inr, rules}
use Rattle.std.specs.Bool.{Decides}
use Rattle.std.specs.Cmp.Lexicographic.{pointwise}
use Rattle.std.proofs.lemmas.Bool.{cases_Bool}
use Rattle.std.proofs.lemmas.Bool.Decides.{Decides-and, Decides-like, Decides-eqb}
use Rattle.std.proofs.lemmas.Slice.Eq.{slice_eq-Decides}
use denote.Enum.Bare.{sameb, same_true}
use Rattle.cards.specs.declared.seats.Seat.{Seat}
use Rattle.cards.specs.declared.seats.Seat.TheVariants.{North, East, South, West}
use Rattle.cards.specs.declared.seats.Side.{Side}
use Rattle.cards.specs.declared.seats.Side.TheVariants.{NorthSouth, EastWest}
use Rattle.cards.specs.contracts.seats.Seat.{the_type as seats}
use Rattle.cards.specs.contracts.seats.Side.{the_type as sides}
use Rattle.pattern_store.specs.declared.keys.Key.{Key}

-- what `==` of keys compares
abbrev pub keys_equal : Key → Key → Bool
keys_equal one other = pointwise (pointwise nat_eq) one.lengths other.lengths && (sameb seats one.lead other.lead && sameb sides one.side other.side)

lens_equal-Decides : (one other : List ℕ) → Decides (pointwise nat_eq one other) (one ≡ other)
lens_equal-Decides one other = slice_eq-Decides Decides-eqb one other (pointwise nat_eq one other) refl

lengths_equal-Decides : (one other : List (List ℕ)) → Decides (pointwise (pointwise nat_eq) one other) (one ≡ other)
lengths_equal-Decides one other = slice_eq-Decides lens_equal-Decides one other (pointwise (pointwise nat_eq) one other) refl

seat_same : (seat : Seat) → sameb seats seat seat ≡ true
seat_same North = refl
seat_same East = refl
seat_same South = refl
seat_same West = refl

side_same : (side : Side) → sameb sides side side ≡ true
side_same NorthSouth = refl
side_same EastWest = refl

seats_equal-Decides : (one other : Seat) → Decides (sameb seats one other) (one ≡ other)
seats_equal-Decides one other = (λ h. same_true seats (search rules) one other h, λ e. ap (λ (s : Seat). sameb seats one s) (sym e) ∙ seat_same one)

sides_equal-Decides : (one other : Side) → Decides (sameb sides one other) (one ≡ other)
sides_equal-Decides one other = (λ h. same_true sides (search rules) one other h, λ e. ap (λ (s : Side). sameb sides one s) (sym e) ∙ side_same one)

-- two keys are the same where their parts are
same_keys : (one other : Key) → one.lengths ≡ other.lengths → one.lead ≡ other.lead → one.side ≡ other.side → one ≡ other
same_keys one other lengths lead side =
    ap (λ (l : List (List ℕ)). record one { lengths = l }) lengths
    ∙ (ap (λ (s : Seat). record one { lengths = other.lengths; lead = s }) lead ∙ ap (λ (s : Side). record other { side = s }) side)

pub keys_equal-Decides : (one other : Key) → Decides (keys_equal one other) (one ≡ other)
keys_equal-Decides one other =
    Decides-like _ (λ h. same_keys one other h.0 h.1.0 h.1.1)
    (λ e. (ap (λ (k : Key). k.lengths) e, (ap (λ (k : Key). k.lead) e, ap (λ (k : Key). k.side) e)))
    (Decides-and _ _ (lengths_equal-Decides one.lengths other.lengths)
    (Decides-and _ _ (seats_equal-Decides one.lead other.lead) (sides_equal-Decides one.side other.side)))

pub keys_equal-same : (key : Key) → keys_equal key key ≡ true
keys_equal-same key = (keys_equal-Decides key key).1 refl

pub keys_equal-apart : (key other : Key) → other ≢ key → keys_equal key other ≡ false
keys_equal-apart key other apart =
    elim (cases_Bool (keys_equal key other)) [
      | inl t ↦ absurd (apart (sym ((keys_equal-Decides key other).0 t)))
      | inr f ↦ f
    ]
