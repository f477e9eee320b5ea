-- The cards of a trick, one after the other.
use Rattle.std.proofs.Common.{◌≡◌, ◌⊎◌, ℕ, zero, suc, ◌+◌, ◌<◌, ◌≤◌, List, [], ◌∷◌, ◌++◌, length, take}
use Rattle.std.proofs.Common.{Some, pos, refl, sym, ap, ◌∙◌, subst, inl, inr, arith, slice_get, Contains}
use Rattle.std.proofs.lemmas.Option.{same_Some, none-some, slice_get_within, get_or_from_slice_get, slice_get-get_or}
use Rattle.std.proofs.lemmas.List.{length_push}
use Rattle.std.proofs.lemmas.Bool.{cases_eq}
use Rattle.cards.specs.declared.seats.Seat.{Seat}
use Rattle.cards.specs.declared.seats.Seat.TheVariants.{North, East, South, West}
use Rattle.cards.specs.declared.pack.Card.{Card}
use Rattle.cards.specs.Seats.{next_of, seat_in_place, place_of}
use Rattle.dds_calls.specs.declared.board_shapes.BoardDeal.{BoardDeal}
use Rattle.dds_calls.specs.BoardPositions.{IsGiven, IsPlayedBy, rank_given}
use Rattle.dds_calls.specs.Readings.{AreGivenTo}

-- ---- an element of a longer list
pub slice_get_push : {A : Type 0} (xs : List A) (y x : A) (k : ℕ) → slice_get (xs ++ y ∷ []) k ≡ Some x → (slice_get xs k ≡ Some x) ⊎ ((k ≡ length xs) × (y ≡ x))
slice_get_push [] y x zero e = inr (refl, same_Some y x e)
slice_get_push [] y x (suc k) e = absurd (none-some x e)
slice_get_push (a ∷ xs) y x zero e = inl e
slice_get_push (a ∷ xs) y x (suc k) e =
    elim (slice_get_push xs y x k e) [ inl h ↦ inl h | inr p ↦ inr (ap suc p.0, p.1) ]

pub slice_get_push_old : {A : Type 0} (xs : List A) (y x : A) (k : ℕ) → slice_get xs k ≡ Some x → slice_get (xs ++ y ∷ []) k ≡ Some x
slice_get_push_old [] y x k e = absurd (none-some x e)
slice_get_push_old (a ∷ xs) y x zero e = e
slice_get_push_old (a ∷ xs) y x (suc k) e = slice_get_push_old xs y x k e

pub slice_get_push_new : {A : Type 0} (xs : List A) (y : A) → slice_get (xs ++ y ∷ []) (length xs) ≡ Some y
slice_get_push_new [] y = refl
slice_get_push_new (a ∷ xs) y = slice_get_push_new xs y

pub slice_get_take : {A : Type 0} (n : ℕ) (xs : List A) (x : A) (k : ℕ) → slice_get (take n xs) k ≡ Some x → (slice_get xs k ≡ Some x) × (k < n)
slice_get_take zero xs x k e = absurd (none-some x e)
slice_get_take (suc n) [] x k e = absurd (none-some x e)
slice_get_take (suc n) (a ∷ xs) x zero e = (e, omega arith)
slice_get_take (suc n) (a ∷ xs) x (suc k) e = let rest = slice_get_take n xs x k e in (rest.0, omega (arith, rest.1))

pub contains_from_slice_get : {A : Type 0} (xs : List A) (x : A) (k : ℕ) → slice_get xs k ≡ Some x → Contains xs x
contains_from_slice_get xs x k e = (k, slice_get_within xs k x e, get_or_from_slice_get xs k x x e)

pub slice_get_from_contains : {A : Type 0} (xs : List A) (x : A) → Contains xs x → (k : ℕ) × (slice_get xs k ≡ Some x)
slice_get_from_contains xs x h = (h.0, slice_get-get_or xs h.0 x h.1 ∙ ap Some h.2)

pub given_skip : (board : BoardDeal) (place : ℕ) (cards : List Card) → AreGivenTo board place cards → rank_given board place ≡ pos 0 → AreGivenTo board (place + 1) cards
given_skip board place cards given none = record {
  few = omega (arith, given.few);
  each = given.each;
  no_more = λ k h below. elim (cases_eq k place) [
    | inl e ↦ subst (λ n. rank_given board n ≡ pos 0) (sym e) none
    | inr n ↦ given.no_more k h (omega arith)
  ];
}

pub given_push : (board : BoardDeal) (place : ℕ) (cards more : List Card) (card : Card) → AreGivenTo board place cards → place ≤ length cards → IsGiven board place card → more ≡ cards ++ card ∷ [] → AreGivenTo board (place + 1) more
given_push board place cards more card given all is e =
    let given' : AreGivenTo board (place + 1) (cards ++ card ∷ []) = record {
      few = omega (arith, given.few, length_push cards card);
      each = λ k one at. elim (slice_get_push cards card one k at) [
        | inl old ↦ given.each k one old
        | inr p ↦
            let here : k ≡ place = omega (arith, given.few, p.0) in
            subst (λ n. IsGiven board n one) (sym here) (subst (λ (x : Card). IsGiven board place x) p.1 is)
      ];
      no_more = λ k h below. absurd (omega (arith, h, below, length_push cards card));
    } in
    subst (λ (xs : List Card). AreGivenTo board (place + 1) xs) (sym e) given'

-- ---- seats and places
pub place_of-seat : (leader : Seat) (place : ℕ) → place < 4 → place_of leader (seat_in_place leader place) ≡ place
place_of-seat North zero h = refl
place_of-seat North (suc zero) h = refl
place_of-seat North (suc (suc zero)) h = refl
place_of-seat North (suc (suc (suc zero))) h = refl
place_of-seat East zero h = refl
place_of-seat East (suc zero) h = refl
place_of-seat East (suc (suc zero)) h = refl
place_of-seat East (suc (suc (suc zero))) h = refl
place_of-seat South zero h = refl
place_of-seat South (suc zero) h = refl
place_of-seat South (suc (suc zero)) h = refl
place_of-seat South (suc (suc (suc zero))) h = refl
place_of-seat West zero h = refl
place_of-seat West (suc zero) h = refl
place_of-seat West (suc (suc zero)) h = refl
place_of-seat West (suc (suc (suc zero))) h = refl
place_of-seat _ _ h = absurd (omega arith)

pub seat_of-place : (leader seat : Seat) → seat_in_place leader (place_of leader seat) ≡ seat
seat_of-place North North = refl
seat_of-place North East = refl
seat_of-place North South = refl
seat_of-place North West = refl
seat_of-place East North = refl
seat_of-place East East = refl
seat_of-place East South = refl
seat_of-place East West = refl
seat_of-place South North = refl
seat_of-place South East = refl
seat_of-place South South = refl
seat_of-place South West = refl
seat_of-place West North = refl
seat_of-place West East = refl
seat_of-place West South = refl
seat_of-place West West = refl

-- two cards of a trick were played by different seats
pub same_place : (leader : Seat) (one other : ℕ) → one < 4 → other < 4 → seat_in_place leader one ≡ seat_in_place leader other → one ≡ other
same_place leader one other h k e = sym (place_of-seat leader one h) ∙ (ap (place_of leader) e ∙ place_of-seat leader other k)

pub seat_in_place-suc : (leader : Seat) (place : ℕ) → seat_in_place leader (suc place) ≡ next_of (seat_in_place leader place)
seat_in_place-suc leader zero = refl
seat_in_place-suc leader (suc place) = seat_in_place-suc (next_of leader) place

pub seat_in_place-more : (leader : Seat) (place : ℕ) → seat_in_place leader (place + 1) ≡ next_of (seat_in_place leader place)
seat_in_place-more leader place =
    let e : place + 1 ≡ suc place = omega arith in
    ap (seat_in_place leader) e ∙ seat_in_place-suc leader place

-- ---- the seat that has played a card
pub played_none : (leader seat : Seat) (card : Card) → IsPlayedBy leader [] seat card → ⊥
played_none leader seat card h = none-some card h.1

pub played_more : (leader : Seat) (trick : List Card) (card : Card) (seat : Seat) (one : Card) → IsPlayedBy leader (trick ++ card ∷ []) seat one
    → IsPlayedBy leader trick seat one ⊎ ((seat_in_place leader (length trick) ≡ seat) × (card ≡ one))
played_more leader trick card seat one h =
    elim (slice_get_push trick card one h.0 h.1) [
      | inl old ↦ inl (h.0, old, h.2)
      | inr p ↦ inr (sym (ap (seat_in_place leader) p.0) ∙ h.2, p.1)
    ]

pub played_old : (leader : Seat) (trick : List Card) (card : Card) (seat : Seat) (one : Card) → IsPlayedBy leader trick seat one → IsPlayedBy leader (trick ++ card ∷ []) seat one
played_old leader trick card seat one h = (h.0, slice_get_push_old trick card one h.0 h.1, h.2)

pub played_new : (leader : Seat) (trick : List Card) (card : Card) → IsPlayedBy leader (trick ++ card ∷ []) (seat_in_place leader (length trick)) card
played_new leader trick card = (length trick, slice_get_push_new trick card, refl)
