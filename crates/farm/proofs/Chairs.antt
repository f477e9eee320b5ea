-- What is known of chairs goes over to others of which the same is shown.
use Rattle.std.proofs.Common.{◌≡◌, ℕ, ◌<◌, ◌≤◌, Bool, true, false, cond, List, [], ◌∷◌, map, All, Contains, count_by, refl, subst, ⊎_elim, arith}
use Rattle.std.specs.Prelude.{sum_by}
use Rattle.std.proofs.lemmas.Bool.{cases_lt}
use Rattle.std.proofs.lemmas.List.Elements.{All-nil, All-cons, All-head, All-tail, Contains-append_left, Contains-append_right, Contains-push}
use Rattle.std.proofs.lemmas.List.Sums.{sum_by-cons}
use Rattle.lease_desk.specs.declared.chairs.Chair.{Chair}
use Rattle.lease_desk.specs.declared.receipts.Receipt.{Receipt}
use Rattle.lease_desk.specs.Desks.{shown_of}

-- what holds of all that is shown
pub All-shown : (P : ℕ × List Receipt → Type 0) (old new : List Chair) → map shown_of new ≡ map shown_of old → All (λ chair. P (shown_of chair)) old → All (λ chair. P (shown_of chair)) new
All-shown P [] [] same all = All-nil (λ chair. P (shown_of chair))
All-shown P [] (y ∷ ys) same all = cc
All-shown P (x ∷ xs) [] same all = cc
All-shown P (x ∷ xs) (y ∷ ys) same all =
    let first : shown_of x ≡ shown_of y = cc in
    let rest : map shown_of ys ≡ map shown_of xs = cc in
    let Q : Chair → Type 0 = λ chair. P (shown_of chair) in
    All-cons Q y ys (subst P first (All-head Q x xs all)) (All-shown P xs ys rest (All-tail Q x xs all))

-- where a sum is above 0, so is one of its terms
pub above_zero : {X : Type 0} (f : X → ℕ) (xs : List X) → 0 < sum_by f xs → (x : X) × Contains xs x × (0 < f x)
above_zero f [] some = absurd (omega arith)
above_zero f (x ∷ xs) some =
    ⊎_elim
    (λ here. (x, Contains-append_left (x ∷ []) xs x (Contains-push [] x), here))
    (λ none.
    let cut = sum_by-cons f x xs in
    let later = above_zero f xs (omega arith) in
    (later.0, Contains-append_right (x ∷ []) xs later.0 later.1, later.2))
    (cases_lt 0 (f x))

-- where a sum is 0, so is each of its terms
pub zero_each : {X : Type 0} (f : X → ℕ) (xs : List X) → sum_by f xs ≡ 0 → All (λ x. f x ≡ 0) xs
zero_each f [] none = All-nil (λ x. f x ≡ 0)
zero_each {X = X} f (x ∷ xs) none =
    let Of : X → Type 0 = λ y. f y ≡ 0 in
    let cut = sum_by-cons f x xs in
    All-cons Of x xs (omega arith) (zero_each f xs (omega arith))

-- what is counted is there
passes : (b : Bool) → 0 < cond b 1 0 → b ≡ true
passes true some = refl
passes false some = absurd (omega arith)

abbrev pub one_if : Bool → ℕ
one_if b = cond b 1 0

pub uncounted : (b : Bool) → b ≡ true → one_if b ≡ 0 → 1 ≤ 0
uncounted b is none =
    let one : one_if true ≡ 0 = subst (λ (c : Bool). one_if c ≡ 0) is none in
    omega arith

pub counted_is_there : {X : Type 0} (test : X → Bool) (xs : List X) → 0 < count_by test xs → (x : X) × Contains xs x × (test x ≡ true)
counted_is_there test xs some =
    let found = above_zero (λ x. cond (test x) 1 0) xs some in
    (found.0, found.1, passes (test found.0) found.2)
