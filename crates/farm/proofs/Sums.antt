-- Sums over posts.
use Rattle.std.proofs.Common.{◌≡◌, ℕ, ◌+◌, ◌≤◌, List, [], ◌∷◌, All, map, sum_by, refl, arith}
use Rattle.std.proofs.lemmas.List.Elements.{All-head, All-tail}
use Rattle.std.proofs.lemmas.List.Sums.{sum_by-cons}

-- what is so of each post is so of all together
pub sums_below : {X : Type 0} (f g h k : X → ℕ) (xs : List X) → All (λ x. f x + g x ≤ h x + k x) xs → sum_by f xs + sum_by g xs ≤ sum_by h xs + sum_by k xs
sums_below f g h k [] each = omega arith
sums_below {X = X} f g h k (x ∷ xs) each =
    let Of : X → Type 0 = λ x. f x + g x ≤ h x + k x in
    let one = All-head Of x xs each in
    let rest = sums_below f g h k xs (All-tail Of x xs each) in
    omega (arith, sum_by-cons f x xs, sum_by-cons g x xs, sum_by-cons h x xs, sum_by-cons k x xs)

pub sum_of_nothing : {X : Type 0} (xs : List X) → sum_by (λ (x : X). 0) xs ≡ 0
sum_of_nothing [] = refl
sum_of_nothing {X = X} (x ∷ xs) = let rest = sum_of_nothing xs in omega (arith, sum_by-cons (λ (y : X). 0) x xs)

-- a sum over a part of each
pub sum_of_parts : {X Y : Type 0} (f : Y → ℕ) (g : X → Y) (xs : List X) → sum_by f (map g xs) ≡ sum_by (λ x. f (g x)) xs
sum_of_parts f g [] = refl
sum_of_parts f g (x ∷ xs) =
    let rest = sum_of_parts f g xs in
    omega (arith, sum_by-cons f (g x) (map g xs), sum_by-cons (λ y. f (g y)) x xs)

-- a sum of nothing each
pub sum_of_zeros : {X : Type 0} (f : X → ℕ) (xs : List X) → All (λ x. f x ≡ 0) xs → sum_by f xs ≡ 0
sum_of_zeros f [] all = refl
sum_of_zeros {X = X} f (x ∷ xs) all =
    let Of : X → Type 0 = λ y. f y ≡ 0 in
    let one = All-head Of x xs all in
    let rest = sum_of_zeros f xs (All-tail Of x xs all) in
    omega (arith, sum_by-cons f x xs)
