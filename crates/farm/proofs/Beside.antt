-- What is known of posts before the work, after it.
use Rattle.std.proofs.Common.{◌≡◌, List, [], ◌∷◌, All, map, length, refl, arith}
use Rattle.std.proofs.lemmas.List.Elements.{All-nil, All-cons, All-head, All-tail}
use Rattle.farm_threads.specs.Beside.{AreBeside}

module _ {X : Type 0} (R : X → X → Type 0) where
  -- what holds of a part of each post, and is kept
  pub carried : {Y : Type 0} (P : Y → Type 0) (f : X → Y) → ((x y : X) → R x y → P (f x) → P (f y)) → (xs ys : List X) → AreBeside R xs ys → All P (map f xs) → All P (map f ys)
  carried P f keeps [] [] are all = all
  carried P f keeps [] (y ∷ ys) are all = absurd are
  carried P f keeps (x ∷ xs) [] are all = absurd are
  carried P f keeps (x ∷ xs) (y ∷ ys) are all =
      All-cons P (f y) (map f ys) (keeps x y are.0 (All-head P (f x) (map f xs) all)) (carried P f keeps xs ys are.1 (All-tail P (f x) (map f xs) all))

  -- what holds of each post after the work
  pub each_after : (P : X → Type 0) → ((x y : X) → R x y → P y) → (xs ys : List X) → AreBeside R xs ys → All P ys
  each_after P after [] [] are = All-nil P
  each_after P after [] (y ∷ ys) are = absurd are
  each_after P after (x ∷ xs) [] are = absurd are
  each_after P after (x ∷ xs) (y ∷ ys) are = All-cons P y ys (after x y are.0) (each_after P after xs ys are.1)

  -- there are as many
  pub as_many : (xs ys : List X) → AreBeside R xs ys → length ys ≡ length xs
  as_many [] [] are = refl
  as_many [] (y ∷ ys) are = absurd are
  as_many (x ∷ xs) [] are = absurd are
  as_many (x ∷ xs) (y ∷ ys) are = let k = as_many xs ys are.1 in omega arith

  -- what is the same of each
  pub same_of_each : {Y : Type 0} (f : X → Y) → ((x y : X) → R x y → f y ≡ f x) → (xs ys : List X) → AreBeside R xs ys → map f ys ≡ map f xs
  same_of_each f same [] [] are = refl
  same_of_each f same [] (y ∷ ys) are = absurd are
  same_of_each f same (x ∷ xs) [] are = absurd are
  same_of_each f same (x ∷ xs) (y ∷ ys) are = let one = same x y are.0 in let rest = same_of_each f same xs ys are.1 in λ i. one i ∷ rest i
