-- Lists whose items belong together.
use Rattle.std.specs.Prelude.{List, [], ◌∷◌, ⊤}

module _ {X Y : Type 0} (belong : X → Y → Type 0) where
  -- the first with the first, the second with the second, and so on; one list is as long as the other
  abbrev pub AreBeside : List X → List Y → Type 0
  AreBeside [] [] = ⊤
  AreBeside [] (y ∷ ys) = ⊥
  AreBeside (x ∷ xs) [] = ⊥
  AreBeside (x ∷ xs) (y ∷ ys) = belong x y × AreBeside xs ys
