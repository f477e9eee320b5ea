-- What a store holds, what an add does to it, and which add serves a layout.
use Rattle.std.specs.Prelude.{◌≡◌, ◌≢◌, ℕ, ◌≤◌, Bool, cond, List, [], ◌∷◌, ◌++◌, Contains}
use Rattle.cards.specs.Deal.{Deal}
use Rattle.patterns.specs.Holders.{Matches}
use Rattle.pattern_store.specs.declared.keys.Key.{Key}
use Rattle.pattern_store.specs.declared.keys.Added.{Added}

-- the lists by their keys
abbrev pub Lists : Type 0
Lists = List (Key × List Added)

-- the list under the key that passes the test, of no adds where there is none
abbrev pub list_at : (Key → Bool) → Lists → List Added
list_at test [] = []
list_at test (entry ∷ rest) = cond (test entry.0) entry.1 (list_at test rest)

-- an add goes to the end of its key's list, and every other list stays
pub record AddsTo (eq : Key → Key → Bool) (old new : Lists) (key : Key) (added : Added) : Type 0 where
  pub this_list : list_at (eq key) new ≡ list_at (eq key) old ++ (added ∷ [])
  pub other_lists : (other : Key) → other ≢ key → list_at (eq other) new ≡ list_at (eq other) old

-- an add serves a layout and a need: the layout matches its pattern, and its need is at least this one
pub record Serves (deal : Deal) (need : ℕ) (added : Added) : Type 0 where
  pub enough : need ≤ added.need
  pub matches : Matches added.pattern deal

-- none of the adds serves
abbrev pub NoneServes : Deal → ℕ → List Added → Type 0
NoneServes deal need adds = (added : Added) → Contains adds added → Serves deal need added → ⊥

-- the first of the adds that serves has this number
pub record FirstServes (deal : Deal) (need : ℕ) (adds : List Added) (number : ℕ) : Type 0 where
  pub before : List Added
  pub first : Added
  pub after : List Added
  pub is : adds ≡ before ++ (first ∷ after)
  pub none_before : NoneServes deal need before
  pub serves : Serves deal need first
  pub number_is : first.number ≡ number
