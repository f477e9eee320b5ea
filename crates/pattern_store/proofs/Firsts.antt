-- The first of a list of adds that serves.
use Rattle.std.proofs.Common.{ℕ, suc, ◌+◌, ◌<◌, List, [], length, take, drop, get_or, refl, subst, inl, inr, arith}
use Rattle.std.proofs.lemmas.List.{take_more}
use Rattle.std.proofs.lemmas.List.Elements.{Contains-push_cases}
use Rattle.std.proofs.Math.Seq.{split_at}
use Rattle.cards.specs.Deal.{Deal}
use Rattle.pattern_store.specs.declared.keys.Added.{Added}
use Rattle.pattern_store.specs.Stores.{Serves, NoneServes, FirstServes}

-- one add more does not serve
pub none_more : (deal : Deal) (need : ℕ) (adds : List Added) (i : ℕ) (d : Added) → i < length adds → NoneServes deal need (take i adds) → (Serves deal need (get_or adds i d) → ⊥) → NoneServes deal need (take (i + 1) adds)
none_more deal need adds i d lt before here added h serves =
    elim (Contains-push_cases (take i adds) (get_or adds i d) added (rw (take_more adds i d lt) at h)) [
      | inl a ↦ before added a serves
      | inr e ↦ subst (λ (a : Added). Serves deal need a → ⊥) e here serves
    ]

-- the add in this place serves, and none before it
pub first_at : (deal : Deal) (need : ℕ) (adds : List Added) (i : ℕ) (d : Added) → i < length adds → NoneServes deal need (take i adds) → Serves deal need (get_or adds i d) → FirstServes deal need adds (get_or adds i d).number
first_at deal need adds i d lt before serves = record {
  before = take i adds;
  first = get_or adds i d;
  after = drop (suc i) adds;
  is = split_at adds i d lt;
  none_before = before;
  serves = serves;
  number_is = refl;
}

-- of no adds none serves
pub none_of_none : (deal : Deal) (need : ℕ) → NoneServes deal need []
none_of_none deal need added has serves = omega (arith, has.1)
