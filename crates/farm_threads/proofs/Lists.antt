-- Lists that grow by one, and lists beside each other.
use Rattle.std.proofs.Common.{◌≡◌, List, [], ◌∷◌, ◌++◌, All, map, length, append-nil, sym, ap, ◌∙◌, subst, append_assoc, arith}
use Rattle.std.proofs.lemmas.List.{map_push}
use Rattle.std.proofs.lemmas.List.Elements.{All-head, All-tail, All-push}
use Rattle.std.specs.declared.thread.PromisedHandle.{PromisedHandle}
use Rattle.farm_threads.specs.declared.promises.Keeps.{Keeps}
use Rattle.farm_threads.specs.declared.works.Ended.{Ended}
use Rattle.farm_threads.specs.Beside.{AreBeside}
use Rattle.farm_threads.specs.Posts.{AreThreadsOf}

-- the items taken and those left are all
pub taken_more : {X : Type 0} (taken rest later all : List X) (item : X) → rest ≡ item ∷ later → taken ++ rest ≡ all → (taken ++ item ∷ []) ++ later ≡ all
taken_more taken rest later all item is whole = append_assoc taken (item ∷ []) later ∙ ap (λ l. taken ++ l) (sym is) ∙ whole

-- all are taken where none is left
pub all_taken : {X : Type 0} (taken rest all : List X) → length rest ≡ 0 → taken ++ rest ≡ all → taken ≡ all
all_taken taken [] all none whole = sym (append-nil taken) ∙ whole
all_taken taken (x ∷ rest) all none whole = absurd (omega arith)

-- one thing more was made
pub map_more : {X Y : Type 0} (f : X → Y) (made more : List X) (of : List Y) (x : X) (y : Y) → more ≡ made ++ x ∷ [] → map f made ≡ of → f x ≡ y → map f more ≡ of ++ y ∷ []
map_more f made more of x y is same one = ap (map f) is ∙ map_push f made x ∙ (λ i. same i ++ one i ∷ [])

pub All-more : {X : Type 0} (P : X → Type 0) (made more : List X) (x : X) → more ≡ made ++ x ∷ [] → All P made → P x → All P more
All-more {X = X} P made more x is all one = subst (λ (l : List X). All P l) (sym is) (All-push P made x all one)

module _ {X Y : Type 0} (R : X → Y → Type 0) where
  both_more : (xs : List X) (ys : List Y) (x : X) (y : Y) → AreBeside R xs ys → R x y → AreBeside R (xs ++ x ∷ []) (ys ++ y ∷ [])
  both_more [] [] x y are one = (one, tt)
  both_more [] (z ∷ ys) x y are one = absurd are
  both_more (w ∷ xs) [] x y are one = absurd are
  both_more (w ∷ xs) (z ∷ ys) x y are one = (are.0, both_more xs ys x y are.1 one)

  -- one more on each side, which belong together
  pub beside_more : (xs : List X) (ys more : List Y) (x : X) (y : Y) → more ≡ ys ++ y ∷ [] → AreBeside R xs ys → R x y → AreBeside R (xs ++ x ∷ []) more
  beside_more xs ys more x y is are one = subst (λ (l : List Y). AreBeside R (xs ++ x ∷ []) l) (sym is) (both_more xs ys x y are one)

module _ {P F W : Type 0} (ends : W → P → P → Type 0) (work : W) where
  kept_one_by_one : (threads : List (PromisedHandle (Ended P F) (Keeps P W))) (ended : List P) → All (λ (t : PromisedHandle (Ended P F) (Keeps P W)). t.promise.work.value ≡ work) threads → AreBeside (λ (t : PromisedHandle (Ended P F) (Keeps P W)) post. ends t.promise.work.value t.promise.post.value post) threads ended → AreBeside (ends work) (map (λ (t : PromisedHandle (Ended P F) (Keeps P W)). t.promise.post.value) threads) ended
  kept_one_by_one [] [] of are = tt
  kept_one_by_one [] (e ∷ es) of are = absurd are
  kept_one_by_one (t ∷ ts) [] of are = absurd are
  kept_one_by_one (t ∷ ts) (e ∷ es) of are =
      let Of : PromisedHandle (Ended P F) (Keeps P W) → Type 0 = λ t. t.promise.work.value ≡ work in (
        subst (λ (w : W). ends w t.promise.post.value e) (All-head Of t ts of) are.0,
        kept_one_by_one ts es (All-tail Of t ts of) are.1,
      )

  -- what the threads have kept, of the posts that they were started at
  pub kept : (posts : List P) (threads : List (PromisedHandle (Ended P F) (Keeps P W))) (ended : List P) → AreThreadsOf work posts threads → AreBeside (λ (t : PromisedHandle (Ended P F) (Keeps P W)) post. ends t.promise.work.value t.promise.post.value post) threads ended → AreBeside (ends work) posts ended
  kept posts threads ended of are = subst (λ (l : List P). AreBeside (ends work) l ended) of.posts_are (kept_one_by_one threads ended of.work_is are)
