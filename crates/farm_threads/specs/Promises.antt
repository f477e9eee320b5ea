-- What threads promise.
use Rattle.std.specs.Prelude.{OnOk}
use Rattle.std.specs.declared.thread.PromisedHandle.{PromisedHandle}
use Rattle.farm_threads.specs.declared.promises.Keeps.{Keeps}
use Rattle.farm_threads.specs.declared.works.Ended.{Ended}

module _ {P F W : Type 0} (leaves ends : W → P → P → Type 0) where
  -- the work was done at the post: it left it so, even if it failed
  pub record IsKept (keeps : Keeps P W) (ended : Ended P F) : Type 0 where
    pub left : leaves keeps.work.value keeps.post.value ended.post
    pub done : OnOk ended.outcome (ends keeps.work.value keeps.post.value ended.post)

module _ {T P : Type 0} (kept_by : P → T → Type 0) where
  -- the thread has ended: its result keeps its promise
  abbrev pub HasEnded : PromisedHandle T P → Type 0
  HasEnded thread = (ended : T) × kept_by thread.promise ended
