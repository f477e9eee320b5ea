-- Threads at posts.
use Rattle.std.specs.Prelude.{◌≡◌, List, map}
use Rattle.std.specs.List.{All}
use Rattle.std.specs.declared.thread.PromisedHandle.{PromisedHandle}
use Rattle.farm_threads.specs.declared.promises.Keeps.{Keeps}
use Rattle.farm_threads.specs.declared.works.Ended.{Ended}

module _ {P F W : Type 0} (work : W) where
  -- a thread that does this work at this post
  pub record IsThreadOf (post : P) (thread : PromisedHandle (Ended P F) (Keeps P W)) : Type 0 where
    pub work_is : thread.promise.work.value ≡ work
    pub post_is : thread.promise.post.value ≡ post

  -- threads that do this work at these posts
  pub record AreThreadsOf (posts : List P) (threads : List (PromisedHandle (Ended P F) (Keeps P W))) : Type 0 where
    pub work_is : All (λ thread. thread.promise.work.value ≡ work) threads
    pub posts_are : map (λ thread. thread.promise.post.value) threads ≡ posts
