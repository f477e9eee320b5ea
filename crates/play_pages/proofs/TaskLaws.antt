-- The play of a task, by its place among the games.
use Rattle.std.proofs.Common.{◌≡◌, ℕ, ◌<◌, List, length, get_or, Option, IfSome, Ok, Err, sym, ◌∙◌, ap, subst}
use Rattle.std.proofs.lemmas.List.Elements.{All-get_or}
use Rattle.std.proofs.lemmas.Option.{slice_get-get_or}
use Rattle.play_claims.specs.Solvers.{MayFindPlay}
use Rattle.recorded_plays.specs.declared.plays.RecordedPlay.{RecordedPlay}
use Rattle.recorded_plays.specs.declared.plays.RecordedGame.{RecordedGame}
use Rattle.recorded_plays.specs.declared.plays.Lack.{Lack}
use Rattle.play_pages.specs.declared.lines.PlayLines.{PlayLines}
use Rattle.play_pages.specs.declared.queries.PlayQuery.{PlayQuery}
use Rattle.play_pages.specs.Lines.{play_in, play_of, play_at, IsLegalPlay}
use Rattle.play_pages.specs.Answers.{AreFoundLines}
use Rattle.play_pages.specs.Tasks.{AreLegal, IsDone}

module _ (games : List RecordedGame) (task : ℕ) (one : RecordedGame) (within : task < length games)
    (is : one ≡ get_or games task one) where
  play_there : play_at games task ≡ play_of one.play
  play_there = ap play_in (slice_get-get_or games task one within) ∙ ap (λ (game : RecordedGame). play_of game.play) (sym is)

  -- the cards of a play are legal
  pub legal_there : AreLegal games → (play : RecordedPlay) → one.play ≡ Ok play → IsLegalPlay play
  legal_there legal play ok =
      subst (λ (there : Option RecordedPlay). IfSome there IsLegalPlay) (ap play_of ok)
      (subst (λ (game : RecordedGame). IfSome (play_of game.play) IsLegalPlay) (sym is)
      (All-get_or (λ (game : RecordedGame). IfSome (play_of game.play) IsLegalPlay) games task one within legal))

  module _ (may_find : MayFindPlay) (query : PlayQuery) (lines : PlayLines) where
    -- a game with a play
    pub done_with : (play : RecordedPlay) → one.play ≡ Ok play → AreFoundLines may_find query play lines →
        IsDone may_find query games task lines
    done_with play ok found =
        subst (λ (there : Option RecordedPlay). IfSome there (λ some. AreFoundLines may_find query some lines))
        (sym (play_there ∙ ap play_of ok)) found

    -- a game without
    pub done_without : (lack : Lack) → one.play ≡ Err lack → IsDone may_find query games task lines
    done_without lack err =
        subst (λ (there : Option RecordedPlay). IfSome there (λ some. AreFoundLines may_find query some lines))
        (sym (play_there ∙ ap play_of err)) tt
