-- What is noted of tasks, and the leads of games that it comes to.
use Rattle.std.proofs.Common.{◌≡◌, ℕ, ◌<◌, inl, inr, List, length, Contains, Option, Some, None, IfSome, IsSome, unwrap_or, get_or, refl, sym, ◌∙◌, ap, subst}
use Rattle.std.specs.Prelude.{slice_index_or, slice_set}
use Rattle.std.proofs.lemmas.Bool.{cases_eq, cases_lt, false≢true}
use Rattle.std.proofs.lemmas.List.{get_or-set_same, get_or-set_other}
use Rattle.std.proofs.lemmas.List.Elements.{All-contains}
use Rattle.std.proofs.lemmas.Option.{slice_get_past}
use Rattle.play_claims.specs.Solvers.{MayFindPlay}
use Rattle.recorded_plays.specs.declared.plays.RecordedGame.{RecordedGame}
use Rattle.recorded_plays.specs.declared.plays.RecordedPlay.{RecordedPlay}
use Rattle.play_pages.specs.declared.lines.PlayLines.{PlayLines}
use Rattle.play_pages.specs.declared.queries.PlayQuery.{PlayQuery}
use Rattle.play_pages.specs.Lines.{play_in, play_at}
use Rattle.play_pages.specs.Answers.{AreFoundLines, AreFoundOn}
use Rattle.play_pages.specs.Tasks.{lines_if, lines_in, IsDone, AreDone, AreNoted, NotesDone}

-- ---- one note more
pub notes_more : (old now : List (Option PlayLines)) (done : List (ℕ × PlayLines)) (at : ℕ) (found : PlayLines) →
    at < length now → NotesDone old now done → Contains done (at, found) → NotesDone old (slice_set now at (Some found)) done
notes_more old now done at found within notes there task lines e =
    elim (cases_eq task at) [
      | inl same ↦
          let noted : Some found ≡ Some lines =
          sym (get_or-set_same now at (Some found) None within) ∙ (ap (λ n. get_or (slice_set now at (Some found)) n None) (sym same) ∙ e) in
          let is : found ≡ lines = ap (λ (note : Option PlayLines). unwrap_or note lines) noted in
          inr (subst (λ (r : PlayLines). Contains done (task, r)) is (subst (λ n. Contains done (n, found)) (sym same) there))
      | inr other ↦ notes task lines (sym (get_or-set_other now at task (Some found) None other) ∙ e)
    ]

-- ---- what is noted, for the games
module _ (may_find : MayFindPlay) (query : PlayQuery) (games : List RecordedGame) where
  -- tasks that were done are noted
  pub noted_with : (old new : List (Option PlayLines)) (done : List (ℕ × PlayLines)) →
      AreNoted may_find query games old → AreDone may_find query games done → NotesDone old new done →
      AreNoted may_find query games new
  noted_with old new done noted are notes task = by_note (slice_index_or new task None) refl where
    by_note : (note : Option PlayLines) → slice_index_or new task None ≡ note → IfSome note (IsDone may_find query games task)
    by_note None e = tt
    by_note (Some lines) e =
        elim (notes task lines e) [
          | inl before ↦ subst (λ (note : Option PlayLines). IfSome note (IsDone may_find query games task)) before (noted task)
          | inr there ↦ All-contains (λ (one : ℕ × PlayLines). IsDone may_find query games one.0 one.1) done (task, lines) are there
        ]

  of_note : (place : ℕ) (play : RecordedPlay) → play_at games place ≡ Some play → (note : Option PlayLines) →
      IsSome note → IfSome note (IsDone may_find query games place) →
      AreFoundLines may_find query play (lines_if note)
  of_note place play e None some done = absurd (false≢true some)
  of_note place play e (Some lines) some done =
      subst (λ there. IfSome there (λ one. AreFoundLines may_find query one lines)) e done

  inside : (place : ℕ) (play : RecordedPlay) → play_at games place ≡ Some play → place < length games
  inside place play e =
      elim (cases_lt place (length games)) [
        | inl within ↦ within
        | inr past ↦
            absurd (subst (λ (there : Option RecordedPlay). IfSome there (λ one. ⊥)) (sym (ap play_in (slice_get_past games place past)) ∙ e) tt)
      ]

  -- if all tasks are noted, they are the lines of all games
  pub found_on : (noted : List (Option PlayLines)) → AreNoted may_find query games noted →
      ((task : ℕ) → task < length games → IsSome (slice_index_or noted task None)) →
      AreFoundOn may_find query games (lines_in noted)
  found_on noted are whole place = by_play (play_at games place) refl where
    by_play : (there : Option RecordedPlay) → play_at games place ≡ there →
        IfSome there (λ play. AreFoundLines may_find query play (lines_in noted place))
    by_play None e = tt
    by_play (Some play) e =
        let within = inside place play e in
        of_note place play e (slice_index_or noted place None) (whole place within) (are place)
