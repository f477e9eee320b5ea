-- What is noted of tasks, and the leads of boards that it comes to.
use Rattle.std.proofs.Common.{◌≡◌, ℕ, ◌*◌, ◌<◌, inl, inr, List, length, Contains, Option, Some, None, IfSome, IsSome, unwrap_or, get_or, refl, sym, ◌∙◌, ap, subst, arith}
use Rattle.std.specs.Prelude.{slice_index_or, slice_set}
use Rattle.std.proofs.lemmas.Bool.{cases_eq, cases_lt, false≢true}
use Rattle.std.proofs.lemmas.List.{get_or-set_same, get_or-set_other}
use Rattle.std.proofs.lemmas.List.Elements.{All-contains}
use Rattle.std.proofs.lemmas.Option.{slice_get_past}
use Rattle.cards.specs.declared.suits.Trump.{Trump}
use Rattle.cards.specs.Deal.{Deal}
use Rattle.certificate_graph.specs.Solvers.{MayFindCards}
use Rattle.pbn_deals.specs.declared.boards.Board.{Board}
use Rattle.opening_leads.specs.declared.rows.DeclarerRows.{DeclarerRows}
use Rattle.opening_leads.specs.Leads.{deal_of, deal_at}
use Rattle.opening_leads.specs.Answers.{AreFoundLeads, AreFoundFor, AreFoundOn}
use Rattle.opening_leads.specs.Tasks.{task_of, row_in, row_if, leads_in, IsDone, AreDone, AreNoted, NotesDone}
use Rattle.opening_leads.proofs.TaskLaws.{below_five}

-- ---- one note more
pub notes_more : (old now : List (Option DeclarerRows)) (done : List (ℕ × DeclarerRows)) (at : ℕ) (found : DeclarerRows) →
    at < length now → NotesDone old now done → Contains done (at, found) → NotesDone old (slice_set now at (Some found)) done
notes_more old now done at found within notes there task rows e =
    elim (cases_eq task at) [
      | inl same ↦
          let noted : Some found ≡ Some rows =
          sym (get_or-set_same now at (Some found) None within) ∙ (ap (λ n. get_or (slice_set now at (Some found)) n None) (sym same) ∙ e) in
          let is : found ≡ rows = ap (λ (note : Option DeclarerRows). unwrap_or note rows) noted in
          inr (subst (λ (r : DeclarerRows). Contains done (task, r)) is (subst (λ n. Contains done (n, found)) (sym same) there))
      | inr other ↦ notes task rows (sym (get_or-set_other now at task (Some found) None other) ∙ e)
    ]

-- ---- what is noted, for the boards
module _ (may_find : MayFindCards) (budget : ℕ) (boards : List Board) where
  -- tasks that were done are noted
  pub noted_with : (old new : List (Option DeclarerRows)) (done : List (ℕ × DeclarerRows)) →
      AreNoted may_find budget boards old → AreDone may_find budget boards done → NotesDone old new done →
      AreNoted may_find budget boards new
  noted_with old new done noted are notes task = by_note (slice_index_or new task None) refl where
    by_note : (note : Option DeclarerRows) → slice_index_or new task None ≡ note → IfSome note (IsDone may_find budget boards task)
    by_note None e = tt
    by_note (Some rows) e =
        elim (notes task rows e) [
          | inl before ↦ subst (λ (note : Option DeclarerRows). IfSome note (IsDone may_find budget boards task)) before (noted task)
          | inr there ↦ All-contains (λ (one : ℕ × DeclarerRows). IsDone may_find budget boards one.0 one.1) done (task, rows) are there
        ]

  of_note : (place : ℕ) (trump : Trump) (deal : Deal) → deal_at boards place ≡ Some deal → (note : Option DeclarerRows) →
      IsSome note → IfSome note (IsDone may_find budget boards (task_of place trump)) →
      AreFoundLeads may_find budget deal trump (λ declarer. row_if note declarer)
  of_note place trump deal e None some done = absurd (false≢true some)
  of_note place trump deal e (Some rows) some done =
      subst (λ there. IfSome there (λ one. AreFoundLeads may_find budget one trump (row_in rows))) e (done place trump refl)

  inside : (place : ℕ) (deal : Deal) → deal_at boards place ≡ Some deal → place < length boards
  inside place deal e =
      elim (cases_lt place (length boards)) [
        | inl within ↦ within
        | inr past ↦
            absurd (subst (λ (there : Option Deal). IfSome there (λ one. ⊥)) (sym (ap deal_of (slice_get_past boards place past)) ∙ e) tt)
      ]

  -- if all tasks are noted, they are the leads of all boards
  pub found_on : (noted : List (Option DeclarerRows)) → AreNoted may_find budget boards noted →
      ((task : ℕ) → task < 5 * length boards → IsSome (slice_index_or noted task None)) →
      AreFoundOn may_find budget boards (leads_in noted)
  found_on noted are whole place = by_deal (deal_at boards place) refl where
    by_deal : (there : Option Deal) → deal_at boards place ≡ there → AreFoundFor may_find budget there (leads_in noted place)
    by_deal None e = tt
    by_deal (Some deal) e = λ trump.
        let within = inside place deal e in
        let small = below_five trump in
        of_note place trump deal e (slice_index_or noted (task_of place trump) None)
        (whole (task_of place trump) (omega (arith, within, small))) (are (task_of place trump))
