-- The board and the denomination of a task, by its number.
use Rattle.std.proofs.Common.{◌≡◌, ℕ, ◌+◌, ◌*◌, ◌/◌, ◌%◌, ◌<◌, List, length, get_or, Some, None, IfSome, refl, sym, ◌∙◌, ap, subst, arith}
use Rattle.std.proofs.lemmas.Nat.{div-mul-add, mod-mul-add}
use Rattle.std.proofs.lemmas.Option.{slice_get-get_or}
use Rattle.cards.specs.declared.suits.Suit.TheVariants.{Spades, Hearts, Diamonds, Clubs}
use Rattle.cards.specs.declared.suits.Trump.{Trump}
use Rattle.cards.specs.declared.suits.Trump.TheVariants.{Nt, Suit}
use Rattle.cards.specs.Deal.{Deal}
use Rattle.cards.specs.Orders.{trump_number}
use Rattle.tables.specs.TablesText.{denominations}
use Rattle.certificate_graph.specs.Solvers.{MayFindCards}
use Rattle.pbn_deals.specs.declared.boards.Board.{Board}
use Rattle.opening_leads.specs.declared.rows.DeclarerRows.{DeclarerRows}
use Rattle.opening_leads.specs.Leads.{deal_of, deal_at}
use Rattle.opening_leads.specs.Answers.{AreFoundLeads}
use Rattle.opening_leads.specs.Tasks.{task_of, row_in, IsDone}

pub below_five : (trump : Trump) → trump_number trump < 5
below_five Nt = omega arith
below_five (Suit Spades) = omega arith
below_five (Suit Hearts) = omega arith
below_five (Suit Diamonds) = omega arith
below_five (Suit Clubs) = omega arith

trump_there : (trump d : Trump) → get_or denominations (trump_number trump) d ≡ trump
trump_there Nt d = refl
trump_there (Suit Spades) d = refl
trump_there (Suit Hearts) d = refl
trump_there (Suit Diamonds) d = refl
trump_there (Suit Clubs) d = refl

module _ (task board : ℕ) (trump : Trump) (is : task ≡ task_of board trump) where
  turned : task ≡ board * 5 + trump_number trump
  turned = omega (arith, is)

  pub board_of : task / 5 ≡ board
  board_of = ap (λ n. n / 5) turned ∙ div-mul-add board 5 (trump_number trump) (below_five trump)

  pub trump_of : (d : Trump) → get_or denominations (task % 5) d ≡ trump
  trump_of d =
      ap (λ n. get_or denominations n d) (ap (λ n. n % 5) turned ∙ mod-mul-add board 5 (trump_number trump) (below_five trump))
      ∙ trump_there trump d

  pub deal_of_task : (boards : List Board) (one : Board) → task < 5 * length boards →
      deal_at boards board ≡ (get_or boards (task / 5) one).deal
  deal_of_task boards one within =
      ap deal_of (slice_get-get_or boards board one (omega (arith, turned, within)))
      ∙ ap (λ n. (get_or boards n one).deal) (sym board_of)

module _ (may_find : MayFindCards) (budget task : ℕ) (boards : List Board) (one : Board) (within : task < 5 * length boards)
    (rows : DeclarerRows) where
  -- a board with a deal
  pub done_with : (deal : Deal) (d : Trump) → (get_or boards (task / 5) one).deal ≡ Some deal →
      AreFoundLeads may_find budget deal (get_or denominations (task % 5) d) (row_in rows) →
      IsDone may_find budget boards task rows
  done_with deal d is found board trump e =
      subst (λ there. IfSome there (λ some. AreFoundLeads may_find budget some trump (row_in rows)))
      (sym (deal_of_task task board trump e boards one within ∙ is))
      (subst (λ t. AreFoundLeads may_find budget deal t (row_in rows)) (trump_of task board trump e d) found)

  -- a board without
  pub done_without : (get_or boards (task / 5) one).deal ≡ None → IsDone may_find budget boards task rows
  done_without is board trump e =
      subst (λ there. IfSome there (λ some. AreFoundLeads may_find budget some trump (row_in rows)))
      (sym (deal_of_task task board trump e boards one within ∙ is)) tt
