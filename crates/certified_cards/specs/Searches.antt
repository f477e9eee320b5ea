-- What a solver is asked for a trick, and what comes of its answer.
use Rattle.std.specs.Prelude.{ℕ, [], ◌∷◌, Option, None, Some, Result, Ok, Err, ⊤}
use Rattle.cards.specs.declared.faults.OutOfMemory.{OutOfMemory}
use Rattle.certificate_graph.specs.declared.card_claims.CardBundle.{CardBundle}
use Rattle.certificate_graph.specs.Solvers.{MayFindCards}
use Rattle.play_rules.specs.Position.{Position}
use Rattle.card_values.specs.declared.faults.CardFault.{CardFault}
use Rattle.certified_cards.specs.declared.searching.CardsFound.{CardsFound}
use Rattle.certified_cards.specs.Bundles.{ShowsValues, LacksValues}

-- the solver may give this answer for the trick
abbrev pub MayAnswer : MayFindCards → Position → ℕ → Option CardBundle → Type 0
MayAnswer may_find position budget answer =
    may_find position.opening.deal (position.opening.leader ∷ []) position.opening.trump position.history budget answer

-- the solver's answer shows these values
pub record AreFound (may_find : MayFindCards) (position : Position) (budget : ℕ) (found : CardsFound) : Type 0 where
  pub answer : MayAnswer may_find position budget (Some found.bundle)
  pub shown : ShowsValues found.bundle position found.values

-- the answer shows no values
abbrev pub IsNoAnswer : Option CardBundle → Position → Type 0
IsNoAnswer None position = ⊤
IsNoAnswer (Some bundle) position = (why : CardFault) × LacksValues bundle position why

-- the solver's answer shows no values
abbrev pub FindsNone : MayFindCards → Position → ℕ → Type 0
FindsNone may_find position budget =
    (answer : Option CardBundle) × MayAnswer may_find position budget answer × IsNoAnswer answer position

-- memory runs out, in the search or while its answer is checked
abbrev pub RunsOut : MayFindCards → Position → ℕ → Type 0
RunsOut may_find position budget = (answer : Option CardBundle) × MayAnswer may_find position budget answer

-- the values that were found, or why there are none
abbrev pub FindsValues : MayFindCards → Position → ℕ → Result (Option CardsFound) OutOfMemory → Type 0
FindsValues may_find position budget (Ok (Some found)) = AreFound may_find position budget found
FindsValues may_find position budget (Ok None) = FindsNone may_find position budget
FindsValues may_find position budget (Err fault) = RunsOut may_find position budget
