-- What `cards` finds and writes for the bytes of a layout and the words for the cards played.
use Rattle.std.specs.Prelude.{◌≡◌, ℕ, Result, Ok, Err}
use Rattle.cards.specs.Devices.{Device, Adds, AddsBeginning}
use Rattle.deal_subcommands.specs.declared.card_tricks.options.CardsOptions.{CardsOptions}
use Rattle.certificate_graph.specs.Solvers.{MayFindCards}
use Rattle.play_rules.specs.Position.{Position}
use Rattle.card_values.specs.Texts.{values_text}
use Rattle.deal_subcommands.specs.declared.faults.DealFault.{DealFault}
use Rattle.deal_subcommands.specs.declared.faults.DealFault.TheVariants.{NoAnswer, Write}
use Rattle.deal_subcommands.specs.declared.faults.DealFault.TheVariants as fault
use Rattle.certified_cards.specs.declared.searching.CardsFound.{CardsFound}
use Rattle.certified_cards.specs.Searches.{AreFound, FindsNone, RunsOut}
use Rattle.deal_subcommands.specs.CardTricks.Played.{BeginsTrick, IsTrickOf}

-- ---- the search
-- what was found, or why nothing was
abbrev pub FindsOrRefuses : MayFindCards → Position → ℕ → Result CardsFound DealFault → Type 0
FindsOrRefuses may_find position budget (Ok found) = AreFound may_find position budget found
FindsOrRefuses may_find position budget (Err NoAnswer) = FindsNone may_find position budget
FindsOrRefuses may_find position budget (Err fault.OutOfMemory) = RunsOut may_find position budget
FindsOrRefuses may_find position budget (Err _) = ⊥

-- the options name a trick, for which this was found
abbrev pub FindsFor : MayFindCards → CardsOptions → Result CardsFound DealFault → Type 0
FindsFor may_find options found =
    (position : Position) × IsTrickOf options position × FindsOrRefuses may_find position options.budget found

-- what was found, or why nothing was: the options name no trick, or the solver's answer shows no values
abbrev pub FindsCards : MayFindCards → CardsOptions → Result CardsFound DealFault → Type 0
FindsCards may_find options (Ok found) = FindsFor may_find options (Ok found)
FindsCards may_find options (Err NoAnswer) = FindsFor may_find options (Err NoAnswer)
FindsCards may_find options (Err fault.OutOfMemory) = FindsFor may_find options (Err fault.OutOfMemory)
FindsCards may_find options (Err why) = BeginsTrick options (Err why)

-- ---- what is written
-- what was answered, and what the sink has got: with all faults but its own nothing
abbrev pub ValuesCards : MayFindCards → CardsOptions → Device → Device → Result Unit DealFault → Type 0
ValuesCards may_find options sink sink' (Ok done) =
    (found : CardsFound) × FindsFor may_find options (Ok found) × Adds sink sink' (values_text found.values)
ValuesCards may_find options sink sink' (Err Write) =
    (found : CardsFound) × FindsFor may_find options (Ok found) × AddsBeginning sink sink' (values_text found.values)
ValuesCards may_find options sink sink' (Err why) = FindsCards may_find options (Err why) × (sink' ≡ sink)
