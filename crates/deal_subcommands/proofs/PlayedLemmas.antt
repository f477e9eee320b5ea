-- The words for cards that were played.
use Rattle.std.proofs.Common.{List, ℕ, Result, Ok, Err, Option, None, Some}
use Rattle.std.specs.Borrow.{Bor}
use Rattle.deal_subcommands.specs.declared.card_tricks.options.CardsOptions.{CardsOptions}
use Rattle.deal_subcommands.specs.declared.card_tricks.options.PlayedWords.{PlayedWords}
use Rattle.pbn_deals.specs.declared.faults.PbnFault.{PbnFault}
use Rattle.play_rules.specs.Position.{Position}
use Rattle.deal_subcommands.specs.declared.faults.DealFault.{DealFault}
use Rattle.deal_subcommands.specs.declared.faults.DealFault.TheVariants as faults
use Rattle.deal_subcommands.specs.declared.card_tricks.played.WordPlace.{WordPlace}
use Rattle.deal_subcommands.specs.declared.card_tricks.played.WordPlace.TheVariants.{First, Second, Third}
use Rattle.deal_subcommands.specs.CardTricks.Played.{IsPlayedBy, IsRefusedAt, PlaysWord, IsRefused, at_first, at_second, at_third, AreWordsPlayed, IsBegun, BeginsTrick}

-- after the third word
pub third_word : (words : PlayedWords) (before one two after : Position) (result : Result Unit DealFault)
    → IsPlayedBy words.first before one → IsPlayedBy words.second one two
    → PlaysWord Third words.third two after result
    → AreWordsPlayed words before after result
third_word words before one two after (Ok done) first second third = record { one = one; two = two; first = first; second = second; third = third }
third_word words before one two after (Err fault) first second third = at_third one two first second third

not_layout_at : (place : WordPlace) (word : Option (Bor (List ℕ))) (position : Position) (fault : PbnFault)
    → IsRefusedAt place word position (faults.Layout fault) → ⊥
not_layout_at place None position fault refused = refused
not_layout_at place (Some word) position fault refused = refused

not_layout : (words : PlayedWords) (before : Position) (fault : PbnFault) → IsRefused words before (faults.Layout fault) → ⊥
not_layout words before fault (at_first refused) = not_layout_at First words.first before fault refused
not_layout words before fault (at_second one first refused) = not_layout_at Second words.second one fault refused
not_layout words before fault (at_third one two first second refused) = not_layout_at Third words.third two fault refused

-- a refused word is why there is no trick
pub refused_word : (options : CardsOptions) (begin : Position) (fault : DealFault) → IsBegun options begin
    → IsRefused options.played begin fault
    → BeginsTrick options (Err fault)
refused_word options begin (faults.Layout why) begun refused = absurd (not_layout options.played begin why refused)
refused_word options begin faults.OutOfMemory begun refused = record { begin = begin; begun = begun; refused = refused }
refused_word options begin faults.Read begun refused = record { begin = begin; begun = begun; refused = refused }
refused_word options begin faults.Write begun refused = record { begin = begin; begun = begun; refused = refused }
refused_word options begin faults.TooLarge begun refused = record { begin = begin; begun = begun; refused = refused }
refused_word options begin faults.NoResult begun refused = record { begin = begin; begun = begun; refused = refused }
refused_word options begin faults.NoAnswer begun refused = record { begin = begin; begun = begun; refused = refused }
refused_word options begin (faults.AnswerFile why) begun refused = record { begin = begin; begun = begun; refused = refused }
refused_word options begin (faults.Evidence why) begun refused = record { begin = begin; begun = begun; refused = refused }
refused_word options begin faults.Unkept begun refused = record { begin = begin; begun = begun; refused = refused }
refused_word options begin (faults.NoCard place) begun refused = record { begin = begin; begun = begun; refused = refused }
refused_word options begin (faults.Unplayable place why) begun refused = record { begin = begin; begun = begun; refused = refused }
