-- Why nothing comes of a layout or an answer: the status of such a run, and what is printed of the fault.
use Rattle.std.specs.Prelude.{ℕ, List, [], ◌++◌, Option, None, Some, Result, Ok, Err, codes}
use Rattle.streams.specs.declared.inputs.InputFault.{InputFault}
use Rattle.streams.specs.declared.inputs.InputFault.TheVariants as input
use Rattle.streams.specs.declared.opening.CannotOpen.{CannotOpen}
use Rattle.pbn_deals.specs.Faults.{fault_text}
use Rattle.pbn_deals.specs.declared.faults.PbnFault.{PbnFault}
use Rattle.pbn_deals.specs.declared.faults.PbnFault.TheVariants as pbn
use Rattle.play_rules.specs.declared.faults.PlayFault.{PlayFault}
use Rattle.play_rules.specs.declared.faults.PlayFault.TheVariants.{NotHeld, MustFollow, Over}
use Rattle.run_ends.specs.Explanations.{file_explanation, text_explanation}
use Rattle.run_ends.specs.declared.named_files.FileFault.TheVariants as file
use Rattle.run_ends.specs.declared.statuses.Status.{Status}
use Rattle.run_ends.specs.declared.statuses.Status.TheVariants.{Done, Failed, Refused, Incomplete}
use Rattle.deal_subcommands.specs.declared.card_tricks.played.WordPlace.{WordPlace}
use Rattle.deal_subcommands.specs.declared.card_tricks.played.WordPlace.TheVariants.{First, Second, Third}
use Rattle.deal_subcommands.specs.declared.faults.DealFault.{DealFault}
use Rattle.deal_subcommands.specs.declared.faults.DealFault.TheVariants as fault

-- why an input could not be read
abbrev pub input_fault : InputFault → DealFault
input_fault input.OutOfMemory = fault.OutOfMemory
input_fault input.Read = fault.Read

-- what a run answers that answers no more than that all is done
abbrev pub done_answer : Result Unit DealFault → Result Status DealFault
done_answer (Ok done) = Ok Done
done_answer (Err told) = Err told

-- memory or a device has failed, the words or the input are refused, or there is no answer
abbrev pub status : DealFault → Status
status fault.OutOfMemory = Failed
status fault.Read = Failed
status fault.Write = Failed
status (fault.Layout refusal) = Refused
status fault.TooLarge = Refused
status fault.NoResult = Refused
status fault.NoAnswer = Incomplete
status (fault.AnswerFile why) = Failed
status (fault.Evidence why) = Failed
status fault.Unkept = Failed
status (fault.NoCard place) = Refused
status (fault.Unplayable place why) = Refused

-- a word for a card
abbrev pub place_words : WordPlace → List ℕ
place_words First = codes "card 1: "
place_words Second = codes "card 2: "
place_words Third = codes "card 3: "

-- why a card may not be played
abbrev pub play_words : PlayFault → List ℕ
play_words NotHeld = codes "2 NotHeld"
play_words MustFollow = codes "3 MustFollow"
play_words Over = codes "4 Over"

-- what is said of a fault
abbrev pub said : DealFault → List ℕ
said fault.OutOfMemory = codes "out of memory"
said fault.Read = codes "reading failed"
said fault.Write = codes "writing failed"
said (fault.Layout refusal) = codes "layout: " ++ fault_text refusal
said fault.TooLarge = codes "plain takes at most 4 cards a hand"
said fault.NoResult = codes "first line is not a result line"
said fault.NoAnswer = codes "no answer"
said (fault.AnswerFile (file.Open why)) = codes "answer: cannot open"
said (fault.AnswerFile file.Read) = codes "answer: reading failed"
said (fault.Evidence (file.Open why)) = codes "evidence: cannot open"
said (fault.Evidence file.Read) = codes "evidence: reading failed"
said fault.Unkept = codes "evidence: writing failed"
said (fault.NoCard place) = place_words place ++ codes "1 NoCard"
said (fault.Unplayable place why) = place_words place ++ play_words why

-- a file that can't be opened
abbrev pub opening : DealFault → Option CannotOpen
opening (fault.Evidence (file.Open why)) = Some why
opening (fault.AnswerFile (file.Open why)) = Some why
opening _ = None

-- a refused layout
abbrev pub layout_explanation : PbnFault → List ℕ
layout_explanation (pbn.DealForm line) =
    codes "a layout is one word, in quotes: a seat and four hands as spades.hearts.diamonds.clubs, T for the ten"
layout_explanation (pbn.CardTwice line) = codes "this layout has a card twice"
layout_explanation (pbn.HandSize line) = codes "the four hands must have equally many cards, 1 to 13"
layout_explanation (pbn.TagForm line) = text_explanation (pbn.TagForm line)
layout_explanation (pbn.OpenComment line) = text_explanation (pbn.OpenComment line)
layout_explanation (pbn.SecondDeal line) = text_explanation (pbn.SecondDeal line)
layout_explanation (pbn.Inherited line) = text_explanation (pbn.Inherited line)
layout_explanation (pbn.TooManyBoards line) = text_explanation (pbn.TooManyBoards line)
layout_explanation pbn.OutOfMemory = []

-- a card that may not be played
abbrev pub play_explanation : PlayFault → List ℕ
play_explanation NotHeld = codes "the seat to play does not hold this card"
play_explanation MustFollow = codes "the seat to play has a card of the suit led, and must follow suit"
play_explanation Over = codes "all cards were played"

-- nothing explains faults whose line says all
abbrev pub explanation : DealFault → List ℕ
explanation fault.OutOfMemory = []
explanation fault.Read = []
explanation fault.Write = []
explanation fault.TooLarge = []
explanation (fault.Layout refusal) = layout_explanation refusal
explanation fault.NoResult = codes "an answer begins with a line as solve prints it: result 9"
explanation fault.NoAnswer = codes "--budget gives the search more steps"
explanation (fault.AnswerFile why) = file_explanation why
explanation (fault.Evidence why) = file_explanation why
explanation fault.Unkept = codes "the numbers are written, but some of their evidence is not in the file"
explanation (fault.NoCard place) = codes "a card is its suit and its rank, as SQ, h10 or 9d"
explanation (fault.Unplayable place why) = play_explanation why
