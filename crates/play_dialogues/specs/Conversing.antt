-- The parts of a dialogue: a turn, the closing lines, and all between the first line and the end.
use Rattle.std.specs.Prelude.{◌≡◌, ℕ, ◌⊎◌, List, Result, Ok, Err}
use Rattle.cards.specs.Devices.{Device, Adds, AddsBeginning}
use Rattle.certificate_play.specs.Promises.{Promise, IsSidesTurn, GoesOn}
use Rattle.play_dialogues.specs.declared.dialogues.End.{End}
use Rattle.play_dialogues.specs.declared.dialogues.End.TheVariants.{OutOfMemory, WriteFails}
use Rattle.play_dialogues.specs.declared.words.Typed.{Typed}
use Rattle.play_dialogues.specs.Texts.{closing_text}
use Rattle.play_dialogues.specs.Trails.{Trail, Acts}
use Rattle.play_dialogues.specs.Dialogues.{AreTurns, IsOpening, EndsIn}

-- it isn't the side's turn while a card is still to be played
abbrev pub IsSettled : Promise → Type 0
IsSettled promise = GoesOn promise → IsSidesTurn promise → ⊥

-- a text is written, or the end that comes of it
abbrev pub Tells : Device → Device → List ℕ → Result (Unit {0}) End → Type 0
Tells old new text (Ok done) = Adds old new text
Tells old new text (Err end) = (end ≡ WriteFails) × AddsBeginning old new text

-- what stands before the first line is told, or the end that comes of it
abbrev pub Opens : Promise → Promise → Device → Device → Result (Unit {0}) End → Type 0
Opens promise first old new (Ok done) = (text : List ℕ) × IsOpening promise first text × Adds old new text
Opens promise first old new (Err end) =
    ((end ≡ WriteFails) × ((text : List ℕ) × IsOpening promise first text × AddsBeginning old new text))
    ⊎ ((end ≡ OutOfMemory) × (new ≡ old))

-- a turn whose text is told, or nothing of it where memory ran out
abbrev pub TakesTurn : Trail → Typed → Trail → Device → Device → Result (Unit {0}) End → Type 0
TakesTurn trail typed trail' old new (Ok done) =
    (text : List ℕ) × Acts trail typed trail' text × Adds old new text
TakesTurn trail typed trail' old new (Err end) =
    ((end ≡ WriteFails) × ((text : List ℕ) × Acts trail typed trail' text × AddsBeginning old new text))
    ⊎ ((end ≡ OutOfMemory) × (trail' ≡ trail) × (new ≡ old))

-- the closing lines are told, or the end that comes of it
abbrev pub Closes : Promise → Device → Device → End → End → Type 0
Closes promise old new end end' =
    ((end' ≡ end) × Adds old new (closing_text promise))
    ⊎ (((end' ≡ WriteFails) × AddsBeginning old new (closing_text promise))
    ⊎ ((end' ≡ OutOfMemory) × (new ≡ old)))

-- line after line, to this end
pub record Converses (trail trail' : Trail) (input input' output output' : Device) (end : End) : Type 0 where
  pub lines : List (List ℕ)
  pub turns : List ℕ
  pub turns_are : AreTurns trail lines trail' turns
  pub ends : EndsIn input input' output output' trail'.now lines turns end
