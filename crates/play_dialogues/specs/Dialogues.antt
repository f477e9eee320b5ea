-- A whole dialogue: the lines that are typed, what each does, and what is written.
use Rattle.std.specs.Prelude.{◌≡◌, ℕ, ◌-◌, ◌^◌, ◌≤◌, ◌⊎◌, List, [], ◌∷◌, ◌++◌, length, Option}
use Rattle.cards.specs.declared.pack.Card.{Card}
use Rattle.cards.specs.Devices.{Device, TakesWhereTold, Adds, AddsBeginning, one_more}
use Rattle.play_rules.specs.Legal.{IsPlay}
use Rattle.certificate_play.specs.Promises.{Promise}
use Rattle.play_dialogues.specs.declared.dialogues.End.{End}
use Rattle.play_dialogues.specs.declared.dialogues.End.TheVariants as end
use Rattle.play_dialogues.specs.declared.words.Typed.{Typed}
use Rattle.play_dialogues.specs.declared.words.Typed.TheVariants.{Quit}
use Rattle.play_dialogues.specs.Words.{letters_of, Says}
use Rattle.play_dialogues.specs.Lines.{AreNextLines, IsEmptyWhereTold}
use Rattle.play_dialogues.specs.Texts.{left_in, promise_line, played_text, asks, closing_text}
use Rattle.play_dialogues.specs.Trails.{Trail, IsAsked, AreReplies, ArePlayedSince, Acts}

-- one turn: a line is typed where a card is asked for, what it does, and what is written
pub record IsTurn (trail : Trail) (line : List ℕ) (trail' : Trail) (text : List ℕ) : Type 0 where
  pub asked : IsAsked trail.now
  pub typed : Typed
  pub says : Says (letters_of line) typed
  pub acts : Acts trail typed trail' text

-- one turn after another; their texts are the whole text
abbrev pub AreTurns : Trail → List (List ℕ) → Trail → List ℕ → Type 0
AreTurns trail [] trail' text = (trail' ≡ trail) × (text ≡ [])
AreTurns trail (line ∷ lines) trail' text =
    (next : Trail) × (first rest : List ℕ)
    × IsTurn trail line next first × AreTurns next lines trail' rest × (text ≡ first ++ rest)

-- before the first line: the side has told its promise and played where it's its turn
abbrev pub IsOpening : Promise → Promise → List ℕ → Type 0
IsOpening promise first text =
    (cards : List Card) × ArePlayedSince promise first cards
    × (text ≡ promise_line promise ++ played_text (left_in promise) cards ++ asks first)

-- the turns of a dialogue, from the promise with which it begins to the one that stands at its end
pub record AreTurnsFrom (promise : Promise) (lines : List (List ℕ)) (last : Promise) (text : List ℕ) : Type 0 where
  pub replies : List Card
  pub first : Promise
  pub replied : AreReplies promise replies first
  pub opening : List ℕ
  pub opening_is : IsOpening promise first opening
  pub trail : Trail
  pub turns : List ℕ
  pub turns_are : AreTurns (record { earlier = []; now = first }) lines trail turns
  pub last_is : last ≡ trail.now
  pub text_is : text ≡ opening ++ turns

-- some of the text was written, and no call failed
pub record AddsSome (old new : Device) (text : List ℕ) : Type 0 where
  pub gone : List ℕ
  pub rest : List ℕ
  pub whole : text ≡ gone ++ rest
  pub adds : Adds old new gone

-- ---- the ends, where these lines were answered by this text
-- A call of the source failed and is counted, or a line has more bytes than can be counted; what was read of the line
-- is lost.
pub record ReadingFails (input input' : Device) (lines : List (List ℕ)) : Type 0 where
  pub read : Option (List ℕ)
  pub lines_are : AreNextLines input.bytes read lines
  pub lost : List ℕ
  pub lost_are : TakesWhereTold read input'.bytes lost
  pub why :
      (input'.failed ≡ one_more input.failed)
      ⊎ ((input'.failed ≡ input.failed) × (2 ^ 64 - 1 ≤ length lost))

-- the lines were read and no byte behind them, and no call failed
pub record AreRead (input input' : Device) (lines : List (List ℕ)) : Type 0 where
  pub lines_are : AreNextLines input.bytes input'.bytes lines
  pub none_failed : input'.failed ≡ input.failed

-- a line was read behind them that says this
pub record AreReadBefore (input input' : Device) (lines : List (List ℕ)) (typed : Typed) : Type 0 where
  pub line : List ℕ
  pub says : Says (letters_of line) typed
  pub read : AreRead input input' (lines ++ line ∷ [])

-- they were read, and perhaps one more
abbrev pub AreReadAlmost : Device → Device → List (List ℕ) → Type 0
AreReadAlmost input input' lines =
    AreRead input input' lines ⊎ ((typed : Typed) × AreReadBefore input input' lines typed)

-- How a dialogue ends, where `last` stands. At each end but where a call failed or memory ran out, the text and the
-- closing lines are written whole.
abbrev pub EndsIn : Device → Device → Device → Device → Promise → List (List ℕ) → List ℕ → End → Type 0
EndsIn input input' output output' last lines text end.Played =
    IsPlay last.position.opening last.position.history
    × AreRead input input' lines
    × Adds output output' (text ++ closing_text last)
EndsIn input input' output output' last lines text end.Quit =
    IsAsked last
    × AreReadBefore input input' lines Quit
    × Adds output output' (text ++ closing_text last)
EndsIn input input' output output' last lines text end.InputEnds =
    IsAsked last
    × AreRead input input' lines × IsEmptyWhereTold input.bytes input'.bytes
    × Adds output output' (text ++ closing_text last)
EndsIn input input' output output' last lines text end.ReadFails =
    ((IsAsked last × ReadingFails input input' lines)
    ⊎ (AreRead input input' lines × (2 ^ 64 - 1 ≤ length lines)))
    × Adds output output' text
EndsIn input input' output output' last lines text end.WriteFails =
    AreReadAlmost input input' lines × AddsBeginning output output' (text ++ closing_text last)
EndsIn input input' output output' last lines text end.OutOfMemory =
    AreReadAlmost input input' lines × AddsSome output output' text

-- A dialogue over this promise has come to this end, where `last` stands.
pub record IsDialogue (promise : Promise) (input input' output output' : Device) (end : End) (last : Promise)
    : Type 0 where
  pub lines : List (List ℕ)
  pub text : List ℕ
  pub turns : AreTurnsFrom promise lines last text
  pub ends : EndsIn input input' output output' last lines text end

-- it is still the play of this layout by this side, which promised so many tricks
pub record IsSamePlay (promise last : Promise) : Type 0 where
  pub opening : last.position.opening ≡ promise.position.opening
  pub side : last.side ≡ promise.side
  pub tricks : last.tricks ≡ promise.tricks
