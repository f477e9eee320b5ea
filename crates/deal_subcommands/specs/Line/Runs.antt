-- What `line` does with the bytes of a layout and the input: the verdict is that of `check`, and where the answer is
-- accepted a line of play follows.
use Rattle.std.specs.Prelude.{◌≡◌, ℕ, ◌-◌, List, ◌++◌, Result, Ok, Err}
use Rattle.cards.specs.declared.seats.Seat.{Seat}
use Rattle.cards.specs.declared.seats.Side.{Side}
use Rattle.cards.specs.declared.suits.Trump.{Trump}
use Rattle.cards.specs.declared.pack.Card.{Card}
use Rattle.cards.specs.Seats.{next_of, side_of, other_side}
use Rattle.cards.specs.Deal.{size_of}
use Rattle.streams.specs.RunStreams.{Devices}
use Rattle.play_rules.specs.History.{tricks_of}
use Rattle.play_rules.specs.Legal.{IsPlay}
use Rattle.strategies.specs.Values.{opening_of}
use Rattle.play_dialogues.specs.PlayText.{play_text}
use Rattle.checker.specs.declared.entries.Shown.{Shown}
use Rattle.deal_subcommands.specs.declared.faults.DealFault.{DealFault}
use Rattle.run_ends.specs.declared.statuses.Status.{Status}
use Rattle.deal_subcommands.specs.VerdictLines.{verdict_line}
use Rattle.deal_subcommands.specs.Check.Runs.{TextFact, AnswersSource}
use Rattle.std.specs.Prelude.{None}
use Rattle.streams.specs.RunStreams.{RunDevices}
use Rattle.deal_subcommands.specs.Runs.{Runs}
use Rattle.command_words.specs.declared.reading.LayoutWords.{LayoutWords}

-- the tricks of a side in the play of the contract that was shown
abbrev pub tricks_in : Shown → Side → List Card → ℕ
tricks_in shown side cards = tricks_of side shown.trump (next_of shown.declarer) cards

-- the cards are a play of the deal, in which each side has just what was shown
pub record IsLineOf (shown : Shown) (cards : List Card) : Type 0 where
  pub play : IsPlay (opening_of shown.layout shown.declarer shown.trump) cards
  pub declarers_have : tricks_in shown (side_of shown.declarer) cards ≡ shown.k
  pub defenders_have : tricks_in shown (other_side (side_of shown.declarer)) cards ≡ size_of shown.layout - shown.k

-- the text is the line of the verdict, and behind one that accepts the tricks of such a line
abbrev pub IsLineText : TextFact
IsLineText (Ok shown) text =
    (cards : List Card) × IsLineOf shown cards
    × (text ≡ verdict_line (Ok shown) ++ play_text shown.declarer shown.trump cards)
IsLineText (Err fault) text = text ≡ verdict_line (Err fault)

abbrev pub FollowsAnswer : List ℕ → Seat → Trump → Devices → Devices → Result Status DealFault → Type 0
FollowsAnswer = AnswersSource IsLineText

-- a whole run
abbrev pub RunsLine : LayoutWords → RunDevices → RunDevices → Status → Type 0
RunsLine options old new status = Runs (FollowsAnswer options.layout.now options.seat options.trump) None old new status
