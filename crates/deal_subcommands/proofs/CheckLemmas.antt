-- A verdict that was read, and of which a text was written, or a beginning of it.
use Rattle.std.proofs.Common.{List, ℕ, Result, Ok, Err}
use Rattle.cards.specs.declared.seats.Seat.{Seat}
use Rattle.cards.specs.declared.suits.Trump.{Trump}
use Rattle.cards.specs.Devices.{Device}
use Rattle.streams.specs.RunStreams.{devices}
use Rattle.checker.specs.declared.entries.Shown.{Shown}
use Rattle.checker.specs.declared.hand_faults.HandFault.{HandFault}
use Rattle.deal_subcommands.specs.declared.faults.DealFault.{DealFault}
use Rattle.deal_subcommands.specs.declared.faults.DealFault.TheVariants.{OutOfMemory, Read, Write, Layout, TooLarge, NoResult, NoAnswer, AnswerFile, Evidence, Unkept, NoCard, Unplayable}
use Rattle.run_ends.specs.declared.statuses.Status.{Status}
use Rattle.deal_subcommands.specs.Check.Runs.{TextFact, ReadsFor, Prints, AnswersSource}

module _ (IsText : TextFact) (value : List ℕ) (declarer : Seat) (trump : Trump) (source source' sink sink' : Device) (verdict : Result Shown HandFault)
    (reads : ReadsFor value declarer trump source source' (Ok verdict)) where
  pub AnswersSource-printed : (result : Result Status DealFault) → Prints IsText verdict sink sink' result → AnswersSource IsText value declarer trump (devices source sink) (devices source' sink') result
  AnswersSource-printed (Ok status) prints = (verdict, reads, prints)
  AnswersSource-printed (Err Write) prints = (verdict, reads, prints)
  AnswersSource-printed (Err OutOfMemory) prints = absurd prints
  AnswersSource-printed (Err Read) prints = absurd prints
  AnswersSource-printed (Err (Layout fault)) prints = absurd prints
  AnswersSource-printed (Err TooLarge) prints = absurd prints
  AnswersSource-printed (Err NoResult) prints = absurd prints
  AnswersSource-printed (Err NoAnswer) prints = absurd prints
  AnswersSource-printed (Err (AnswerFile fault)) prints = absurd prints
  AnswersSource-printed (Err (Evidence fault)) prints = absurd prints
  AnswersSource-printed (Err Unkept) prints = absurd prints
  AnswersSource-printed (Err (NoCard place)) prints = absurd prints
  AnswersSource-printed (Err (Unplayable place why)) prints = absurd prints
