-- Texts that show a number have no fault.
use Rattle.std.proofs.Common.{◌≡◌, ℕ, Result, Ok, Err, List, refl}
use Rattle.cards.specs.declared.suits.Trump.{Trump}
use Rattle.cards.specs.declared.seats.Seat.{Seat}
use Rattle.cards.specs.Deal.{Deal}
use Rattle.checker.specs.declared.entries.Shown.{Shown}
use Rattle.checker.specs.declared.hand_faults.HandFault.{HandFault}
use Rattle.checker.specs.Verdicts.{GraphsAnswer, IsVerdict}
use Rattle.checker.proofs.OneAnswer.{one_verdict}
use Rattle.plain_runs.specs.Replays.{TextsShow}

pub no_verdict_fault : (deal : Deal) (declarer : Seat) (trump : Trump) (k : ℕ) (declarer_text defenders_text : List ℕ) (fault : HandFault) → TextsShow deal declarer trump k declarer_text defenders_text
    → IsVerdict deal declarer trump k declarer_text defenders_text (Err fault) → ⊥
no_verdict_fault deal declarer trump k declarer_text defenders_text fault texts is =
    let shown : Shown = record { layout = deal; declarer = declarer; trump = trump; k = k } in
    let answer : GraphsAnswer deal declarer trump k declarer_text defenders_text (Ok shown) = record {
      declarers = texts.declarers;
      defenders = texts.defenders;
      declarers_read = texts.declarers_read;
      defenders_read = texts.defenders_read;
      answers = (refl, texts.show);
    } in
    apart shown (one_verdict deal declarer trump k declarer_text defenders_text (Ok shown) (Err fault) answer is)
  where
    apart : (shown : Shown) → (let proven : Result Shown HandFault = Ok shown in proven) ≡ Err fault → ⊥
    apart shown same = cc
