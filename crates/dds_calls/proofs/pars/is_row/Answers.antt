-- The tests run in turn, until one fails.
use Rattle.std.proofs.Common.{rules, ◌≡◌, FitsSigned, w32, true, false}
use Rattle.cards.specs.declared.seats.Seat.TheVariants.{North, East, South, West}
use Rattle.dds_calls.specs.Pars.{entry_in}
use Rattle.dds_calls.proofs.TrickCounts.{count_failed, count_passed, last_count}
use Rattle.dds_calls.proofs.pars.is_row.Goals as goal
use Rattle.dds_calls.proofs.pars.is_row.Goals.{then-is_trick_count, else-is_trick_count}
use Rattle.dds_calls.proofs.pars.is_row.Goals.{then-is_trick_count-2, else-is_trick_count-2}

pub returns-then-is_trick_count-3 : goal.returns-then-is_trick_count-3
returns-then-is_trick_count-3 c =
    let hands = c.args.hands.now in
    let north : FitsSigned w32 (entry_in hands North) = search rules in
    let east : FitsSigned w32 (entry_in hands East) = search rules in
    let south : FitsSigned w32 (entry_in hands South) = search rules in
    let west : FitsSigned w32 (entry_in hands West) = search rules in
    elim c.if-is_trick_count-2.branch [
      | then-is_trick_count-2 w2 ↦
          elim c.if-is_trick_count.branch [
            | then-is_trick_count w1 ↦
                let e2 : w2.is_trick_count-then-is_trick_count-2.result ≡ true = cc in
                let e1 : w1.is_trick_count-then-is_trick_count.result ≡ true = cc in
                last_count hands _ west
                (count_passed _ (entry_in hands North) north w1.if-is_trick_count.true c.is_trick_count.ensures)
                (count_passed _ (entry_in hands East) east e1 w1.is_trick_count-then-is_trick_count.ensures)
                (count_passed _ (entry_in hands South) south e2 w2.is_trick_count-then-is_trick_count-2.ensures)
                c.is_trick_count-then-is_trick_count-3.ensures
            | else-is_trick_count w1 ↦ absurd (cc)
          ]
      | else-is_trick_count-2 w2 ↦ absurd (cc)
    ]

pub returns-else-is_trick_count-3 : goal.returns-else-is_trick_count-3
returns-else-is_trick_count-3 c =
    let hands = c.args.hands.now in
    let north : FitsSigned w32 (entry_in hands North) = search rules in
    let east : FitsSigned w32 (entry_in hands East) = search rules in
    let south : FitsSigned w32 (entry_in hands South) = search rules in
    rw c.if-is_trick_count-3.false
    (elim c.if-is_trick_count-2.branch [
      | then-is_trick_count-2 w2 ↦
          let e2 : w2.is_trick_count-then-is_trick_count-2.result ≡ false = cc in
          (South, count_failed _ (entry_in hands South) south e2 w2.is_trick_count-then-is_trick_count-2.ensures)
      | else-is_trick_count-2 w2 ↦
          elim c.if-is_trick_count.branch [
            | then-is_trick_count w1 ↦
                let e1 : w1.is_trick_count-then-is_trick_count.result ≡ false = cc in
                (East, count_failed _ (entry_in hands East) east e1 w1.is_trick_count-then-is_trick_count.ensures)
            | else-is_trick_count w1 ↦
                (North, count_failed _ (entry_in hands North) north w1.if-is_trick_count.false c.is_trick_count.ensures)
          ]
    ])
