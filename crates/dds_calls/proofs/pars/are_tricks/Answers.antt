-- The rows are tested in turn, until one fails.
use Rattle.std.proofs.Common.{◌≡◌, false}
use Rattle.cards.specs.declared.suits.Suit.TheVariants.{Spades, Hearts, Diamonds, Clubs}
use Rattle.cards.specs.declared.suits.Trump.TheVariants as trump
use Rattle.dds_calls.proofs.TrickCounts.{failed}
use Rattle.dds_calls.proofs.pars.are_tricks.Goals as goal
use Rattle.dds_calls.proofs.pars.are_tricks.Goals.{then-is_row, else-is_row, then-is_row-2, else-is_row-2}
use Rattle.dds_calls.proofs.pars.are_tricks.Goals.{then-is_row-3, else-is_row-3}

pub returns-else-is_row-4 : goal.returns-else-is_row-4
returns-else-is_row-4 c =
    rw c.if-is_row-4.false
    (elim c.if-is_row-3.branch [
      | then-is_row-3 w3 ↦
          let e3 : w3.is_row-then-is_row-3.result ≡ false = cc in
          let stray = failed _ _ _ e3 w3.is_row-then-is_row-3.ensures in
          (stray.0, trump.Suit Clubs, stray.1)
      | else-is_row-3 w3 ↦
          elim c.if-is_row-2.branch [
            | then-is_row-2 w2 ↦
                let e2 : w2.is_row-then-is_row-2.result ≡ false = cc in
                let stray = failed _ _ _ e2 w2.is_row-then-is_row-2.ensures in
                (stray.0, trump.Suit Diamonds, stray.1)
            | else-is_row-2 w2 ↦
                elim c.if-is_row.branch [
                  | then-is_row w1 ↦
                      let e1 : w1.is_row-then-is_row.result ≡ false = cc in
                      let stray = failed _ _ _ e1 w1.is_row-then-is_row.ensures in
                      (stray.0, trump.Suit Hearts, stray.1)
                  | else-is_row w1 ↦
                      let stray = failed _ _ _ w1.if-is_row.false c.is_row.ensures in
                      (stray.0, trump.Suit Spades, stray.1)
                ]
          ]
    ])
