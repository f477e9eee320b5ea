use Rattle.std.proofs.Common.{sym}
use Rattle.cards.specs.declared.suits.Suit.TheVariants.{Spades, Hearts, Diamonds, Clubs}
use Rattle.cards.specs.declared.suits.Trump.TheVariants as trump
use Rattle.tables.proofs.PageBack.{unknown_incomplete}
use Rattle.tournaments.proofs.ParLaws.{row_from}
use Rattle.tournaments.proofs.pars.row_of.Goals as goal

pub returns-in_err-result_of : goal.returns-in_err-result_of
returns-in_err-result_of c =
    rw c.from_residual.ensures
    (unknown_incomplete _ c.args.declarer trump.Nt (sym c.in_err-result_of.ensures.value))

pub returns-in_err-result_of-2 : goal.returns-in_err-result_of-2
returns-in_err-result_of-2 c =
    rw c.from_residual-in_err-result_of-2.ensures
    (unknown_incomplete _ c.args.declarer (trump.Suit Spades) (sym c.in_err-result_of-2.ensures.value))

pub returns-in_err-result_of-3 : goal.returns-in_err-result_of-3
returns-in_err-result_of-3 c =
    rw c.from_residual-in_err-result_of-3.ensures
    (unknown_incomplete _ c.args.declarer (trump.Suit Hearts) (sym c.in_err-result_of-3.ensures.value))

pub returns-in_err-result_of-4 : goal.returns-in_err-result_of-4
returns-in_err-result_of-4 c =
    rw c.from_residual-in_err-result_of-4.ensures
    (unknown_incomplete _ c.args.declarer (trump.Suit Diamonds) (sym c.in_err-result_of-4.ensures.value))

pub returns-in_err-result_of-5 : goal.returns-in_err-result_of-5
returns-in_err-result_of-5 c =
    rw c.from_residual-in_err-result_of-5.ensures
    (unknown_incomplete _ c.args.declarer (trump.Suit Clubs) (sym c.in_err-result_of-5.ensures.value))

pub returns : goal.returns
returns c =
    row_from _ c.args.declarer _ _ _ _ _ (sym c.in_ok-result_of.ensures.value) (sym c.in_ok-result_of-2.ensures.value)
    (sym c.in_ok-result_of-3.ensures.value) (sym c.in_ok-result_of-4.ensures.value)
    (sym c.in_ok-result_of-5.ensures.value) c.in_ok-result_of.ensures.at_most_13 c.in_ok-result_of-2.ensures.at_most_13
    c.in_ok-result_of-3.ensures.at_most_13 c.in_ok-result_of-4.ensures.at_most_13 c.in_ok-result_of-5.ensures.at_most_13
