use Rattle.std.proofs.Common.{◌≡◌, [], Option, unwrap_or, sym, ◌∙◌, ap}
use Rattle.std.specs.Option.{option_copied}
use Rattle.cards.specs.declared.seats.Seat.{Seat}
use Rattle.par.specs.declared.vulnerable_sides.VulnerableSides.{VulnerableSides}
use Rattle.board_conditions.specs.Games.{dealer_in, name_in, settled, vulnerability_in}
use Rattle.board_conditions.specs.Numbers.{number_of, dealers, vulnerabilities, in_cycle, in_turn}
use Rattle.board_conditions.specs.Words.{dealer_said, vulnerability_said}
use Rattle.board_conditions.specs.declared.conditions.Conditions.{Conditions}
use Rattle.board_conditions.proofs.Cycle.{dealer_of, vulnerability_of}
use Rattle.board_conditions.proofs.game_texts.GameText.conditions.Goals as goal
use Rattle.board_conditions.proofs.game_texts.GameText.conditions.Goals.{in-Some, in-None}

abbrev made : Option Seat → Option VulnerableSides → Conditions
made dealer vulnerable = record { dealer = dealer; vulnerable = vulnerable }

pub returns : goal.returns
returns c = λ game is_open h.
    let found = c.args.self in
    let number = c.match-self.number in
    let some = number_of (name_in game) in
    let is : number ≡ in_cycle some = elim c.match-self.branch [
      | in-Some w ↦ w.number-is ∙ (w.number_of-number.ensures.number ∙ ap (λ o. in_cycle (number_of (unwrap_or o []))) (sym (ap option_copied w.in-Some.is) ∙ h.board))
      | in-None w ↦ w.number-is ∙ ap (λ o. in_cycle (number_of (unwrap_or o []))) (sym (ap option_copied w.in-None.is) ∙ h.board)
    ] in
    let dealer = c.settled_dealer.ensures ∙ (ap (λ o. settled dealer_said o (in_turn dealers number)) h.dealer ∙ ap (settled dealer_said (dealer_in game)) (dealer_of number some is)) in
    let vulnerable = c.settled_vulnerability.ensures ∙ (ap (λ o. settled vulnerability_said o (in_turn vulnerabilities number)) h.vulnerable ∙ ap (settled vulnerability_said (vulnerability_in game)) (vulnerability_of number some is)) in
    ap (λ d. made d c.settled_vulnerability.result) dealer ∙ ap (made (settled dealer_said (dealer_in game) (in_turn dealers some))) vulnerable
