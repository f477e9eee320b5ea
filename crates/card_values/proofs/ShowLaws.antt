-- What graphs and begun nodes show is so in play.
use Rattle.std.proofs.Common.{◌≡◌, ℕ, List, Option, None, Some, sym, subst, arith}
use Rattle.std.proofs.lemmas.Option.{none-some}
use Rattle.cards.specs.declared.pack.Card.{Card}
use Rattle.cards.specs.declared.suits.Trump.{Trump}
use Rattle.cards.specs.declared.seats.Side.{Side}
use Rattle.cards.specs.declared.seats.Seat.{Seat}
use Rattle.cards.specs.Deal.{Deal, IsLayout}
use Rattle.play_rules.specs.History.{Opening}
use Rattle.play_rules.specs.Legal.{IsLegalHistory}
use Rattle.strategies.specs.Strategies.{CanWin}
use Rattle.strategies.proofs.LawProofs.{what_is_won}
use Rattle.certificate_graph.specs.declared.nodes.Node as nodes
use Rattle.certificate_graph.specs.Graphs.{GraphShape, IsGraph}
use Rattle.checker.specs.Soundness.{opening_at}
use Rattle.checker.proofs.BegunIsSound.{begun_show}
use Rattle.card_values.specs.AfterClaims.{AfterClaim, ShowsAfter, IsBegunRoot}

-- the opening of a claim, by its parts
at_parts : (graph : GraphShape) (deal : Deal) (leader lead : Seat) (trump : Trump) (side : Side) (need own : ℕ) (history : List Card) → lead ≡ leader → graph.trump ≡ trump → graph.side ≡ side → own ≡ need →
    CanWin (record { deal = deal; leader = lead; trump = graph.trump }) graph.side own history → CanWin (record { deal = deal; leader = leader; trump = trump }) side need history
at_parts graph deal leader lead trump side need own history same_lead same_trump same_side same_need wins =
    subst (λ (l : Seat). CanWin (record { deal = deal; leader = l; trump = trump }) side need history) same_lead
    (subst (λ (t : Trump). CanWin (record { deal = deal; leader = lead; trump = t }) side need history) same_trump
    (subst (λ (s : Side). CanWin (record { deal = deal; leader = lead; trump = graph.trump }) s need history) same_side
    (subst (λ (n : ℕ). CanWin (record { deal = deal; leader = lead; trump = graph.trump }) graph.side n history) same_need wins)))

legal_at : (graph : GraphShape) (deal : Deal) (leader lead : Seat) (trump : Trump) (history : List Card) → lead ≡ leader → graph.trump ≡ trump → IsLegalHistory (record { deal = deal; leader = leader; trump = trump }) history → IsLegalHistory (record { deal = deal; leader = lead; trump = graph.trump }) history
legal_at graph deal leader lead trump history same_lead same_trump legal =
    subst (λ (l : Seat). IsLegalHistory (record { deal = deal; leader = l; trump = graph.trump }) history) (sym same_lead)
    (subst (λ (t : Trump). IsLegalHistory (record { deal = deal; leader = leader; trump = t }) history) (sym same_trump) legal)

root_wins : (graph : GraphShape) (claim : AfterClaim) (node : nodes.Node) → IsGraph graph → IsLayout claim.opening.deal → IsLegalHistory claim.opening claim.history → ShowsAfter graph claim (Some node) → CanWin claim.opening claim.side claim.need claim.history
root_wins graph claim node is layout legal shows =
    let root : IsBegunRoot graph claim node = shows.root in
    let (path, stand, right) = root.right in
    let opening : Opening = claim.opening in
    let there : IsLegalHistory (opening_at graph node opening.deal) claim.history = legal_at graph opening.deal opening.leader node.lead opening.trump claim.history root.lead shows.trump_is legal in
    at_parts graph opening.deal opening.leader node.lead opening.trump claim.side claim.need node.need claim.history root.lead shows.trump_is shows.side_is root.need_is
    (begun_show graph node path is (shows.steps (λ none. none-some node (sym none))) root.form.pattern right opening.deal claim.history layout root.pattern there stand)

pub shown_wins : (graph : GraphShape) (claim : AfterClaim) (root : Option nodes.Node) → IsGraph graph → IsLayout claim.opening.deal → IsLegalHistory claim.opening claim.history → ShowsAfter graph claim root → CanWin claim.opening claim.side claim.need claim.history
shown_wins graph claim None is layout legal shows =
    subst (λ (n : ℕ). CanWin claim.opening claim.side n claim.history) (sym shows.root) (what_is_won claim.opening claim.side 0 claim.history layout legal (omega arith))
shown_wins graph claim (Some node) is layout legal shows = root_wins graph claim node is layout legal shows
