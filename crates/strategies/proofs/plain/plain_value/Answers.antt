use Rattle.std.proofs.Common.{◌≡◌, arith, ap, rules, subst, ℕ}
use Rattle.cards.specs.declared.seats.Side.TheVariants.{NorthSouth, EastWest}
use Rattle.cards.specs.Deal.{size_of}
use Rattle.play_rules.specs.History.{Opening}
use Rattle.strategies.specs.Strategies.{CanWin}
use Rattle.strategies.proofs.SearchProofs.{won_by, IsPlainValue-from_table}
use Rattle.strategies.proofs.plain.plain_value.Goals as goal

pub loop-value-init : goal.loop-value-init
loop-value-init c = won_by c.new-table.result NorthSouth 0 c.new-table.ensures.reached (omega arith)

pub returns-then-not-can_take-clause-value : goal.returns-then-not-can_take-clause-value
returns-then-not-can_take-clause-value c =
    let deal : size_of c.new-table.result.opening.deal ≡ size_of c.args.layout.now = ap (λ (o : Opening). size_of o.deal) c.new-table.ensures.opening in
    IsPlainValue-from_table c.new-table.result _ c.loop-value.value c.new-table.ensures.opening c.new-table.ensures.history (omega (arith, deal, c.len-size.ensures.size)) c.loop-value.invariant c.if-not-can_take.ensures

pub returns-clause-value : goal.returns-clause-value
returns-clause-value c =
    let deal : size_of c.new-table.result.opening.deal ≡ size_of c.args.layout.now = ap (λ (o : Opening). size_of o.deal) c.new-table.ensures.opening in
    let all : c.loop-value.value ≡ c.len-size.result = omega arith in
    IsPlainValue-from_table c.new-table.result _ c.len-size.result c.new-table.ensures.opening c.new-table.ensures.history (omega (arith, deal, c.len-size.ensures.size))
    (subst (λ (n : ℕ). CanWin c.new-table.result.opening NorthSouth n c.new-table.result.history) all c.loop-value.invariant)
    (won_by c.new-table.result EastWest _ c.new-table.ensures.reached (omega (arith, deal, c.len-size.ensures.size)))

pub returns-then-not-can_take-clause-too_large : goal.returns-then-not-can_take-clause-too_large
returns-then-not-can_take-clause-too_large c = (λ _. omega (arith, c.len-size.ensures.size), λ _. search rules)

pub returns-clause-too_large : goal.returns-clause-too_large
returns-clause-too_large c = (λ _. omega (arith, c.len-size.ensures.size), λ _. search rules)
