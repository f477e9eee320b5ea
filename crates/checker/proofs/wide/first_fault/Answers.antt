use Rattle.std.proofs.Common.{◌≡◌, ◌<◌, ◌-◌, ◌∙◌, Option, Some, length, ap, arith, subst}
use Rattle.std.specs.List.{range_with_len}
use Rattle.rayon.specs.Numbers.{nat_range}
use Rattle.rayon.proofs.ToStd.{nat_range-All}
use Rattle.checker.specs.declared.faults.NodeFault.{NodeFault}
use Rattle.checker.proofs.ToldLaws.{FirstTold, told_first, none_told, fault_told}
use Rattle.checker.proofs.wide.first_fault.Goals as goal

pub find_first-first-requires-clause-items : goal.find_first-first-requires-clause-items
find_first-first-requires-clause-items g c =
    let ends = c.into_par_iter.ensures in
    let inside = nat_range-All (λ i. i < length c.args.graph.now.nodes) 0 (length c.nodes-count.result.now) (λ i low high. omega (arith, high, ap length c.nodes-count.ensures)) in
    rw (c.map.ensures.base, c.map.ensures.f, ends.0, ends.1) (λ a b k d lt. (inside k d lt, λ y tells p e. tt))

pub returns-in_default : goal.returns-in_default
returns-in_default g c =
    let ends = c.into_par_iter.ensures in
    let found = rw (c.map.ensures.base, c.map.ensures.f) at c.find_first-first.ensures in
    let graph = c.args.graph.now in
    let count = length graph.nodes in
    let whole : length c.nodes-count.result.now - 0 ≡ count = omega (arith, ap length c.nodes-count.ensures) in
    let places = found.2.1 ∙ (λ i. nat_range (ends.0 i) (ends.1 i)) ∙ ap (range_with_len 0) whole in
    none_told graph (subst (FirstTold graph 0 count) c.in_default.is (told_first graph count found.2.0 found.0 found.1 c.find_first-first.result places found.2.2 found.3 found.4))

pub returns-in-Some-told : goal.returns-in-Some-told
returns-in-Some-told g c =
    let ends = c.into_par_iter.ensures in
    let found = rw (c.map.ensures.base, c.map.ensures.f) at c.find_first-first.ensures in
    let graph = c.args.graph.now in
    let count = length graph.nodes in
    let whole : length c.nodes-count.result.now - 0 ≡ count = omega (arith, ap length c.nodes-count.ensures) in
    let places = found.2.1 ∙ (λ i. nat_range (ends.0 i) (ends.1 i)) ∙ ap (range_with_len 0) whole in
    fault_told graph c.in-Some-told.fault
    (subst (FirstTold graph 0 count) (c.in-Some.is ∙ ap (λ (told : Option NodeFault). Some told) c.in-Some-told.is) (told_first graph count found.2.0 found.0 found.1 c.find_first-first.result places found.2.2 found.3 found.4))

pub returns-in-None : goal.returns-in-None
returns-in-None g c =
    let ends = c.into_par_iter.ensures in
    let found = rw (c.map.ensures.base, c.map.ensures.f) at c.find_first-first.ensures in
    let graph = c.args.graph.now in
    let count = length graph.nodes in
    let whole : length c.nodes-count.result.now - 0 ≡ count = omega (arith, ap length c.nodes-count.ensures) in
    let places = found.2.1 ∙ (λ i. nat_range (ends.0 i) (ends.1 i)) ∙ ap (range_with_len 0) whole in
    absurd
    (subst (FirstTold graph 0 count) (c.in-Some.is ∙ ap (λ (told : Option NodeFault). Some told) c.in-None.is) (told_first graph count found.2.0 found.0 found.1 c.find_first-first.result places found.2.2 found.3 found.4))
