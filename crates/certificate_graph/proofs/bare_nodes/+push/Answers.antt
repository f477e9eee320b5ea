use Rattle.std.proofs.Common.{◌≡◌, ◌+◌, ◌-◌, ◌∷◌, [], ◌++◌, length, take, drop, sym, ◌∙◌, ap, arith, append_assoc, drop-drop}
use Rattle.std.proofs.lemmas.List.{length-take-le, length-drop, take-append-drop}
use Rattle.certificate_graph.specs.BareNodes.{Gets}
use Rattle.certificate_graph.specs.Rows.{tree_row}
use Rattle.certificate_graph.proofs.BareLemmas.{first_apart, joined, with_tree, on_ok, kept_before}
use Rattle.certificate_graph.proofs.bare_nodes.+push.Goals as goal

pub overflow_add-end : goal.overflow_add-end
overflow_add-end t c =
    let row = drop c.args.begin c.args.rows.now.value.items in
    let found = first_apart c.args.bares.now c.in-Some.first.now c.in-Some.others.now row c.in-Some.ensures.cases.0 c.requires.some in
    omega (arith, found.within, length-drop c.args.begin c.args.rows.now.value.items, c.requires.within, c.len-len.ensures)

pub of_rows-requires-clause-within : goal.of_rows-requires-clause-within
of_rows-requires-clause-within t c =
    let row = drop c.args.begin c.args.rows.now.value.items in
    let found = first_apart c.args.bares.now c.in-Some.first.now c.in-Some.others.now row c.in-Some.ensures.cases.0 c.requires.some in
    (omega arith, omega (arith, found.within, length-drop c.args.begin c.args.rows.now.value.items, c.requires.within))

pub of_rows-requires-clause-is_tree : goal.of_rows-requires-clause-is_tree
of_rows-requires-clause-is_tree t c =
    let begin = c.args.begin in
    let count = c.in-Some.first.now.count in
    let rows = c.args.rows.now.value.items in
    let row = drop begin rows in
    let found = first_apart c.args.bares.now c.in-Some.first.now c.in-Some.others.now row c.in-Some.ensures.cases.0 c.requires.some in
    let long : (begin + count) - begin ≡ count = omega arith in
    (found.node.tree, ap (λ n. take n row) long ∙ found.front)

pub push_from-requires : goal.push_from-requires
push_from-requires t c =
    let begin = c.args.begin in
    let count = c.in-Some.first.now.count in
    let rows = c.args.rows.now.value.items in
    let row = drop begin rows in
    let found = first_apart c.args.bares.now c.in-Some.first.now c.in-Some.others.now row c.in-Some.ensures.cases.0 c.requires.some in (
      omega (arith, ap length c.in-Some.ensures.cases.0),
      (
        omega (arith, found.within, length-drop begin rows, c.requires.within),
        (found.rest, record { bare = found.others_are; trees = sym (drop-drop count begin rows) ∙ found.back }),
      ),
    )

pub returns-clause-gets : goal.returns-clause-gets
returns-clause-gets t c =
    let bares = c.args.bares.now in
    let first = c.in-Some.first.now in
    let others = c.in-Some.others.now in
    let begin = c.args.begin in
    let count = first.count in
    let rows = c.args.rows.now.value.items in
    let row = drop begin rows in
    let nodes = c.args.nodes.now.items in
    let tree = c.in_ok-of_rows.field-0 in
    let found = first_apart bares first others row c.in-Some.ensures.cases.0 c.requires.some in
    let long : (begin + count) - begin ≡ count = omega arith in
    let front : take count row ≡ tree_row tree = sym (c.in_ok-of_rows.ensures ∙ ap (λ n. take n row) long) in
    let back : drop count row ≡ drop (begin + count) rows = drop-drop count begin rows in
    on_ok _ (Gets others (drop (begin + count) rows) c.push.new.self.items c.push_from.new.nodes.items) _
    (λ gets. (
      with_tree first tree ∷ gets.0,
      joined bares first others row (take count row) (drop (begin + count) rows) tree gets.0 c.in-Some.ensures.cases.0
          (ap (λ l. take count row ++ l) (sym back) ∙ take-append-drop count row) (length-take-le count row found.within) front gets.1,
      gets.2 ∙ (ap (λ l. l ++ gets.0) c.in_ok-push.ensures.items ∙ append_assoc nodes (with_tree first tree ∷ []) gets.0),
    ))
    c.push_from.ensures.gets

pub returns-clause-kept : goal.returns-clause-kept
returns-clause-kept t c = kept_before c.args.nodes.now.items c.push.new.self.items c.push_from.new.nodes.items _ c.in_ok-push.ensures.items c.push_from.ensures.kept
