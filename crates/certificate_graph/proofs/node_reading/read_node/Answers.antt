use Rattle.std.proofs.Common.{◌≡◌, length, drop, inr, refl, sym, ◌∙◌, ap, ap₂, subst, arith}
use Rattle.std.specs.List.{between}
use Rattle.std.proofs.lemmas.Slice.{between_to_end}
use Rattle.patterns.proofs.SeatLaws.{not_told}
use Rattle.patterns.specs.Shapes.{IsPattern}
use Rattle.certificate_graph.specs.Suits.{node_read}
use Rattle.certificate_graph.specs.Texts.{node_text}
use Rattle.certificate_graph.proofs.BareLemmas.{names_last}
use Rattle.certificate_graph.proofs.node_reading.read_node.Goals as goal

pub returns-then-not-all_name_less : goal.returns-then-not-all_name_less
returns-then-not-all_name_less c =
    let told = (rw c.in-Some.is at c.in-Ok.ensures) in
    let whole = c.deref.result.now in
    let part = between c.len-before.result (length whole) whole in
    let last : part ≡ drop (length c.args.row.now.items) c.read_line.new.row.items =
    between_to_end whole c.len-before.result (length whole) (omega arith)
    ∙ ap₂ (λ n l. drop n l) (omega (arith, c.len-before.ensures)) c.deref.ensures.value in
    let names = names_last c.args.count c.args.row.now.items c.read_line.new.row.items part told.0 told.1 last in
    inr (
      refl,
      (
        node_read c.in-Some.said told.0,
        c.in-Some.rest.now,
        told.4,
        (
          subst IsPattern c.in-Ok-from_words.ensures.1 c.in-Ok-from_words.ensures.2,
          λ below. not_told c.all_name_less.ensures c.if-not-all_name_less.true (names.1 below),
        ),
      ),
    )

pub returns : goal.returns
returns c =
    let told = (rw c.in-Some.is at c.in-Ok.ensures) in
    let said = c.in-Some.said in
    let pattern = c.in-Ok-from_words.pattern in
    let whole = c.deref.result.now in
    let part = between c.len-before.result (length whole) whole in
    let last : part ≡ drop (length c.args.row.now.items) c.read_line.new.row.items =
    between_to_end whole c.len-before.result (length whole) (omega arith)
    ∙ ap₂ (λ n l. drop n l) (omega (arith, c.len-before.ensures)) c.deref.ensures.value in
    let names = names_last c.args.count c.args.row.now.items c.read_line.new.row.items part told.0 told.1 last in
    record {
      node = record { pattern = pattern; lead = said.lead; need = said.need; tree = told.0 };
      is_node = record {
        pattern = c.in-Ok-from_words.ensures.2;
        need = told.4.form.need;
        form = told.4.form.tree.form;
        children = names.0 (c.all_name_less.ensures.0 c.if-not-all_name_less.false);
      };
      is = told.4.is ∙ ap (λ p. node_text (record { pattern = p; lead = said.lead; need = said.need; tree = told.0 }) c.in-Some.rest.now) (sym c.in-Ok-from_words.ensures.1);
      bare = ap (λ n. record { pattern = pattern; lead = said.lead; need = said.need; count = n }) told.2;
      tree = told.1;
    }
