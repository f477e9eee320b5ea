use Rattle.std.proofs.Common.{ℕ, List, false, None, refl, sym, ◌∙◌, ap, subst, flat_map, length, arith}
use Rattle.std.specs.Borrow.{Bor}
use Rattle.pbn_deals.specs.Pieces.{line_bytes}
use Rattle.pbn_deals.proofs.RowsInTurn.{rest_shorter}
use Rattle.whole_texts.proofs.Surveys.{Surveyed, survey_begins, next_line, own, own_line, line_is, solid_line, minor_line, ends_with_text, ends_at_gap, some_text}
use Rattle.whole_texts.proofs.games.first_game.Goals as goal
use Rattle.whole_texts.proofs.games.first_game.Goals.{then-is_solid, else-is_solid}

pub loop-row-init : goal.loop-row-init
loop-row-init c = record {
  surveyed = λ lines h.
      subst (λ o. Surveyed c.args.renews c.args.text.now lines c.args.text.now c.args.text.now o c.first-before.result.in_table None) (sym c.first-before.ensures.is_open)
      (subst (λ t. Surveyed c.args.renews c.args.text.now lines c.args.text.now c.args.text.now false t None) (sym c.first-before.ensures.in_table) (survey_begins c.args.renews c.args.text.now lines h));
  back_within = omega arith;
  rest_within = omega arith;
}

pub returns-then-is_gap-clause-is : goal.returns-then-is_gap-clause-is
returns-then-is_gap-clause-is c = λ lines h.
    let s = c.loop-row.invariant.surveyed lines h in
    let after = c.in-Some.after.now in
    let rows = c.in-Some.ensures.rows in
    let whole = c.in-Some.ensures.whole in
    let line = next_line c.args.renews after s rows whole in
    let facts = c.line_facts-facts.ensures line.kind line.behind line.is in
    let gap = line_is c.args.renews after s rows whole in
    ends_at_gap c.args.renews _ h s rows whole (sym (c.if-is_gap.ensures c.args.renews c.loop-row.before.in_table line.kind line.behind facts))
    (c.front_of.ensures (flat_map line_bytes s.front) s.front_bytes)
    (c.front_of-then-is_gap.ensures (flat_map line_bytes s.behind) s.back_bytes)
    (c.front_of-then-is_gap-2.ensures (line_bytes (own_line c.args.renews after s rows whole)) gap)
    refl

pub returns-then-is_gap-clause-shorter : goal.returns-then-is_gap-clause-shorter
returns-then-is_gap-clause-shorter c = λ some.
    let less = rest_shorter c.loop-row.rest.now c.in-Some.after.now _ c.in-Some.ensures.rows c.in-Some.ensures.whole in
    let back = c.loop-row.invariant.back_within in
    let rest = c.loop-row.invariant.rest_within in
    omega (arith, less, back, rest)

pub loop-row-smaller : goal.loop-row-smaller
loop-row-smaller c = rest_shorter c.loop-row.rest.now c.in-Some.after.now _ c.in-Some.ensures.rows c.in-Some.ensures.whole

pub loop-row-preserved : goal.loop-row-preserved
loop-row-preserved c =
    let inv = c.loop-row.invariant in
    let after = c.in-Some.after.now in
    let rows = c.in-Some.ensures.rows in
    let whole = c.in-Some.ensures.whole in
    let less = rest_shorter c.loop-row.rest.now after _ rows whole in
    record {
      surveyed = λ lines h.
          let s = inv.surveyed lines h in
          let line = next_line c.args.renews after s rows whole in
          let facts = c.line_facts-facts.ensures line.kind line.behind line.is in
          let no_gap = sym (c.if-is_gap.ensures c.args.renews c.loop-row.before.in_table line.kind line.behind facts) in
          let passes = c.behind-before.ensures line.kind line.behind facts in
          let deal = c.with_deal_end-deal_end.ensures (own c.args.renews after s rows whole) c.args.renews c.loop-row.before.in_table line.kind line.behind facts s.deal in
          let is = c.is_solid.ensures c.args.renews c.loop-row.before.in_table line.kind line.behind facts in
          elim c.if-is_solid.branch [
            | then-is_solid w ↦
                subst (λ (b : Bor (List ℕ)). Surveyed c.args.renews c.args.text.now lines b.now after c.behind-before.result.is_open c.behind-before.result.in_table c.with_deal_end-deal_end.result) (sym w.back-is)
                (solid_line c.args.renews after s rows whole c.with_deal_end-deal_end.result no_gap passes.opened passes.table deal (sym is ∙ w.if-is_solid.true))
            | else-is_solid w ↦
                subst (λ (b : Bor (List ℕ)). Surveyed c.args.renews c.args.text.now lines b.now after c.behind-before.result.is_open c.behind-before.result.in_table c.with_deal_end-deal_end.result) (sym w.back-is)
                (minor_line c.args.renews after s rows whole c.with_deal_end-deal_end.result no_gap passes.opened passes.table deal (sym is ∙ w.if-is_solid.false))
          ];
      back_within = elim c.if-is_solid.branch [
        | then-is_solid w ↦ let e = ap (λ (b : Bor (List ℕ)). length b.now) w.back-is in omega (arith, less, e, inv.back_within, inv.rest_within)
        | else-is_solid w ↦ let e = ap (λ (b : Bor (List ℕ)). length b.now) w.back-is in omega (arith, e, inv.back_within)
      ];
      rest_within = elim c.if-is_solid.branch [
        | then-is_solid w ↦ let e = ap (λ (b : Bor (List ℕ)). length b.now) w.back-is in omega (arith, e)
        | else-is_solid w ↦ let e = ap (λ (b : Bor (List ℕ)). length b.now) w.back-is in omega (arith, less, e, inv.rest_within)
      ];
    }

pub returns-clause-is : goal.returns-clause-is
returns-clause-is c = λ lines h.
    let s = c.loop-row.invariant.surveyed lines h in
    ends_with_text c.args.renews _ h s c.in_default.ensures (c.front_of-2.ensures (flat_map line_bytes s.front) s.front_bytes) refl refl refl

pub returns-clause-shorter : goal.returns-clause-shorter
returns-clause-shorter c = λ some. some_text c.args.text.now some
