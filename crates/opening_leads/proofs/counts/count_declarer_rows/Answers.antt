use Rattle.std.proofs.Common.{Bool, refl, arith, ◌∙◌, sym}
use Rattle.std.proofs.lemmas.List.Sums.{count_by_more_yes, count_by_more_no}
use Rattle.cards.specs.declared.suits.Trump.{Trump}
use Rattle.cards.specs.declared.suits.Trump.TheVariants.{Nt}
use Rattle.tables.specs.TablesText.{denominations}
use Rattle.opening_leads.specs.Leads.{is_counted}
use Rattle.opening_leads.specs.Tasks.{leads_in}
use Rattle.opening_leads.proofs.counts.count_declarer_rows.Goals as goal
use Rattle.opening_leads.proofs.counts.count_declarer_rows.Goals.{then-counts, else-counts}

pub loop-trump-preserved : goal.loop-trump-preserved
loop-trump-preserved c =
    let counted : Trump → Bool = λ trump. is_counted c.args.counted (leads_in c.args.table.now c.args.board c.args.declarer trump) in
    let i = c.loop-trump.trump-index in
    let inv = c.loop-trump.invariant in
    elim c.if-counts.branch [
      | then-counts w ↦
          let more = count_by_more_yes counted denominations i Nt (omega arith) (sym c.counts.ensures ∙ w.if-counts.true) in
          record { items = refl; counted = omega (arith, more, inv.counted, w.count-is); bound = omega (arith, inv.bound, w.count-is) }
      | else-counts w ↦
          let more = count_by_more_no counted denominations i Nt (omega arith) (sym c.counts.ensures ∙ w.if-counts.false) in
          record { items = refl; counted = omega (arith, more, inv.counted, w.count-is); bound = omega (arith, inv.bound, w.count-is) }
    ]
