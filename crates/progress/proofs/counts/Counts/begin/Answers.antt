use Rattle.progress.proofs.CountLaws.{begun, HaveShared, shared_more, shared_as_before}
use Rattle.std.proofs.Common.{arith, rules, sym, ◌∙◌, ap, subst, ◌≡◌, ◌+◌, true, false, is_some}
use Rattle.pbn_deals.specs.declared.boards.Board.{Board}
use Rattle.std.proofs.lemmas.List.Sums.{count_by_more_yes, count_by_more_no}
use Rattle.progress.specs.declared.counts.Counts.{Counts}
use Rattle.progress.proofs.counts.Counts.begin.Goals as goal
use Rattle.progress.proofs.counts.Counts.begin.Goals.{then-is_some, else-is_some}

pub loop-number-preserved : goal.loop-number-preserved
loop-number-preserved c =
    let inv = c.loop-number.invariant in
    let boards = c.args.boards.now in
    let here = c.index-boards-number in
    let dealt = λ (board : Board). is_some board.deal in
    elim c.if-is_some.branch [
      | then-is_some w ↦
          let has : is_some here.result.deal ≡ true = sym w.if-is_some.ensures in
          let results : c.if-is_some.self.results ≡ w.saturating_add-self-then-is_some.result = search rules in
          let dealt_are : c.if-is_some.self.boards ≡ w.saturating_add-self.result = search rules in
          record {
            boards_are = omega (arith, dealt_are, w.saturating_add-self.ensures, inv.boards_are, count_by_more_yes dealt boards c.loop-number.number here.result (omega arith) (ap dealt (sym here.is) ∙ has));
            results_are = omega (arith, results, w.saturating_add-self-then-is_some.ensures, inv.results_are, count_by_more_yes dealt boards c.loop-number.number here.result (omega arith) (ap dealt (sym here.is) ∙ has));
            published_are = search rules;
            finished_are = search rules;
            sharing_are = subst (λ (counts : Counts). HaveShared boards counts.sharing (c.loop-number.number + 1)) (sym w.self-is)
                (shared_more boards c.args.firsts.now c.loop-number.self.sharing w.share.new.self.sharing c.loop-number.number here.result c.requires (omega arith) here.is has w.share.ensures.sharing inv.sharing_are);
            of_board_are = search rules;
          }
      | else-is_some w ↦
          let none : is_some here.result.deal ≡ false = sym w.if-is_some.ensures in
          let results : c.if-is_some.self.results ≡ c.loop-number.self.results = search rules in
          let dealt_are : c.if-is_some.self.boards ≡ c.loop-number.self.boards = search rules in
          record {
            boards_are = omega (arith, dealt_are, inv.boards_are, count_by_more_no dealt boards c.loop-number.number here.result (omega arith) (ap dealt (sym here.is) ∙ none));
            results_are = omega (arith, results, inv.results_are, count_by_more_no dealt boards c.loop-number.number here.result (omega arith) (ap dealt (sym here.is) ∙ none));
            published_are = search rules;
            finished_are = search rules;
            sharing_are = subst (λ (counts : Counts). HaveShared boards counts.sharing (c.loop-number.number + 1)) (sym w.self-is)
                (shared_as_before boards c.loop-number.self.sharing c.loop-number.number here.result (omega arith) here.is none inv.sharing_are);
            of_board_are = search rules;
          }
    ]

pub returns : goal.returns
returns c = λ few.
    let loop = c.loop-number in
    let inv = loop.invariant in
    begun c.args.boards.now loop.number loop.self few (omega arith) inv.boards_are inv.results_are inv.published_are inv.finished_are inv.sharing_are inv.of_board_are
