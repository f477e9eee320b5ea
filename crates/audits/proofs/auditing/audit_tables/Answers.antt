-- The book is one over the boards of the text after the audit, and its page was put.
use Rattle.std.proofs.Common.{ℕ, List, Ok, Err, sym, subst}
use Rattle.pbn_deals.specs.Reading.{TextAnswers}
use Rattle.tournaments.specs.Putting.{PutsPage, page_fact}
use Rattle.audits.proofs.PageLaws.{is_audit, says, fills, begins_page}
use Rattle.audits.proofs.auditing.audit_tables.Goals as goal

pub put_page-requires-clause-boards : goal.put_page-requires-clause-boards
put_page-requires-clause-boards g c =
    subst (λ (text : List ℕ). TextAnswers text (Ok c.in_ok-text.book.terms.boards)) (sym c.as_slice.ensures.value)
    (says (page_fact c.args.page) _ _ (g.O.Sink.state c.args.output.now) (g.O.Sink.state c.args.output.now) _ _ c.in_ok-text.text.items c.in_ok-text.book c.in_ok-text.damage c.in_ok-text.ensures)

pub put_page-requires-clause-history : goal.put_page-requires-clause-history
put_page-requires-clause-history g c =
    (is_audit (page_fact c.args.page) _ _ (g.O.Sink.state c.args.output.now) (g.O.Sink.state c.args.output.now) _ _ c.in_ok-text.text.items c.in_ok-text.book c.in_ok-text.damage c.in_ok-text.ensures).history

pub returns-in-Ok : goal.returns-in-Ok
returns-in-Ok g c =
    let book = c.in_ok-text.book in
    let sink' = g.O.Sink.state c.put_page.new.output in
    let put = subst (λ (t : List ℕ). PutsPage (page_fact c.args.page) t book (g.O.Sink.state c.args.output.now) sink' (Ok c.in-Ok.report)) c.as_slice.ensures.value c.in-Ok.ensures in
    fills (page_fact c.args.page) _ _ _ _ _ _ c.in_ok-text.text.items book c.in_ok-text.damage c.in_ok-text.ensures c.in-Ok.report put

pub returns : goal.returns
returns g c =
    let book = c.in_ok-text.book in
    let sink' = g.O.Sink.state c.put_page.new.output in
    let put = subst (λ (t : List ℕ). PutsPage (page_fact c.args.page) t book (g.O.Sink.state c.args.output.now) sink' (Err c.in-Err.fault)) c.as_slice.ensures.value c.in-Err.ensures in
    begins_page (page_fact c.args.page) _ _ _ _ _ _ c.in_ok-text.text.items book c.in_ok-text.damage c.in_ok-text.ensures c.in-Err.fault put
