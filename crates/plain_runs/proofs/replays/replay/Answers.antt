use Rattle.std.proofs.Common.{◌≡◌, ◌+◌, true, cond, [], ◌∷◌, ◌++◌, take, take_all, refl, sym, ◌∙◌, ap, subst, arith}
use Rattle.std.proofs.lemmas.List.{take_more}
use Rattle.std.specs.Result.{is_ok}
use Rattle.plain_runs.specs.declared.requests.Request.{Request}
use Rattle.lease_book.specs.Histories.{Terms}
use Rattle.lease_book.specs.Books.{Ledger}
use Rattle.plain_runs.proofs.ReplayLaws.{IsUnderWay, one_more, all_done}
use Rattle.plain_runs.proofs.replays.replay.Goals as goal

pub loop-request-init : goal.loop-request-init
loop-request-init c =
    let made = c.in_ok-book.ensures in
    let terms : Terms = record { boards = c.args.boards.items; term = c.args.term; tries = c.args.tries } in
    subst (λ (book : Ledger). IsUnderWay terms [] book c.new-replies.result.items) (sym made.2)
    (record { terms_are = refl; legal = tt; asked = tt; replied = c.new-replies.ensures.items })

pub loop-request-preserved : goal.loop-request-preserved
loop-request-preserved c =
    let requests = c.args.requests.now in
    let index = c.loop-request.request-index in
    let ok : is_ok c.push.result ≡ true = c.if-is_err.ensures.negation in
    let pushed = c.push.ensures.items ∙ ap (λ b. cond b (c.loop-request.replies.items ++ c.in-Ok.reply ∷ []) c.loop-request.replies.items) ok in
    let taken : take (index + 1) requests ≡ take index requests ++ c.request-item.result ∷ [] =
    take_more requests index c.request-item.result (omega arith) ∙ ap (λ (request : Request). take index requests ++ request ∷ []) (sym c.request-item.is) in
    rw taken (one_more _ (take index requests) c.loop-request.book c.answer.new.book c.loop-request.replies.items c.push.new.self.items c.request-item.result c.in-Ok.reply c.loop-request.invariant c.in-Ok.ensures pushed)

pub returns-clause-ok : goal.returns-clause-ok
returns-clause-ok c =
    let requests = c.args.requests.now in
    let made = c.in_ok-book.ensures in
    let all : take c.loop-request.request-index requests ≡ requests = take_all c.loop-request.request-index requests (omega arith) in
    all_done _ requests c.loop-request.book c.loop-request.replies.items made.0 made.1
    (rw all at c.loop-request.invariant)
