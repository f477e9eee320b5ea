use Rattle.std.proofs.Common.{codes, sym, ◌∙◌}
use Rattle.pbn_deals.specs.DealText.{deal_text}
use Rattle.pbn_deals.proofs.DealWords.{deal-one_line}
use Rattle.evidence.proofs.HeadLemmas.{deal_refused, deal_read}
use Rattle.card_evidence.proofs.LineLemmas.{one_line}
use Rattle.play_evidence.proofs.play_finding.find_deal.Goals as goal

pub returns-in_default : goal.returns-in_default
returns-in_default c = λ deal rest is e. c.in_default.ensures (deal_text deal) rest (deal-one_line deal) e

pub returns-in-Ok : goal.returns-in-Ok
returns-in-Ok c = λ deal rest is e.
    let line = c.in-Some.ensures in
    let word = one_line (codes "DPP 1\ndeal ") c.in-Some.word.now (deal_text deal) c.in-Some.rest.now rest line.0 (deal-one_line deal) (sym line.1 ∙ e) in
    (deal_read deal c.in-Ok.layout c.in-Some.word.now is word.0 c.in-Ok.ensures, word.1)

pub returns-in-Err : goal.returns-in-Err
returns-in-Err c = λ deal rest is e.
    let line = c.in-Some.ensures in
    let word = one_line (codes "DPP 1\ndeal ") c.in-Some.word.now (deal_text deal) c.in-Some.rest.now rest line.0 (deal-one_line deal) (sym line.1 ∙ e) in
    deal_refused deal c.in-Some.word.now _ is word.0 c.in-Err.ensures
