use Rattle.std.proofs.Common.{sym, ◌∙◌, ap}
use Rattle.pbn_deals.specs.DealText.{deal_text}
use Rattle.evidence.proofs.HeadLemmas.{deal_refused, deal_read}
use Rattle.card_evidence.proofs.trick_reading.layout_of.Goals as goal

pub returns-in_default : goal.returns-in_default
returns-in_default c = λ deal is e. deal_refused deal c.args.word.now _ is e c.in_default.ensures

pub returns-then-not-is_same : goal.returns-then-not-is_same
returns-then-not-is_same c = λ deal is e.
    let read = deal_read deal c.in-Ok.layout c.args.word.now is e c.in-Ok.ensures in
    let same = e ∙ (ap deal_text (sym read) ∙ (sym c.in_ok-bytes.ensures ∙ sym c.as_slice.ensures.value)) in
    let yes = c.if-not-is_same.ensures.1 same in cc
