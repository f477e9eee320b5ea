use Rattle.std.proofs.Common.{length, ◌+◌, ◌≤◌, sym, ◌∙◌}
use Rattle.evidence.specs.SectionTexts.{graphs_text}
use Rattle.evidence.proofs.HeadLemmas.{no_byte, count_front, count-cut, AllClaims-from, deal_refused, deal_read, room_for, after_none}
use Rattle.evidence.proofs.SectionLemmas.{from_trump, from_count, from_claims, few_claims, count_word, no_seat}
use Rattle.evidence.proofs.head_reading.read_head.Goals as goal

pub returns-in_default : goal.returns-in_default
returns-in_default c = λ section of. c.in_default.ensures section.deal (from_trump section) of.1

pub returns-in_default-read_layout : goal.returns-in_default-read_layout
returns-in_default-read_layout c = λ section of.
    let deal = c.in-Some.ensures section.deal (from_trump section) of.1 in
    deal_refused section.deal c.in-Some.value.now _ of.0.layout deal.0 c.in_default-read_layout.ensures

pub returns-in_default-read_trump : goal.returns-in_default-read_trump
returns-in_default-read_trump c = λ section of.
    let deal = c.in-Some.ensures section.deal (from_trump section) of.1 in
    c.in_default-read_trump.ensures section.trump (from_count section) deal.1

pub returns-in_default-cut_at : goal.returns-in_default-cut_at
returns-in_default-cut_at c = λ section of.
    let deal = c.in-Some.ensures section.deal (from_trump section) of.1 in
    let name = c.in-Some-read_trump.ensures section.trump (from_count section) deal.1 in
    no_byte 10 _ (count_front (length section.claims)) (from_claims section) c.in_default-cut_at.ensures
    (name.1 ∙ count-cut (length section.claims) (from_claims section))

pub returns : goal.returns
returns c = λ section of.
    let deal = c.in-Some.ensures section.deal (from_trump section) of.1 in
    let name = c.in-Some-read_trump.ensures section.trump (from_count section) deal.1 in
    let cut = c.in-Some-cut_at.ensures in
    let count = count_word section of.0 c.in-Some-cut_at.field-0-0.now c.in-Some-cut_at.rest.now cut.1 (sym cut.0 ∙ name.1) in
    let few = few_claims section of.0 in
    let none = c.new-claims.ensures in
    let room : length c.new-claims.result.items + length section.claims ≤ 4 = room_for _ section.claims none few in
    record {
      layout_is = deal_read section.deal _ c.in-Some.value.now of.0.layout deal.0 c.in-Ok.ensures;
      trump_is = name.0;
      claims_are = c.read_claims.ensures section.claims (graphs_text section.ns section.ew)
          (AllClaims-from 0 section.claims of.0.claims_are) (no_seat section.ns section.ew) room count.1 ∙ after_none _ section.claims none;
    }
