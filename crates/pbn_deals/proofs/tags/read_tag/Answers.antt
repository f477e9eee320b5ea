use Rattle.std.proofs.Common.{◌<◌, length, sym, ◌∙◌, arith}
use Rattle.std.proofs.lemmas.Bool.{eqb-false}
use Rattle.pbn_deals.proofs.TagLemmas.{value_unended, bracket_missing, bracket_other, tag_found}
use Rattle.pbn_deals.proofs.tags.read_tag.Goals as goal

pub returns-in_default-split_at_byte-clause-value : goal.returns-in_default-split_at_byte-clause-value
returns-in_default-split_at_byte-clause-value c =
    let some : 0 < length c.split_name.result.0.now = (let no = eqb-false _ 0 (sym c.is_empty.ensures ∙ c.if-is_empty.false) in omega (arith, no)) in
    value_unended c.args.text.now c.after_blanks.result.now c.split_name.result.0.now c.split_name.result.1.now c.after_blanks-2.result.now c.after_blanks.ensures.value c.split_name.ensures.front c.split_name.ensures.after c.after_blanks-2.ensures.value some c.in-len1-up.len_at_least c.if-quote-ne34.false c.in_default-split_at_byte.ensures

pub returns-in_default-after_blanks-clause-value : goal.returns-in_default-after_blanks-clause-value
returns-in_default-after_blanks-clause-value c =
    let some : 0 < length c.split_name.result.0.now = (let no = eqb-false _ 0 (sym c.is_empty.ensures ∙ c.if-is_empty.false) in omega (arith, no)) in
    bracket_missing c.args.text.now c.after_blanks.result.now c.split_name.result.0.now c.split_name.result.1.now c.after_blanks-2.result.now c.after_blanks.ensures.value c.split_name.ensures.front c.split_name.ensures.after c.after_blanks-2.ensures.value some c.in-len1-up.len_at_least c.if-quote-ne34.false
    c.in-Some.value.now c.in-Some.after.now c.after_blanks-3.result.now c.in-Some.ensures.0 c.in-Some.ensures.1 c.after_blanks-3.ensures.value c.in_default-after_blanks.len_below

pub returns-then-bracket-ne93-clause-value : goal.returns-then-bracket-ne93-clause-value
returns-then-bracket-ne93-clause-value c =
    let some : 0 < length c.split_name.result.0.now = (let no = eqb-false _ 0 (sym c.is_empty.ensures ∙ c.if-is_empty.false) in omega (arith, no)) in
    bracket_other c.args.text.now c.after_blanks.result.now c.split_name.result.0.now c.split_name.result.1.now c.after_blanks-2.result.now c.after_blanks.ensures.value c.split_name.ensures.front c.split_name.ensures.after c.after_blanks-2.ensures.value some c.in-len1-up.len_at_least c.if-quote-ne34.false
    c.in-Some.value.now c.in-Some.after.now c.after_blanks-3.result.now c.in-Some.ensures.0 c.in-Some.ensures.1 c.after_blanks-3.ensures.value c.in-len1-up-after_blanks.len_at_least c.if-bracket-ne93.true

pub returns-clause-value : goal.returns-clause-value
returns-clause-value c =
    let some : 0 < length c.split_name.result.0.now = (let no = eqb-false _ 0 (sym c.is_empty.ensures ∙ c.if-is_empty.false) in omega (arith, no)) in
    tag_found c.args.text.now c.after_blanks.result.now c.split_name.result.0.now c.split_name.result.1.now c.after_blanks-2.result.now c.after_blanks.ensures.value c.split_name.ensures.front c.split_name.ensures.after c.after_blanks-2.ensures.value some c.in-len1-up.len_at_least c.if-quote-ne34.false
    c.in-Some.value.now c.in-Some.after.now c.after_blanks-3.result.now c.in-Some.ensures.0 c.in-Some.ensures.1 c.after_blanks-3.ensures.value c.in-len1-up-after_blanks.len_at_least c.if-bracket-ne93.false
