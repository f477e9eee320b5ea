use Rattle.std.proofs.Common.{◌&&◌, eqb, Some, None, codes, sym, ◌∙◌, ap, inl, inr, arith, get_or}
use Rattle.std.specs.Char.{is_ascii_digit}
use Rattle.std.specs.Cmp.{unsigned_Decides}
use Rattle.std.proofs.lemmas.Slice.Eq.{strip_prefix_is, strip_suffix_is}
use Rattle.whole_texts.specs.OldTables.{is_count_text}
use Rattle.whole_texts.proofs.CountTexts.{no_prefix, no_suffix, said_one, said_two, said_none, not_one}
use Rattle.whole_texts.proofs.olds.is_count_text.Goals as goal

-- src/counts.rt:11:9
pub returns-in_default : goal.returns-in_default
returns-in_default c = no_prefix c.args.bytes.now (strip_prefix_is unsigned_Decides c.args.bytes.now (codes "; table incomplete: ") None c.in_default.ensures.cases)

-- src/counts.rt:14:9
pub returns-in_default-strip_suffix : goal.returns-in_default-strip_suffix
returns-in_default-strip_suffix c =
    let rest = c.in-Some.rest.now in
    let front = strip_prefix_is unsigned_Decides c.args.bytes.now (codes "; table incomplete: ") (Some c.in-Some.rest) c.in-Some.ensures.cases in
    no_suffix rest (strip_suffix_is unsigned_Decides rest (codes " of 20") None c.in_default-strip_suffix.ensures.cases) ∙ ap is_count_text (sym front)

-- src/counts.rt:7:1
pub returns-in-len1 : goal.returns-in-len1
returns-in-len1 c =
    let rest = c.in-Some.rest.now in
    let front = strip_prefix_is unsigned_Decides c.args.bytes.now (codes "; table incomplete: ") (Some c.in-Some.rest) c.in-Some.ensures.cases in
    let end = strip_suffix_is unsigned_Decides rest (codes " of 20") (Some c.in-Some-strip_suffix.digits) c.in-Some-strip_suffix.ensures.cases in
    c.is_ascii_digit.ensures.value ∙ said_one _ rest _ front end c.in-len1.len_at_least c.in-len1.len_below

-- src/counts.rt:7:1
pub returns-then-first-eq49 : goal.returns-then-first-eq49
returns-then-first-eq49 c =
    let rest = c.in-Some.rest.now in
    let front = strip_prefix_is unsigned_Decides c.args.bytes.now (codes "; table incomplete: ") (Some c.in-Some.rest) c.in-Some.ensures.cases in
    let end = strip_suffix_is unsigned_Decides rest (codes " of 20") (Some c.in-Some-strip_suffix.digits) c.in-Some-strip_suffix.ensures.cases in
    c.is_ascii_digit-then-first-eq49.ensures.value
    ∙ (sym (ap (λ n. eqb n 49 && is_ascii_digit (get_or c.in-Some-strip_suffix.digits.now 1 0)) c.if-first-eq49.true)
    ∙ said_two _ rest _ front end c.in-len2.len_at_least c.in-len2.len_below)

-- src/counts.rt:7:1
pub returns-else-first-eq49 : goal.returns-else-first-eq49
returns-else-first-eq49 c =
    let rest = c.in-Some.rest.now in
    let front = strip_prefix_is unsigned_Decides c.args.bytes.now (codes "; table incomplete: ") (Some c.in-Some.rest) c.in-Some.ensures.cases in
    let end = strip_suffix_is unsigned_Decides rest (codes " of 20") (Some c.in-Some-strip_suffix.digits) c.in-Some-strip_suffix.ensures.cases in
    not_one (get_or c.in-Some-strip_suffix.digits.now 0 0) (is_ascii_digit (get_or c.in-Some-strip_suffix.digits.now 1 0)) c.if-first-eq49.false
    ∙ said_two _ rest _ front end c.in-len2.len_at_least c.in-len2.len_below

-- src/counts.rt:7:1
pub returns-in_default-digits : goal.returns-in_default-digits
returns-in_default-digits c =
    let rest = c.in-Some.rest.now in
    let front = strip_prefix_is unsigned_Decides c.args.bytes.now (codes "; table incomplete: ") (Some c.in-Some.rest) c.in-Some.ensures.cases in
    let end = strip_suffix_is unsigned_Decides rest (codes " of 20") (Some c.in-Some-strip_suffix.digits) c.in-Some-strip_suffix.ensures.cases in
    said_none _ rest _ front end (inl c.in_default-digits.len_below)

-- src/counts.rt:7:1
pub returns-in_default-digits-2 : goal.returns-in_default-digits-2
returns-in_default-digits-2 c =
    let rest = c.in-Some.rest.now in
    let front = strip_prefix_is unsigned_Decides c.args.bytes.now (codes "; table incomplete: ") (Some c.in-Some.rest) c.in-Some.ensures.cases in
    let end = strip_suffix_is unsigned_Decides rest (codes " of 20") (Some c.in-Some-strip_suffix.digits) c.in-Some-strip_suffix.ensures.cases in
    said_none _ rest _ front end (inr (omega (arith, c.in_default-digits.len_at_least)))
