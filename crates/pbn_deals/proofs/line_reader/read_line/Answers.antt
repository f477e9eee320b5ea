use Rattle.std.proofs.Common.{◌≡◌, true, false, sym, ap, subst}
use Rattle.pbn_deals.specs.Views.{tags_seen}
use Rattle.pbn_deals.specs.Reading.{Scans, Ends, at_end, at_line_comment, at_comment, at_open_comment, at_quoted, at_unended, meaning_of}
use Rattle.pbn_deals.proofs.LineLemmas.{Scans-at, Scans-flag, Scans-byte, Scans-data}
use Rattle.pbn_deals.proofs.line_reader.read_line.Goals as goal
use Rattle.pbn_deals.proofs.line_reader.read_line.Goals.{else-first-eq91-via-then-first-eq91+else-not-in_data, else-first-eq91-via-else-first-eq91}

pub returns-then-first-eq59 : goal.returns-then-first-eq59
returns-then-first-eq59 c =
    let now = c.loop-first in
    let one = c.in-Some in
    now.invariant _ (Scans-at c.args.number c.args.count now.in_data (tags_seen now.tags) now.rest.now one.others.now one.first _ one.ensures (at_line_comment (ap meaning_of c.if-first-eq59.true)))

pub returns-in_default-split_at_byte : goal.returns-in_default-split_at_byte
returns-in_default-split_at_byte c =
    let now = c.loop-first in
    let one = c.in-Some in
    now.invariant _ (Scans-at c.args.number c.args.count now.in_data (tags_seen now.tags) now.rest.now one.others.now one.first _ one.ensures (at_open_comment (ap meaning_of c.if-first-eq123.true) c.in_default-split_at_byte.ensures))

pub loop-first-preserved-then-first-eq123 : goal.loop-first-preserved-then-first-eq123
loop-first-preserved-then-first-eq123 c = λ last h.
    let now = c.loop-first in
    let one = c.in-Some in
    let found = c.in-Some-split_at_byte in
    now.invariant last (Scans-at c.args.number c.args.count now.in_data (tags_seen now.tags) now.rest.now one.others.now one.first last one.ensures (at_comment found.field-0-0.now (ap meaning_of c.if-first-eq123.true) found.ensures.0 found.ensures.1 h))

pub returns-in_default-split_at_byte-2 : goal.returns-in_default-split_at_byte-2
returns-in_default-split_at_byte-2 c =
    let now = c.loop-first in
    let one = c.in-Some in
    now.invariant _ (Scans-at c.args.number c.args.count now.in_data (tags_seen now.tags) now.rest.now one.others.now one.first _ one.ensures (at_unended (ap meaning_of c.if-first-eq34.true) c.in_default-split_at_byte-2.ensures))

pub loop-first-preserved-then-first-eq34 : goal.loop-first-preserved-then-first-eq34
loop-first-preserved-then-first-eq34 c = λ last h.
    let now = c.loop-first in
    let one = c.in-Some in
    let found = c.in-Some-split_at_byte-2 in
    now.invariant last (Scans-at c.args.number c.args.count now.in_data (tags_seen now.tags) now.rest.now one.others.now one.first last one.ensures (at_quoted found.field-0-0.now (ap meaning_of c.if-first-eq34.true) found.ensures.0 found.ensures.1 h))

pub loop-first-preserved-then-in_data : goal.loop-first-preserved-then-in_data
loop-first-preserved-then-in_data c = λ last h.
    let now = c.loop-first in
    let one = c.in-Some in
    let n = c.args.number in
    let k = c.args.count in
    let tags = tags_seen now.tags in
    let inside = Scans-flag n k now.in_data true tags one.others.now last c.if-in_data.true h in
    now.invariant last (Scans-flag n k true now.in_data tags now.rest.now last (sym c.if-in_data.true)
    (Scans-at n k true tags now.rest.now one.others.now one.first last one.ensures
    (Scans-data n k tags one.others.now one.first last c.if-first-eq59.false c.if-first-eq123.false c.if-first-eq34.false inside)))

pub loop-first-preserved : goal.loop-first-preserved
loop-first-preserved c = λ last h.
    let now = c.loop-first in
    let one = c.in-Some in
    let n = c.args.number in
    let k = c.args.count in
    let tags = tags_seen now.tags in
    let no_bracket : one.first ≡ 91 → ⊥ = λ e. elim c.else-first-eq91.branch [
      | else-first-eq91-via-then-first-eq91+else-not-in_data w ↦ (let no = w.if-not-in_data.false in let is = c.if-in_data.false in absurd (cc))
      | else-first-eq91-via-else-first-eq91 w ↦ w.if-first-eq91.false e
    ] in
    now.invariant last (Scans-flag n k false now.in_data tags now.rest.now last (sym c.if-in_data.false)
    (Scans-at n k false tags now.rest.now one.others.now one.first last one.ensures
    (Scans-byte n k tags one.others.now one.first last c.is_blank.result c.if-first-eq59.false c.if-first-eq123.false c.if-first-eq34.false no_bracket (sym c.is_blank.ensures) h)))

pub returns : goal.returns
returns c =
    let now = c.loop-first in
    let n = c.args.number in
    let k = c.args.count in
    now.invariant _ (subst (λ t. Scans n k now.in_data (tags_seen now.tags) t (Ends (tags_seen now.tags) false)) (sym c.in_default.ensures) at_end)
