use Rattle.std.proofs.Common.{◌/◌, refl, arith}
use Rattle.std.specs.Fmt.{decimal}
use Rattle.cards.proofs.WriteLemmas.{Writes-then}
use Rattle.certificate_graph.proofs.PieceLemmas.{digit_more, digit_alone, child_is}
use Rattle.certificate_graph.proofs.WriteLemmas.{writes_same, stops_within}
use Rattle.certificate_graph.proofs.writing.write_child.Goals as goal

pub returns-then-tens-eq0 : goal.returns-then-tens-eq0
returns-then-tens-eq0 g c =
    let n = c.args.child.number in
    let last = digit_alone n _ c.last_digit-last.ensures c.if-tens-eq0.true in
    writes_same _ _ c.write_all.result (child_is c.args.before _ c.args.child _ c.seat_byte-seat.ensures last) c.write_all.ensures

pub returns-then-hundreds-eq0 : goal.returns-then-hundreds-eq0
returns-then-hundreds-eq0 g c =
    let n = c.args.child.number in
    let third = digit_alone (n / 10) _ c.last_digit-third.ensures c.if-hundreds-eq0.true in
    let last = digit_more n _ _ c.last_digit-last.ensures c.if-tens-eq0.false (omega arith) third in
    writes_same _ _ c.write_all-then-hundreds-eq0.result (child_is c.args.before _ c.args.child _ c.seat_byte-seat.ensures last)
    c.write_all-then-hundreds-eq0.ensures

pub returns-then-thousands-eq0 : goal.returns-then-thousands-eq0
returns-then-thousands-eq0 g c =
    let n = c.args.child.number in
    let second = digit_alone (n / 10 / 10) _ c.last_digit-second.ensures c.if-thousands-eq0.true in
    let third = digit_more (n / 10) _ _ c.last_digit-third.ensures c.if-hundreds-eq0.false (omega arith) second in
    let last = digit_more n _ _ c.last_digit-last.ensures c.if-tens-eq0.false (omega arith) third in
    writes_same _ _ c.write_all-then-thousands-eq0.result (child_is c.args.before _ c.args.child _ c.seat_byte-seat.ensures last)
    c.write_all-then-thousands-eq0.ensures

pub returns-then-thousands-lt10 : goal.returns-then-thousands-lt10
returns-then-thousands-lt10 g c =
    let n = c.args.child.number in
    let first = digit_alone (n / 10 / 10 / 10) _ c.last_digit-first.ensures (omega (arith, c.if-thousands-lt10.true)) in
    let second = digit_more (n / 10 / 10) _ _ c.last_digit-second.ensures c.if-thousands-eq0.false (omega arith) first in
    let third = digit_more (n / 10) _ _ c.last_digit-third.ensures c.if-hundreds-eq0.false (omega arith) second in
    let last = digit_more n _ _ c.last_digit-last.ensures c.if-tens-eq0.false (omega arith) third in
    writes_same _ _ c.write_all-then-thousands-lt10.result (child_is c.args.before _ c.args.child _ c.seat_byte-seat.ensures last)
    c.write_all-then-thousands-lt10.ensures

pub returns : goal.returns
returns g c =
    let done = c.write_number.result in
    writes_same _ _ done (child_is c.args.before _ c.args.child _ c.seat_byte-seat.ensures refl)
    (Writes-then done _ _ c.in_ok-write_all.ensures (rw c.from.ensures at c.write_number.ensures))

pub returns-in_err-write_all : goal.returns-in_err-write_all
returns-in_err-write_all g c =
    let end = c.from_residual in
    stops_within _ _ end.result _ (decimal c.args.child.number) end.ensures.1
    (child_is c.args.before _ c.args.child _ c.seat_byte-seat.ensures refl) c.in_err-write_all.ensures
