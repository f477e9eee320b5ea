use Rattle.std.proofs.Common.{◌≡◌, ◌≤◌, List, ℕ, length, drop, sym, ◌∙◌, ap, subst, arith, length-append}
use Rattle.std.proofs.Math.Seq.{drop-append_seam}
use Rattle.std.specs.Str.Parse.{digits_value}
use Rattle.certificate_graph.specs.Readings.{BeginsNumber}
use Rattle.certificate_graph.proofs.NumberLemmas.{number_read, digits_are}
use Rattle.certificate_graph.proofs.scanning.read_long_number.Goals as goal
use Rattle.certificate_graph.proofs.scanning.read_long_number.Goals.{else-is_number-via-then-is_number+else-digits-le-GREATEST_DIGITS, else-is_number-via-else-is_number}

pub returns-then-digits-le-GREATEST_DIGITS : goal.returns-then-digits-le-GREATEST_DIGITS
returns-then-digits-le-GREATEST_DIGITS c =
    let parts = c.split_digits.ensures in
    let text = c.args.text.now in
    let digits = c.split_digits.result.0.now in
    let after = c.split_digits.result.1.now in
    let seam : drop (length digits) text ≡ after = ap (λ (bytes : List ℕ). drop (length digits) bytes) parts.parts ∙ drop-append_seam digits after in
    let fits : length digits ≤ length text = omega (arith, ap (λ (bytes : List ℕ). length bytes) parts.parts, length-append digits after) in
    let read = number_read text digits after parts.parts parts.stops (c.is_number.ensures.0 c.if-is_number.true) (omega arith) in
    rw c.value_of.ensures (fits, subst (λ rest. BeginsNumber text (digits_value 10 digits) rest) (sym seam) read)

pub returns-else-is_number : goal.returns-else-is_number
returns-else-is_number c = λ n rest begins.
    let parts = c.split_digits.ensures in
    let are = digits_are c.args.text.now _ _ n rest parts.parts parts.digits parts.stops begins in
    elim c.else-is_number.branch [
      | else-is_number-via-then-is_number+else-digits-le-GREATEST_DIGITS w ↦ omega arith
      | else-is_number-via-else-is_number w ↦ let yes = c.is_number.ensures.1 are.0 in let no = w.if-is_number.false in cc
    ]
