-- From the most tricks down to the least.
use Rattle.std.proofs.Common.{◌≡◌, ◌+◌, ◌-◌, ℕ, List, sym, subst, arith}
use Rattle.dds_calls.specs.declared.lines.Line.{Line}
use Rattle.dds_calls.specs.Lines.{HasLines}
use Rattle.dds_calls.proofs.LineLaws.{has_none}
use Rattle.dds_calls.proofs.WholeLines.{are_lines}
use Rattle.dds_calls.proofs.lines.lines_of.Goals as goal

pub loop-lack-init : goal.loop-lack-init
loop-lack-init c =
    let P : List Line → Type 0 = λ xs. HasLines c.args.layout.now c.args.player c.args.values.now 14 0 xs in
    subst P (sym c.new-lines.ensures) (has_none c.args.layout.now c.args.player c.args.values.now c.requires.choices.within)

pub with_worth-lines-requires-clause-lines : goal.with_worth-lines-requires-clause-lines
with_worth-lines-requires-clause-lines c =
    let P : ℕ → Type 0 = λ n. HasLines c.args.layout.now c.args.player c.args.values.now n 0 c.loop-lack.lines.items in
    let e : 14 - c.loop-lack.lack ≡ 13 - c.loop-lack.lack + 1 = omega (arith, c.loop-lack-test.true) in
    subst P e c.loop-lack.invariant

pub loop-lack-preserved : goal.loop-lack-preserved
loop-lack-preserved c =
    let P : ℕ → Type 0 = λ n. HasLines c.args.layout.now c.args.player c.args.values.now n 0 c.with_worth-lines.result.items in
    let e : 13 - c.loop-lack.lack ≡ 14 - (c.loop-lack.lack + 1) = omega arith in
    subst P e c.with_worth-lines.ensures

pub returns : goal.returns
returns c =
    let P : ℕ → Type 0 = λ n. HasLines c.args.layout.now c.args.player c.args.values.now n 0 c.loop-lack.lines.items in
    let e : 14 - c.loop-lack.lack ≡ c.args.least = omega (arith, c.loop-lack-test.false, c.loop-lack.auto.lack-end, c.requires.least) in
    are_lines c.args.layout.now c.args.player c.args.values.now c.args.least c.loop-lack.lines.items c.requires.choices (subst P e c.loop-lack.invariant)
