use Rattle.std.proofs.Common.{◌≡◌, ◌∙◌, arith, sym, inl, inr}
use Rattle.clap.specs.Words.{found_of, one_text}
use Rattle.clap.proofs.WalkLemmas.{one_text-rows}
use Rattle.command_words.proofs.SaysLemmas.{nothing_read, has_text}
use Rattle.command_words.proofs.reading.number_of.Goals as goal

pub returns-in_err-number : goal.returns-in_err-number
returns-in_err-number c = nothing_read _ _ c.from_residual.ensures (λ number said.
    let one = c.in_err-number.ensures.value said.0 (one_text-rows (found_of c.args.said.now) c.args.option.now.name.now ∙ said.1) in
    one.1.0 (said.2.0, rw said.2.1 (omega arith)))

pub returns-then-number-least : goal.returns-then-number-least
returns-then-number-least c = λ read said.
    let one = c.in_ok-number.ensures.value said.0 (one_text-rows (found_of c.args.said.now) c.args.option.now.name.now ∙ said.1) in
    let same : read ≡ c.in_ok-number.number = sym said.2.1 ∙ sym one.0.1 in
    elim c.then-number-least.either [
      | inl low ↦ absurd (omega arith)
      | inr high ↦ absurd (omega arith)
    ]

pub returns : goal.returns
returns c =
    let got = has_text (one_text (found_of c.args.said.now) c.args.option.now.name.now) c.in_ok-number.number c.in_ok-number.ensures.none in
    let one = c.in_ok-number.ensures.value got.0 got.1 in
    (got.0, sym (one_text-rows (found_of c.args.said.now) c.args.option.now.name.now) ∙ got.1, (one.0.0.0, sym one.0.1), (omega arith, omega arith))
