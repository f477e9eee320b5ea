use Rattle.std.proofs.Common.{false, ◌≡◌, ◌<◌, length, sym, ◌∙◌, arith}
use Rattle.std.proofs.lemmas.Bool.{eqb-true, eqb-false}
use Rattle.std.proofs.lemmas.List.{take_all}
use Rattle.std.proofs.lemmas.List.Elements.{All-more}
use Rattle.pbn_deals.specs.Letters.{is_blank}
use Rattle.pbn_deals.proofs.WordLemmas.{no_word, one_word, last_word}
use Rattle.pbn_deals.proofs.hands.first_word.Goals as goal

pub returns-then-is_empty : goal.returns-then-is_empty
returns-then-is_empty c =
    no_word c.args.text.now c.after_blanks-text.result.now c.after_blanks-text.ensures.value (eqb-true _ 0 (sym c.is_empty.ensures ∙ c.if-is_empty.true))

pub returns-then-is_blank : goal.returns-then-is_blank
returns-then-is_blank c =
    rw (c.split_at.ensures.front, c.split_at.ensures.back)
    (one_word c.args.text.now c.after_blanks-text.result.now c.after_blanks-text.ensures.value c.loop-i.i 0 (omega arith) c.loop-i.invariant (sym c.is_blank.ensures ∙ c.if-is_blank.true))

pub loop-i-preserved : goal.loop-i-preserved
loop-i-preserved c =
    All-more (λ byte. is_blank byte ≡ false) c.after_blanks-text.result.now c.loop-i.i 0 (omega arith) c.loop-i.invariant (sym c.is_blank.ensures ∙ c.if-is_blank.false)

pub returns : goal.returns
returns c =
    let after = c.after_blanks-text.result.now in
    let some : 0 < length after = (let no = eqb-false _ 0 (sym c.is_empty.ensures ∙ c.if-is_empty.false) in omega (arith, no)) in
    last_word c.args.text.now after c.after_blanks-text.ensures.value some (rw (take_all c.loop-i.i after (omega arith)) at c.loop-i.invariant)
