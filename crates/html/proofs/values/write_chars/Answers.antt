use Rattle.std.proofs.Common.{ℕ, List, ◌++◌, sym, ◌∙◌, ap, subst, chars, append_assoc}
use Rattle.std.specs.Str.Iter.{chars_rest}
use Rattle.std.proofs.lemmas.Str.{IsUtf8-past_char}
use Rattle.cards.specs.Devices.{Adds, AddsBeginning}
use Rattle.cards.proofs.DeviceLemmas.{Adds-twice}
use Rattle.cards.proofs.WriteLemmas.{AddsBeginning-stop, AddsBeginning-then, Writes-err}
use Rattle.html.specs.Values.{chars_text}
use Rattle.html.proofs.CharTexts.{shown_text, chars_text-front, chars_text-end}
use Rattle.html.proofs.values.write_chars.Goals as goal

pub loop-c-preserved : goal.loop-c-preserved
loop-c-preserved g c =
    let (utf8, gone, added, whole) = c.loop-c.invariant in
    let rest = chars_rest c.next.new.self in
    let is = c.in-Some.ensures.steps.0 in
    let front = chars_text-front (chars_rest c.loop-c.c-iterator) rest c.in-Some.c utf8 is in (
      IsUtf8-past_char (chars_rest c.loop-c.c-iterator) rest c.in-Some.c utf8 is,
      gone ++ shown_text c.in-Some.c,
      Adds-twice added c.in_ok-write_char.ensures,
      append_assoc gone (shown_text c.in-Some.c) (chars_text (chars rest)) ∙ (sym (ap (λ t. gone ++ t) front) ∙ whole),
    )

pub returns-in_err-write_char : goal.returns-in_err-write_char
returns-in_err-write_char g c =
    let (utf8, gone, added, whole) = c.loop-c.invariant in
    let rest = chars_rest c.next.new.self in
    let front = chars_text-front (chars_rest c.loop-c.c-iterator) rest c.in-Some.c utf8 c.in-Some.ensures.steps.0 in
    Writes-err c.from_residual.result _ c.from_residual.ensures.1
    (subst (λ (t : List ℕ). AddsBeginning (g.S.Sink.state c.args.sink.now) (g.S.Sink.state c.write_char.new.sink) t)
    (sym (ap (λ t. gone ++ t) front) ∙ whole)
    (AddsBeginning-then added (AddsBeginning-stop (chars_text (chars rest)) c.in_err-write_char.ensures)))

pub returns : goal.returns
returns g c =
    let (utf8, gone, added, whole) = c.loop-c.invariant in
    subst (λ (t : List ℕ). Adds (g.S.Sink.state c.args.sink.now) (g.S.Sink.state c.loop-c.sink) t)
    (chars_text-end (chars_rest c.loop-c.c-iterator) gone (chars_text (chars c.args.text.now)) c.in-None.ensures.steps.0.0 whole)
    added
