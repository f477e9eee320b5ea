use Rattle.std.proofs.Common.{◌∙◌, sym}
use Rattle.html.proofs.CharTexts.{chars_text-utf8, chars_text-latin}
use Rattle.html.proofs.PlainTexts.{plain-stays}
use Rattle.html.proofs.values.write_value.Goals as goal

pub returns-then-is_plain : goal.returns-then-is_plain
returns-then-is_plain g c = rw (plain-stays c.args.value.now (sym c.is_plain.ensures ∙ c.if-is_plain.true)) c.write_all.ensures

pub returns-in-Ok : goal.returns-in-Ok
returns-in-Ok g c =
    let h = c.in-Ok.ensures.cases in
    rw (← chars_text-utf8 c.in-Ok.text.now c.args.value.now h.0 h.1) c.write_chars.ensures

pub returns-in-Err : goal.returns-in-Err
returns-in-Err g c = rw (← chars_text-latin c.args.value.now c.in-Err.ensures.cases.0) c.write_bytes.ensures
