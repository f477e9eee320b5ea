use Rattle.std.proofs.Common.{◌∷◌, [], ◌∙◌, sym, ap}
use Rattle.whole_texts.specs.LineEnds.{last_of}
use Rattle.whole_texts.proofs.EndsBytes.{last-append}
use Rattle.whole_texts.proofs.line_ends.last_of.Goals as goal

pub returns-in-Some : goal.returns-in-Some
returns-in-Some c =
    sym (ap (last_of c.args.before) c.in-Some.ensures.cases.0 ∙ last-append c.args.before c.in-Some.field-0-1.now (c.in-Some.byte.now ∷ []))
