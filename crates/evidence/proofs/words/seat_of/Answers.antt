use Rattle.std.proofs.Common.{subst, sym}
use Rattle.std.specs.Str.{IsUtf8}
use Rattle.cards.specs.Seats.{seat_letter}
use Rattle.evidence.proofs.CutLemmas.{named_by}
use Rattle.evidence.proofs.WordLemmas.{seat-utf8}
use Rattle.evidence.proofs.words.seat_of.Goals as goal

pub returns-in_default : goal.returns-in_default
returns-in_default c = λ seat e. c.in_default.ensures.cases.0 (subst IsUtf8 (sym e) (seat-utf8 seat))

pub returns : goal.returns
returns c = named_by seat_letter c.of_letter.result c.args.word.now _ c.in-Ok.ensures.cases.0 c.of_letter.ensures
