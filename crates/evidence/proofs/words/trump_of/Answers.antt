use Rattle.std.proofs.Common.{subst, sym}
use Rattle.std.specs.Str.{IsUtf8}
use Rattle.cards.specs.Pack.{trump_letters}
use Rattle.evidence.proofs.CutLemmas.{named_by}
use Rattle.evidence.proofs.WordLemmas.{trump-utf8}
use Rattle.evidence.proofs.words.trump_of.Goals as goal

pub returns-in_default : goal.returns-in_default
returns-in_default c = λ trump e. c.in_default.ensures.cases.0 (subst IsUtf8 (sym e) (trump-utf8 trump))

pub returns : goal.returns
returns c = named_by trump_letters c.of_letters.result c.args.word.now _ c.in-Ok.ensures.cases.0 c.of_letters.ensures
