use Rattle.std.proofs.Common.{codes}
use Rattle.std.specs.Prelude.{⊤}
use Rattle.cards.specs.Pack.{trump_letters}
use Rattle.evidence.proofs.WordLemmas.{trump-lacks}
use Rattle.card_evidence.proofs.LineLemmas.{other_word}
use Rattle.card_evidence.proofs.trick_reading.read_trump.Goals as goal

pub returns-in_default-trump_of : goal.returns-in_default-trump_of
returns-in_default-trump_of c =
    other_word (λ _. ⊤) trump_letters (λ trump any. trump-lacks trump) (codes "trump ") c.args.text.now c.in-Some.word.now c.in-Some.rest.now c.in-Some.ensures (λ trump any. c.in_default-trump_of.ensures trump)
