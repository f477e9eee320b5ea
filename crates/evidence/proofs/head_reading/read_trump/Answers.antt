use Rattle.std.proofs.Common.{◌≡◌, ◌∷◌, ◌++◌, sym, ◌∙◌}
use Rattle.cards.specs.Pack.{trump_letters}
use Rattle.evidence.proofs.CutLemmas.{one_front}
use Rattle.evidence.proofs.WordLemmas.{trump-lacks}
use Rattle.evidence.proofs.HeadLemmas.{no_byte}
use Rattle.evidence.proofs.head_reading.read_trump.Goals as goal

pub returns-in_default-cut_at : goal.returns-in_default-cut_at
returns-in_default-cut_at c = λ trump rest e.
    let same : c.in-Some.rest.now ≡ trump_letters trump ++ (10 ∷ rest) = (let h = c.in-Some.ensures in cc) in
    no_byte 10 _ (trump_letters trump) rest c.in_default-cut_at.ensures same

pub returns-in_default-trump_of : goal.returns-in_default-trump_of
returns-in_default-trump_of c = λ trump rest e.
    let same : c.in-Some.rest.now ≡ trump_letters trump ++ (10 ∷ rest) = (let h = c.in-Some.ensures in cc) in
    let cut = c.in-Some-cut_at.ensures in
    let word = one_front 10 c.in-Some-cut_at.letters.now (trump_letters trump) _ rest cut.1 (trump-lacks trump) (sym cut.0 ∙ same) in
    c.in_default-trump_of.ensures trump word.0
