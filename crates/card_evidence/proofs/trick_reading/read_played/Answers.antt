use Rattle.std.proofs.Common.{◌≤◌, length, codes}
use Rattle.card_evidence.specs.SectionTexts.{played_word}
use Rattle.card_evidence.proofs.LineLemmas.{no_line, other_word}
use Rattle.card_evidence.proofs.CardLemmas.{played-lacks}
use Rattle.card_evidence.proofs.trick_reading.read_played.Goals as goal

pub returns-in_default : goal.returns-in_default
returns-in_default c = λ cards rest few. no_line (λ cards. length cards ≤ 3) played_word played-lacks (codes "played ") c.args.text.now c.in_default.ensures cards rest few

pub returns-in_default-played_of : goal.returns-in_default-played_of
returns-in_default-played_of c = λ cards rest few.
    other_word (λ cards. length cards ≤ 3) played_word played-lacks (codes "played ") c.args.text.now c.in-Some.word.now c.in-Some.rest.now c.in-Some.ensures c.in_default-played_of.ensures cards rest few
