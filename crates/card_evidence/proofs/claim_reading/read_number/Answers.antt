use Rattle.std.proofs.Common.{◌≤◌}
use Rattle.std.specs.Fmt.{decimal}
use Rattle.card_evidence.proofs.LineLemmas.{no_line, other_word, number-lacks}
use Rattle.card_evidence.proofs.claim_reading.read_number.Goals as goal

pub returns-in_default : goal.returns-in_default
returns-in_default c = no_line (λ number. number ≤ 13) decimal number-lacks c.args.name.now c.args.text.now c.in_default.ensures

pub returns-in_default-number_of : goal.returns-in_default-number_of
returns-in_default-number_of c =
    other_word (λ number. number ≤ 13) decimal number-lacks c.args.name.now c.args.text.now c.in-Some.word.now c.in-Some.rest.now c.in-Some.ensures c.in_default-number_of.ensures
