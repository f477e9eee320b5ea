use Rattle.std.proofs.Common.{◌/◌, ◌%◌, ◌*◌, ◌^◌, sym, ◌∙◌, ap}
use Rattle.patterns.specs.Shapes.{SuitShape, len_of}
use Rattle.patterns.proofs.SuitWords.{len_of-suit_in}
use Rattle.patterns.proofs.suit_words.SuitWord.len.Goals as goal

pub returns-clause-len : goal.returns-clause-len
returns-clause-len c =
    let word = c.self.inside.word in
    c.nibble.ensures.value
    ∙ (ap (λ n. word / 2 ^ (4 * n) % 2 ^ 4) c.number.ensures.place
    ∙ (sym (len_of-suit_in word c.args.seat) ∙ ap (λ (s : SuitShape). len_of s c.args.seat) c.self.view_is))
