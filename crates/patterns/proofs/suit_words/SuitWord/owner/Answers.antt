use Rattle.std.proofs.Common.{◌<◌, ◌/◌, ◌^◌, length, sym, ◌∙◌, ap, arith, Some}
use Rattle.patterns.specs.Shapes.{SuitShape}
use Rattle.patterns.specs.Words.{owner_count}
use Rattle.patterns.proofs.SuitWords.{length-owners_in_of, slice_get-owners_in}
use Rattle.patterns.proofs.suit_words.SuitWord.owner.Goals as goal

pub returns-then-place-owner_count : goal.returns-then-place-owner_count
returns-then-place-owner_count c =
    let word = c.self.inside.word in
    let count = ap (λ (s : SuitShape). length s.owners) c.self.view_is in
    let within : c.args.place < owner_count word = omega (arith, count, length-owners_in_of word) in
    rw (← c.self.view_is) (ap Some c.owner_at.ensures ∙ sym (slice_get-owners_in (owner_count word) (word / 2 ^ 20) c.args.place within))
