use Rattle.std.proofs.Common.{◌≡◌, ◌∙◌, take, ◌++◌, ◌∷◌, [], ap, sym, arith, suc, ◌+◌, get_or}
use Rattle.std.proofs.Math.Seq.{take-suc}
use Rattle.play_dialogues.specs.Words.{letters_of}
use Rattle.play_dialogues.proofs.LetterLaws.{letters_more, letters_none}
use Rattle.play_dialogues.proofs.card_words.letters_of.Goals as goal

pub loop-byte-init : goal.loop-byte-init
loop-byte-init c = c.new-letters.ensures ∙ sym letters_none

pub loop-byte-preserved : goal.loop-byte-preserved
loop-byte-preserved c =
    let next : suc c.loop-byte.byte-index ≡ c.loop-byte.byte-index + 1 = omega arith in
    let byte = get_or c.args.word.now c.loop-byte.byte-index 0 in
    let seen = take c.loop-byte.byte-index c.args.word.now in
    c.keep.ensures
    ∙ (ap (λ l. take 6 (l ++ letters_of (byte ∷ []))) c.loop-byte.invariant
    ∙ (letters_more seen byte
    ∙ ap (λ s. take 6 (letters_of s)) (sym (take-suc c.args.word.now c.loop-byte.byte-index 0 (omega arith)))
    ∙ ap (λ n. take 6 (letters_of (take n c.args.word.now))) next))
