-- The letters of the bytes so far are kept.
use Rattle.std.proofs.Common.{◌≡◌, take}
use Rattle.play_dialogues.specs.Words.{letters_of}
use Rattle.play_dialogues.proofs.card_words.letters_of.Given as goal

abbrev pub invariant-loop-byte : goal.invariant-loop-byte
invariant-loop-byte l = l.letters.items ≡ take 6 (letters_of (take l.byte-index l.word))
