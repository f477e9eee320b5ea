-- The rest of the value is compared with the rest of the capitals.
use Rattle.std.proofs.Common.{◌≡◌, drop}
use Rattle.board_conditions.specs.Words.{begins_word, is_word}
use Rattle.board_conditions.proofs.words.is_word.Given as goal

abbrev pub invariant-loop-capital : goal.invariant-loop-capital
invariant-loop-capital l = is_word l.capitals l.value ≡ begins_word (drop l.capital-index l.capitals) l.rest
