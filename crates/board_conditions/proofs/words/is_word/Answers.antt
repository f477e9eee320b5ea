use Rattle.std.proofs.Common.{◌≡◌, ℕ, ◌<◌, false, List, [], ◌∷◌, length, drop, sym, ◌∙◌, ap, arith}
use Rattle.std.proofs.Math.Seq.{drop-cons}
use Rattle.board_conditions.specs.Words.{begins_word}
use Rattle.board_conditions.proofs.words.is_word.Goals as goal

-- the value ends before the capitals
ended : (capitals : List ℕ) (i : ℕ) (value : List ℕ) → i < length capitals → length value < 1 → begins_word (drop i capitals) value ≡ false
ended capitals i [] h e = ap (λ c. begins_word c []) (drop-cons capitals i 0 h)
ended capitals i (byte ∷ bytes) h e = absurd (omega arith)

pub returns-in_default : goal.returns-in_default
returns-in_default c =
    sym (c.loop-capital.invariant ∙ ended c.args.capitals.now c.loop-capital.capital-index c.loop-capital.rest.now c.loop-capital-test.true c.in_default.len_below)
