use Rattle.std.proofs.Common.{◌≡◌, ℕ, ◌<◌, false, List, [], ◌∷◌, length, drop, sym, ◌∙◌, ap, arith}
use Rattle.std.proofs.Math.Seq.{drop-cons}
use Rattle.pbn_deals.specs.Tags.{is_same_name}
use Rattle.pbn_deals.proofs.tags.is_same_name.Goals as goal

-- the name ends before the capitals
ended : (capitals : List ℕ) (i : ℕ) (name : List ℕ) → i < length capitals → length name < 1 → is_same_name (drop i capitals) name ≡ false
ended capitals i [] h e = ap (λ c. is_same_name c []) (drop-cons capitals i 0 h)
ended capitals i (byte ∷ bytes) h e = absurd (omega arith)

-- src/tags.rt:68:13
pub returns-in_default : goal.returns-in_default
returns-in_default c =
    sym (c.loop-capital.invariant ∙ ended c.args.capitals.now c.loop-capital.capital-index c.loop-capital.rest.now c.loop-capital-test.true c.in_default.len_below)
