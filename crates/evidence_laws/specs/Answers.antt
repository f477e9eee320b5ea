-- A text is one answer.
use Rattle.std.specs.Prelude.{◌≡◌, ℕ, ◌-◌, List}
use Rattle.deal_subcommands.specs.Answers.{IsAnswer, LacksResult}

-- a text is one answer at most, and none where its first line is that of no result
pub record HasOneAnswer : Type 0 where
  pub one :
      (text : List ℕ) (tricks tricks' : ℕ) (declarers declarers' defenders defenders' : List ℕ) →
      IsAnswer text tricks declarers defenders → IsAnswer text tricks' declarers' defenders' →
      (tricks ≡ tricks') × (declarers ≡ declarers') × (defenders ≡ defenders')
  pub none : (text : List ℕ) (tricks : ℕ) (declarers defenders : List ℕ) → LacksResult text
      → IsAnswer text tricks declarers defenders → ⊥
