use Rattle.std.proofs.Common.{◌≡◌, List, ◌∷◌, sym, ◌∙◌, ap}
use Rattle.board_conditions.specs.Games.{conditions_of}
use Rattle.board_conditions.proofs.readers.first_conditions.Goals as goal

same_first : {X : Type 0} (x y : X) (xs ys : List X) → x ∷ xs ≡ y ∷ ys → x ≡ y
same_first x y xs ys e = cc

pub returns : goal.returns
returns c = λ lines last game later h parts.
    let f = c.first_game.ensures.is lines last h in
    c.conditions.ensures f.game f.is_open f.are ∙ ap conditions_of (same_first f.game game f.later later (sym f.parts ∙ parts))
