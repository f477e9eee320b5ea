-- The pattern cards that stand for cards, one after another.
use Rattle.std.proofs.Common.{◌≡◌, ℕ, ◌+◌, ◌<◌, List, [], ◌∷◌, ◌++◌, length, take, get_or, sym, subst}
use Rattle.std.proofs.lemmas.List.{take_more}
use Rattle.cards.specs.declared.pack.Card.{Card}
use Rattle.cards.specs.Deal.{Deal}
use Rattle.patterns.specs.Shapes.{Shape}
use Rattle.pattern_step.specs.declared.pat_cards.PatCard.{PatCard}
use Rattle.pattern_step.specs.LayoutCards.{StandsFor}
use Rattle.checker.specs.Begun.{StandForCards}

stand_more : (shape : Shape) (deal : Deal) (path : List PatCard) (cards : List Card) (pat : PatCard) (card : Card) → StandForCards shape deal path cards → StandsFor shape deal pat card → StandForCards shape deal (path ++ pat ∷ []) (cards ++ card ∷ [])
stand_more shape deal [] [] pat card stand stands = (stands, stand)
stand_more shape deal (first ∷ path) (real ∷ cards) pat card (stands', stand) stands = (stands', stand_more shape deal path cards pat card stand stands)
stand_more shape deal [] (real ∷ cards) pat card stand stands = absurd stand
stand_more shape deal (first ∷ path) [] pat card stand stands = absurd stand

-- one more of the cards
pub one_more_stands : (shape : Shape) (deal : Deal) (path more : List PatCard) (cards : List Card) (index : ℕ) (pat : PatCard) (card : Card) → index < length cards → StandForCards shape deal path (take index cards) → StandsFor shape deal pat (get_or cards index card) → more ≡ path ++ pat ∷ [] →
    StandForCards shape deal more (take (index + 1) cards)
one_more_stands shape deal path more cards index pat card less stand stands is =
    subst (λ (p : List PatCard). StandForCards shape deal p (take (index + 1) cards)) (sym is)
    (subst (StandForCards shape deal (path ++ pat ∷ [])) (sym (take_more cards index card less)) (stand_more shape deal path (take index cards) pat (get_or cards index card) stand stands))
