use Rattle.cards.specs.declared.suits.Suit.TheVariants.{Spades, Hearts, Diamonds, Clubs}
use Rattle.patterns.proofs.EqualityLaws.{suits_equal-Decides, shapes_equal-Decides, HaveWords-shape}
use Rattle.patterns.proofs.laws.equal_patterns_are_one.Goals as goal

pub returns : goal.returns
returns c = λ one other is is'.
    let has = HaveWords-shape 1 13 one is in
    let has' = HaveWords-shape 1 13 other is' in
    shapes_equal-Decides _ _ _ _ one other (suits_equal-Decides one.spades other.spades (has Spades) (has' Spades)) (suits_equal-Decides one.hearts other.hearts (has Hearts) (has' Hearts))
    (suits_equal-Decides one.diamonds other.diamonds (has Diamonds) (has' Diamonds)) (suits_equal-Decides one.clubs other.clubs (has Clubs) (has' Clubs))
