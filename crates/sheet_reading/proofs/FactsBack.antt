-- What is said of the bidding tells who deals and who is vulnerable.
use Rattle.std.proofs.Common.{◌≡◌, ℕ, cond, List, [], ◌∷◌, ◌++◌, Option, None, Some, refl, sym, ◌∙◌, ap}
use Rattle.std.specs.Prelude.{codes, bytes_eq}
use Rattle.cards.specs.declared.seats.Seat.{Seat}
use Rattle.cards.specs.declared.seats.Seat.TheVariants.{North, East, South, West}
use Rattle.par.specs.declared.vulnerable_sides.VulnerableSides.{VulnerableSides}
use Rattle.par.specs.declared.vulnerable_sides.VulnerableSides.TheVariants.{Neither, NorthSouth, EastWest, Both}
use Rattle.board_conditions.specs.declared.conditions.Conditions.{Conditions}
use Rattle.sheet_reading.specs.Laws.{dealer_said, sides_said, facts_said}

abbrev dealer_of : List ℕ → Option Seat
dealer_of fact =
    cond (bytes_eq fact (codes "Dealer N")) (Some North) (cond (bytes_eq fact (codes "Dealer E")) (Some East)
    (cond (bytes_eq fact (codes "Dealer S")) (Some South) (cond (bytes_eq fact (codes "Dealer W")) (Some West) None)))

abbrev dealer_in : List (List ℕ) → Option Seat
dealer_in [] = None
dealer_in (fact ∷ facts) = dealer_of fact

dealer-back : (dealer : Option Seat) (sides : Option VulnerableSides) → dealer_in (dealer_said dealer ++ sides_said sides) ≡ dealer
dealer-back (Some North) sides = refl
dealer-back (Some East) sides = refl
dealer-back (Some South) sides = refl
dealer-back (Some West) sides = refl
dealer-back None None = refl
dealer-back None (Some Neither) = refl
dealer-back None (Some NorthSouth) = refl
dealer-back None (Some EastWest) = refl
dealer-back None (Some Both) = refl

pub same-dealer : (one other : Conditions) → facts_said one ≡ facts_said other → one.dealer ≡ other.dealer
same-dealer one other e =
    sym (dealer-back one.dealer one.vulnerable) ∙ (ap dealer_in e ∙ dealer-back other.dealer other.vulnerable)

abbrev sides_or : List ℕ → Option VulnerableSides → Option VulnerableSides
sides_or fact others =
    cond (bytes_eq fact (codes "Vul None")) (Some Neither) (cond (bytes_eq fact (codes "Vul NS")) (Some NorthSouth)
    (cond (bytes_eq fact (codes "Vul EW")) (Some EastWest) (cond (bytes_eq fact (codes "Vul All")) (Some Both) others)))

abbrev sides_in : List (List ℕ) → Option VulnerableSides
sides_in [] = None
sides_in (fact ∷ facts) = sides_or fact (sides_in facts)

past-dealer : (dealer : Option Seat) (facts : List (List ℕ)) → sides_in (dealer_said dealer ++ facts) ≡ sides_in facts
past-dealer None facts = refl
past-dealer (Some North) facts = refl
past-dealer (Some East) facts = refl
past-dealer (Some South) facts = refl
past-dealer (Some West) facts = refl

own-sides : (sides : Option VulnerableSides) → sides_in (sides_said sides) ≡ sides
own-sides None = refl
own-sides (Some Neither) = refl
own-sides (Some NorthSouth) = refl
own-sides (Some EastWest) = refl
own-sides (Some Both) = refl

sides-back : (conditions : Conditions) → sides_in (facts_said conditions) ≡ conditions.vulnerable
sides-back conditions =
    past-dealer conditions.dealer (sides_said conditions.vulnerable) ∙ own-sides conditions.vulnerable

pub same-sides : (one other : Conditions) → facts_said one ≡ facts_said other → one.vulnerable ≡ other.vulnerable
same-sides one other e = sym (sides-back one) ∙ (ap sides_in e ∙ sides-back other)
