-- What evidence answers for a play.
use Rattle.std.specs.Prelude.{◌≡◌, List, [], ◌∷◌, ◌⊎◌, None, Some, ⊤}
use Rattle.cards.specs.declared.pack.Card.{Card}
use Rattle.cards.specs.declared.seats.Seat.{Seat}
use Rattle.cards.specs.declared.suits.Trump.{Trump}
use Rattle.cards.specs.Deal.{Deal}
use Rattle.play_claims.specs.Solvers.{MayFindPlay}
use Rattle.play_claims.specs.declared.claims.PlayBundle.{PlayBundle}
use Rattle.play_evidence.specs.Sections.{PlaySectionShape, shape_of}

-- the section is of this play
pub record IsOfPlay (section : PlaySectionShape) (deal : Deal) (leader : Seat) (trump : Trump) (cards : List Card)
    : Type 0 where
  pub deal_is : section.deal ≡ deal
  pub leader_is : section.leader ≡ leader
  pub trump_is : section.trump ≡ trump
  pub cards_are : section.cards ≡ cards

-- the bundle is that of the first of the sections that is of this play; if there is none, nothing is claimed
abbrev pub IsFirstFor : List PlaySectionShape → Deal → Seat → Trump → List Card → PlayBundle → Type 0
IsFirstFor [] deal leader trump cards bundle = bundle.claims.items ≡ []
IsFirstFor (section ∷ more) deal leader trump cards bundle =
    (section ≡ shape_of deal leader trump cards bundle)
    ⊎ ((IsOfPlay section deal leader trump cards → ⊥) × IsFirstFor more deal leader trump cards bundle)

-- none of the sections is of this play, so nothing is claimed
abbrev pub IsForNone : List PlaySectionShape → Deal → Seat → Trump → List Card → Type 0
IsForNone sections deal leader trump cards =
    (bundle : PlayBundle) → bundle.claims.items ≡ [] → IsFirstFor sections deal leader trump cards bundle

-- the section is of this play, and the first of the sections that is
pub record IsFirst (sections : List PlaySectionShape) (deal : Deal) (leader : Seat) (trump : Trump)
    (cards : List Card) (section : PlaySectionShape)
    : Type 0 where
  pub of_play : IsOfPlay section deal leader trump cards
  pub first : (bundle : PlayBundle) → section ≡ shape_of deal leader trump cards bundle
      → IsFirstFor sections deal leader trump cards bundle

-- that is answered, whatever the budget is, unless memory runs out
abbrev pub answers_of : List PlaySectionShape → MayFindPlay
answers_of sections deal leader trump cards budget None = ⊤
answers_of sections deal leader trump cards budget (Some bundle) = IsFirstFor sections deal leader trump cards bundle
