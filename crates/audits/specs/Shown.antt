-- What sections of evidence show, and what a history publishes of it.
use Rattle.std.specs.Prelude.{◌≡◌, ℕ, List, [], ◌∷◌, ◌⊎◌, Option, None, Some, Contains, MatchOption, ⊤}
use Rattle.cards.specs.declared.seats.Seat.{Seat}
use Rattle.cards.specs.declared.seats.Side.{Side}
use Rattle.cards.specs.declared.seats.Side.TheVariants.{NorthSouth, EastWest}
use Rattle.cards.specs.declared.suits.Trump.{Trump}
use Rattle.cards.specs.Deal.{Deal}
use Rattle.cards.specs.Seats.{side_of, other_side}
use Rattle.certificate_graph.specs.Graphs.{GraphShape}
use Rattle.certificate_graph.specs.declared.bundles.Claim.{Claim}
use Rattle.checker.specs.Claims.{ShowValue}
use Rattle.pbn_deals.specs.declared.boards.Board.{Board}
use Rattle.lease_book.specs.declared.entries.Entry.{Entry}
use Rattle.lease_book.specs.declared.events.Event.{Event}
use Rattle.lease_book.specs.Histories.{deal_of, published_in}
use Rattle.evidence.specs.Sections.{SectionShape}

-- the graph of a side
abbrev pub graph_of : SectionShape → Side → GraphShape
graph_of section NorthSouth = section.ns
graph_of section EastWest = section.ew

-- The graphs of the section show a claim: that of declarer's side from its root its tricks, and that of the defenders
-- from theirs the others.
abbrev pub IsClaimShown : SectionShape → Claim → Type 0
IsClaimShown section claim =
    ShowValue section.deal claim.declarer section.trump claim.k
    (record { graph = graph_of section (side_of claim.declarer); root = claim.declarer_root })
    (record { graph = graph_of section (other_side (side_of claim.declarer)); root = claim.defenders_root })

-- the section is of this deal and denomination, and has a claim of so many tricks for this declarer, which its graphs
-- show
pub record ShowsTricks (section : SectionShape) (deal : Deal) (declarer : Seat) (trump : Trump) (k : ℕ) : Type 0 where
  pub deal_is : section.deal ≡ deal
  pub trump_is : section.trump ≡ trump
  pub claim : Claim
  pub claimed : Contains section.claims claim
  pub declarer_is : claim.declarer ≡ declarer
  pub tricks_are : claim.k ≡ k
  pub shown : IsClaimShown section claim

-- the section shows so many tricks for an entry whose board has this deal; for one without a deal it shows nothing
abbrev pub ShowsFor : Option Deal → Entry → ℕ → SectionShape → Type 0
ShowsFor None entry k section = ⊥
ShowsFor (Some deal) entry k section = ShowsTricks section deal entry.declarer entry.trump k

abbrev pub ShowsNothing : Option Deal → Entry → SectionShape → Type 0
ShowsNothing deal entry section = (k : ℕ) → ShowsFor deal entry k section → ⊥

-- the first of the sections that show anything for the entry shows so many tricks
abbrev pub FirstShows : Option Deal → Entry → ℕ → List SectionShape → Type 0
FirstShows deal entry k [] = ⊥
FirstShows deal entry k (section ∷ later) =
    ShowsFor deal entry k section ⊎ (ShowsNothing deal entry section × FirstShows deal entry k later)

abbrev pub NoneShow : Option Deal → Entry → List SectionShape → Type 0
NoneShow deal entry [] = ⊤
NoneShow deal entry (section ∷ later) = ShowsNothing deal entry section × NoneShow deal entry later

-- A history over the boards publishes for each entry what the first of the sections shows that show anything for its
-- deal, declarer and denomination; and nothing where none does.
abbrev pub PublishesShown : List Board → List SectionShape → List Event → Type 0
PublishesShown boards sections events =
    (entry : Entry) → MatchOption (published_in boards events entry)
    (NoneShow (deal_of boards entry.board) entry sections)
    (λ k. FirstShows (deal_of boards entry.board) entry k sections)
