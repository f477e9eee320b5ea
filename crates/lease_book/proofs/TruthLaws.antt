-- A number is published for an entry of a board with a deal, and once.
use Rattle.std.proofs.Common.{List}
use Rattle.lease_book.specs.declared.events.Event.{Event}
use Rattle.lease_book.specs.Histories.{Terms}
use Rattle.lease_book.specs.Replies.{IsLegal}
use Rattle.lease_book.specs.Keeping.{AreProven}
use Rattle.lease_book.proofs.PublicationLaws.{published_on, publishes_once}
use Rattle.lease_book.specs.TrueHistories.{AreValues, IsTrueHistory}

values : (terms : Terms) (events : List Event) → AreProven terms events → AreValues terms.boards events
values terms events proven entry k h =
    let deal = published_on terms.boards events entry k h in
    (deal.0, deal.1, proven entry deal.0 k h deal.1)

pub true_history : (terms : Terms) (events : List Event) → IsLegal terms events → AreProven terms events → IsTrueHistory terms events
true_history terms events legal proven =
    record { legal = legal; values = values terms events proven; once = λ entry. publishes_once terms events entry legal }
