-- Each number of the row comes from a value.
use Rattle.std.proofs.Common.{◌≡◌, ℕ, ◌-◌, ◌+◌, ℤ, pos, Option, Some, subst, ap, ◌∙◌, arith}
use Rattle.std.proofs.lemmas.Int.{ints}
use Rattle.cards.specs.declared.suits.Trump.{Trump}
use Rattle.cards.specs.declared.seats.Seat.{Seat}
use Rattle.cards.specs.declared.seats.Seat.TheVariants.{North, East, South, West}
use Rattle.cards.specs.Deal.{Deal, size_of}
use Rattle.certificate_graph.specs.declared.bundles.Bundle.{Bundle}
use Rattle.certified_tricks.specs.Searches.{AreKnownBy, IsKnown}
use Rattle.certified_tricks.specs.declared.answers.FourTricks.{FourTricks}
use Rattle.dds_calls.specs.declared.tables.TableRow.{TableRow}
use Rattle.dds_calls.specs.RowsFound.{IsNumberOf, HasNumbers}
use Rattle.dds_calls.specs.Tables.{IsEntry, entry_of}
use Rattle.dds_calls.proofs.tables.row_of.Goals as goal

entry : (deal : Deal) (seat : Seat) (trump : Trump) (bundle : Bundle) (known : Option ℕ) (size : ℕ) (number : ℤ)
    → size ≡ size_of deal → IsKnown deal trump bundle seat known → IsNumberOf known size number
    → IsEntry deal seat trump number
entry deal seat trump bundle known size number is shown tells =
    let Q : Option ℕ → Type 0 = λ o. IsKnown deal trump bundle seat o in
    let value : IsKnown deal trump bundle seat (Some tells.0) = subst Q tells.1 shown in
    (tells.0, value.3, tells.2 ∙ ap (λ n. pos (13 - n + tells.0)) is)

entries : (deal : Deal) (trump : Trump) (bundle : Bundle) (four : FourTricks) (size : ℕ) (row : TableRow)
    → size ≡ size_of deal → AreKnownBy deal trump bundle four → HasNumbers four size row → (seat : Seat)
    → IsEntry deal seat trump (entry_of row seat)
entries deal trump bundle four size row is known tells North =
    entry deal North trump bundle four.north size _ is known.north tells.north
entries deal trump bundle four size row is known tells East =
    entry deal East trump bundle four.east size _ is known.east tells.east
entries deal trump bundle four size row is known tells South =
    entry deal South trump bundle four.south size _ is known.south tells.south
entries deal trump bundle four size row is known tells West =
    entry deal West trump bundle four.west size _ is known.west tells.west

pub returns-in-Some : goal.returns-in-Some
returns-in-Some c =
    let row = c.in-Ok.row in
    record {
      layout = row.layout;
      trump = row.trump;
      is_layout = c.in-Ok.ensures.is_layout;
      strain_is = omega (arith, ints, c.in-Ok.ensures.strain_is);
      entries = entries row.layout row.trump row.found.bundle row.found.tricks c.len.result c.in-Some.shown
          c.len.ensures.size c.in-Ok.ensures.known c.in-Some.ensures;
    }
