-- What becomes of a whole list of requests.
use Rattle.std.specs.Prelude.{◌≡◌, ℕ, ◌<◌, ◌↔◌, List, map, Some, slice_get, Ok}
use Rattle.cards.specs.Deal.{Deal}
use Rattle.cards.specs.declared.seats.Seat.{Seat}
use Rattle.cards.specs.declared.suits.Trump.{Trump}
use Rattle.certificate_graph.specs.Graphs.{GraphShape}
use Rattle.certificate_graph.specs.TextFaults.{TextAnswers}
use Rattle.checker.specs.Roots.{from_first}
use Rattle.checker.specs.Claims.{ShowValue}
use Rattle.pbn_deals.specs.declared.boards.Board.{Board}
use Rattle.lease_book.specs.declared.entries.Entry.{Entry}
use Rattle.lease_book.specs.declared.events.Reply.{Reply}
use Rattle.lease_book.specs.declared.events.Reply.TheVariants.{Given}
use Rattle.lease_book.specs.declared.events.Event.{Event}
use Rattle.plain_runs.specs.declared.requests.Request.{Request}
use Rattle.plain_runs.specs.declared.requests.Request.TheVariants as request
use Rattle.lease_book.specs.Twins.{deal_of, twin_of}
use Rattle.lease_book.specs.Histories.{Terms, published_in}
use Rattle.lease_book.specs.Replies.{IsLegal}
use Rattle.lease_book.specs.Books.{Ledger, AreBoards, AreTries}
use Rattle.plain_runs.specs.Requests.{AreAskedBy}

-- the two texts are those of two graphs, which show that declarer's side takes so many tricks and the defenders the
-- others
pub record TextsShow (deal : Deal) (declarer : Seat) (trump : Trump) (k : ℕ) (declarer_text defenders_text : List ℕ)
    : Type 0 where
  pub declarers : GraphShape
  pub defenders : GraphShape
  pub declarers_read : TextAnswers declarer_text (Ok declarers)
  pub defenders_read : TextAnswers defenders_text (Ok defenders)
  pub show : ShowValue deal declarer trump k (from_first declarers) (from_first defenders)

-- a reply before this place gave the lease for the entry
abbrev pub WasGiven : List Reply → ℕ → ℕ → Entry → Type 0
WasGiven replies place lease entry =
    (earlier : ℕ) × (deadline : ℕ) × (earlier < place) × (slice_get replies earlier ≡ Some (Given lease entry deadline))

-- The request in this place hands the number in for the entry, under a lease that was given for it before, with texts
-- that show the number on the deal of its board.
pub record IsGoodHandIn (boards : List Board) (requests : List Request) (replies : List Reply) (entry : Entry)
    (place k : ℕ)
    : Type 0 where
  pub lease : ℕ
  pub declarer : List ℕ
  pub defenders : List ℕ
  pub deal : Deal
  pub asked : slice_get requests place ≡ Some (request.HandIn lease entry k declarer defenders)
  pub given : WasGiven replies place lease entry
  pub on : deal_of boards entry.board ≡ Some deal
  pub shown : TextsShow deal entry.declarer entry.trump k declarer defenders

-- the number is that of the first good hand-in for the entry
pub record IsFirstGood (boards : List Board) (requests : List Request) (replies : List Reply) (entry : Entry) (k : ℕ)
    : Type 0 where
  pub place : ℕ
  pub good : IsGoodHandIn boards requests replies entry place k
  pub first : (earlier other : ℕ) → earlier < place → IsGoodHandIn boards requests replies entry earlier other → ⊥

abbrev pub reply_of : Event → Reply
reply_of event = event.reply

-- The book has these terms, its history is legal and is that of the requests, and the replies are those of the history.
-- A number is published exactly where it is that of the first good hand-in for the entry's least twin.
pub record IsReplayed (terms : Terms) (requests : List Request) (book : Ledger) (replies : List Reply) : Type 0 where
  pub boards : AreBoards terms.boards
  pub tries : AreTries terms.tries
  pub terms_are : book.terms ≡ terms
  pub legal : IsLegal terms book.events
  pub asked : AreAskedBy terms.boards requests book.events
  pub replied : replies ≡ map reply_of book.events
  pub published :
      (entry : Entry) (k : ℕ)
      → (published_in terms.boards book.events entry ≡ Some k)
      ↔ IsFirstGood terms.boards requests replies (twin_of terms.boards entry) k

-- the book has answered these requests
abbrev pub IsReplayedBook : Terms → List Request → Ledger → Type 0
IsReplayedBook terms requests book = (replies : List Reply) × IsReplayed terms requests book replies
