-- Places in lists of requests, events and replies.
use Rattle.std.proofs.Common.{◌≡◌, ℕ, zero, suc, ◌<◌, ◌≤◌, cond, List, [], ◌∷◌, ◌++◌, take, Option, None, Some, slice_get, refl, sym, ◌∙◌, ap, subst, inl, inr, arith}
use Rattle.std.specs.List.{find, cons_option}
use Rattle.std.proofs.lemmas.Bool.{eq-eqb, ne_eqb}
use Rattle.std.proofs.lemmas.Option.{none-some, same_Some}
use Rattle.pbn_deals.specs.declared.boards.Board.{Board}
use Rattle.lease_book.specs.declared.events.Grant.{Grant}
use Rattle.lease_book.specs.declared.events.Reply.{Reply}
use Rattle.lease_book.specs.declared.events.Reply.TheVariants.{Given, Nothing, Freed, GaveUp, UnknownLease, NotHeld, OtherEntry, AlreadyPublished, BadCertificate, Published}
use Rattle.lease_book.specs.declared.events.Event.{Event}
use Rattle.plain_runs.specs.declared.requests.Request.{Request}
use Rattle.lease_book.specs.Histories.{given_as, given_by, given_in, is_numbered}
use Rattle.lease_book.specs.Keeping.{Among, AreNumberedFrom}
use Rattle.plain_runs.specs.Requests.{IsAskedBy, AreAskedBy}

-- ---- beginnings of lists
pub taken : {A : Type 0} (n : ℕ) (xs : List A) (place : ℕ) (x : A) → slice_get (take n xs) place ≡ Some x → (place < n) × (slice_get xs place ≡ Some x)
taken zero xs place x h = absurd (none-some x h)
taken (suc n) [] place x h = absurd (none-some x h)
taken (suc n) (first ∷ rest) zero x h = (omega arith, h)
taken (suc n) (first ∷ rest) (suc place) x h = let found = taken n rest place x h in (omega (arith, found.0), found.1)

pub take_again : {A : Type 0} (n : ℕ) (xs : List A) (place : ℕ) (x : A) → place < n → slice_get xs place ≡ Some x → slice_get (take n xs) place ≡ Some x
take_again zero xs place x l h = absurd (omega arith)
take_again (suc n) [] place x l h = h
take_again (suc n) (first ∷ rest) zero x l h = h
take_again (suc n) (first ∷ rest) (suc place) x l h = take_again n rest place x (omega arith) h

-- ---- requests and events
pub request_at : (boards : List Board) (requests : List Request) (events : List Event) → AreAskedBy boards requests events → (place : ℕ) (event : Event) → slice_get events place ≡ Some event
    → (request : Request) × (slice_get requests place ≡ Some request) × IsAskedBy boards request event.asked
request_at boards [] [] are place event h = absurd (none-some event h)
request_at boards [] (first ∷ events) are place event h = absurd are
request_at boards (request ∷ requests) [] are place event h = absurd are
request_at boards (request ∷ requests) (first ∷ events) are zero event h =
    (request, refl, subst (λ (x : Event). IsAskedBy boards request x.asked) (same_Some first event h) are.0)
request_at boards (request ∷ requests) (first ∷ events) are (suc place) event h = request_at boards requests events are.1 place event h

pub event_at : (boards : List Board) (requests : List Request) (events : List Event) → AreAskedBy boards requests events → (place : ℕ) (request : Request) → slice_get requests place ≡ Some request
    → (event : Event) × (slice_get events place ≡ Some event) × IsAskedBy boards request event.asked
event_at boards [] [] are place request h = absurd (none-some request h)
event_at boards [] (first ∷ events) are place request h = absurd are
event_at boards (one ∷ requests) [] are place request h = absurd are
event_at boards (one ∷ requests) (first ∷ events) are zero request h =
    (first, refl, subst (λ (x : Request). IsAskedBy boards x first.asked) (same_Some one request h) are.0)
event_at boards (one ∷ requests) (first ∷ events) are (suc place) request h = event_at boards requests events are.1 place request h

pub asked_push : (boards : List Board) (requests : List Request) (events : List Event) (request : Request) (event : Event) → AreAskedBy boards requests events → IsAskedBy boards request event.asked
    → AreAskedBy boards (requests ++ request ∷ []) (events ++ event ∷ [])
asked_push boards [] [] request event are is = (is, tt)
asked_push boards [] (first ∷ events) request event are is = absurd are
asked_push boards (one ∷ requests) [] request event are is = absurd are
asked_push boards (one ∷ requests) (first ∷ events) request event are is = (are.0, asked_push boards requests events request event are.1 is)

-- ---- leases and the replies that gave them
pub given_reply : (reply : Reply) (grant : Grant) → given_as reply ≡ Some grant → reply ≡ Given grant.lease grant.entry grant.deadline
given_reply (Given lease entry deadline) grant h = ap (λ (x : Grant). Given x.lease x.entry x.deadline) (same_Some (record { lease = lease; entry = entry; deadline = deadline }) grant h)
given_reply Nothing grant h = absurd (none-some grant h)
given_reply (Freed count) grant h = absurd (none-some grant h)
given_reply GaveUp grant h = absurd (none-some grant h)
given_reply UnknownLease grant h = absurd (none-some grant h)
given_reply NotHeld grant h = absurd (none-some grant h)
given_reply OtherEntry grant h = absurd (none-some grant h)
given_reply AlreadyPublished grant h = absurd (none-some grant h)
given_reply (BadCertificate fault) grant h = absurd (none-some grant h)
given_reply (Published k) grant h = absurd (none-some grant h)

pub place_of_given : (events : List Event) (grant : Grant) → Among grant (given_in events) → (place : ℕ) × (event : Event) × (slice_get events place ≡ Some event) × (given_as event.reply ≡ Some grant)
place_of_given [] grant m = elim m [ ]
place_of_given (first ∷ events) grant m = go (given_by first) refl (place_of_given events grant) m
  where
    later : ((place : ℕ) × (event : Event) × (slice_get events place ≡ Some event) × (given_as event.reply ≡ Some grant)) → (place : ℕ) × (event : Event) × (slice_get (first ∷ events) place ≡ Some event) × (given_as event.reply ≡ Some grant)
    later found = (suc found.0, found.1, found.2, found.3)

    go : (given : Option Grant) → given_by first ≡ given → (Among grant (given_in events) → (place : ℕ) × (event : Event) × (slice_get events place ≡ Some event) × (given_as event.reply ≡ Some grant))
        → Among grant (cons_option given (given_in events)) → (place : ℕ) × (event : Event) × (slice_get (first ∷ events) place ≡ Some event) × (given_as event.reply ≡ Some grant)
    go None h rest m = later (rest m)
    go (Some new) h rest (inl same) = (zero, first, refl, h ∙ ap (λ (x : Grant). Some x) same)
    go (Some new) h rest (inr m) = later (rest m)

pub among_given : (events : List Event) (place : ℕ) (event : Event) (grant : Grant) → slice_get events place ≡ Some event → given_as event.reply ≡ Some grant → Among grant (given_in events)
among_given [] place event grant h g = absurd (none-some event h)
among_given (first ∷ events) zero event grant h g =
    subst (λ (o : Option Grant). Among grant (cons_option o (given_in events))) (sym (ap (λ (x : Event). given_by x) (same_Some first event h) ∙ g)) (inl refl)
among_given (first ∷ events) (suc place) event grant h g = go (given_by first) (among_given events place event grant h g)
  where
    go : (given : Option Grant) → Among grant (given_in events) → Among grant (cons_option given (given_in events))
    go None m = m
    go (Some new) m = inr m

-- ---- leases that are numbered in turn
from_number : (number : ℕ) (grants : List Grant) (grant : Grant) → AreNumberedFrom number grants → Among grant grants → number ≤ grant.lease
from_number number [] grant are m = elim m [ ]
from_number number (first ∷ rest) grant are (inl same) = omega (arith, are.0, ap (λ (x : Grant). x.lease) same)
from_number number (first ∷ rest) grant are (inr m) = omega (arith, from_number (suc number) rest grant are.1 m)

pub find_own : (number : ℕ) (grants : List Grant) (grant : Grant) → AreNumberedFrom number grants → Among grant grants → find (is_numbered grant.lease) grants ≡ Some grant
find_own number [] grant are m = elim m [ ]
find_own number (first ∷ rest) grant are (inl same) =
    ap (λ b. cond b (Some first) (find (is_numbered grant.lease) rest)) (eq-eqb first.lease grant.lease (ap (λ (x : Grant). x.lease) same))
    ∙ ap (λ (x : Grant). Some x) same
find_own number (first ∷ rest) grant are (inr m) =
    ap (λ b. cond b (Some first) (find (is_numbered grant.lease) rest)) (ne_eqb first.lease grant.lease (λ same. omega (arith, are.0, from_number (suc number) rest grant are.1 m, same)))
    ∙ find_own (suc number) rest grant are.1 m
