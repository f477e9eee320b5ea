-- A call of a book from what it changed.
use Rattle.std.proofs.Common.{◌≡◌, List, [], ◌∷◌, ◌++◌, ap, sym, ◌∙◌, subst}
use Rattle.lease_book.specs.declared.events.Asked.{Asked}
use Rattle.lease_book.specs.declared.events.Reply.{Reply}
use Rattle.lease_book.specs.declared.events.Event.{Event}
use Rattle.lease_book.specs.Histories.{Terms}
use Rattle.lease_book.specs.Replies.{IsReply}
use Rattle.lease_book.specs.declared.events.Grant.{Grant}
use Rattle.lease_book.specs.declared.slots.Slot.{Slot}
use Rattle.lease_book.specs.Keeping.{IsKept}
use Rattle.lease_book.specs.Books.{Ledger, IsAnswered}

pub answered : (terms : Terms) (events after : List Event) (old : Ledger) (asked : Asked) (reply : Reply) → ◌≡◌ {A = Ledger} (record { terms = terms; events = events }) old → after ≡ events ++ record { asked = asked; reply = reply } ∷ [] → IsReply terms events asked reply → IsAnswered old (record { terms = terms; events = after }) asked reply
answered terms events after old asked reply view added is =
    subst (λ (o : Ledger). IsAnswered o (record { terms = terms; events = after }) asked reply) view
    (record { reply_is = is; history = ap (λ (es : List Event). record { terms = terms; events = es }) added })

pub added : (events room after : List Event) (asked : Asked) (reply : Reply) → after ≡ room ++ record { asked = asked; reply = reply } ∷ [] → room ≡ events → after ≡ events ++ record { asked = asked; reply = reply } ∷ []
added events room after asked reply a r = a ∙ ap (λ (es : List Event). es ++ record { asked = asked; reply = reply } ∷ []) r

pub kept_in : (terms : Terms) (events room after : List Event) (asked : Asked) (reply : Reply) (leases : List Grant) (slots : List Slot) → after ≡ room ++ record { asked = asked; reply = reply } ∷ [] → room ≡ events
    → IsKept terms (events ++ record { asked = asked; reply = reply } ∷ []) leases slots → IsKept terms after leases slots
kept_in terms events room after asked reply leases slots a r kept = subst (λ (es : List Event). IsKept terms es leases slots) (sym (added events room after asked reply a r)) kept

pub replied : (terms : Terms) (events room after : List Event) (old : Ledger) (asked : Asked) (reply result : Reply) → ◌≡◌ {A = Ledger} (record { terms = terms; events = events }) old → after ≡ room ++ record { asked = asked; reply = reply } ∷ [] → room ≡ events → result ≡ reply
    → IsReply terms events asked reply → IsAnswered old (record { terms = terms; events = after }) asked result
replied terms events room after old asked reply result view a r same is =
    subst (λ (told : Reply). IsAnswered old (record { terms = terms; events = after }) asked told) (sym same) (answered terms events after old asked reply view (added events room after asked reply a r) is)
