-- What a legal history publishes.
use Rattle.std.proofs.Common.{◌≡◌, ℕ, Bool, true, false, cond, ◌&&◌, List, [], ◌∷◌, ◌++◌, Option, None, Some, is_some, refl, sym, ◌∙◌, ap, ⊎_elim}
use Rattle.std.specs.List.{filter_map, cons_option}
use Rattle.std.specs.Option.{option_or, option_to_list}
use Rattle.std.proofs.lemmas.List.Elements.{filter_map-append}
use Rattle.std.proofs.lemmas.Option.{none-some}
use Rattle.cards.specs.Deal.{Deal}
use Rattle.pbn_deals.specs.declared.boards.Board.{Board}
use Rattle.lease_book.specs.declared.entries.Entry.{Entry}
use Rattle.lease_book.specs.declared.events.Grant.{Grant}
use Rattle.lease_book.specs.declared.events.Asked.{Asked}
use Rattle.lease_book.specs.declared.events.Asked.TheVariants.{Lease, Expire, GiveUp, HandIn}
use Rattle.lease_book.specs.declared.events.Reply.{Reply}
use Rattle.lease_book.specs.declared.events.Reply.TheVariants.{Given, Nothing, Freed, GaveUp, UnknownLease, NotHeld, OtherEntry, AlreadyPublished, BadCertificate, Published}
use Rattle.lease_book.specs.declared.events.Event.{Event}
use Rattle.lease_book.specs.Entries.{is_same_entry}
use Rattle.lease_book.specs.Twins.{deal_of, are_twins}
use Rattle.lease_book.specs.Histories.{Terms, grant_of, number_for, published_when, first_published, published_in}
use Rattle.lease_book.specs.Replies.{is_evidence_for, evidence_reply, hand_in_reply, IsReply, IsLegal}
use Rattle.lease_book.specs.Laws.{published_for}
use Rattle.lease_book.proofs.HistoryLaws.{published_push}
use Rattle.lease_book.proofs.LegalLaws.{carried}
use Rattle.lease_book.proofs.TwinLaws.{alike, same_twins}
use Rattle.lease_book.proofs.BookLaws.{option_or_some}

-- a hand-in for another entry publishes nothing here
pub not_meant : (reply : Reply) → number_for false reply ≡ None
not_meant (Published k) = refl
not_meant (Given lease entry deadline) = refl
not_meant Nothing = refl
not_meant (Freed count) = refl
not_meant GaveUp = refl
not_meant UnknownLease = refl
not_meant NotHeld = refl
not_meant OtherEntry = refl
not_meant AlreadyPublished = refl
not_meant (BadCertificate fault) = refl

-- ---- what is published
named_by : (test : Entry → Bool) (asked : Asked) (reply : Reply) (k : ℕ) → published_when test asked reply ≡ Some k → (named : Entry) × (test named ≡ true)
named_by test (Lease now) reply k h = absurd (none-some k h)
named_by test (Expire now) reply k h = absurd (none-some k h)
named_by test (GiveUp lease) reply k h = absurd (none-some k h)
named_by test (HandIn lease named evidence) reply k h = go (test named) refl h
  where
    go : (meant : Bool) → test named ≡ meant → number_for meant reply ≡ Some k → (named : Entry) × (test named ≡ true)
    go true e p = (named, e)
    go false e p = absurd (none-some k (sym (not_meant reply) ∙ p))

named_in : (test : Entry → Bool) (events : List Event) (k : ℕ) → first_published test events ≡ Some k → (named : Entry) × (test named ≡ true)
named_in test [] k h = absurd (none-some k h)
named_in test (event ∷ later) k h =
    ⊎_elim (named_by test event.asked event.reply k) (named_in test later k)
    (option_or_some (published_when test event.asked event.reply) (first_published test later) k h)

-- an entry that is published has a board with a deal
pub published_on : (boards : List Board) (events : List Event) (entry : Entry) (k : ℕ) → published_in boards events entry ≡ Some k → (deal : Deal) × (deal_of boards entry.board ≡ Some deal)
published_on boards events entry k h =
    let named = named_in (are_twins boards entry) events k h in
    let both = alike boards entry named.0 named.1 in
    (both.deal, both.one_has)

-- ---- once
none_again : (terms : Terms) (before : List Event) (entry : Entry) (asked : Asked) (reply : Reply) → IsReply terms before asked reply → is_some (published_in terms.boards before entry) ≡ true → published_when (are_twins terms.boards entry) asked reply ≡ None
none_again terms before entry (Lease now) reply is some = refl
none_again terms before entry (Expire now) reply is some = refl
none_again terms before entry (GiveUp lease) reply is some = refl
none_again terms before entry (HandIn lease named evidence) reply is some = go (are_twins terms.boards entry named) refl
  where
    told : (right published : Bool) → published ≡ true → number_for true (cond right (cond published AlreadyPublished (evidence_reply evidence)) OtherEntry) ≡ None
    told true true e = refl
    told true false e = cc
    told false published e = refl

    after : (own : Option Grant) → is_some (published_in terms.boards before named) ≡ true → number_for true (hand_in_reply terms before own named evidence) ≡ None
    after None e = refl
    after (Some grant) e = told (is_same_entry grant.entry named && is_evidence_for terms.boards named evidence) (is_some (published_in terms.boards before named)) e

    go : (twins : Bool) → are_twins terms.boards entry named ≡ twins → number_for twins reply ≡ None
    go true h =
        ap (λ (r : Reply). number_for true r) is
        ∙ after (grant_of before lease) (ap (λ (test : Entry → Bool). is_some (first_published test before)) (sym (same_twins terms.boards entry named h)) ∙ some)
    go false h = not_meant reply

pub publishes_once : (terms : Terms) (events : List Event) (entry : Entry) → IsLegal terms events → filter_map (published_for terms.boards entry) events ≡ option_to_list (published_in terms.boards events entry)
publishes_once terms events entry legal = carried (λ all. filter_map (published_for terms.boards entry) all ≡ option_to_list (published_in terms.boards all entry)) terms push [] events legal refl
  where
    joined : (old new : Option ℕ) → (is_some old ≡ true → new ≡ None) → option_to_list old ++ cons_option new [] ≡ option_to_list (option_or old new)
    joined None None h = refl
    joined None (Some k) h = refl
    joined (Some k) new h = ap (λ (o : Option ℕ). (k ∷ []) ++ cons_option o []) (h refl)

    push : (before : List Event) (event : Event) → filter_map (published_for terms.boards entry) before ≡ option_to_list (published_in terms.boards before entry) → IsReply terms before event.asked event.reply
        → filter_map (published_for terms.boards entry) (before ++ event ∷ []) ≡ option_to_list (published_in terms.boards (before ++ event ∷ []) entry)
    push before event are reply =
        filter_map-append (published_for terms.boards entry) before (event ∷ [])
        ∙ ap (λ numbers. numbers ++ cons_option (published_for terms.boards entry event) []) are
        ∙ joined (published_in terms.boards before entry) (published_for terms.boards entry event) (none_again terms before entry event.asked event.reply reply)
        ∙ ap option_to_list (sym (published_push (are_twins terms.boards entry) before event))
