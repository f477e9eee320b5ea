-- A legal history publishes the first good hand-in.
use Rattle.std.proofs.Common.{◌≡◌, ℕ, Bool, true, false, cond, ◌&&◌, List, [], ◌∷◌, ◌++◌, Option, None, Some, is_some, refl, ◌∙◌, ap}
use Rattle.std.specs.Option.{option_or}
use Rattle.std.proofs.lemmas.Bool.{and_parts, both_ways, eqb-true, eq-eqb}
use Rattle.lease_book.specs.declared.entries.Entry.{Entry}
use Rattle.lease_book.specs.declared.events.Grant.{Grant}
use Rattle.lease_book.specs.declared.events.HandedIn.{HandedIn}
use Rattle.lease_book.specs.declared.events.HandedIn.TheVariants.{Shows, Faulty}
use Rattle.lease_book.specs.declared.events.Asked.{Asked}
use Rattle.lease_book.specs.declared.events.Asked.TheVariants.{Lease, Expire, GiveUp, HandIn}
use Rattle.lease_book.specs.declared.events.Reply.{Reply}
use Rattle.lease_book.specs.declared.events.Reply.TheVariants.{OtherEntry, AlreadyPublished, BadCertificate, Published}
use Rattle.lease_book.specs.declared.events.Event.{Event}
use Rattle.lease_book.specs.Entries.{place_of, is_same_entry}
use Rattle.lease_book.specs.Twins.{deal_of, twin_of}
use Rattle.lease_book.specs.Histories.{Terms, grant_of, number_for, published_in}
use Rattle.lease_book.specs.Replies.{is_shown_for, hand_in_reply, IsReply, IsLegalAfter, IsLegal}
use Rattle.lease_laws.specs.GoodHandIns.{good_under, good_of, first_good_after, first_good}
use Rattle.lease_book.specs.Keeping.{is_in_place, published_as, published_by, published_at}
use Rattle.lease_book.proofs.EntryLaws.{same_entry}
use Rattle.lease_book.proofs.HistoryLaws.{published_push, legal_push}
use Rattle.lease_book.proofs.PublicationLaws.{not_meant}
use Rattle.lease_book.proofs.NamedLaws.{named_first, published_is, published_own}

not_here : (meant : Bool) (reply : Reply) → meant ≡ false → number_for meant reply ≡ None
not_here meant reply h = ap (λ (b : Bool). number_for b reply) h ∙ not_meant reply

-- where nothing is published yet, a hand-in publishes the number that is good
counts_first : (terms : Terms) (before : List Event) (entry : Entry) (own : Option Grant) (evidence : HandedIn)
    → ((grant : Grant) → own ≡ Some grant → is_same_entry grant.entry entry ≡ true → is_some (published_in terms.boards before entry) ≡ false)
    → published_as (place_of entry) entry (hand_in_reply terms before own entry evidence) ≡ good_under terms.boards entry own evidence
counts_first terms before entry None evidence none = refl
counts_first terms before entry (Some grant) (Faulty fault) none = go (is_same_entry grant.entry entry && true) (is_some (published_in terms.boards before entry))
  where
    go : (right published : Bool) → published_as (place_of entry) entry (cond right (cond published AlreadyPublished (BadCertificate fault)) OtherEntry) ≡ None
    go true true = refl
    go true false = refl
    go false published = refl
counts_first terms before entry (Some grant) (Shows shown) none =
    go (is_same_entry grant.entry entry && is_shown_for (deal_of terms.boards entry.board) entry shown) (is_some (published_in terms.boards before entry))
    (λ right. none grant refl (and_parts (is_same_entry grant.entry entry) (is_shown_for (deal_of terms.boards entry.board) entry shown) right).0)
  where
    go : (right published : Bool) → (right ≡ true → published ≡ false) → published_as (place_of entry) entry (cond right (cond published AlreadyPublished (Published shown.k)) OtherEntry) ≡ cond right (Some shown.k) None
    go true true h = absurd (both_ways true (h refl) refl)
    go true false h = ap (λ b. cond b (Some shown.k) None) (eq-eqb (place_of entry) (place_of entry) refl)
    go false published h = refl

publishes_good : (terms : Terms) (before : List Event) (entry : Entry) (asked : Asked) (reply : Reply) → IsLegal terms before → IsReply terms before asked reply → published_at (place_of entry) before ≡ None
    → published_by (place_of entry) asked reply ≡ good_of terms before entry asked
publishes_good terms before entry (Lease now) reply legal is none = refl
publishes_good terms before entry (Expire now) reply legal is none = refl
publishes_good terms before entry (GiveUp lease) reply legal is none = refl
publishes_good terms before entry (HandIn lease named evidence) reply legal is none = go (is_same_entry named entry) refl
  where
    unpublished : (grant : Grant) → grant_of before lease ≡ Some grant → is_same_entry grant.entry entry ≡ true → is_some (published_in terms.boards before entry) ≡ false
    unpublished grant given same =
        ap (λ (o : Option ℕ). is_some o) (published_own terms before entry legal (named_first terms before lease grant entry legal given same) ∙ none)

    go : (same : Bool) → is_same_entry named entry ≡ same → published_as (place_of entry) named reply ≡ cond same (good_under terms.boards entry (grant_of before lease) evidence) None
    go true h =
        ap (published_as (place_of entry) named) is
        ∙ ap (λ (x : Entry). published_as (place_of entry) x (hand_in_reply terms before (grant_of before lease) x evidence)) (same_entry named entry (eqb-true (place_of named) (place_of entry) h))
        ∙ counts_first terms before entry (grant_of before lease) evidence unpublished
    go false h = not_here (is_same_entry named entry) reply h

publishes_after : (terms : Terms) (before later : List Event) (entry : Entry) → IsLegal terms before → IsLegalAfter terms before later → published_at (place_of entry) before ≡ None
    → published_at (place_of entry) later ≡ first_good_after terms before later entry
publishes_after terms before [] entry legal_before legal none = refl
publishes_after terms before (event ∷ later) entry legal_before legal none =
    go (good_of terms before entry event.asked) refl (publishes_after terms (before ++ event ∷ []) later entry (legal_push terms before event legal_before legal.0) legal.1)
  where
    here : published_by (place_of entry) event.asked event.reply ≡ good_of terms before entry event.asked
    here = publishes_good terms before entry event.asked event.reply legal_before legal.0 none

    go : (good : Option ℕ) → good_of terms before entry event.asked ≡ good
        → (published_at (place_of entry) (before ++ event ∷ []) ≡ None → published_at (place_of entry) later ≡ first_good_after terms (before ++ event ∷ []) later entry)
        → option_or (published_by (place_of entry) event.asked event.reply) (published_at (place_of entry) later) ≡ option_or good (first_good_after terms (before ++ event ∷ []) later entry)
    go None h rest =
        ap (λ o. option_or o (published_at (place_of entry) later)) (here ∙ h)
        ∙ rest (published_push (is_in_place (place_of entry)) before event ∙ ap (λ o. option_or o (published_by (place_of entry) event.asked event.reply)) none ∙ here ∙ h)
    go (Some k) h rest = ap (λ o. option_or o (published_at (place_of entry) later)) (here ∙ h)

pub publishes_first_good : (terms : Terms) (events : List Event) (entry : Entry) → IsLegal terms events → published_in terms.boards events entry ≡ first_good terms events entry
publishes_first_good terms events entry legal =
    published_is terms events entry legal ∙ publishes_after terms [] events (twin_of terms.boards entry) tt legal refl
