-- A list of requests, and the history that answers it.
use Rattle.std.proofs.Common.{◌≡◌, ℕ, zero, suc, ◌↔◌, Bool, true, false, cond, ◌&&◌, List, [], ◌∷◌, ◌++◌, map, take, Option, None, Some, slice_get, refl, sym, ◌∙◌, ap, subst}
use Rattle.std.specs.Option.{option_map}
use Rattle.std.proofs.lemmas.Bool.{eqb-true, eq-eqb, and_parts, and_from, both_ways}
use Rattle.std.proofs.lemmas.List.{map-append}
use Rattle.std.proofs.lemmas.Option.{none-some, same_Some, cond_some, slice_get-map}
use Rattle.cards.specs.Deal.{Deal, is_same_deal}
use Rattle.cards.specs.SameDeal.{is_same_deal-Decides}
use Rattle.pbn_deals.specs.declared.boards.Board.{Board}
use Rattle.checker.specs.declared.entries.Shown.{Shown}
use Rattle.lease_book.specs.declared.entries.Entry.{Entry}
use Rattle.lease_book.specs.declared.events.Grant.{Grant}
use Rattle.lease_book.specs.declared.events.HandedIn.{HandedIn}
use Rattle.lease_book.specs.declared.events.HandedIn.TheVariants.{Shows, Faulty}
use Rattle.lease_book.specs.declared.events.Reply.{Reply}
use Rattle.lease_book.specs.declared.events.Reply.TheVariants.{Given}
use Rattle.lease_book.specs.declared.events.Event.{Event}
use Rattle.plain_runs.specs.declared.requests.Request.{Request}
use Rattle.plain_runs.specs.declared.requests.Request.TheVariants as request
use Rattle.lease_book.specs.Entries.{place_of, contract_place, is_same_entry}
use Rattle.lease_book.specs.Twins.{deal_of, twin_of}
use Rattle.lease_book.specs.Histories.{Terms, given_as, given_in, grant_of, published_in, is_numbered}
use Rattle.lease_book.specs.Replies.{IsReply, IsLegalAfter, IsLegal, is_shown_for}
use Rattle.lease_book.specs.Books.{Ledger, AreBoards, AreTries}
use Rattle.lease_laws.specs.GoodHandIns.{good_under, good_of, first_good_after}
use Rattle.plain_runs.specs.Requests.{IsJudged, IsAskedBy, AreAskedBy, IsAnswerTo}
use Rattle.plain_runs.specs.Replays.{TextsShow, WasGiven, IsGoodHandIn, IsFirstGood, IsReplayed, reply_of}
use Rattle.lease_book.proofs.EntryLaws.{same_entry}
use Rattle.lease_book.proofs.HistoryLaws.{legal_push}
use Rattle.lease_book.proofs.HeldLaws.{find_among}
use Rattle.lease_book.proofs.LegalLaws.{numbered}
use Rattle.lease_laws.proofs.PublicationLaws.{publishes_first_good}
use Rattle.plain_runs.proofs.VerdictLaws.{no_verdict_fault}
use Rattle.plain_runs.proofs.PlaceLaws.{taken, take_again, request_at, event_at, asked_push, given_reply, place_of_given, among_given, find_own}
use Rattle.plain_runs.proofs.FirstGoodLaws.{first_at, first_from}

-- ---- one hand-in
-- what is good under a lease
record IsGoodUnder (boards : List Board) (entry : Entry) (own : Option Grant) (evidence : HandedIn) (k : ℕ) : Type 0 where
  grant : Grant
  shown : Shown
  deal : Deal
  under : own ≡ Some grant
  is : evidence ≡ Shows shown
  for : place_of grant.entry ≡ place_of entry
  on : deal_of boards entry.board ≡ Some deal
  number : shown.k ≡ k

has_deal : (o : Option Deal) (entry : Entry) (shown : Shown) → is_shown_for o entry shown ≡ true → (deal : Deal) × (o ≡ Some deal)
has_deal None entry shown h = absurd (both_ways false refl h)
has_deal (Some deal) entry shown h = (deal, refl)

good_told : (boards : List Board) (entry : Entry) (own : Option Grant) (evidence : HandedIn) (k : ℕ) → good_under boards entry own evidence ≡ Some k → IsGoodUnder boards entry own evidence k
good_told boards entry None evidence k h = absurd (none-some k h)
good_told boards entry (Some grant) (Faulty fault) k h = absurd (none-some k h)
good_told boards entry (Some grant) (Shows shown) k h =
    let right = cond_some (is_same_entry grant.entry entry && is_shown_for (deal_of boards entry.board) entry shown) shown.k k h in
    let both = and_parts (is_same_entry grant.entry entry) (is_shown_for (deal_of boards entry.board) entry shown) right.0 in
    let deal = has_deal (deal_of boards entry.board) entry shown both.1 in
    record {
      grant = grant;
      shown = shown;
      deal = deal.0;
      under = refl;
      is = refl;
      for = eqb-true (place_of grant.entry) (place_of entry) both.0;
      on = deal.1;
      number = right.1;
    }

-- what a verdict shows is shown for its entry
shown_for : (deal : Deal) (entry : Entry) (k : ℕ) → is_shown_for (Some deal) entry (record { layout = deal; declarer = entry.declarer; trump = entry.trump; k = k }) ≡ true
shown_for deal entry k =
    and_from (is_same_deal deal deal) _ ((is_same_deal-Decides deal deal).1 refl)
    (eq-eqb (contract_place entry.declarer entry.trump) (contract_place entry.declarer entry.trump) refl)

good_under_own : (boards : List Board) (entry : Entry) (own : Option Grant) (grant : Grant) (deal : Deal) (k : ℕ) → own ≡ Some grant → place_of grant.entry ≡ place_of entry → deal_of boards entry.board ≡ Some deal
    → good_under boards entry own (Shows (record { layout = deal; declarer = entry.declarer; trump = entry.trump; k = k })) ≡ Some k
good_under_own boards entry own grant deal k under same on =
    let shown : Shown = record { layout = deal; declarer = entry.declarer; trump = entry.trump; k = k } in
    ap (λ (o : Option Grant). good_under boards entry o (Shows shown)) under
    ∙ ap (λ (b : Bool). cond b (Some k) None)
    (and_from (is_same_entry grant.entry entry) (is_shown_for (deal_of boards entry.board) entry shown) (eq-eqb (place_of grant.entry) (place_of entry) same)
    (ap (λ (o : Option Deal). is_shown_for o entry shown) on ∙ shown_for deal entry k))

-- a verdict that shows something shows the number that was handed in, by the texts
judged_shows : (o : Option Deal) (deal : Deal) (entry : Entry) (k : ℕ) (declarer defenders : List ℕ) (evidence : HandedIn) (shown : Shown) → o ≡ Some deal → evidence ≡ Shows shown → IsJudged o entry k declarer defenders evidence
    → (shown.k ≡ k) × TextsShow deal entry.declarer entry.trump k declarer defenders
judged_shows o deal entry k declarer defenders evidence shown on is judged =
    let verdict = subst (λ (x : HandedIn). IsJudged (Some deal) entry k declarer defenders x) is (subst (λ (x : Option Deal). IsJudged x entry k declarer defenders evidence) on judged) in (
      ap (λ (x : Shown). x.k) verdict.answers.0,
      record {
        declarers = verdict.declarers;
        defenders = verdict.defenders;
        declarers_read = verdict.declarers_read;
        defenders_read = verdict.defenders_read;
        show = verdict.answers.1;
      },
    )

-- texts that show the number get a verdict that does
shows_judged : (deal : Deal) (entry : Entry) (k : ℕ) (declarer defenders : List ℕ) (evidence : HandedIn) → TextsShow deal entry.declarer entry.trump k declarer defenders → IsJudged (Some deal) entry k declarer defenders evidence
    → evidence ≡ Shows (record { layout = deal; declarer = entry.declarer; trump = entry.trump; k = k })
shows_judged deal entry k declarer defenders (Shows shown) texts verdict = ap (λ (x : Shown). Shows x) verdict.answers.0
shows_judged deal entry k declarer defenders (Faulty fault) texts verdict = absurd (no_verdict_fault deal entry.declarer entry.trump k declarer defenders fault texts verdict)

-- the beginnings of a legal history are legal
legal_take_after : (terms : Terms) (before events : List Event) (place : ℕ) → IsLegalAfter terms before events → IsLegalAfter terms before (take place events)
legal_take_after terms before [] zero legal = tt
legal_take_after terms before [] (suc place) legal = tt
legal_take_after terms before (event ∷ events) zero legal = tt
legal_take_after terms before (event ∷ events) (suc place) legal = (legal.0, legal_take_after terms (before ++ event ∷ []) events place legal.1)

legal_take : (terms : Terms) (events : List Event) (place : ℕ) → IsLegal terms events → IsLegal terms (take place events)
legal_take terms events place legal = legal_take_after terms [] events place legal

module _ (terms : Terms) (requests : List Request) (events : List Event) (replies : List Reply) (legal : IsLegal terms events) (are : AreAskedBy terms.boards requests events) (replied : replies ≡ map reply_of events) where
  reply_at : (place : ℕ) (event : Event) → slice_get events place ≡ Some event → slice_get replies place ≡ Some event.reply
  reply_at place event h = ap (λ (all : List Reply). slice_get all place) replied ∙ slice_get-map reply_of events place ∙ ap (option_map reply_of) h

  -- ---- from the history to the list
  was_given : (place : ℕ) (grant : Grant) (lease : ℕ) (entry : Entry) → grant_of (take place events) lease ≡ Some grant → place_of grant.entry ≡ place_of entry → WasGiven replies place lease entry
  was_given place grant lease entry h same =
      let among = find_among (is_numbered lease) (given_in (take place events)) grant h in
      let found = place_of_given (take place events) grant among.0 in
      let there = taken place events found.0 found.1 found.2 in (
        found.0,
        grant.deadline,
        there.0,
        reply_at found.0 found.1 there.1
            ∙ ap (λ (x : Reply). Some x) (given_reply (found.1).reply grant found.3)
            ∙ ap (λ (n : ℕ). Some (Given n grant.entry grant.deadline)) (eqb-true grant.lease lease among.1)
            ∙ ap (λ (x : Entry). Some (Given lease x grant.deadline)) (same_entry grant.entry entry same),
      )

  by_request : (place : ℕ) (event : Event) (entry : Entry) (k : ℕ) (asking : Request) → slice_get requests place ≡ Some asking → IsAskedBy terms.boards asking event.asked
      → good_of terms (take place events) entry event.asked ≡ Some k → IsGoodHandIn terms.boards requests replies entry place k
  by_request place event entry k (request.Lease now) there is good = absurd (none-some k (sym (ap (good_of terms (take place events) entry) is) ∙ good))
  by_request place event entry k (request.Expire now) there is good = absurd (none-some k (sym (ap (good_of terms (take place events) entry) is) ∙ good))
  by_request place event entry k (request.GiveUp lease) there is good = absurd (none-some k (sym (ap (good_of terms (take place events) entry) is) ∙ good))
  by_request place event entry k (request.HandIn lease named n declarer defenders) there (evidence, judged, is) good = go (is_same_entry named entry) refl (sym (ap (good_of terms (take place events) entry) is) ∙ good)
    where
      of_entry : named ≡ entry → IsGoodUnder terms.boards entry (grant_of (take place events) lease) evidence k → IsGoodHandIn terms.boards requests replies entry place k
      of_entry same told =
          let texts = judged_shows (deal_of terms.boards entry.board) told.deal entry n declarer defenders evidence told.shown told.on told.is
          (subst (λ (x : Entry). IsJudged (deal_of terms.boards x.board) x n declarer defenders evidence) same judged) in
          let number : n ≡ k = sym texts.0 ∙ told.number in
          record {
            lease = lease;
            declarer = declarer;
            defenders = defenders;
            deal = told.deal;
            asked = there ∙ ap (λ (x : Entry). Some (request.HandIn lease x n declarer defenders)) same ∙ ap (λ (x : ℕ). Some (request.HandIn lease entry x declarer defenders)) number;
            given = was_given place told.grant lease entry told.under told.for;
            on = told.on;
            shown = subst (λ (x : ℕ). TextsShow told.deal entry.declarer entry.trump x declarer defenders) number texts.1;
          }

      go : (same : Bool) → is_same_entry named entry ≡ same → cond (is_same_entry named entry) (good_under terms.boards entry (grant_of (take place events) lease) evidence) None ≡ Some k → IsGoodHandIn terms.boards requests replies entry place k
      go true e h =
          of_entry (same_entry named entry (eqb-true (place_of named) (place_of entry) e))
          (good_told terms.boards entry (grant_of (take place events) lease) evidence k (sym (ap (λ (b : Bool). cond b (good_under terms.boards entry (grant_of (take place events) lease) evidence) None) e) ∙ h))
      go false e h = absurd (none-some k (sym (ap (λ (b : Bool). cond b (good_under terms.boards entry (grant_of (take place events) lease) evidence) None) e) ∙ h))

  good_in_list : (place : ℕ) (event : Event) (entry : Entry) (k : ℕ) → slice_get events place ≡ Some event → good_of terms (take place events) entry event.asked ≡ Some k → IsGoodHandIn terms.boards requests replies entry place k
  good_in_list place event entry k there good =
      let found = request_at terms.boards requests events are place event there in
      by_request place event entry k found.0 found.1 found.2 good

  -- ---- from the list to the history
  event_of_reply : (place : ℕ) (reply : Reply) → slice_get replies place ≡ Some reply → (event : Event) × (slice_get events place ≡ Some event) × (event.reply ≡ reply)
  event_of_reply place reply h = go (slice_get events place) refl (sym (slice_get-map reply_of events place) ∙ sym (ap (λ (all : List Reply). slice_get all place) replied) ∙ h)
    where
      go : (o : Option Event) → slice_get events place ≡ o → option_map reply_of (slice_get events place) ≡ Some reply → (event : Event) × (slice_get events place ≡ Some event) × (event.reply ≡ reply)
      go None e h = absurd (none-some reply (sym (ap (option_map reply_of) e) ∙ h))
      go (Some event) e h = (event, e, same_Some event.reply reply (sym (ap (option_map reply_of) e) ∙ h))

  grant_before : (place lease : ℕ) (entry : Entry) → WasGiven replies place lease entry → IsLegal terms (take place events) → (grant : Grant) × (grant_of (take place events) lease ≡ Some grant) × (place_of grant.entry ≡ place_of entry)
  grant_before place lease entry (earlier, deadline, before, there) legal_before =
      let found = event_of_reply earlier (Given lease entry deadline) there in
      let grant : Grant = record { lease = lease; entry = entry; deadline = deadline } in
      let among = among_given (take place events) earlier found.0 grant (take_again place events earlier found.0 before found.1) (ap given_as found.2) in
      (grant, find_own 1 (given_in (take place events)) grant (numbered terms (take place events) legal_before) among, refl)

  good_in_history : (place : ℕ) (entry : Entry) (k : ℕ) → IsGoodHandIn terms.boards requests replies entry place k → (event : Event) × (slice_get events place ≡ Some event) × (good_of terms (take place events) entry event.asked ≡ Some k)
  good_in_history place entry k good =
      let found = event_at terms.boards requests events are place (request.HandIn good.lease entry k good.declarer good.defenders) good.asked in
      let own = grant_before place good.lease entry good.given (legal_take terms events place legal) in
      let judged = (found.2).1 in
      let evidence = shows_judged good.deal entry k good.declarer good.defenders (found.2).0 good.shown (subst (λ (o : Option Deal). IsJudged o entry k good.declarer good.defenders (found.2).0) good.on judged) in (
        found.0,
        found.1,
        ap (good_of terms (take place events) entry) (found.2).2
            ∙ ap (λ (b : Bool). cond b (good_under terms.boards entry (grant_of (take place events) good.lease) (found.2).0) None) (eq-eqb (place_of entry) (place_of entry) refl)
            ∙ ap (good_under terms.boards entry (grant_of (take place events) good.lease)) evidence
            ∙ good_under_own terms.boards entry (grant_of (take place events) good.lease) own.0 good.deal k own.1 own.2 good.on,
      )

  not_good : (o : Option ℕ) (place : ℕ) (event : Event) (entry : Entry) → slice_get events place ≡ Some event → good_of terms (take place events) entry event.asked ≡ o → ((k : ℕ) → IsGoodHandIn terms.boards requests replies entry place k → ⊥) → o ≡ None
  not_good None place event entry there good none = refl
  not_good (Some k) place event entry there good none = absurd (none k (good_in_list place event entry k there good))

  -- ---- both ways
  first_for : (entry : Entry) (k : ℕ) → (first_good_after terms [] events entry ≡ Some k) ↔ IsFirstGood terms.boards requests replies entry k
  first_for entry k = (to, from)
    where
      to : first_good_after terms [] events entry ≡ Some k → IsFirstGood terms.boards requests replies entry k
      to h =
          let found = first_at terms [] events entry k h in
          record {
            place = found.place;
            good = good_in_list found.place found.event entry k found.there found.good;
            first = λ earlier other l good.
                let one = good_in_history earlier entry other good in
                none-some other (sym (found.none earlier one.0 l one.1) ∙ one.2);
          }

      from : IsFirstGood terms.boards requests replies entry k → first_good_after terms [] events entry ≡ Some k
      from is =
          let one = good_in_history is.place entry k is.good in
          first_from terms [] events entry k is.place one.0 one.1 one.2
          (λ earlier other l there. not_good (good_of terms (take earlier events) entry other.asked) earlier other entry there refl (λ number good. is.first earlier number l good))

  pub published_first : (entry : Entry) (k : ℕ) → (published_in terms.boards events entry ≡ Some k) ↔ IsFirstGood terms.boards requests replies (twin_of terms.boards entry) k
  published_first entry k =
      let both = first_for (twin_of terms.boards entry) k in
      let same = publishes_first_good terms events entry legal in
      (λ h. both.0 (sym same ∙ h), λ is. same ∙ both.1 is)

-- ---- the loop
-- what a book has answered of the requests
pub record IsUnderWay (terms : Terms) (requests : List Request) (book : Ledger) (replies : List Reply) : Type 0 where
  pub terms_are : book.terms ≡ terms
  pub legal : IsLegal terms book.events
  pub asked : AreAskedBy terms.boards requests book.events
  pub replied : replies ≡ map reply_of book.events

pub one_more : (terms : Terms) (requests : List Request) (old new : Ledger) (replies after : List Reply) (request : Request) (reply : Reply) → IsUnderWay terms requests old replies → IsAnswerTo old new request reply → after ≡ replies ++ reply ∷ []
    → IsUnderWay terms (requests ++ request ∷ []) new after
one_more terms requests old new replies after asking reply is answer pushed =
    let event : Event = record { asked = answer.asked; reply = reply } in
    let right = subst (λ (t : Terms). IsReply t old.events answer.asked reply) is.terms_are answer.answered.reply_is in
    let by = subst (λ (t : Terms). IsAskedBy t.boards asking answer.asked) is.terms_are answer.by in
    subst (λ (book : Ledger). IsUnderWay terms (requests ++ asking ∷ []) book after) (sym answer.answered.history)
    (record {
      terms_are = is.terms_are;
      legal = legal_push terms old.events event is.legal right;
      asked = asked_push terms.boards requests old.events asking event is.asked by;
      replied = pushed ∙ ap (λ (all : List Reply). all ++ reply ∷ []) is.replied ∙ sym (map-append reply_of old.events (event ∷ []));
    })

pub all_done : (terms : Terms) (requests : List Request) (book : Ledger) (replies : List Reply) → AreBoards terms.boards → AreTries terms.tries → IsUnderWay terms requests book replies → IsReplayed terms requests book replies
all_done terms requests book replies boards tries is =
    record {
      boards = boards;
      tries = tries;
      terms_are = is.terms_are;
      legal = is.legal;
      asked = is.asked;
      replied = is.replied;
      published = published_first terms requests book.events replies is.legal is.asked is.replied;
    }
