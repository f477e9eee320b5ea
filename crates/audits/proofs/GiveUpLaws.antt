-- Leases that are given up, and what the book shows then.
use Rattle.std.proofs.Common.{◌≡◌, ℕ, ◌+◌, ◌<◌, ◌≤◌, Bool, true, false, not, cond, ◌&&◌, List, [], ◌∷◌, ◌++◌, length, get_or, drop, add-one, drop-cons, count_by, Option, None, Some, inl, inr, refl, sym, ◌∙◌, ap, subst, arith}
use Rattle.std.specs.Prelude.{MatchOption, nat_eq}
use Rattle.std.specs.List.{filter, cons_option}
use Rattle.std.specs.Option.{option_or}
use Rattle.std.proofs.lemmas.Bool.{eq-eqb}
use Rattle.std.proofs.lemmas.List.{append-nil}
use Rattle.std.proofs.lemmas.List.Sums.{sum_by-cons, sum_by_push}
use Rattle.std.proofs.lemmas.List.Elements.{All-push}
use Rattle.cards.specs.Deal.{Deal}
use Rattle.checker.specs.declared.entries.Shown.{Shown}
use Rattle.pbn_deals.specs.declared.boards.Board.{Board}
use Rattle.lease_book.specs.declared.entries.Entry.{Entry}
use Rattle.lease_book.specs.declared.events.Grant.{Grant}
use Rattle.lease_book.specs.declared.events.Asked.{Asked}
use Rattle.lease_book.specs.declared.events.Asked.TheVariants.{Lease, Expire, GiveUp, HandIn}
use Rattle.lease_book.specs.declared.events.Reply.{Reply}
use Rattle.lease_book.specs.declared.events.Reply.TheVariants.{Published}
use Rattle.lease_book.specs.declared.events.Event.{Event}
use Rattle.lease_book.specs.Entries.{place_of, contract_place}
use Rattle.lease_book.specs.Twins.{deal_of, first_board, is_first, are_equal_deals, are_twins, twin_of}
use Rattle.lease_book.specs.Histories.{Terms, given_as, given_in, held_after, is_for_place, is_numbered, number_for, published_when, first_published, published_in}
use Rattle.lease_book.specs.Books.{Ledger, IsAnswered}
use Rattle.lease_book.proofs.HistoryLaws.{is_left_by, given_push, held_push, published_push, option_or_none}
use Rattle.lease_book.proofs.TwinLaws.{first_has, first_is_first, twins_of, same_twins}
use Rattle.lease_book.proofs.LegalLaws.{gives_none}
use Rattle.evidence.specs.Sections.{SectionShape}
use Rattle.lease_book.specs.Settling.{settled_by, settled_in}
use Rattle.lease_book.specs.Settling.{given_in as weight_given_in, given_by as weight_given_by}
use Rattle.lease_book.specs.Moments.{IsTimed, AreTimed}
use Rattle.audits.specs.Shown.{FirstShows, NoneShow, PublishesShown}
use Rattle.audits.specs.Firsts.{IsFor, AreFirstShown}
use Rattle.audits.specs.Grants.{AreWithin, weight_of, tricks_in, HandsInFirsts, GivesUpAll}
use Rattle.audits.specs.Shows.{ShowsSections}
use Rattle.audits.proofs.GrantLaws.{filter_none, none_numbered}

-- the next of some leases, and the rest
pub drop_next : (grants : List Grant) (index : ℕ) (none : Grant) → index < length grants → drop index grants ≡ get_or grants index none ∷ drop (index + 1) grants
drop_next grants index none within = rw (add-one, drop-cons grants index none) refl

-- ---- some of the leases were given up
pub record Frees (old new : Ledger) (now : ℕ) (rest : List Grant) : Type 0 where
  pub terms_are : new.terms ≡ old.terms
  pub held : held_after new.events ≡ rest
  pub rising : (low : ℕ) × (high : ℕ) × AreWithin low high rest
  pub settled : (weight : ℕ → ℕ) → settled_in weight new.events + weight_of weight rest ≡ weight_given_in weight new.events
  pub timed : AreTimed (λ moment. moment ≡ now) new.events
  pub given_is : given_in new.events ≡ given_in old.events
  pub published : (entry : Entry) → published_in new.terms.boards new.events entry ≡ published_in old.terms.boards old.events entry

module _ (old middle new : Ledger) (now : ℕ) (grant : Grant) (rest : List Grant) (frees : Frees old middle now (grant ∷ rest)) (reply : Reply)
    (answered : IsAnswered middle new (GiveUp grant.lease) reply) where
  abbrev event : Event
  event = record { asked = GiveUp grant.lease; reply = reply }

  none_given : given_as reply ≡ None
  none_given = gives_none middle.terms middle.events (GiveUp grant.lease) reply answered.reply_is (λ moment is. other moment is)
    where
      other : (moment : ℕ) → GiveUp grant.lease ≡ Lease moment → ⊥
      other moment is = cc

  new_events : new.events ≡ middle.events ++ event ∷ []
  new_events = ap (λ (b : Ledger). b.events) answered.history

  new_terms : new.terms ≡ middle.terms
  new_terms = ap (λ (b : Ledger). b.terms) answered.history

  given_then : given_in (middle.events ++ event ∷ []) ≡ given_in middle.events
  given_then = given_push middle.events event ∙ ap (λ (o : Option Grant). given_in middle.events ++ cons_option o []) none_given ∙ append-nil (given_in middle.events)

  held_then : held_after (middle.events ++ event ∷ []) ≡ rest
  held_then =
      held_push middle.events event
      ∙ ap (λ (o : Option Grant). filter (is_left_by event) (held_after middle.events) ++ cons_option o []) none_given
      ∙ append-nil (filter (is_left_by event) (held_after middle.events))
      ∙ ap (filter (is_left_by event)) frees.held
      ∙ ap (λ (b : Bool). cond (not b) (grant ∷ filter (is_left_by event) rest) (filter (is_left_by event) rest)) (eq-eqb grant.lease grant.lease refl)
      ∙ filter_none (is_numbered grant.lease) rest (none_numbered (grant.lease + 1) (frees.rising.1) grant.lease rest (frees.rising.2).1 (omega arith))

  settled_then : (weight : ℕ → ℕ) → settled_in weight (middle.events ++ event ∷ []) ≡ settled_in weight middle.events + weight grant.lease
  settled_then weight = sum_by_push (λ (e : Event). settled_by weight e.asked) middle.events event

  weight_then : (weight : ℕ → ℕ) → weight_given_in weight (middle.events ++ event ∷ []) ≡ weight_given_in weight middle.events + 0
  weight_then weight = sum_by_push (λ (e : Event). weight_given_by weight e.asked e.reply) middle.events event

  published_then : (entry : Entry) → published_in new.terms.boards new.events entry ≡ published_in middle.terms.boards middle.events entry
  published_then entry =
      ap (λ (b : Ledger). published_in b.terms.boards b.events entry) answered.history
      ∙ published_push (are_twins middle.terms.boards entry) middle.events event
      ∙ option_or_none (published_in middle.terms.boards middle.events entry)

  pub frees_more : Frees old new now rest
  frees_more =
      record {
        terms_are = new_terms ∙ frees.terms_are;
        held = ap held_after new_events ∙ held_then;
        rising = (grant.lease + 1, frees.rising.1, (frees.rising.2).1);
        settled = λ weight.
            let before = frees.settled weight in
            let first : weight_of weight (grant ∷ rest) ≡ weight grant.lease + weight_of weight rest = sum_by-cons (λ (g : Grant). weight g.lease) grant rest in
            let settled : settled_in weight new.events ≡ settled_in weight middle.events + weight grant.lease = ap (settled_in weight) new_events ∙ settled_then weight in
            let given : weight_given_in weight new.events ≡ weight_given_in weight middle.events + 0 = ap (weight_given_in weight) new_events ∙ weight_then weight in
            omega (arith, before, first, settled, given);
        timed = subst (λ (events : List Event). AreTimed (λ moment. moment ≡ now) events) (sym new_events)
            (All-push (λ (e : Event). IsTimed (λ moment. moment ≡ now) e.asked) middle.events event frees.timed tt);
        given_is = ap given_in new_events ∙ given_then ∙ frees.given_is;
        published = λ entry. published_then entry ∙ frees.published entry;
      }

-- ---- what is published of an entry is that of its least twin
meant_for_none : (reply : Reply) → number_for false reply ≡ None
meant_for_none (Published k) = refl
meant_for_none other = refl

none_published : (test : Entry → Bool) (events : List Event) → ((entry : Entry) → test entry ≡ false) → first_published test events ≡ None
none_published test [] none = refl
none_published test (event ∷ later) none = ap (λ (o : Option ℕ). option_or o (first_published test later)) (of event.asked) ∙ none_published test later none
  where
    of : (asked : Asked) → published_when test asked event.reply ≡ None
    of (Lease now) = refl
    of (Expire now) = refl
    of (GiveUp lease) = refl
    of (HandIn lease entry evidence) = ap (λ (b : Bool). number_for b event.reply) (none entry) ∙ meant_for_none event.reply

none_alike : (deal : Deal) (entry : Entry) (board : ℕ) (sections : List SectionShape) → NoneShow (Some deal) (record { board = board; declarer = entry.declarer; trump = entry.trump }) sections → NoneShow (Some deal) entry sections
none_alike deal entry board [] none = tt
none_alike deal entry board (section ∷ later) none = (none.0, none_alike deal entry board later none.1)

first_alike : (deal : Deal) (entry : Entry) (board k : ℕ) (sections : List SectionShape) → FirstShows (Some deal) (record { board = board; declarer = entry.declarer; trump = entry.trump }) k sections → FirstShows (Some deal) entry k sections
first_alike deal entry board k [] first = first
first_alike deal entry board k (section ∷ later) (inl shows) = inl shows
first_alike deal entry board k (section ∷ later) (inr (none, first)) = inr (none, first_alike deal entry board k later first)

without_deal : (entry : Entry) (sections : List SectionShape) → NoneShow None entry sections
without_deal entry [] = tt
without_deal entry (section ∷ later) = (λ k shows. shows, without_deal entry later)

abbrev Shown_in : List SectionShape → Option Deal → Entry → Option ℕ → Type 0
Shown_in sections deal e o = MatchOption o (NoneShow deal e sections) (λ k. FirstShows deal e k sections)

pub shown_published : (boards : List Board) (events : List Event) (firsts : List (Option Shown)) (sections : List SectionShape) → AreFirstShown boards sections firsts
    → ((entry : Entry) → is_first boards entry.board ≡ true → published_in boards events entry ≡ tricks_in (get_or firsts (place_of entry) None)) → PublishesShown boards sections events
shown_published boards events firsts sections are published entry = go (deal_of boards entry.board) refl
  where
    of_first : (deal : Deal) (o : Option Shown) → MatchOption o (NoneShow (Some deal) (twin_of boards entry) sections) (λ s. IsFor boards (twin_of boards entry) s × FirstShows (Some deal) (twin_of boards entry) s.k sections)
        → Shown_in sections (Some deal) entry (tricks_in o)
    of_first deal None none = none_alike deal entry (first_board boards entry.board) sections none
    of_first deal (Some s) (is, first) = first_alike deal entry (first_board boards entry.board) s.k sections first

    go : (o : Option Deal) → deal_of boards entry.board ≡ o → Shown_in sections (deal_of boards entry.board) entry (published_in boards events entry)
    go None is =
        let none : published_in boards events entry ≡ None = none_published (are_twins boards entry) events (λ e. not_twin e) in
        subst (λ (p : Option ℕ). Shown_in sections (deal_of boards entry.board) entry p) (sym none) (subst (λ (o : Option Deal). NoneShow o entry sections) (sym is) (without_deal entry sections))
      where
        not_twin : (e : Entry) → are_twins boards entry e ≡ false
        not_twin e =
            ap (λ (o : Option Deal). are_equal_deals o (deal_of boards e.board) && nat_eq (contract_place entry.declarer entry.trump) (contract_place e.declarer e.trump)) is
    go (Some deal) is =
        let first = first_is_first boards entry.board deal is in
        let has = first_has boards entry.board deal is in
        let twins : are_twins boards entry (twin_of boards entry) ≡ true = twins_of boards entry (twin_of boards entry) deal is has refl in
        let same : published_in boards events entry ≡ tricks_in (get_or firsts (place_of (twin_of boards entry)) None) =
        ap (λ (test : Entry → Bool). first_published test events) (same_twins boards entry (twin_of boards entry) twins) ∙ published (twin_of boards entry) first in
        let of_twin = subst (λ (o : Option Deal). MatchOption (get_or firsts (place_of (twin_of boards entry)) None) (NoneShow o (twin_of boards entry) sections) (λ s. IsFor boards (twin_of boards entry) s × FirstShows o (twin_of boards entry) s.k sections)) has (are (twin_of boards entry) first) in
        subst (λ (p : Option ℕ). Shown_in sections (deal_of boards entry.board) entry p) (sym same)
        (subst (λ (o : Option Deal). Shown_in sections o entry (tricks_in (get_or firsts (place_of (twin_of boards entry)) None))) (sym is) (of_first deal (get_or firsts (place_of (twin_of boards entry)) None) of_twin))

-- ---- the book after both
pub shows_sections : (old middle new : Ledger) (now : ℕ) (firsts : List (Option Shown)) (kept : List Grant) (sections : List SectionShape) → HandsInFirsts old middle now firsts kept → GivesUpAll middle new now
    → AreFirstShown old.terms.boards sections firsts → ShowsSections old new now sections
shows_sections old middle new now firsts kept sections hands gives are =
    record {
      terms_are = gives.terms_are ∙ hands.terms_are;
      published = shown_published new.terms.boards new.events firsts sections
          (subst (λ (t : Terms). AreFirstShown t.boards sections firsts) (sym (gives.terms_are ∙ hands.terms_are)) are)
          (λ entry first. gives.published entry ∙ hands.published entry (subst (λ (t : Terms). is_first t.boards entry.board ≡ true) gives.terms_are first));
      settled = λ weight. let same = gives.settled weight in omega (arith, same);
      none_held = gives.none_held;
      timed = gives.timed;
      leased = λ entry first. ap (count_by (is_for_place (place_of entry))) gives.given_is ∙ hands.leased entry (subst (λ (t : Terms). is_first t.boards entry.board ≡ true) gives.terms_are first);
      leased_once = λ place. subst (λ (gs : List Grant). count_by (is_for_place place) gs ≤ 1) (sym gives.given_is) (hands.leased_once place);
    }
