-- Leases of entries, one after another, and what is published of them.
use Rattle.std.proofs.Common.{◌≡◌, ℕ, ◌+◌, ◌≤◌, Bool, true, false, not, cond, ◌&&◌, List, [], ◌∷◌, ◌++◌, length, get_or, count_by, Option, None, Some, is_some, is_none, ◌⊎◌, inl, inr, refl, sym, ◌∙◌, ap, subst, arith}
use Rattle.std.specs.Prelude.{nat_eq, nat_lt}
use Rattle.std.specs.List.{filter, find, list_any, cons_option}
use Rattle.std.specs.Option.{option_or}
use Rattle.std.proofs.lemmas.Bool.{both_ways, eqb-true, eq-eqb, and_parts, and_from, ltb-false}
use Rattle.std.proofs.lemmas.Option.{none-some, same_Some}
use Rattle.std.proofs.lemmas.List.{append-nil, length_push}
use Rattle.std.proofs.lemmas.List.Sums.{sum_by_push}
use Rattle.std.proofs.lemmas.List.Elements.{All-push, All-weaker, filter-append}
use Rattle.std.proofs.lemmas.List.Folds.{find-append}
use Rattle.cards.specs.Deal.{Deal, is_same_deal}
use Rattle.cards.specs.declared.seats.Seat.{Seat}
use Rattle.cards.specs.declared.suits.Trump.{Trump}
use Rattle.checker.specs.declared.entries.Shown.{Shown}
use Rattle.lease_book.specs.declared.entries.Entry.{Entry}
use Rattle.lease_book.specs.declared.events.Grant.{Grant}
use Rattle.lease_book.specs.declared.events.Asked.{Asked}
use Rattle.lease_book.specs.declared.events.Asked.TheVariants.{Lease, Expire, GiveUp, HandIn}
use Rattle.lease_book.specs.declared.events.HandedIn.TheVariants.{Shows}
use Rattle.lease_book.specs.declared.events.Reply.{Reply}
use Rattle.lease_book.specs.declared.events.Reply.TheVariants.{Given, Nothing, OtherEntry, AlreadyPublished, Published}
use Rattle.lease_book.specs.declared.events.Event.{Event}
use Rattle.lease_book.specs.Entries.{contract_place, place_of, is_same_entry}
use Rattle.lease_book.specs.Twins.{is_first, are_twins, twin_of}
use Rattle.lease_book.specs.Histories.{Terms, given_as, given_in, grant_of, held_after, is_for_place, is_numbered, number_for, published_in, times_leased, is_open}
use Rattle.lease_book.specs.Replies.{IsNextLease, IsReply, IsLegal, is_shown_for, is_evidence_for, hand_in_reply}
use Rattle.lease_book.specs.Books.{Ledger}
use Rattle.lease_book.specs.Keeping.{Among}
use Rattle.lease_book.proofs.HistoryLaws.{is_left_by, given_push, held_push, published_push, option_or_none}
use Rattle.lease_book.proofs.HeldLaws.{among_append, among_any, any_among, find_above}
use Rattle.lease_book.proofs.EntryLaws.{same_entry}
use Rattle.lease_book.proofs.TwinLaws.{this_itself, twins_of, only_twin, twin_itself}
use Rattle.lease_book.proofs.LegalLaws.{numbered}
use Rattle.lease_book.specs.Settling.{settled_by, settled_in}
use Rattle.lease_book.specs.Settling.{given_in as weight_given_in, given_by as weight_given_by}
use Rattle.lease_book.specs.Moments.{MayTell, IsTimed, AreTimed}
use Rattle.audits.specs.Firsts.{IsFor}
use Rattle.audits.specs.Grants.{AreWithin, weight_of, tricks_in, HandsInFirsts}
use Rattle.audits.proofs.GrantLaws.{filter_all, filter_none, count_none, counted, within_push, within_higher, among_left, among_last}

-- ---- moments
timed_weaker : (one other : MayTell) (events : List Event) → ((moment : ℕ) → one moment → other moment) → AreTimed one events → AreTimed other events
timed_weaker one other events weaker timed = All-weaker (λ (event : Event). IsTimed one event.asked) (λ (event : Event). IsTimed other event.asked) (λ event. of event.asked) events timed
  where
    of : (asked : Asked) → IsTimed one asked → IsTimed other asked
    of (Lease now) is = weaker now is
    of (Expire now) is = weaker now is
    of (GiveUp lease) is = tt
    of (HandIn lease entry evidence) is = tt

-- what is told of one moment
pub timed_by : (may_tell : MayTell) (now : ℕ) (events : List Event) → may_tell now → AreTimed (λ moment. moment ≡ now) events → AreTimed may_tell events
timed_by may_tell now events told timed = timed_weaker (λ moment. moment ≡ now) may_tell events (λ moment is. subst may_tell (sym is) told) timed

-- ---- what was leased so far
pub record Works (terms : Terms) (now : ℕ) (firsts : List (Option Shown)) (events : List Event) (kept : List Grant) : Type 0 where
  pub held : held_after events ≡ kept
  pub within : AreWithin 1 (length (given_in events) + 1) kept
  pub weighed : (weight : ℕ → ℕ) → settled_in weight events + weight_of weight kept ≡ weight_given_in weight events
  pub timed : AreTimed (λ moment. moment ≡ now) events
  pub each : (grant : Grant) → Among grant (given_in events) → (is_some (published_in terms.boards events grant.entry) ≡ true) ⊎ Among grant kept
  pub once : (place : ℕ) → times_leased events place ≤ 1
  pub unshown : (grant : Grant) → Among grant kept → (get_or firsts (place_of grant.entry) None ≡ None) × (1 ≤ times_leased events (place_of grant.entry))
  pub published : (entry : Entry) (k : ℕ) → is_first terms.boards entry.board ≡ true → published_in terms.boards events entry ≡ Some k
      → (shown : Shown) × (get_or firsts (place_of entry) None ≡ Some shown) × (shown.k ≡ k) × (1 ≤ times_leased events (place_of entry))

none_is : (o : Option ℕ) → is_none o ≡ true → o ≡ None
none_is None h = refl
none_is (Some k) h = cc

not_is : (b : Bool) → not b ≡ true → b ≡ false
not_is true h = cc
not_is false h = refl

-- a lease counts once if it is of a place
abbrev one_if : Bool → ℕ
one_if b = cond b 1 0

still_some : (o more : Option ℕ) → is_some o ≡ true → is_some (option_or o more) ≡ true
still_some None more h = cc
still_some (Some k) more h = refl

module _ (terms : Terms) (now : ℕ) (firsts : List (Option Shown)) (events : List Event) (kept : List Grant) (works : Works terms now firsts events kept)
    (legal : IsLegal terms events) (lease : ℕ) (entry : Entry) (deadline : ℕ) (next : IsNextLease terms events now lease entry deadline) where
  abbrev grant : Grant
  grant = record { lease = lease; entry = entry; deadline = deadline }

  abbrev lease_event : Event
  lease_event = record { asked = Lease now; reply = Given lease entry deadline }

  abbrev leased : List Event
  leased = events ++ lease_event ∷ []

  abbrev here : Grant → Bool
  here = is_for_place (place_of entry)

  open_parts : (((is_first terms.boards entry.board ≡ true) × (published_in terms.boards events entry ≡ None)) × (list_any here (held_after events) ≡ false))
  open_parts =
      let first = is_first terms.boards entry.board in
      let no_number = is_none (published_in terms.boards events entry) in
      let no_lease = not (list_any here (held_after events)) in
      let one = and_parts ((first && no_number) && no_lease) (nat_lt (times_leased events (place_of entry)) terms.tries) next.ready in
      let two = and_parts (first && no_number) no_lease one.0 in
      let three = and_parts first no_number two.0 in
      ((three.0, none_is (published_in terms.boards events entry) three.1), not_is (list_any here (held_after events)) two.1)

  pub is_first_board : is_first terms.boards entry.board ≡ true
  is_first_board = (open_parts.0).0

  unpublished : published_in terms.boards events entry ≡ None
  unpublished = (open_parts.0).1

  kept_free : list_any here kept ≡ false
  kept_free = ap (list_any here) (sym works.held) ∙ open_parts.1

  fresh : list_any here (given_in events) ≡ false
  fresh = go (list_any here (given_in events)) refl
    where
      not_before : (grant : Grant) → here grant ≡ true → (is_some (published_in terms.boards events grant.entry) ≡ true) ⊎ Among grant kept → ⊥
      not_before older is (inl published) =
          let same : older.entry ≡ entry = same_entry older.entry entry (eqb-true (place_of older.entry) (place_of entry) is) in
          both_ways (is_some (published_in terms.boards events entry)) (ap (λ (o : Option ℕ). is_some o) unpublished)
          (ap (λ (e : Entry). is_some (published_in terms.boards events e)) (sym same) ∙ published)
      not_before older is (inr among) = both_ways (list_any here kept) kept_free (among_any here kept older among is)

      go : (b : Bool) → list_any here (given_in events) ≡ b → b ≡ false
      go true e = let found = any_among here (given_in events) e in absurd (not_before found.0 found.2 (works.each found.0 found.1))
      go false e = refl

  leased_given : given_in leased ≡ given_in events ++ grant ∷ []
  leased_given = given_push events lease_event

  leased_held : held_after leased ≡ kept ++ grant ∷ []
  leased_held =
      held_push events lease_event
      ∙ ap (λ (held : List Grant). held ++ grant ∷ []) (filter_all (is_left_by lease_event) (held_after events) (λ g. refl) ∙ works.held)

  leased_published : (e : Entry) → published_in terms.boards leased e ≡ published_in terms.boards events e
  leased_published e = published_push (are_twins terms.boards e) events lease_event ∙ option_or_none (published_in terms.boards events e)

  leased_timed : AreTimed (λ moment. moment ≡ now) leased
  leased_timed = All-push (λ (event : Event). IsTimed (λ moment. moment ≡ now) event.asked) events lease_event works.timed refl

  leased_count : (place : ℕ) → times_leased leased place ≡ times_leased events place + one_if (nat_eq (place_of entry) place)
  leased_count place = ap (count_by (is_for_place place)) leased_given ∙ sum_by_push (λ (g : Grant). cond (is_for_place place g) 1 0) (given_in events) grant

  leased_still : (place : ℕ) → 1 ≤ times_leased events place → 1 ≤ times_leased leased place
  leased_still place before = let count = leased_count place in omega (arith, count, before)

  leased_own : 1 ≤ times_leased leased (place_of entry)
  leased_own =
      let count = leased_count (place_of entry) in
      let one : one_if (nat_eq (place_of entry) (place_of entry)) ≡ 1 = ap one_if (eq-eqb (place_of entry) (place_of entry) refl) in
      omega (arith, count, one)

  leased_once : (place : ℕ) → times_leased leased place ≤ 1
  leased_once place = go (nat_eq (place_of entry) place) refl (leased_count place)
    where
      go : (b : Bool) → nat_eq (place_of entry) place ≡ b → times_leased leased place ≡ times_leased events place + one_if (nat_eq (place_of entry) place) → times_leased leased place ≤ 1
      go true e count =
          let none : times_leased events place ≡ 0 =
          subst (λ (n : ℕ). times_leased events n ≡ 0) (eqb-true (place_of entry) place e) (count_none here (given_in events) fresh) in
          let one : one_if (nat_eq (place_of entry) place) ≡ 1 = ap one_if e in
          omega (arith, count, none, one)
      go false e count =
          let before = works.once place in
          let none : one_if (nat_eq (place_of entry) place) ≡ 0 = ap one_if e in
          omega (arith, count, none, before)

  leased_settled : (weight : ℕ → ℕ) → settled_in weight leased ≡ settled_in weight events + 0
  leased_settled weight = sum_by_push (λ (event : Event). settled_by weight event.asked) events lease_event

  leased_weight : (weight : ℕ → ℕ) → weight_given_in weight leased ≡ weight_given_in weight events + weight lease
  leased_weight weight = sum_by_push (λ (event : Event). weight_given_by weight event.asked event.reply) events lease_event

  leased_length : length (given_in leased) ≡ length (given_in events) + 1
  leased_length = ap length leased_given ∙ length_push (given_in events) grant

  given_then : (g : Grant) → Among g (given_in leased) → Among g (given_in events) ⊎ (grant ≡ g)
  given_then g among = go (among_append (given_in events) (grant ∷ []) g (subst (λ (gs : List Grant). Among g gs) leased_given among))
    where
      go : Among g (given_in events) ⊎ Among g (grant ∷ []) → Among g (given_in events) ⊎ (grant ≡ g)
      go (inl older) = inl older
      go (inr (inl is)) = inr is
      go (inr (inr none)) = absurd none

  -- an entry of which nothing was shown
  pub kept_on : get_or firsts (place_of entry) None ≡ None → Works terms now firsts leased (kept ++ grant ∷ [])
  kept_on none =
      record {
        held = leased_held;
        within =
            let number = next.next in
            within_push 1 (length (given_in events) + 1) (length (given_in leased) + 1) kept grant works.within (omega (arith, number)) (omega (arith, number, leased_length));
        weighed = λ weight.
            let before = works.weighed weight in
            let heavier : weight_of weight (kept ++ grant ∷ []) ≡ weight_of weight kept + weight lease = sum_by_push (λ (g : Grant). weight g.lease) kept grant in
            omega (arith, before, heavier, leased_settled weight, leased_weight weight);
        timed = leased_timed;
        each = λ g among. each g (given_then g among);
        once = leased_once;
        unshown = λ g among. unshown g (among_append kept (grant ∷ []) g among);
        published = λ e k first is. let before = works.published e k first (sym (leased_published e) ∙ is) in (before.0, before.1, before.2, leased_still (place_of e) before.3);
      }
    where
      older : (g : Grant) → (is_some (published_in terms.boards events g.entry) ≡ true) ⊎ Among g kept → (is_some (published_in terms.boards leased g.entry) ≡ true) ⊎ Among g (kept ++ grant ∷ [])
      older g (inl is) = inl (ap (λ (o : Option ℕ). is_some o) (leased_published g.entry) ∙ is)
      older g (inr among) = inr (among_left kept (grant ∷ []) g among)

      each : (g : Grant) → Among g (given_in events) ⊎ (grant ≡ g) → (is_some (published_in terms.boards leased g.entry) ≡ true) ⊎ Among g (kept ++ grant ∷ [])
      each g (inl before) = older g (works.each g before)
      each g (inr is) = inr (subst (λ (x : Grant). Among x (kept ++ grant ∷ [])) is (among_last kept grant))

      unshown : (g : Grant) → Among g kept ⊎ Among g (grant ∷ []) → (get_or firsts (place_of g.entry) None ≡ None) × (1 ≤ times_leased leased (place_of g.entry))
      unshown g (inl before) = let was = works.unshown g before in (was.0, leased_still (place_of g.entry) was.1)
      unshown g (inr (inl is)) = subst (λ (x : Grant). (get_or firsts (place_of x.entry) None ≡ None) × (1 ≤ times_leased leased (place_of x.entry))) is (none, leased_own)
      unshown g (inr (inr never)) = absurd never

  -- an entry whose first proof is handed in
  module _ (shown : Shown) (has : get_or firsts (place_of entry) None ≡ Some shown) (is_for : IsFor terms.boards entry shown) (reply : Reply)
      (is : IsReply terms leased (HandIn lease entry (Shows shown)) reply) where
    abbrev hand_event : Reply → Event
    hand_event r = record { asked = HandIn lease entry (Shows shown); reply = r }

    abbrev handed : List Event
    handed = leased ++ hand_event reply ∷ []

    found : grant_of leased lease ≡ Some grant
    found =
        ap (find (is_numbered lease)) leased_given
        ∙ find-append (is_numbered lease) (given_in events) (grant ∷ [])
        ∙ ap (λ (o : Option Grant). option_or o (find (is_numbered lease) (grant ∷ []))) (find_above 1 (given_in events) lease (numbered terms events legal) (let number = next.next in omega (arith, number)))
        ∙ ap (λ (b : Bool). cond b (Some grant) None) (eq-eqb lease lease refl)

    right : is_evidence_for terms.boards entry (Shows shown) ≡ true
    right =
        ap (λ (o : Option Deal). is_shown_for o entry shown) is_for.deal_is
        ∙ and_from (is_same_deal shown.layout shown.layout) (nat_eq (contract_place entry.declarer entry.trump) (contract_place shown.declarer shown.trump)) (this_itself shown.layout)
        (eq-eqb (contract_place entry.declarer entry.trump) (contract_place shown.declarer shown.trump)
        (ap (λ (s : Seat). contract_place s entry.trump) (sym is_for.declarer_is) ∙ ap (λ (t : Trump). contract_place shown.declarer t) (sym is_for.trump_is)))

    reply_is : reply ≡ Published shown.k
    reply_is =
        is
        ∙ ap (λ (o : Option Grant). hand_in_reply terms leased o entry (Shows shown)) found
        ∙ ap (λ (b : Bool). cond b (cond (is_some (published_in terms.boards leased entry)) AlreadyPublished (Published shown.k)) OtherEntry)
        (and_from (is_same_entry entry entry) (is_evidence_for terms.boards entry (Shows shown)) (eq-eqb (place_of entry) (place_of entry) refl) right)
        ∙ ap (λ (o : Option ℕ). cond (is_some o) AlreadyPublished (Published shown.k)) (leased_published entry ∙ unpublished)

    handed_given : given_in handed ≡ given_in leased
    handed_given =
        given_push leased (hand_event reply)
        ∙ ap (λ (r : Reply). given_in leased ++ cons_option (given_as r) []) reply_is
        ∙ append-nil (given_in leased)

    handed_still : (place : ℕ) → 1 ≤ times_leased leased place → 1 ≤ times_leased handed place
    handed_still place = subst (λ (gs : List Grant). 1 ≤ count_by (is_for_place place) gs) (sym handed_given)

    handed_held : held_after handed ≡ kept
    handed_held =
        held_push leased (hand_event reply)
        ∙ ap (λ (r : Reply). filter (is_left_by (hand_event r)) (held_after leased) ++ cons_option (given_as r) []) reply_is
        ∙ append-nil (filter (is_left_by (hand_event (Published shown.k))) (held_after leased))
        ∙ ap (filter (is_left_by (hand_event (Published shown.k)))) leased_held
        ∙ filter-append (is_left_by (hand_event (Published shown.k))) kept (grant ∷ [])
        ∙ ap (λ (gs : List Grant). gs ++ filter (is_left_by (hand_event (Published shown.k))) (grant ∷ [])) (filter_none here kept kept_free)
        ∙ ap (λ (b : Bool). kept ++ cond (not b) (grant ∷ []) []) (eq-eqb (place_of entry) (place_of entry) refl)
        ∙ append-nil kept

    handed_published : (e : Entry) → published_in terms.boards handed e ≡ option_or (published_in terms.boards events e) (cond (are_twins terms.boards e entry) (Some shown.k) None)
    handed_published e =
        published_push (are_twins terms.boards e) leased (hand_event reply)
        ∙ ap (λ (r : Reply). option_or (published_in terms.boards leased e) (number_for (are_twins terms.boards e entry) r)) reply_is
        ∙ ap (λ (o : Option ℕ). option_or o (cond (are_twins terms.boards e entry) (Some shown.k) None)) (leased_published e)

    own_number : published_in terms.boards handed entry ≡ Some shown.k
    own_number =
        handed_published entry
        ∙ ap (λ (o : Option ℕ). option_or o (cond (are_twins terms.boards entry entry) (Some shown.k) None)) unpublished
        ∙ ap (λ (b : Bool). cond b (Some shown.k) None) (twins_of terms.boards entry entry shown.layout is_for.deal_is is_for.deal_is refl)

    handed_settled : (weight : ℕ → ℕ) → settled_in weight handed ≡ settled_in weight leased + weight lease
    handed_settled weight = sum_by_push (λ (event : Event). settled_by weight event.asked) leased (hand_event reply)

    handed_weight : (weight : ℕ → ℕ) → weight_given_in weight handed ≡ weight_given_in weight leased + 0
    handed_weight weight = sum_by_push (λ (event : Event). weight_given_by weight event.asked event.reply) leased (hand_event reply)

    pub handed_on : Works terms now firsts handed kept
    handed_on =
        record {
          held = handed_held;
          within =
              let same = ap length handed_given in
              within_higher 1 (length (given_in events) + 1) (length (given_in handed) + 1) kept works.within (omega (arith, same, leased_length));
          weighed = λ weight.
              let before = works.weighed weight in
              omega (arith, before, leased_settled weight, leased_weight weight, handed_settled weight, handed_weight weight);
          timed = All-push (λ (event : Event). IsTimed (λ moment. moment ≡ now) event.asked) leased (hand_event reply) leased_timed tt;
          each = λ g among. each g (given_then g (subst (λ (gs : List Grant). Among g gs) handed_given among));
          once = λ place. subst (λ (gs : List Grant). count_by (is_for_place place) gs ≤ 1) (sym handed_given) (leased_once place);
          unshown = λ g among. let was = works.unshown g among in (was.0, handed_still (place_of g.entry) (leased_still (place_of g.entry) was.1));
          published = λ e k first number. published e k first (published_in terms.boards events e) refl (sym (handed_published e) ∙ number);
        }
      where
        older : (g : Grant) → (is_some (published_in terms.boards events g.entry) ≡ true) ⊎ Among g kept → (is_some (published_in terms.boards handed g.entry) ≡ true) ⊎ Among g kept
        older g (inl some) =
            inl (ap (λ (o : Option ℕ). is_some o) (handed_published g.entry)
            ∙ still_some (published_in terms.boards events g.entry) (cond (are_twins terms.boards g.entry entry) (Some shown.k) None) some)
        older g (inr among) = inr among

        each : (g : Grant) → Among g (given_in events) ⊎ (grant ≡ g) → (is_some (published_in terms.boards handed g.entry) ≡ true) ⊎ Among g kept
        each g (inl before) = older g (works.each g before)
        each g (inr same) = inl (ap (λ (x : Grant). is_some (published_in terms.boards handed x.entry)) (sym same) ∙ ap (λ (o : Option ℕ). is_some o) own_number)

        by_twin : (e : Entry) (k : ℕ) → is_first terms.boards e.board ≡ true → (b : Bool) → are_twins terms.boards e entry ≡ b → cond b (Some shown.k) None ≡ Some k
            → (s : Shown) × (get_or firsts (place_of e) None ≡ Some s) × (s.k ≡ k) × (1 ≤ times_leased handed (place_of e))
        by_twin e k first true twins number =
            let place : place_of entry ≡ place_of e =
            eqb-true (place_of entry) (place_of (twin_of terms.boards e)) (sym (only_twin terms.boards e entry is_first_board) ∙ twins) ∙ ap place_of (twin_itself terms.boards e first) in
            let own = subst (λ (n : ℕ). 1 ≤ times_leased leased n) place leased_own in
            (shown, ap (λ (n : ℕ). get_or firsts n None) (sym place) ∙ has, same_Some shown.k k number, handed_still (place_of e) own)
        by_twin e k first false twins number = absurd (none-some k number)

        published : (e : Entry) (k : ℕ) → is_first terms.boards e.board ≡ true → (o : Option ℕ) → published_in terms.boards events e ≡ o
            → option_or (published_in terms.boards events e) (cond (are_twins terms.boards e entry) (Some shown.k) None) ≡ Some k
            → (s : Shown) × (get_or firsts (place_of e) None ≡ Some s) × (s.k ≡ k) × (1 ≤ times_leased handed (place_of e))
        published e k first (Some old) before number =
            let was = works.published e k first (before ∙ sym (ap (λ (o : Option ℕ). option_or o (cond (are_twins terms.boards e entry) (Some shown.k) None)) before) ∙ number) in
            (was.0, was.1, was.2, handed_still (place_of e) (leased_still (place_of e) was.3))
        published e k first None before number =
            by_twin e k first (are_twins terms.boards e entry) refl (sym (ap (λ (o : Option ℕ). option_or o (cond (are_twins terms.boards e entry) (Some shown.k) None)) before) ∙ number)

-- ---- no entry is open any more
lacks : (first unpublished free left : Bool) → (((first && unpublished) && free) && left) ≡ false → first ≡ true → unpublished ≡ true → (free ≡ false) ⊎ (left ≡ false)
lacks true true true left h f u = inr h
lacks true true false left h f u = inl refl
lacks true false free left h f u = cc
lacks false unpublished free left h f u = cc

is_held : (b : Bool) → not b ≡ false → b ≡ true
is_held true h = refl
is_held false h = cc

module _ (terms : Terms) (now : ℕ) (firsts : List (Option Shown)) (events : List Event) (kept : List Grant) (works : Works terms now firsts events kept)
    (tries : 1 ≤ terms.tries) (shut : (e : Entry) → is_open terms events e ≡ false) where
  -- an entry without a number was leased, and nothing was shown of it
  not_published : (entry : Entry) → is_first terms.boards entry.board ≡ true → published_in terms.boards events entry ≡ None → (get_or firsts (place_of entry) None ≡ None) × (1 ≤ times_leased events (place_of entry))
  not_published entry first none =
      go (lacks (is_first terms.boards entry.board) (is_none (published_in terms.boards events entry))
      (not (list_any (is_for_place (place_of entry)) (held_after events))) (nat_lt (times_leased events (place_of entry)) terms.tries)
      (shut entry) first (ap (λ (o : Option ℕ). is_none o) none))
    where
      Unshown : ℕ → Type 0
      Unshown place = (get_or firsts place None ≡ None) × (1 ≤ times_leased events place)

      of_kept : (grant : Grant) → Among grant kept → is_for_place (place_of entry) grant ≡ true → Unshown (place_of entry)
      of_kept grant among is = subst Unshown (eqb-true (place_of grant.entry) (place_of entry) is) (works.unshown grant among)

      of_given : (grant : Grant) → is_for_place (place_of entry) grant ≡ true → (is_some (published_in terms.boards events grant.entry) ≡ true) ⊎ Among grant kept → Unshown (place_of entry)
      of_given grant is (inl some) =
          let same : grant.entry ≡ entry = same_entry grant.entry entry (eqb-true (place_of grant.entry) (place_of entry) is) in
          absurd (both_ways (is_some (published_in terms.boards events entry)) (ap (λ (o : Option ℕ). is_some o) none)
          (ap (λ (e : Entry). is_some (published_in terms.boards events e)) (sym same) ∙ some))
      of_given grant is (inr among) = of_kept grant among is

      at_least : (times : ℕ) → nat_lt times terms.tries ≡ false → 1 ≤ times
      at_least times h = omega (arith, tries, ltb-false times terms.tries h)

      go : (not (list_any (is_for_place (place_of entry)) (held_after events)) ≡ false) ⊎ (nat_lt (times_leased events (place_of entry)) terms.tries ≡ false) → Unshown (place_of entry)
      go (inl h) =
          let found = any_among (is_for_place (place_of entry)) kept (ap (list_any (is_for_place (place_of entry))) (sym works.held) ∙ is_held (list_any (is_for_place (place_of entry)) (held_after events)) h) in
          of_kept found.0 found.1 found.2
      go (inr h) =
          let found = any_among (is_for_place (place_of entry)) (given_in events) (counted (is_for_place (place_of entry)) (given_in events) (at_least (times_leased events (place_of entry)) h)) in
          of_given found.0 found.2 (works.each found.0 found.1)

  -- each entry of a first board has the number that is in its place
  all_published : (entry : Entry) → is_first terms.boards entry.board ≡ true → published_in terms.boards events entry ≡ tricks_in (get_or firsts (place_of entry) None)
  all_published entry first = go (published_in terms.boards events entry) refl
    where
      go : (o : Option ℕ) → published_in terms.boards events entry ≡ o → published_in terms.boards events entry ≡ tricks_in (get_or firsts (place_of entry) None)
      go None is = is ∙ sym (ap tricks_in (not_published entry first is).0)
      go (Some k) is =
          let has = works.published entry k first is in
          is ∙ ap (λ (n : ℕ). Some n) (sym has.2) ∙ sym (ap tricks_in has.1)

  all_leased : (entry : Entry) → is_first terms.boards entry.board ≡ true → times_leased events (place_of entry) ≡ 1
  all_leased entry first =
      let most = works.once (place_of entry) in
      let least = go (published_in terms.boards events entry) refl in
      omega (arith, most, least)
    where
      go : (o : Option ℕ) → published_in terms.boards events entry ≡ o → 1 ≤ times_leased events (place_of entry)
      go None is = (not_published entry first is).1
      go (Some k) is = (works.published entry k first is).3

  abbrev nothing_event : Event
  nothing_event = record { asked = Lease now; reply = Nothing }

  abbrev ended : List Event
  ended = events ++ nothing_event ∷ []

  ended_given : given_in ended ≡ given_in events
  ended_given = given_push events nothing_event ∙ append-nil (given_in events)

  ended_settled : (weight : ℕ → ℕ) → settled_in weight ended ≡ settled_in weight events + 0
  ended_settled weight = sum_by_push (λ (event : Event). settled_by weight event.asked) events nothing_event

  ended_weight : (weight : ℕ → ℕ) → weight_given_in weight ended ≡ weight_given_in weight events + 0
  ended_weight weight = sum_by_push (λ (event : Event). weight_given_by weight event.asked event.reply) events nothing_event

  pub hands_in : (old new : Ledger) → terms ≡ old.terms → new ≡ record { terms = terms; events = ended } → HandsInFirsts old new now firsts kept
  hands_in old new terms_are is =
      subst (λ (b : Ledger). HandsInFirsts old b now firsts kept) (sym is)
      (record {
        terms_are = terms_are;
        held = held_push events nothing_event ∙ append-nil (filter (is_left_by nothing_event) (held_after events)) ∙ filter_all (is_left_by nothing_event) (held_after events) (λ g. refl) ∙ works.held;
        rising = (length (given_in events) + 1, works.within);
        settled = λ weight. let before = works.weighed weight in omega (arith, before, ended_settled weight, ended_weight weight);
        timed = All-push (λ (event : Event). IsTimed (λ moment. moment ≡ now) event.asked) events nothing_event works.timed refl;
        leased = λ entry first. ap (count_by (is_for_place (place_of entry))) ended_given ∙ all_leased entry first;
        leased_once = λ place. subst (λ (gs : List Grant). count_by (is_for_place place) gs ≤ 1) (sym ended_given) (works.once place);
        published = λ entry first. published_push (are_twins terms.boards entry) events nothing_event ∙ option_or_none (published_in terms.boards events entry) ∙ all_published entry first;
      })
