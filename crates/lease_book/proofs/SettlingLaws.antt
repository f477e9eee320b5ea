-- Leases that are settled once.
use Rattle.std.proofs.Common.{◌≡◌, ℕ, ◌+◌, ◌≤◌, Bool, true, false, cond, List, [], ◌∷◌, ◌++◌, Option, None, Some, sum_by, refl, sym, ◌∙◌, ap, ◌⊎◌, inl, inr, arith}
use Rattle.std.specs.Prelude.{nat_eq}
use Rattle.std.specs.List.{find, list_any, cons_option}
use Rattle.std.proofs.lemmas.Bool.{or_parts, eq-eqb}
use Rattle.std.proofs.lemmas.List.Sums.{sum_by_push, sum_by-append, sum_by-cons}
use Rattle.std.proofs.lemmas.Option.{none-some}
use Rattle.lease_book.specs.declared.events.Grant.{Grant}
use Rattle.lease_book.specs.declared.events.Asked.{Asked}
use Rattle.lease_book.specs.declared.events.Asked.TheVariants.{Lease, Expire, GiveUp, HandIn}
use Rattle.lease_book.specs.declared.events.Reply.{Reply}
use Rattle.lease_book.specs.declared.events.Reply.TheVariants.{Given, Nothing}
use Rattle.lease_book.specs.declared.events.Event.{Event}
use Rattle.lease_book.specs.Histories.{Terms, given_as, held_after, unless_freed, frees, is_for_place}
use Rattle.lease_book.specs.Histories.{given_by as grant_by, given_in as granted}
use Rattle.lease_book.specs.Replies.{IsReply, IsLegal}
use Rattle.lease_book.specs.Keeping.{Among}
use Rattle.lease_book.specs.Done.{number_of, holder_in}
use Rattle.lease_book.specs.Settling.{given_by, settled_by, settles, is_settled, given_in, settled_in, AreSettledOnce}
use Rattle.lease_book.proofs.HistoryLaws.{given_push}
use Rattle.lease_book.proofs.HeldLaws.{among_append, find_among}
use Rattle.lease_book.proofs.LegalLaws.{carried, gives_none}

-- ---- what is given, by the grants
module _ (weight : ℕ → ℕ) where
  abbrev weigh : Grant → ℕ
  weigh grant = weight grant.lease

  none_given : (given : Option Grant) → given ≡ None → 0 ≡ sum_by weigh (cons_option given [])
  none_given given none = sym (ap (λ (o : Option Grant). sum_by weigh (cons_option o [])) none)

  weighed_as : (terms : Terms) (before : List Event) (asked : Asked) (reply : Reply) → IsReply terms before asked reply → given_by weight asked reply ≡ sum_by weigh (cons_option (given_as reply) [])
  weighed_as terms before (Lease now) (Given lease entry deadline) is = omega arith
  weighed_as terms before (Lease now) Nothing is = refl
  weighed_as terms before (Lease now) reply is = absurd is
  weighed_as terms before (Expire now) reply is = none_given (given_as reply) (gives_none terms before (Expire now) reply is (λ moment e. cc))
  weighed_as terms before (GiveUp lease) reply is = none_given (given_as reply) (gives_none terms before (GiveUp lease) reply is (λ moment e. cc))
  weighed_as terms before (HandIn lease entry evidence) reply is =
      none_given (given_as reply) (gives_none terms before (HandIn lease entry evidence) reply is (λ moment e. cc))

  pub given_is : (terms : Terms) (events : List Event) → IsLegal terms events → given_in weight events ≡ sum_by weigh (granted events)
  given_is terms events legal = carried (λ all. given_in weight all ≡ sum_by weigh (granted all)) terms push [] events legal refl
    where
      push : (before : List Event) (event : Event) → given_in weight before ≡ sum_by weigh (granted before) → IsReply terms before event.asked event.reply
          → given_in weight (before ++ event ∷ []) ≡ sum_by weigh (granted (before ++ event ∷ []))
      push before event same reply =
          sum_by_push (λ (e : Event). given_by weight e.asked e.reply) before event
          ∙ ap (λ n. n + given_by weight event.asked event.reply) same
          ∙ ap (λ n. sum_by weigh (granted before) + n) (weighed_as terms before event.asked event.reply reply)
          ∙ sym (ap (sum_by weigh) (given_push before event) ∙ sum_by-append weigh (granted before) (cons_option (grant_by event) []))

-- ---- one lease apart from the others
module _ (lease : ℕ) (weight : ℕ → ℕ) where
  abbrev others : ℕ → ℕ
  others number = cond (nat_eq number lease) 0 (weight number)

  others_less : (number : ℕ) → others number ≤ weight number
  others_less number = go (nat_eq number lease)
    where
      go : (b : Bool) → cond b 0 (weight number) ≤ weight number
      go true = omega arith
      go false = omega arith

  unsettled_by : (asked : Asked) → settles lease asked ≡ false → settled_by weight asked ≡ settled_by others asked
  unsettled_by (Lease now) none = refl
  unsettled_by (Expire now) none = refl
  unsettled_by (GiveUp other) none = sym (ap (λ b. cond b 0 (weight other)) none)
  unsettled_by (HandIn other entry evidence) none = sym (ap (λ b. cond b 0 (weight other)) none)

  unsettled : (events : List Event) → is_settled lease events ≡ false → settled_in weight events ≡ settled_in others events
  unsettled [] none = refl
  unsettled (event ∷ events) none =
      let parts = or_parts (settles lease event.asked) (is_settled lease events) none in
      let here = unsettled_by event.asked parts.0 in
      let rest = unsettled events parts.1 in
      omega (arith, sum_by-cons (λ (e : Event). settled_by weight e.asked) event events, sum_by-cons (λ (e : Event). settled_by others e.asked) event events)

  less : (grants : List Grant) → sum_by (weigh others) grants ≤ sum_by (weigh weight) grants
  less [] = omega arith
  less (first ∷ rest) =
      let later = less rest in
      let here = others_less first.lease in
      omega (arith, sum_by-cons (weigh others) first rest, sum_by-cons (weigh weight) first rest)

  without : (grants : List Grant) (grant : Grant) → Among grant grants → grant.lease ≡ lease → sum_by (weigh others) grants + weight lease ≤ sum_by (weigh weight) grants
  without [] grant m same = elim m [ ]
  without (first ∷ rest) grant (inl is) same =
      let own : first.lease ≡ lease = ap (λ (g : Grant). g.lease) is ∙ same in
      let none : others first.lease ≡ 0 = ap (λ b. cond b 0 (weight first.lease)) (eq-eqb first.lease lease own) in
      let whole = ap weight own in
      let later = less rest in
      omega (arith, sum_by-cons (weigh others) first rest, sum_by-cons (weigh weight) first rest)
  without (first ∷ rest) grant (inr m) same =
      let later = without rest grant m same in
      let here = others_less first.lease in
      omega (arith, sum_by-cons (weigh others) first rest, sum_by-cons (weigh weight) first rest)

-- a lease that is held was given
pub held_given : (events : List Event) (grant : Grant) → Among grant (held_after events) → Among grant (granted events)
held_given [] grant m = m
held_given (event ∷ later) grant m = go (grant_by event) (held_given later grant) (among_append (unless_freed (grant_by event) later) (held_after later) grant m)
  where
    kept : (first : Grant) (freed : Bool) → Among grant (cond freed [] (first ∷ [])) → first ≡ grant
    kept first true n = elim n [ ]
    kept first false (inl is) = is
    kept first false (inr n) = elim n [ ]

    go : (own : Option Grant) → (Among grant (held_after later) → Among grant (granted later)) → Among grant (unless_freed own later) ⊎ Among grant (held_after later) → Among grant (cons_option own (granted later))
    go None rest (inl n) = elim n [ ]
    go None rest (inr n) = rest n
    go (Some first) rest (inl n) = inl (kept first (list_any (frees first) later) n)
    go (Some first) rest (inr n) = inr (rest n)

-- the grant of the lease that is held in a place
pub record IsHolder (events : List Event) (place lease : ℕ) : Type 0 where
  pub grant : Grant
  pub held : Among grant (held_after events)
  pub number_is : grant.lease ≡ lease

pub holder_is : (events : List Event) (place lease : ℕ) → holder_in events place ≡ Some lease → IsHolder events place lease
holder_is events place lease is = go (find (is_for_place place) (held_after events)) refl is
  where
    go : (found : Option Grant) → find (is_for_place place) (held_after events) ≡ found → number_of found ≡ Some lease → IsHolder events place lease
    go None f is = absurd (none-some lease is)
    go (Some grant) f is = record {
      grant = grant;
      held = (find_among (is_for_place place) (held_after events) grant f).0;
      number_is = let same : Some grant.lease ≡ Some lease = is in cc;
    }

-- a lease that is held and was not settled may be given up
pub settled_more : (terms : Terms) (events : List Event) (lease : ℕ) (grant : Grant) (reply : Reply) → IsLegal terms events → Among grant (held_after events) → grant.lease ≡ lease → is_settled lease events ≡ false
    → AreSettledOnce events → AreSettledOnce (events ++ record { asked = GiveUp lease; reply = reply } ∷ [])
settled_more terms events lease grant reply legal held same none once weight =
    let event : Event = record { asked = GiveUp lease; reply = reply } in
    let settled = sum_by_push (λ (e : Event). settled_by weight e.asked) events event in
    let given = sum_by_push (λ (e : Event). given_by weight e.asked e.reply) events event in
    let all = given_is weight terms events legal in
    let rest = given_is (others lease weight) terms events legal in
    let apart = without lease weight (granted events) grant (held_given events grant held) same in
    let so_far = once (others lease weight) in
    let not_yet = unsettled lease weight events none in
    omega arith
