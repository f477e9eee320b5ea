-- What rounds add to the history of a book, one after another.
use Rattle.std.proofs.Common.{◌≡◌, ℕ, ◌+◌, ◌-◌, ◌^◌, min, All, false, List, [], ◌∷◌, ◌++◌, Contains, Some, refl, sym, ap, ◌∙◌, subst, arith, append_assoc, append-nil}
use Rattle.std.proofs.lemmas.List.Elements.{All-nil, All-cons, All-head, All-tail, All-append, All-weaker, Contains-append_left, Contains-append_right}
use Rattle.std.proofs.lemmas.List.Sums.{sum_by-append, sum_by-cons}
use Rattle.lease_book.specs.declared.events.Asked.{Asked}
use Rattle.lease_book.specs.declared.events.Asked.TheVariants.{Lease, GiveUp}
use Rattle.lease_book.specs.declared.events.Reply.{Reply}
use Rattle.lease_book.specs.declared.events.Reply.TheVariants.{Nothing, Given}
use Rattle.lease_book.specs.declared.events.Event.{Event}
use Rattle.lease_book.specs.Books.{Ledger, IsAnswered}
use Rattle.lease_book.specs.Done.{IsDone, holder_in}
use Rattle.lease_book.specs.Replies.{IsLegal}
use Rattle.lease_book.specs.TrueHistories.{IsTrueHistory}
use Rattle.lease_book.proofs.SettlingLaws.{holder_is, settled_more}
use Rattle.lease_book.specs.Moments.{MayTell, IsTimed}
use Rattle.lease_book.specs.Settling.{given_by, settled_by, is_settled, AreSettledOnce}
use Rattle.farm.specs.Leases.{given_up_by, handed_in_by}
use Rattle.farm.specs.Flows.{of_tasks}
use Rattle.farm.specs.Asks.{Ask, claimed_in, vain_in, steps_in, as_counted}
use Rattle.farm.specs.Searched.{AreAskedFor, IsLeased}
use Rattle.farm.specs.Rounds.{IsGiveUp, TakesBack, IsRound, GoesOn, GoesRound, EndsRounds}

-- what is settled once in two parts of a history is so in the whole
both_once : (one other : List Event) → AreSettledOnce one → AreSettledOnce other → AreSettledOnce (one ++ other)
both_once one other first second weight =
    let a = first weight in
    let b = second weight in
    let settled = sum_by-append (λ (e : Event). settled_by weight e.asked) one other in
    let given = sum_by-append (λ (e : Event). given_by weight e.asked e.reply) one other in
    omega arith

-- ---- leases that are taken back
pub back_then : (first between last : Ledger) → TakesBack first between → TakesBack between last → TakesBack first last
back_then first between last one other = record {
  terms_are = other.terms_are ∙ one.terms_are;
  later = one.later ++ other.later;
  events_are = other.events_are ∙ ap (λ (l : List Event). l ++ other.later) one.events_are ∙ append_assoc first.events one.later other.later;
  given_up = All-append IsGiveUp one.later other.later one.given_up other.given_up;
  settled = λ once. other.settled (one.settled once);
}

pub one_back : (old new : Ledger) (place lease : ℕ) (reply : Reply) → IsLegal old.terms old.events → holder_in old.events place ≡ Some lease → is_settled lease old.events ≡ false → IsAnswered old new (GiveUp lease) reply → TakesBack old new
one_back old new place lease reply legal held unsettled answered =
    let event : Event = record { asked = GiveUp lease; reply = reply } in
    let events : new.events ≡ old.events ++ event ∷ [] = ap (λ (b : Ledger). b.events) answered.history in
    let holder = holder_is old.events place lease held in
    record {
      terms_are = ap (λ (b : Ledger). b.terms) answered.history;
      later = event ∷ [];
      events_are = events;
      given_up = All-cons IsGiveUp event [] (lease, refl) (All-nil IsGiveUp);
      settled = λ once. subst AreSettledOnce (sym events) (settled_more old.terms old.events lease holder.grant reply legal holder.held holder.number_is unsettled once);
    }

-- ---- a history that goes on
give_up_untimed : (may_tell : MayTell) (event : Event) → IsGiveUp event → IsTimed may_tell event.asked
give_up_untimed may_tell event is = subst (λ (a : Asked). IsTimed may_tell a) (sym is.1) tt

module _ (may_tell : MayTell) where
  pub stays : (book : Ledger) → GoesOn may_tell book book
  stays book = record {
    terms_are = refl;
    later = [];
    events_are = sym (append-nil book.events);
    timed = All-nil (λ (e : Event). IsTimed may_tell e.asked);
    settled = λ once. once;
  }

  pub on_then : (first between last : Ledger) → GoesOn may_tell first between → GoesOn may_tell between last → GoesOn may_tell first last
  on_then first between last one other = record {
    terms_are = other.terms_are ∙ one.terms_are;
    later = one.later ++ other.later;
    events_are = other.events_are ∙ ap (λ (l : List Event). l ++ other.later) one.events_are ∙ append_assoc first.events one.later other.later;
    timed = All-append (λ (e : Event). IsTimed may_tell e.asked) one.later other.later one.timed other.timed;
    settled = λ once. other.settled (one.settled once);
  }

  pub back_on : (old new : Ledger) → TakesBack old new → GoesOn may_tell old new
  back_on old new back = record {
    terms_are = back.terms_are;
    later = back.later;
    events_are = back.events_are;
    timed = All-weaker IsGiveUp (λ (e : Event). IsTimed may_tell e.asked) (give_up_untimed may_tell) back.later back.given_up;
    settled = back.settled;
  }

  pub round_on : {is_asked : Ask → Type 0} (old new : Ledger) (steps : ℕ) → IsRound may_tell is_asked old new steps → GoesOn may_tell old new
  round_on old new steps round = record {
    terms_are = round.terms_are;
    later = round.later;
    events_are = round.events_are;
    timed = round.timed;
    settled = λ once. subst AreSettledOnce (sym round.events_are) (both_once old.events round.later once round.settled);
  }

  -- ---- what was asked for
  -- leases of events are leases of more events
  leased_on : (events more : List Event) (asks : List Ask) → ((e : Event) → Contains events e → Contains more e) → All (λ ask. All (IsLeased events) ask.tasks) asks → All (λ ask. All (IsLeased more) ask.tasks) asks
  leased_on events more asks on all =
      All-weaker (λ (k : Ask). All (IsLeased events) k.tasks) (λ (k : Ask). All (IsLeased more) k.tasks)
      (λ k own. All-weaker (IsLeased events) (IsLeased more) (λ task is. (is.0, is.1, on (record { asked = Lease is.0; reply = Given task.lease task.entry is.1 }) is.2)) k.tasks own)
      asks all

  module _ (is_asked : Ask → Type 0) where
    asked_none : AreAskedFor is_asked [] 0
    asked_none = record {
      asks = [];
      asked = All-nil is_asked;
      leased = All-nil (λ (k : Ask). All (IsLeased []) k.tasks);
      back = [];
      given_up = λ weight. refl;
      handed_in = λ weight. omega arith;
      settled = λ weight. omega arith;
      steps_are = refl;
    }

    asked_then : (one other : List Event) (first more : ℕ) → AreAskedFor is_asked one first → AreAskedFor is_asked other more → AreAskedFor is_asked (one ++ other) (first + more)
    asked_then one other first more before after = record {
      asks = before.asks ++ after.asks;
      asked = All-append is_asked before.asks after.asks before.asked after.asked;
      leased = All-append (λ (k : Ask). All (IsLeased (one ++ other)) k.tasks) before.asks after.asks (leased_on one (one ++ other) before.asks (λ e has. Contains-append_left one other e has) before.leased) (leased_on other (one ++ other) after.asks (λ e has. Contains-append_right one other e has) after.leased);
      back = before.back ++ after.back;
      given_up = λ weight.
          let a = before.given_up weight in
          let b = after.given_up weight in
          omega (
            arith,
            sum_by-append (λ (e : Event). given_up_by weight e.asked) one other,
            sum_by-append (λ (k : Ask). of_tasks weight (vain_in k)) before.asks after.asks,
            sum_by-append weight before.back after.back,
          );
      handed_in = λ weight.
          let a = before.handed_in weight in
          let b = after.handed_in weight in
          omega (
            arith,
            sum_by-append (λ (e : Event). handed_in_by weight e.asked) one other,
            sum_by-append (λ (k : Ask). of_tasks weight (claimed_in k)) before.asks after.asks,
          );
      settled = λ weight.
          let a = before.settled weight in
          let b = after.settled weight in
          omega (
            arith,
            sum_by-append (λ (e : Event). handed_in_by weight e.asked) one other,
            sum_by-append (λ (e : Event). given_by weight e.asked e.reply) one other,
            sum_by-append (λ (k : Ask). of_tasks weight (vain_in k)) before.asks after.asks,
          );
      steps_are =
          let a = before.steps_are in
          let b = after.steps_are in
          omega (arith, sum_by-append steps_in before.asks after.asks);
    }

    -- leases that are taken back
    asked_back : (later : List Event) → All IsGiveUp later → AreAskedFor is_asked later 0
    asked_back [] all = asked_none
    asked_back (e ∷ es) all =
        let first = All-head IsGiveUp e es all in
        let rest = asked_back es (All-tail IsGiveUp e es all) in
        record {
          asks = rest.asks;
          asked = rest.asked;
          leased = leased_on es (e ∷ es) rest.asks (λ x has. Contains-append_right (e ∷ []) es x has) rest.leased;
          back = first.0 ∷ rest.back;
          given_up = λ weight.
              let a = rest.given_up weight in
              let one = ap (given_up_by weight) first.1 in
              omega (arith, sum_by-cons (λ (e : Event). given_up_by weight e.asked) e es, sum_by-cons weight first.0 rest.back);
          handed_in = λ weight.
              let a = rest.handed_in weight in
              let one = ap (handed_in_by weight) first.1 in
              omega (arith, sum_by-cons (λ (e : Event). handed_in_by weight e.asked) e es);
          settled = λ weight.
              let a = rest.settled weight in
              let one = ap (handed_in_by weight) first.1 in
              omega (arith, sum_by-cons (λ (e : Event). handed_in_by weight e.asked) e es, sum_by-cons (λ (e : Event). given_by weight e.asked e.reply) e es);
          steps_are = rest.steps_are;
        }

    pub goes_none : (book : Ledger) → GoesRound may_tell is_asked book book 0
    unfolding stays
    goes_none book = record { on = stays book; all = 0; asked = asked_none; counted = refl }

    -- one round more
    pub goes_more : (first old round new : Ledger) (steps more total : ℕ) → total ≡ as_counted (steps + more)
        → GoesRound may_tell is_asked first old steps → IsRound may_tell is_asked old round more → TakesBack round new → GoesRound may_tell is_asked first new total
    unfolding on_then round_on back_on
    goes_more first old round new steps more total is goes worked back =
        let between = on_then first old round goes.on (round_on old round more worked) in record {
          on = on_then first round new between (back_on round new back);
          all = goes.all + worked.all + 0;
          asked =
              asked_then (goes.on.later ++ worked.later) back.later (goes.all + worked.all) 0
              (asked_then goes.on.later worked.later goes.all worked.all goes.asked worked.asked)
              (asked_back back.later back.given_up);
          counted = is ∙ counted_on (2 ^ 64 - 1) steps more goes.all worked.all goes.counted worked.counted;
        }
      where
        counted_on : (most steps more all late : ℕ) → steps ≡ min all most → more ≡ min late most → min (steps + more) most ≡ min (all + late + 0) most
        counted_on most steps more all late one other = omega arith

    pub finishes : (first old round new : Ledger) (steps more total : ℕ) → GoesRound may_tell is_asked first new total → IsRound may_tell is_asked old round more → TakesBack round new → IsDone new.terms new.events → IsTrueHistory new.terms new.events → EndsRounds may_tell is_asked first new total
    finishes first old round new steps more total goes worked back done history = record {
      round = goes;
      history = history;
      given_out =
          let now = worked.given_out.0 in
          let event : Event = record { asked = Lease now; reply = Nothing } in
          let there = Contains-append_right old.events worked.later event worked.given_out.1 in
          let whole = Contains-append_left (old.events ++ worked.later) back.later event there in
          (now, subst (λ (l : List Event). Contains l event) (sym (back.events_are ∙ ap (λ (l : List Event). l ++ back.later) worked.events_are)) whole);
      done = done;
    }
