-- What follows from the chairs of a run for the history of its book.
use Rattle.std.proofs.Common.{◌≡◌, ℕ, ◌+◌, ◌-◌, ◌<◌, ◌≤◌, List, [], ◌++◌, Contains, All, length, count_by, sum_by, refl, sym, ap, ◌∙◌, subst, ⊎_elim, arith, get_or}
use Rattle.std.proofs.lemmas.Bool.{eqb-true, eq-eqb, cases_lt}
use Rattle.std.proofs.lemmas.List.{length-append, get_or-append-add}
use Rattle.std.proofs.lemmas.Option.{get_or_from_slice_get, slice_get_within}
use Rattle.std.proofs.lemmas.List.Elements.{All-weaker, All-contains, Contains-push, Contains-append_left}
use Rattle.lease_book.specs.declared.events.Asked.TheVariants.{Lease}
use Rattle.lease_book.specs.declared.events.Reply.TheVariants.{Nothing, Given}
use Rattle.lease_book.specs.declared.events.Event.{Event}
use Rattle.lease_book.specs.Histories.{Terms}
use Rattle.lease_book.specs.Books.{Ledger}
use Rattle.lease_desk.specs.declared.receipts.Receipt.{Receipt}
use Rattle.lease_desk.specs.declared.chairs.Chair.{Chair}
use Rattle.lease_desk.specs.Receipts.{Stands, is_for}
use Rattle.lease_desk.specs.Desks.{IsClosed, receipts_in}
use Rattle.farm.specs.declared.crews.Crew.{Crew}
use Rattle.lease_book.specs.Moments.{MayTell, IsTimed, AreTimed}
use Rattle.lease_book.specs.TrueHistories.{IsGivenOut}
use Rattle.certificate_graph.specs.Solvers.{MayFind}
use Rattle.farm.specs.Leases.{given_up_by, handed_in_by}
use Rattle.farm.specs.Asks.{Ask, IsAsked, all_steps}
use Rattle.farm.specs.Searched.{AreAskedFor, IsLeased}
use Rattle.farm.specs.Rounds.{IsRound}
use Rattle.farm.proofs.Gathering.{settled_at}
use Rattle.farm.specs.Working.{IsOnDuty}
use Rattle.farm.specs.Requests.{WasGiven, EndsIdle}
use Rattle.lease_book.specs.Settling.{given_by, settled_by, AreSettledOnce}
use Rattle.farm.specs.Running.{HaveWorked}
use Rattle.farm.proofs.Chairs.{All-shown, counted_is_there, above_zero, zero_each, one_if, uncounted}
use Rattle.farm.proofs.Places.{of_closed}

-- a receipt tells that no entry was open
saw_nothing : (receipts : List Receipt) → EndsIdle receipts → (now : ℕ) × (place : ℕ) × Contains receipts (record { place = place; event = record { asked = Lease now; reply = Nothing } })
saw_nothing receipts idle =
    let told : Receipt = record { place = idle.nothing.0; event = record { asked = Lease idle.asked; reply = Nothing } } in
    let between : Contains idle.between told = subst (λ (l : List Receipt). Contains l told) (sym idle.nothing.1) (Contains-push idle.before told) in
    (idle.asked, idle.nothing.0, subst (λ (l : List Receipt). Contains l told) (sym idle.none_freed.1) (Contains-append_left idle.between _ told between))

module _ {S G C : Type 0} (may_tell : C → MayTell) (may_find : S → MayFind) (crew : Crew S G C) where
  module _ (terms : Terms) (start : List Event) (first chairs closed : List Chair) (book : Ledger) (steps : ℕ)
      (have : HaveWorked may_tell may_find crew first chairs steps) (is : IsClosed terms start chairs book closed) where
    long : length book.events ≡ length start + length is.later
    long = ap (λ (l : List Event). length l) is.events_are ∙ length-append start is.later

    -- an event since the desk was opened
    later_at : (i : ℕ) (d : Event) → get_or is.later i d ≡ get_or book.events (length start + i) d
    later_at i d = sym (ap (λ (l : List Event). get_or l (length start + i) d) is.events_are ∙ get_or-append-add start is.later i d)

    -- the request in each place is that of a receipt
    timed : AreTimed (may_tell crew.means.clock.now) is.later
    timed i d within =
        let place : ℕ = length start + i in
        let Of : Receipt → Type 0 = λ receipt. IsTimed (may_tell crew.means.clock.now) receipt.event.asked in
        let whole = long in
        let once = is.once place (omega arith) (omega arith) in
        let chair = above_zero (λ (c : Chair). count_by (is_for place) (receipts_in c)) closed (omega arith) in
        let receipt = counted_is_there (is_for place) (receipts_in chair.0) chair.2 in
        let own = All-shown (λ shown. All Of shown.1) chairs closed is.same (All-weaker (IsOnDuty may_tell crew) (λ c. All Of (receipts_in c)) (λ c has. has.timed) chairs have.duty) in
        let may : Of receipt.0 = All-contains Of (receipts_in chair.0) receipt.0 (All-contains (λ (c : Chair). All Of (receipts_in c)) closed chair.0 own chair.1) receipt.1 in
        let at : receipt.0.place ≡ place = eqb-true receipt.0.place place receipt.2 in
        let stands = All-contains (Stands book.events) (receipts_in chair.0) receipt.0 (All-contains (λ (c : Chair). All (Stands book.events) (receipts_in c)) closed chair.0 is.stand chair.1) receipt.1 in
        let event : get_or is.later i d ≡ receipt.0.event =
        later_at i d ∙ ap (λ k. get_or book.events k d) (sym at) ∙ get_or_from_slice_get book.events receipt.0.place receipt.0.event d stands in
        subst (λ (e : Event). IsTimed (may_tell crew.means.clock.now) e.asked) (sym event) may

    -- a receipt of these chairs is for an event since the desk was opened
    is_late : (chair : Chair) (told : Receipt) → Contains chairs chair → Contains (receipts_in chair) told → length start ≤ told.place
    is_late chair told there has =
        ⊎_elim
        (λ (early : told.place < length start).
        let Never : List Receipt → Type 0 = λ receipts. count_by (is_for told.place) receipts ≡ 0 in
        let none : All (λ (c : Chair). Never (receipts_in c)) closed = zero_each (λ (c : Chair). count_by (is_for told.place) (receipts_in c)) closed (is.none told.place early) in
        let mine : Never (receipts_in chair) = All-contains (λ (c : Chair). Never (receipts_in c)) chairs chair (All-shown (λ shown. Never shown.1) closed chairs (sym is.same) none) there in
        let Apart : Receipt → Type 0 = λ r. one_if (is_for told.place r) ≡ 0 in
        let apart : All Apart (receipts_in chair) = zero_each (λ (r : Receipt). one_if (is_for told.place r)) (receipts_in chair) mine in
        let own : one_if (is_for told.place told) ≡ 0 = All-contains Apart (receipts_in chair) told apart has in
        let clash = uncounted (is_for told.place told) (eq-eqb told.place told.place refl) own in
        absurd (omega arith))
        (λ (late : length start ≤ told.place). late)
        (cases_lt told.place (length start))

    -- the event of a receipt of these chairs is one since the desk was opened
    told_later : (chair : Chair) (told : Receipt) → Contains chairs chair → Contains (receipts_in chair) told → Contains is.later told.event
    told_later chair told there has =
        let stand = All-shown (λ shown. All (Stands book.events) shown.1) closed chairs (sym is.same) is.stand in
        let stands : Stands book.events told = All-contains (Stands book.events) (receipts_in chair) told (All-contains (λ (c : Chair). All (Stands book.events) (receipts_in c)) chairs chair stand there) has in
        let late = is_late chair told there has in
        let within = slice_get_within book.events told.place told.event stands in
        let whole = long in
        let i : ℕ = told.place - length start in
        let place : length start + i ≡ told.place = omega arith in
        (i, omega arith, later_at i told.event ∙ ap (λ k. get_or book.events k told.event) place ∙ get_or_from_slice_get book.events told.place told.event told.event stands)

    -- one of the chairs saw that no entry was open
    given_out : IsGivenOut is.later
    given_out =
        let chair = have.idle.0 in
        let there : Contains chairs chair = have.idle.1 in
        let nothing = saw_nothing (receipts_in chair) have.idle.2 in
        let event : Event = record { asked = Lease nothing.0; reply = Nothing } in
        let told : Receipt = record { place = nothing.1; event = event } in
        (nothing.0, told_later chair told there nothing.2)

    -- what the chairs settled together, the events do
    settled_once : AreSettledOnce is.later
    settled_once weight =
        let a = of_closed (λ (e : Event). given_by weight e.asked e.reply) terms start chairs closed book is in
        let b = of_closed (λ (e : Event). settled_by weight e.asked) terms start chairs closed book is in
        let h = have.leases weight in
        omega arith

    -- what was asked for
    searched : AreAskedFor (IsAsked (may_find crew.means.solver.now) crew.deals.now crew.settings.budget) is.later (all_steps have.asks)
    searched = record {
      asks = have.asks;
      asked = have.asked;
      leased = All-weaker (λ (a : Ask). All (WasGiven (receipts_in have.lender)) a.tasks) (λ (a : Ask). All (IsLeased is.later) a.tasks)
          (λ a all. All-weaker (WasGiven (receipts_in have.lender)) (IsLeased is.later)
          (λ task given. (given.1, given.2, told_later have.lender (record { place = given.0; event = record { asked = Lease given.1; reply = Given task.lease task.entry given.2 } }) have.is_one given.3))
          a.tasks all)
          have.asks have.given;
      back = [];
      given_up = λ weight.
          let up = of_closed (λ (e : Event). given_up_by weight e.asked) terms start chairs closed book is in
          let vain = have.gave_up weight in
          let none : sum_by weight [] ≡ 0 = refl in
          omega arith;
      handed_in = λ weight.
          let under = of_closed (λ (e : Event). handed_in_by weight e.asked) terms start chairs closed book is in
          let claims = have.handed_in weight in
          omega arith;
      settled = λ weight.
          let given = of_closed (λ (e : Event). given_by weight e.asked e.reply) terms start chairs closed book is in
          let under = of_closed (λ (e : Event). handed_in_by weight e.asked) terms start chairs closed book is in
          let vain = have.gave_up weight in
          let both = settled_at weight chairs in
          let all = have.leases weight in
          omega arith;
      steps_are = refl;
    }

    pub is_round : (old : Ledger) → terms ≡ old.terms → start ≡ old.events → IsRound (may_tell crew.means.clock.now) (IsAsked (may_find crew.means.solver.now) crew.deals.now crew.settings.budget) old book steps
    is_round old terms_are start_is = record {
      terms_are = is.terms_are ∙ terms_are;
      later = is.later;
      events_are = is.events_are ∙ ap (λ (l : List Event). l ++ is.later) start_is;
      given_out = given_out;
      timed = timed;
      settled = settled_once;
      all = all_steps have.asks;
      asked = searched;
      counted = have.counted;
    }
