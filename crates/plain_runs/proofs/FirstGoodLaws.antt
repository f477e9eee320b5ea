-- The first good hand-in, by its place.
use Rattle.std.proofs.Common.{◌≡◌, ℕ, zero, suc, ◌<◌, List, [], ◌∷◌, ◌++◌, take, Option, None, Some, slice_get, refl, sym, ◌∙◌, ap, subst, append_assoc, arith}
use Rattle.std.specs.Option.{option_or}
use Rattle.std.proofs.lemmas.List.{append-nil}
use Rattle.std.proofs.lemmas.Option.{none-some, same_Some}
use Rattle.lease_book.specs.declared.entries.Entry.{Entry}
use Rattle.lease_book.specs.declared.events.Event.{Event}
use Rattle.lease_book.specs.Histories.{Terms}
use Rattle.lease_laws.specs.GoodHandIns.{good_of, first_good_after}

-- the number is that of the event in some place, and no event before it is good
pub record IsFirstAt (terms : Terms) (before later : List Event) (entry : Entry) (k : ℕ) : Type 0 where
  pub place : ℕ
  pub event : Event
  pub there : slice_get later place ≡ Some event
  pub good : good_of terms (before ++ take place later) entry event.asked ≡ Some k
  pub none : (earlier : ℕ) (other : Event) → earlier < place → slice_get later earlier ≡ Some other → good_of terms (before ++ take earlier later) entry other.asked ≡ None

good_here : (terms : Terms) (one other : List Event) (entry : Entry) (event : Event) (o : Option ℕ) → one ≡ other → good_of terms one entry event.asked ≡ o → good_of terms other entry event.asked ≡ o
good_here terms one other entry event o same h = subst (λ (events : List Event). good_of terms events entry event.asked ≡ o) same h

pub first_at : (terms : Terms) (before later : List Event) (entry : Entry) (k : ℕ) → first_good_after terms before later entry ≡ Some k → IsFirstAt terms before later entry k
first_at terms before [] entry k h = absurd (none-some k h)
first_at terms before (event ∷ later) entry k h = go (good_of terms before entry event.asked) refl (first_at terms (before ++ event ∷ []) later entry k) h
  where
    along : (place : ℕ) → (before ++ event ∷ []) ++ take place later ≡ before ++ take (suc place) (event ∷ later)
    along place = append_assoc before (event ∷ []) (take place later)

    none_before : (place : ℕ) → good_of terms before entry event.asked ≡ None
        → ((earlier : ℕ) (other : Event) → earlier < place → slice_get later earlier ≡ Some other → good_of terms ((before ++ event ∷ []) ++ take earlier later) entry other.asked ≡ None)
        → (earlier : ℕ) (other : Event) → earlier < suc place → slice_get (event ∷ later) earlier ≡ Some other → good_of terms (before ++ take earlier (event ∷ later)) entry other.asked ≡ None
    none_before place e none zero other l g =
        subst (λ (x : Event). good_of terms (before ++ []) entry x.asked ≡ None) (same_Some event other g) (good_here terms before (before ++ []) entry event None (sym (append-nil before)) e)
    none_before place e none (suc earlier) other l g =
        good_here terms ((before ++ event ∷ []) ++ take earlier later) (before ++ take (suc earlier) (event ∷ later)) entry other None (along earlier) (none earlier other (omega (arith, l)) g)

    go : (good : Option ℕ) → good_of terms before entry event.asked ≡ good
        → (first_good_after terms (before ++ event ∷ []) later entry ≡ Some k → IsFirstAt terms (before ++ event ∷ []) later entry k)
        → option_or good (first_good_after terms (before ++ event ∷ []) later entry) ≡ Some k
        → IsFirstAt terms before (event ∷ later) entry k
    go (Some j) e rest h =
        record {
          place = zero;
          event = event;
          there = refl;
          good = good_here terms before (before ++ []) entry event (Some k) (sym (append-nil before)) (e ∙ h);
          none = λ earlier other l g. absurd (omega (arith, l));
        }
    go None e rest h =
        let found = rest h in
        record {
          place = suc found.place;
          event = found.event;
          there = found.there;
          good = good_here terms ((before ++ event ∷ []) ++ take found.place later) (before ++ take (suc found.place) (event ∷ later)) entry found.event (Some k) (along found.place) found.good;
          none = none_before found.place e found.none;
        }

pub first_from : (terms : Terms) (before later : List Event) (entry : Entry) (k : ℕ) (place : ℕ) (event : Event) → slice_get later place ≡ Some event → good_of terms (before ++ take place later) entry event.asked ≡ Some k
    → ((earlier : ℕ) (other : Event) → earlier < place → slice_get later earlier ≡ Some other → good_of terms (before ++ take earlier later) entry other.asked ≡ None)
    → first_good_after terms before later entry ≡ Some k
first_from terms before [] entry k place event there good none = absurd (none-some event there)
first_from terms before (first ∷ later) entry k zero event there good none =
    let here : good_of terms before entry first.asked ≡ Some k =
    subst (λ (x : Event). good_of terms before entry x.asked ≡ Some k) (sym (same_Some first event there)) (good_here terms (before ++ []) before entry event (Some k) (append-nil before) good) in
    ap (λ o. option_or o (first_good_after terms (before ++ first ∷ []) later entry)) here
first_from terms before (first ∷ later) entry k (suc place) event there good none =
    let here : good_of terms before entry first.asked ≡ None = good_here terms (before ++ []) before entry first None (append-nil before) (none zero first (omega arith) refl) in
    ap (λ o. option_or o (first_good_after terms (before ++ first ∷ []) later entry)) here
    ∙ first_from terms (before ++ first ∷ []) later entry k place event there
    (good_here terms (before ++ take (suc place) (first ∷ later)) ((before ++ first ∷ []) ++ take place later) entry event (Some k) (sym (append_assoc before (first ∷ []) (take place later))) good)
    (λ earlier other l g.
    good_here terms (before ++ take (suc earlier) (first ∷ later)) ((before ++ first ∷ []) ++ take earlier later) entry other None (sym (append_assoc before (first ∷ []) (take earlier later)))
    (none (suc earlier) other (omega (arith, l)) g))
