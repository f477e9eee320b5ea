-- What an event changes of what is kept beside the history.
use Rattle.std.proofs.Common.{◌≡◌, ℕ, ◌-◌, ◌*◌, ◌/◌, ◌<◌, ◌≤◌, cond, List, [], ◌∷◌, ◌++◌, length, get_or, count_by, Option, None, Some, refl, sym, ◌∙◌, ap, subst, ◌⊎◌, inl, inr, ⊎_elim, arith}
use Rattle.std.specs.List.{filter, find, cons_option}
use Rattle.std.specs.Option.{option_or}
use Rattle.std.proofs.lemmas.List.{append-nil}
use Rattle.std.proofs.lemmas.Option.{none-some}
use Rattle.cards.specs.Deal.{Deal}
use Rattle.lease_book.specs.declared.entries.Entry.{Entry}
use Rattle.lease_book.specs.declared.events.Grant.{Grant}
use Rattle.lease_book.specs.declared.events.Event.{Event}
use Rattle.lease_book.specs.declared.slots.Slot.{Slot}
use Rattle.lease_book.specs.Entries.{place_of}
use Rattle.lease_book.specs.Proofs.{IsProven}
use Rattle.lease_book.specs.Twins.{deal_of, is_first}
use Rattle.lease_book.specs.Histories.{Terms, given_by, given_in, held_after, times_leased, is_for_place}
use Rattle.lease_book.specs.Replies.{IsReply}
use Rattle.lease_book.specs.Slots.{new_slot, tries_of}
use Rattle.lease_book.specs.Keeping.{Among, AreApart, is_in_place, published_by, published_at, slot_of, IsKept}
use Rattle.lease_book.proofs.HistoryLaws.{is_left_by, given_push, held_push, published_push, legal_push}
use Rattle.lease_book.proofs.HeldLaws.{keep_if, among_filter, apart_filter, find_filter}

-- what an event that gives no lease makes of a slot
abbrev pub slot_after : Event → ℕ → Slot → Slot
slot_after event place slot =
    record {
      published = option_or slot.published (published_by place event.asked event.reply);
      holder = keep_if (is_left_by event) slot.holder;
      left = slot.left;
    }

pub same_slot : (published published' : Option ℕ) (holder holder' : Option Grant) (left left' : ℕ) → published ≡ published' → holder ≡ holder' → left ≡ left'
    → ◌≡◌ {A = Slot} (record { published = published; holder = holder; left = left }) (record { published = published'; holder = holder'; left = left' })
same_slot published published' holder holder' left left' p h l =
    ap (λ (x : Option ℕ). record { published = x; holder = holder; left = left }) p
    ∙ ap (λ (x : Option Grant). record { published = published'; holder = x; left = left }) h
    ∙ ap (λ (x : ℕ). record { published = published'; holder = holder'; left = x }) l

pub option_or_some : {X : Type 0} (one other : Option X) (x : X) → option_or one other ≡ Some x → (one ≡ Some x) ⊎ (other ≡ Some x)
option_or_some None other x h = inr h
option_or_some (Some y) other x h = inl h

module _ (terms : Terms) (events : List Event) (event : Event) (none : given_by event ≡ None) where
  given_same : given_in (events ++ event ∷ []) ≡ given_in events
  given_same = given_push events event ∙ ap (λ new. given_in events ++ cons_option new []) none ∙ append-nil (given_in events)

  held_same : held_after (events ++ event ∷ []) ≡ filter (is_left_by event) (held_after events)
  held_same =
      held_push events event ∙ ap (λ new. filter (is_left_by event) (held_after events) ++ cons_option new []) none
      ∙ append-nil (filter (is_left_by event) (held_after events))

  slot_push : (place : ℕ) → AreApart (held_after events) → slot_of terms (events ++ event ∷ []) place ≡ slot_after event place (slot_of terms events place)
  slot_push place apart =
      let all = cond (is_first terms.boards (place / 20)) terms.tries 0 in
      same_slot _ _ _ _ _ _
      (published_push (is_in_place place) events event)
      (ap (find (is_for_place place)) held_same ∙ find_filter (is_left_by event) place (held_after events) apart)
      (ap (λ grants. all - count_by (is_for_place place) grants) given_same)

  -- what is kept, where each slot is what the event makes of it
  pub kept_after :
      (leases : List Grant) (slots after : List Slot) → IsKept terms events leases slots → IsReply terms events event.asked event.reply →
      length after ≡ length slots →
      ((place : ℕ) (d : Slot) → place < length slots → get_or after place d ≡ slot_after event place (get_or slots place d)) →
      ((entry : Entry) (deal : Deal) (k : ℕ) → published_by (place_of entry) event.asked event.reply ≡ Some k → deal_of terms.boards entry.board ≡ Some deal
      → IsProven (record { layout = deal; declarer = entry.declarer; trump = entry.trump; k = k })) →
      ((place k : ℕ) → published_by place event.asked event.reply ≡ Some k → (place < length slots) × (k ≤ 13)) →
      IsKept terms (events ++ event ∷ []) leases after
  kept_after leases slots after kept reply same changed new there =
      record {
        legal = legal_push terms events event kept.legal reply;
        proven = λ entry deal k h b. proven_of entry deal k b (option_or_some (published_at (place_of entry) events) (published_by (place_of entry) event.asked event.reply) k (sym (published_push (is_in_place (place_of entry)) events event) ∙ h));
        at_most_13 = λ place k h.
            ⊎_elim (kept.at_most_13 place k) (λ now. (there place k now).1)
            (option_or_some (published_at place events) (published_by place event.asked event.reply) k (sym (published_push (is_in_place place) events event) ∙ h));
        few_boards = kept.few_boards;
        sized = same ∙ kept.sized;
        given = kept.given ∙ sym given_same;
        numbered = kept.numbered;
        there = λ grant m. omega (arith, kept.there grant m, same);
        found = λ grant m. kept.found grant (among_filter (is_left_by event) (held_after events) grant (subst (Among grant) held_same m));
        apart = subst AreApart (sym held_same) (apart_filter (is_left_by event) (held_after events) kept.apart);
        slots_are = λ place d l.
            let m : place < length slots = omega (arith, same) in
            changed place d m ∙ ap (slot_after event place) (kept.slots_are place d m) ∙ sym (slot_push place kept.apart);
        only_there = λ place l. not_there place (omega (arith, same, l)) (option_or (published_at place events) (published_by place event.asked event.reply)) refl (published_push (is_in_place place) events event);
      }
    where
      not_there : (place : ℕ) → length slots ≤ place → (o : Option ℕ) → option_or (published_at place events) (published_by place event.asked event.reply) ≡ o → published_at place (events ++ event ∷ []) ≡ option_or (published_at place events) (published_by place event.asked event.reply) → published_at place (events ++ event ∷ []) ≡ None
      not_there place l None e h = h ∙ e
      not_there place l (Some k) e h =
          ⊎_elim
          (λ (old : published_at place events ≡ Some k). absurd (none-some k (sym (kept.only_there place l) ∙ old)))
          (λ (now : published_by place event.asked event.reply ≡ Some k). absurd (omega (arith, (there place k now).0)))
          (option_or_some (published_at place events) (published_by place event.asked event.reply) k e)

      proven_of : (entry : Entry) (deal : Deal) (k : ℕ) → deal_of terms.boards entry.board ≡ Some deal → (published_at (place_of entry) events ≡ Some k) ⊎ (published_by (place_of entry) event.asked event.reply ≡ Some k)
          → IsProven (record { layout = deal; declarer = entry.declarer; trump = entry.trump; k = k })
      proven_of entry deal k b (inl h) = kept.proven entry deal k h b
      proven_of entry deal k b (inr h) = new entry deal k h b

-- a book without a history
pub kept_new : (terms : Terms) (slots : List Slot) → length terms.boards ≤ 4096 → length slots ≡ 20 * length terms.boards
    → ((place : ℕ) (d : Slot) → place < length slots → get_or slots place d ≡ new_slot (tries_of terms.boards terms.tries place)) → IsKept terms [] [] slots
kept_new terms slots few sized are =
    record {
      legal = tt;
      proven = λ entry deal k h b. absurd (none-some k h);
      at_most_13 = λ place k h. absurd (none-some k h);
      few_boards = few;
      sized = sized;
      given = refl;
      numbered = tt;
      there = λ grant m. elim m [ ];
      found = λ grant m. elim m [ ];
      apart = tt;
      slots_are = λ place d l. are place d l ∙ same_slot _ _ _ _ _ _ refl refl (let none : times_leased [] place ≡ 0 = refl in omega arith);
      only_there = λ place l. refl;
    }
