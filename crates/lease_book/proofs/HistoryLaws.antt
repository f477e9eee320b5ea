-- What one event more changes of a history.
use Rattle.std.proofs.Common.{◌≡◌, Bool, true, false, not, cond, ◌||◌, List, [], ◌∷◌, ◌++◌, Option, None, Some, refl, sym, ◌∙◌, ap, subst, append_assoc}
use Rattle.std.specs.List.{filter, list_any, cons_option}
use Rattle.std.specs.Option.{option_or}
use Rattle.std.proofs.lemmas.List.{append-nil}
use Rattle.std.proofs.lemmas.List.Elements.{filter_map-append, filter-append}
use Rattle.std.proofs.lemmas.List.Folds.{list_any-append}
use Rattle.lease_book.specs.declared.entries.Entry.{Entry}
use Rattle.lease_book.specs.declared.events.Grant.{Grant}
use Rattle.lease_book.specs.declared.events.Event.{Event}
use Rattle.lease_book.specs.Histories.{Terms, given_by, given_in, frees, unless_freed, held_after, published_when, first_published}
use Rattle.lease_book.specs.Replies.{IsReply, IsLegalAfter, IsLegal}

-- whether the event leaves the lease
abbrev pub is_left_by : Event → Grant → Bool
is_left_by event grant = not (frees grant event)

pub given_push : (events : List Event) (event : Event) → given_in (events ++ event ∷ []) ≡ given_in events ++ cons_option (given_by event) []
given_push events event = filter_map-append given_by events (event ∷ [])

held_new : (given : Option Grant) → unless_freed given [] ++ [] ≡ cons_option given []
held_new None = refl
held_new (Some grant) = refl

unless_push : (given : Option Grant) (later : List Event) (event : Event) → unless_freed given (later ++ event ∷ []) ≡ filter (is_left_by event) (unless_freed given later)
unless_push None later event = refl
unless_push (Some grant) later event =
    ap (λ b. cond b [] (grant ∷ [])) (list_any-append (frees grant) later (event ∷ []))
    ∙ go (list_any (frees grant) later) (frees grant event) refl
  where
    go : (a b : Bool) → frees grant event ≡ b → cond (a || (b || false)) [] (grant ∷ []) ≡ filter (is_left_by event) (cond a [] (grant ∷ []))
    go true b e = refl
    go false true e = sym (ap (λ v. cond (not v) (grant ∷ []) []) e)
    go false false e = sym (ap (λ v. cond (not v) (grant ∷ []) []) e)

-- the leases held after one event more: those that it leaves, and the one that it gives
pub held_push : (events : List Event) (event : Event) → held_after (events ++ event ∷ []) ≡ filter (is_left_by event) (held_after events) ++ cons_option (given_by event) []
held_push [] event = held_new (given_by event)
held_push (first ∷ events) event =
    let kept = unless_freed (given_by first) events in
    let is_left = is_left_by event in
    let new = cons_option (given_by event) [] in
    ap (λ grants. grants ++ held_after (events ++ event ∷ [])) (unless_push (given_by first) events event)
    ∙ ap (λ grants. filter is_left kept ++ grants) (held_push events event)
    ∙ sym (append_assoc (filter is_left kept) (filter is_left (held_after events)) new)
    ∙ ap (λ grants. grants ++ new) (sym (filter-append is_left kept (held_after events)))

pub option_or_none : {X : Type 0} (o : Option X) → option_or o None ≡ o
option_or_none None = refl
option_or_none (Some x) = refl

option_or_assoc : {X : Type 0} (a b c : Option X) → option_or a (option_or b c) ≡ option_or (option_or a b) c
option_or_assoc None b c = refl
option_or_assoc (Some x) b c = refl

pub published_push : (test : Entry → Bool) (events : List Event) (event : Event) → first_published test (events ++ event ∷ []) ≡ option_or (first_published test events) (published_when test event.asked event.reply)
published_push test [] event = option_or_none (published_when test event.asked event.reply)
published_push test (first ∷ events) event =
    ap (option_or (published_when test first.asked first.reply)) (published_push test events event)
    ∙ option_or_assoc (published_when test first.asked first.reply) (first_published test events) (published_when test event.asked event.reply)

legal_push_after : (terms : Terms) (before events : List Event) (event : Event) → IsLegalAfter terms before events → IsReply terms (before ++ events) event.asked event.reply → IsLegalAfter terms before (events ++ event ∷ [])
legal_push_after terms before [] event legal reply =
    (subst (λ (b : List Event). IsReply terms b event.asked event.reply) (append-nil before) reply, tt)
legal_push_after terms before (first ∷ events) event legal reply =
    (legal.0, legal_push_after terms (before ++ first ∷ []) events event legal.1 (subst (λ (b : List Event). IsReply terms b event.asked event.reply) (sym (append_assoc before (first ∷ []) events)) reply))

-- a right reply keeps a history legal
pub legal_push : (terms : Terms) (events : List Event) (event : Event) → IsLegal terms events → IsReply terms events event.asked event.reply → IsLegal terms (events ++ event ∷ [])
legal_push terms events event legal reply = legal_push_after terms [] events event legal reply
