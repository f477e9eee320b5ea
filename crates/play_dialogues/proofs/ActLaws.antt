-- What a line does, from what was found.
use Rattle.std.proofs.Common.{◌≡◌, ℕ, zero, suc, ◌-◌, ◌<◌, ◌≤◌, List, [], ◌∷◌, ◌++◌, length, get_or, Contains, None, Result, Ok, Err, inl, inr, refl, sym, ◌∙◌, ap, append_assoc, arith}
use Rattle.std.specs.Prelude.{IfOk, OnOk, slice_get}
use Rattle.std.proofs.lemmas.List.Elements.{Contains-get_or, Contains-push_cases}
use Rattle.cards.specs.declared.pack.Card.{Card}
use Rattle.play_rules.specs.Position.{AreLegalCards, listed_place}
use Rattle.certificate_play.specs.Promises.{Promise, after_card}
use Rattle.play_dialogues.specs.declared.words.Typed.{Typed}
use Rattle.play_dialogues.specs.declared.words.Refusal.{Refusal}
use Rattle.play_dialogues.specs.declared.words.Step.TheVariants.{Played, Refused}
use Rattle.play_dialogues.specs.Texts.{asks_again, refusal_line}
use Rattle.play_dialogues.specs.Trails.{Trail, IsOnly, AreSeveral, IsMeant, PlaysCard, IsRefused, IsText, Acts}
use Rattle.play_dialogues.specs.Trails.{AreReplies, ArePlayedSince}
use Rattle.play_dialogues.proofs.TrailLaws.{replies_since}

pub acts_refused : (trail : Trail) (typed : Typed) (refusal : Refusal) (text : List ℕ) → IsRefused trail typed refusal →
    text ≡ refusal_line refusal ++ asks_again trail.now → Acts trail typed trail text
acts_refused trail typed refusal text why is = record { step = Refused refusal; does = (refl, why); text_is = is }

pub acts_played : (trail : Trail) (typed : Typed) (card : Card) (trail' : Trail) (text : List ℕ) →
    IsMeant trail typed card → PlaysCard trail card trail' → IsText trail Played trail' text → Acts trail typed trail' text
acts_played trail typed card trail' text meant plays is =
    record { step = Played; does = (card, meant, plays); text_is = is }

-- from what a call answers
pub ok_then : {X E : Type 0} (result : Result X E) (P Q : X → Type 0) → ((x : X) → P x → Q x) → IfOk result P → IfOk result Q
ok_then (Ok x) P Q f h = f x h
ok_then (Err e) P Q f h = tt

pub ok_and_then : {X E : Type 0} (result : Result X E) (O : Type 0) (P Q : X → Type 0) → (O → (x : X) → P x → Q x) →
    OnOk result O → IfOk result P → IfOk result Q
ok_and_then (Ok x) O P Q f o h = f o x h
ok_and_then (Err e) O P Q f o h = tt

pub on_ok_then : {X E : Type 0} (result : Result X E) (P Q : Type 0) → (P → Q) → OnOk result P → OnOk result Q
on_ok_then (Ok x) P Q f h = f h
on_ok_then (Err e) P Q f h = tt

-- where there is no last one there is none
none_at : {X : Type 0} (xs : List X) (i : ℕ) → i < length xs → None ≡ slice_get xs i → ⊥
none_at [] i h none = absurd (omega (arith, h))
none_at (x ∷ xs) zero h none = cc
none_at (x ∷ xs) (suc i) h none = none_at xs i (omega (arith, h)) none

pub no_last : {X : Type 0} (xs : List X) → None ≡ slice_get xs (length xs - 1) → xs ≡ []
no_last [] none = refl
no_last (x ∷ xs) none = absurd (none_at (x ∷ xs) (length (x ∷ xs) - 1) (omega arith) none)

-- a card and the replies to it were played since
pub played_since : (promise : Promise) (card : Card) (replies : List Card) (promise' : Promise) →
    AreReplies (after_card promise card) replies promise' → (cards : List Card) × ArePlayedSince promise promise' cards
played_since promise card replies promise' replied = (
  card ∷ replies,
  replies_since (after_card promise card) replies promise' replied
      ∙ append_assoc promise.position.history (card ∷ []) replies,
)

-- ---- an empty line
pub several_listed : (promise : Promise) (cards : List Card) → AreLegalCards promise.position cards → 1 < length cards →
    AreSeveral promise
several_listed promise [] legal many = absurd (omega arith)
several_listed promise (one ∷ []) legal many = absurd (omega arith)
several_listed promise (one ∷ other ∷ rest) legal many =
    let in_order : listed_place one < listed_place other = legal.in_order.0 other (Contains-get_or (other ∷ rest) 0 other (omega arith)) in
    record {
      one = one;
      other = other;
      can = legal.legal one (Contains-get_or (one ∷ other ∷ rest) 0 one (omega arith));
      can_too = legal.legal other (Contains-get_or (one ∷ other ∷ rest) 1 other (omega arith));
      differ = λ same. omega (arith, in_order, ap listed_place same);
    }

only_in : (card other : Card) → Contains (card ∷ []) other → other ≡ card
only_in card other has = elim (Contains-push_cases [] card other has) [
  | inl none ↦ absurd (omega (arith, none.1))
  | inr same ↦ sym same
]

pub only_listed : (promise : Promise) (cards : List Card) (d : Card) → AreLegalCards promise.position cards →
    0 < length cards → length cards ≤ 1 → IsOnly promise (get_or cards 0 d)
only_listed promise [] d legal some few = absurd (omega arith)
only_listed promise (card ∷ []) d legal some few = record {
  can = legal.legal card (Contains-get_or (card ∷ []) 0 card (omega arith));
  only = λ other can. only_in card other (legal.all other can);
}
only_listed promise (card ∷ other ∷ rest) d legal some few = absurd (omega arith)
