-- Turns, one after another.
use Rattle.std.proofs.Common.{◌≡◌, ℕ, List, [], ◌∷◌, ◌++◌, Some, All, refl, sym, ◌∙◌, ap, subst, append_assoc, append-nil}
use Rattle.std.proofs.lemmas.List.Elements.{All-same, All-push, All-pop, All-nil}
use Rattle.cards.specs.declared.pack.Card.{Card}
use Rattle.certificate_play.specs.Promises.{Promise, after_card}
use Rattle.play_dialogues.specs.declared.words.Typed.{Typed}
use Rattle.play_dialogues.specs.declared.words.Typed.TheVariants as typed
use Rattle.play_dialogues.specs.declared.words.Step.{Step}
use Rattle.play_dialogues.specs.declared.words.Step.TheVariants.{Played, Refused, Shown}
use Rattle.play_dialogues.specs.Trails.{Trail, IsAsked, AreReplies, ArePlayedSince, PlaysCard, IsShown, Does}
use Rattle.play_dialogues.specs.Dialogues.{IsTurn, AreTurns, IsSamePlay}
use Rattle.play_dialogues.specs.Conversing.{IsSettled}

-- ---- replies
pub replies_since : (promise : Promise) (cards : List Card) (promise' : Promise) →
    AreReplies promise cards promise' → ArePlayedSince promise promise' cards
replies_since promise [] promise' replied =
    ap (λ (p : Promise). p.position.history) replied.0 ∙ sym (append-nil promise.position.history)
replies_since promise (card ∷ cards) promise' replied =
    replies_since (after_card promise card) cards promise' replied.3
    ∙ append_assoc promise.position.history (card ∷ []) cards

pub replies_settle : (promise : Promise) (cards : List Card) (promise' : Promise) →
    AreReplies promise cards promise' → IsSettled promise'
replies_settle promise [] promise' replied = subst IsSettled (sym replied.0) replied.1
replies_settle promise (card ∷ cards) promise' replied =
    replies_settle (after_card promise card) cards promise' replied.3

pub replies_same : (promise : Promise) (cards : List Card) (promise' : Promise) →
    AreReplies promise cards promise' → IsSamePlay promise promise'
replies_same promise [] promise' replied = record {
  opening = ap (λ (p : Promise). p.position.opening) replied.0;
  side = ap (λ (p : Promise). p.side) replied.0;
  tricks = ap (λ (p : Promise). p.tricks) replied.0;
}
replies_same promise (card ∷ cards) promise' replied =
    let same = replies_same (after_card promise card) cards promise' replied.3 in
    record { opening = same.opening; side = same.side; tricks = same.tricks }

-- ---- turns
-- one turn more
pub turns_more : (trail : Trail) (lines : List (List ℕ)) (line : List ℕ) (next last : Trail) (text more : List ℕ) →
    AreTurns trail lines next text → IsTurn next line last more → AreTurns trail (lines ++ line ∷ []) last (text ++ more)
turns_more trail [] line next last text more none turn = (
  last,
  more,
  [],
  subst (λ (t : Trail). IsTurn t line last more) none.0 turn,
  (refl, refl),
  ap (λ (t : List ℕ). t ++ more) none.1 ∙ sym (append-nil more),
)
turns_more trail (first ∷ lines) line next last text more turns turn = (
  turns.0,
  turns.1,
  turns.2 ++ more,
  turns.3,
  turns_more turns.0 lines line next last turns.2 more turns.4 turn,
  ap (λ (t : List ℕ). t ++ more) turns.5 ∙ append_assoc turns.1 turns.2 more,
)

-- ---- what every turn keeps
abbrev pub IsEarlier : Promise → Promise → Type 0
IsEarlier start promise = IsAsked promise × IsSamePlay start promise

-- the earlier turns were asked for, and all are of one play
pub record IsFit (start : Promise) (trail : Trail) : Type 0 where
  pub earlier : All (IsEarlier start) trail.earlier
  pub settled : IsSettled trail.now
  pub same : IsSamePlay start trail.now

same_then : (one two three : Promise) → IsSamePlay one two → IsSamePlay two three → IsSamePlay one three
same_then one two three a b = record {
  opening = b.opening ∙ a.opening;
  side = b.side ∙ a.side;
  tricks = b.tricks ∙ a.tricks;
}

fit_played : (start : Promise) (trail : Trail) (card : Card) (trail' : Trail) →
    IsAsked trail.now → PlaysCard trail card trail' → IsFit start trail → IsFit start trail'
fit_played start trail card trail' asked plays fit =
    let same = replies_same (after_card trail.now card) plays.replies trail'.now plays.replied in
    record {
      earlier = All-same (IsEarlier start) _ _ plays.kept
          (All-push (IsEarlier start) trail.earlier trail.now fit.earlier (asked, fit.same));
      settled = replies_settle (after_card trail.now card) plays.replies trail'.now plays.replied;
      same = same_then start trail.now trail'.now fit.same
          (record { opening = same.opening; side = same.side; tricks = same.tricks });
    }

fit_shown : (start : Promise) (trail : Trail) (typed : Typed) (trail' : Trail) →
    IsShown trail typed trail' → IsFit start trail → IsFit start trail'
fit_shown start trail (typed.Card card) trail' shown fit = absurd shown
fit_shown start trail typed.Empty trail' shown fit = absurd shown
fit_shown start trail typed.Undo trail' shown fit =
    let popped = All-pop (IsEarlier start) trail.earlier trail'.earlier (Some trail'.now) shown fit.earlier in
    record { earlier = popped.0; settled = λ goes_on turn. popped.1.0.others turn; same = popped.1.1 }
fit_shown start trail typed.Hands trail' shown fit = subst (IsFit start) (sym shown) fit
fit_shown start trail typed.Quit trail' shown fit = absurd shown
fit_shown start trail typed.Unknown trail' shown fit = absurd shown

fit_does : (start : Promise) (trail : Trail) (typed : Typed) (step : Step) (trail' : Trail) →
    IsAsked trail.now → Does trail typed step trail' → IsFit start trail → IsFit start trail'
fit_does start trail typed Played trail' asked does fit = fit_played start trail does.0 trail' asked does.2 fit
fit_does start trail typed (Refused refusal) trail' asked does fit = subst (IsFit start) (sym does.0) fit
fit_does start trail typed Shown trail' asked does fit = fit_shown start trail typed trail' does fit

pub turn_fit : (start : Promise) (trail : Trail) (line : List ℕ) (trail' : Trail) (text : List ℕ) →
    IsTurn trail line trail' text → IsFit start trail → IsFit start trail'
turn_fit start trail line trail' text turn fit =
    fit_does start trail turn.typed turn.acts.step trail' turn.asked turn.acts.does fit

pub turns_fit : (start : Promise) (trail : Trail) (lines : List (List ℕ)) (trail' : Trail) (text : List ℕ) →
    AreTurns trail lines trail' text → IsFit start trail → IsFit start trail'
turns_fit start trail [] trail' text turns fit = subst (IsFit start) (sym turns.0) fit
turns_fit start trail (line ∷ lines) trail' text turns fit =
    turns_fit start turns.0 lines trail' turns.2 turns.4 (turn_fit start trail line turns.0 turns.1 turns.3 fit)

-- before the first line
pub fit_first : (start : Promise) (trail : Trail) → trail.earlier ≡ [] → IsSettled trail.now → IsSamePlay start trail.now →
    IsFit start trail
fit_first start trail new settled same = record {
  earlier = All-same (IsEarlier start) _ _ new (All-nil (IsEarlier start));
  settled = settled;
  same = same;
}
