use Rattle.std.proofs.Common.{◌≡◌, ℕ, suc, inl, inr, ◌+◌, ◌-◌, ◌<◌, ◌≤◌, List, ◌++◌, take, drop, length, get_or, Contains, ◌∙◌, sym, ap, subst, arith, take-append-drop, drop-cons, get_or-drop, length-drop}
use Rattle.std.proofs.lemmas.Bool.{cases_lt}
use Rattle.std.proofs.lemmas.List.{get_or_default}
use Rattle.cards.specs.declared.pack.Card.{Card}
use Rattle.cards.specs.declared.pack.Rank.TheVariants.{Two}
use Rattle.cards.specs.declared.suits.Suit.TheVariants.{Spades}
use Rattle.cards.specs.Pack.{card_of}
use Rattle.pattern_step.specs.LayoutCards.{StandsFor}
use Rattle.certificate_play.specs.OwnCards.{IsLastWith}
use Rattle.certificate_play.proofs.stand_ins.last_stood_for.Goals as goal

-- what holds of none, counted from the last
none_of_all : (P : Card → Type 0) (cards : List Card) (n : ℕ) → length cards ≤ n → ((k : ℕ) → k < n → P (get_or cards (length cards - 1 - k) (card_of Spades Two)) → ⊥) → (card : Card) → Contains cards card → P card → ⊥
none_of_all P cards n all none card (i, less, is) holds =
    let k : length cards - 1 - (length cards - 1 - i) ≡ i = omega (arith, less) in
    let here : get_or cards (length cards - 1 - (length cards - 1 - i)) (card_of Spades Two) ≡ card =
    ap (λ (n : ℕ). get_or cards n (card_of Spades Two)) k ∙ (get_or_default cards i (card_of Spades Two) card less ∙ is) in
    none (length cards - 1 - i) (omega (arith, less, all)) (subst P (sym here) holds)

-- one more of which it doesn't hold
none_more : (P : Card → Type 0) (cards : List Card) (n : ℕ) → ((k : ℕ) → k < n → P (get_or cards (length cards - 1 - k) (card_of Spades Two)) → ⊥) → (P (get_or cards (length cards - 1 - n) (card_of Spades Two)) → ⊥) → (k : ℕ) → k < n + 1 → P (get_or cards (length cards - 1 - k) (card_of Spades Two)) → ⊥
none_more P cards n none not k less holds =
    elim (cases_lt k n) [
      | inl before ↦ none k before holds
      | inr rest ↦ let k_is : k ≡ n = omega (arith, rest, less) in not (subst (λ (n : ℕ). P (get_or cards (length cards - 1 - n) (card_of Spades Two))) k_is holds)
    ]

-- what holds of a card and of none after it
last_of : (P : Card → Type 0) (cards : List Card) (n : ℕ) → n < length cards → P (get_or cards (length cards - 1 - n) (card_of Spades Two)) → ((k : ℕ) → k < n → P (get_or cards (length cards - 1 - k) (card_of Spades Two)) → ⊥) → IsLastWith P cards (get_or cards (length cards - 1 - n) (card_of Spades Two))
last_of P cards n within holds none =
    let place = length cards - 1 - n in
    let parts = drop-cons cards place (card_of Spades Two) (omega (arith, within)) in
    let after = drop (suc place) cards in
    let left : length after ≡ length cards - suc place = length-drop (suc place) cards in
    record {
      before = take place cards;
      after = after;
      parts = sym (take-append-drop place cards) ∙ ap (λ (rest : List Card). take place cards ++ rest) parts;
      holds = holds;
      none_after = λ other (i, less, is) held.
          let k : length cards - 1 - (n - 1 - i) ≡ suc place + i = omega (arith, within, less, left) in
          let here : get_or cards (length cards - 1 - (n - 1 - i)) (card_of Spades Two) ≡ other =
          ap (λ (n : ℕ). get_or cards n (card_of Spades Two)) k
          ∙ (sym (get_or-drop (suc place) cards i (card_of Spades Two)) ∙ (get_or_default after i (card_of Spades Two) other less ∙ is)) in
          none (n - 1 - i) (omega (arith, within, less, left)) (subst P (sym here) held);
    }

pub returns-then-stands_for : goal.returns-then-stands_for
returns-then-stands_for c =
    last_of (StandsFor c.args.pattern.now c.args.deal.now c.args.pat_card) c.args.cards.now c.loop-place.place (omega (arith, c.loop-place-test.true)) (c.stands_for.ensures.0 c.if-stands_for.true) c.loop-place.invariant

pub loop-place-preserved : goal.loop-place-preserved
loop-place-preserved c =
    none_more (StandsFor c.args.pattern.now c.args.deal.now c.args.pat_card) c.args.cards.now c.loop-place.place c.loop-place.invariant (λ stands. cc (c.if-stands_for.false, c.stands_for.ensures.1 stands))

pub returns : goal.returns
returns c = none_of_all (StandsFor c.args.pattern.now c.args.deal.now c.args.pat_card) c.args.cards.now c.loop-place.place (omega (arith, c.loop-place-test.false)) c.loop-place.invariant
