-- A recording after one more card, and replayed up to some card.
use Rattle.std.proofs.Common.{◌≡◌, ℕ, ◌+◌, ◌<◌, List, [], ◌∷◌, ◌++◌, length, take, get_or, set, None, sym, ◌∙◌, ap, subst}
use Rattle.std.proofs.lemmas.List.{take_more}
use Rattle.cards.specs.declared.suits.Trump.{Trump}
use Rattle.cards.specs.declared.seats.Seat.{Seat}
use Rattle.cards.specs.declared.pack.Card.{Card}
use Rattle.cards.specs.Pack.{card_number}
use Rattle.cards.specs.Deal.{Deal}
use Rattle.play_rules.specs.Left.{left_of, without}
use Rattle.play_rules.proofs.LeftLaws.{left_of-push}
use Rattle.play_rules.specs.Legal.{CanPlay, IsUnfinished}
use Rattle.play_rules.specs.Position.{Position, IsReached, with_card}
use Rattle.play_rules.proofs.PositionLaws.{reached_on}
use Rattle.play_values.specs.Recordings.{IsKept}
use Rattle.play_values.proofs.LegalLaws.{last_can_play, next_is_legal}

pub kept_on : (position next : Position) (layout : Deal) (leader : Seat) (trump : Trump) (cards more : List Card) (card : Card) → IsKept position layout leader trump cards →
    IsUnfinished position.opening position.history → CanPlay position.opening position.history card → next ≡ with_card position card → more ≡ cards ++ card ∷ [] → IsKept next layout leader trump more
kept_on position next layout leader trump cards more card kept unfinished can is more_is =
    subst (λ (p : Position). IsKept p layout leader trump more) (sym is) (record {
      opening = kept.opening;
      history = ap (λ (h : List Card). h ++ card ∷ []) kept.history ∙ sym more_is;
      reached = reached_on position card kept.reached unfinished can;
    })

-- the next card may be played at a table after the first cards
pub can_play_next : (position table : Position) (cards : List Card) (count : ℕ) (d : Card) → IsReached position → cards ≡ position.history → count < length position.history → table ≡ record position { history = take count position.history } →
    CanPlay table.opening table.history (get_or cards count d)
can_play_next position table cards count d reached same h is =
    subst (λ (t : Position). CanPlay t.opening t.history (get_or cards count d)) (sym is)
    (subst (λ (c : List Card). CanPlay position.opening (take count position.history) (get_or c count d)) (sym same)
    (last_can_play position.opening (take count position.history) (get_or position.history count d) (next_is_legal position.opening position.history count d reached.legal h)))

-- the cards left after one more of the first cards
pub taken_more : (deal left : Deal) (cards : List Card) (place number : ℕ) (d : Card) → place < length cards → left ≡ left_of deal (take place cards) → number ≡ card_number (get_or cards place d) → set left number None ≡ left_of deal (take (place + 1) cards)
unfolding without
taken_more deal left cards place number d h is named =
    ap (λ (n : ℕ). set left n None) named
    ∙ (ap (λ (l : Deal). set l (card_number (get_or cards place d)) None) is
    ∙ (sym (left_of-push deal (take place cards) (get_or cards place d)) ∙ ap (left_of deal) (sym (take_more cards place d h))))
