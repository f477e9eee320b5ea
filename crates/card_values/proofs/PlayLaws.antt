-- A trick in progress after one more card.
use Rattle.std.proofs.Common.{◌≡◌, ◌<◌, List, [], ◌∷◌, ◌++◌, length, sym, ◌∙◌, ap, subst, length-append, arith}
use Rattle.cards.specs.declared.suits.Trump.{Trump}
use Rattle.cards.specs.declared.seats.Seat.{Seat}
use Rattle.cards.specs.declared.pack.Card.{Card}
use Rattle.cards.specs.Deal.{Deal}
use Rattle.play_rules.specs.Legal.{CanPlay, IsUnfinished}
use Rattle.play_rules.specs.Position.{Position, with_card}
use Rattle.play_rules.proofs.PositionLaws.{reached_on}
use Rattle.card_values.specs.Tricks.{IsKept}

pub kept_on : (position next : Position) (layout : Deal) (leader : Seat) (trump : Trump) (played more : List Card) (card : Card) → IsKept position layout leader trump played → length played < 3 →
    IsUnfinished position.opening position.history → CanPlay position.opening position.history card → next ≡ with_card position card → more ≡ played ++ card ∷ [] → IsKept next layout leader trump more
kept_on position next layout leader trump played more card kept few unfinished can is more_is =
    subst (λ (p : Position). IsKept p layout leader trump more) (sym is) (record {
      opening = kept.opening;
      history = ap (λ (h : List Card). h ++ card ∷ []) kept.history ∙ sym more_is;
      progress = record {
        reached = reached_on position card kept.progress.reached unfinished can;
        few = omega (arith, length-append position.history (card ∷ []), ap length kept.history, few);
      };
    })
