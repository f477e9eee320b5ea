-- After whole tricks, play goes on as it would begin with the layout left and the last winner leading.
use Rattle.std.proofs.Common.{◌≡◌, ◌+◌, List, [], ◌∷◌, ◌++◌, length, sym, ◌∙◌, ap, subst, append_assoc}
use Rattle.cards.specs.declared.seats.Seat.{Seat}
use Rattle.cards.specs.declared.seats.Side.{Side}
use Rattle.cards.specs.declared.pack.Card.{Card}
use Rattle.cards.specs.Seats.{seat_in_place}
use Rattle.cards.specs.Deal.{Deal}
use Rattle.play_rules.specs.History.{Opening, trick_of, leader_after, tricks_of}
use Rattle.play_rules.proofs.HistoryLaws.{trick_of-append, leader_after-append, tricks_of-append}
use Rattle.play_rules.proofs.LeftLaws.{left_of-append}
use Rattle.play_rules.specs.Legal.{CanPlay, IsLegalAfter, seat_to_play}
use Rattle.play_rules.specs.Holdings.{MayBePlayed}
use Rattle.play_rules.proofs.PositionLaws.{CanPlay-from_left, MayBePlayed-from_CanPlay}
use Rattle.strategies.specs.Values.{opening_after}

trick-after : (history more : List Card) → trick_of history ≡ [] → trick_of (history ++ more) ≡ trick_of more
trick-after history more e = trick_of-append history more ∙ ap (λ (t : List Card). trick_of (t ++ more)) e

leader-after : (opening : Opening) (history more : List Card) → trick_of history ≡ [] → leader_after opening.trump opening.leader (history ++ more) ≡ leader_after opening.trump (leader_after opening.trump opening.leader history) more
leader-after opening history more e =
    leader_after-append opening.trump opening.leader history more ∙ ap (λ (t : List Card). leader_after opening.trump (leader_after opening.trump opening.leader history) (t ++ more)) e

pub seat_to_play-after : (opening : Opening) (history more : List Card) → trick_of history ≡ [] → seat_to_play opening (history ++ more) ≡ seat_to_play (opening_after opening history) more
seat_to_play-after opening history more e =
    ap (λ (s : Seat). seat_in_place s (length (trick_of (history ++ more)))) (leader-after opening history more e)
    ∙ ap (λ (t : List Card). seat_in_place (leader_after opening.trump (leader_after opening.trump opening.leader history) more) (length t)) (trick-after history more e)

pub tricks_of-after : (opening : Opening) (side : Side) (history more : List Card) → trick_of history ≡ [] → tricks_of side opening.trump opening.leader (history ++ more) ≡ tricks_of side opening.trump opening.leader history + tricks_of side opening.trump (leader_after opening.trump opening.leader history) more
tricks_of-after opening side history more e =
    tricks_of-append side opening.trump opening.leader history more
    ∙ ap (λ (t : List Card). tricks_of side opening.trump opening.leader history + tricks_of side opening.trump (leader_after opening.trump opening.leader history) (t ++ more)) e

moved : (left left' : Deal) (player player' : Seat) (trick trick' : List Card) (card : Card) → left ≡ left' → player ≡ player' → trick ≡ trick' → MayBePlayed left player trick card → MayBePlayed left' player' trick' card
moved left left' player player' trick trick' card a b c may =
    subst (λ (t : List Card). MayBePlayed left' player' t card) c
    (subst (λ (s : Seat). MayBePlayed left' s trick card) b (subst (λ (d : Deal). MayBePlayed d player trick card) a may))

pub CanPlay-after : (opening : Opening) (history more : List Card) (card : Card) → trick_of history ≡ [] → CanPlay opening (history ++ more) card → CanPlay (opening_after opening history) more card
CanPlay-after opening history more card e can =
    CanPlay-from_left (opening_after opening history) more card
    (moved _ _ _ _ _ _ card (left_of-append opening.deal history more) (seat_to_play-after opening history more e) (trick-after history more e)
    (MayBePlayed-from_CanPlay opening (history ++ more) card can))

pub CanPlay-before : (opening : Opening) (history more : List Card) (card : Card) → trick_of history ≡ [] → CanPlay (opening_after opening history) more card → CanPlay opening (history ++ more) card
CanPlay-before opening history more card e can =
    CanPlay-from_left opening (history ++ more) card
    (moved _ _ _ _ _ _ card (sym (left_of-append opening.deal history more)) (sym (seat_to_play-after opening history more e)) (sym (trick-after history more e))
    (MayBePlayed-from_CanPlay (opening_after opening history) more card can))

pub IsLegalAfter-after : (opening : Opening) (history more cards : List Card) → trick_of history ≡ [] → IsLegalAfter opening (history ++ more) cards → IsLegalAfter (opening_after opening history) more cards
IsLegalAfter-after opening history more [] e legal = tt
IsLegalAfter-after opening history more (card ∷ cards) e legal = (
  CanPlay-after opening history more card e legal.0,
  IsLegalAfter-after opening history (more ++ card ∷ []) cards e
      (subst (λ (h : List Card). IsLegalAfter opening h cards) (append_assoc history more (card ∷ [])) legal.1),
)
