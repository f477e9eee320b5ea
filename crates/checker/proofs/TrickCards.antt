-- A trick on a layout and on a pattern that it matches: the cards played so far, and the pattern cards that stand for them.
use Rattle.std.proofs.Common.{◌≡◌, ℕ, ◌<◌, List, [], ◌∷◌, ◌++◌, length, get_or, Option, None, Some, refl, sym, ◌∙◌, ap, arith, inl, inr}
use Rattle.std.proofs.lemmas.Bool.{cases_lt}
use Rattle.std.proofs.lemmas.List.{length-append, get_or_default}
use Rattle.std.proofs.Math.Seq.{get_or-append_seam}
use Rattle.std.proofs.Math.ListN.{get_or-append}
use Rattle.cards.specs.declared.pack.Card.{Card}
use Rattle.cards.specs.declared.pack.Rank.TheVariants.{Two}
use Rattle.cards.specs.declared.suits.Suit.{Suit}
use Rattle.cards.specs.declared.suits.Suit.TheVariants.{Spades}
use Rattle.cards.specs.declared.seats.Seat.{Seat}
use Rattle.cards.specs.Pack.{card_of}
use Rattle.cards.specs.Seats.{seat_in_place, place_of}
use Rattle.cards.specs.Deal.{Deal, holder_of}
use Rattle.patterns.specs.Holders.{Matches}
use Rattle.pattern_step.specs.declared.pat_cards.PatCard.{PatCard}
use Rattle.pattern_step.specs.declared.pat_cards.PatCard.TheVariants.{Top}
use Rattle.pattern_step.specs.PatCards.{FollowsSuit}
use Rattle.pattern_step.specs.Tricks.{played_in_place, suit_led_by}
use Rattle.pattern_step.specs.LayoutCards.{StandsFor}
use Rattle.pattern_step.proofs.LayoutLaws.{stands_suit, length_is_held, IsOnePatCard-of, IsSomeCard-of}
use Rattle.pattern_step.proofs.TurnLaws.{place_of-seat_in_place}
use Rattle.play_rules.specs.History.{suit_of_first, suit_led}
use Rattle.play_rules.specs.Legal.{StillHolds, CanPlay, IsLegalHistory, seat_to_play}
use Rattle.play_rules.proofs.HistoryLaws.{seat_to_play-short, suit_of_first-short}
use Rattle.play_rules.proofs.PositionLaws.{IsLegalHistory-push}
use Rattle.certificate_graph.specs.declared.nodes.Node.{Node}
use Rattle.certificate_graph.specs.Graphs.{GraphShape}
use Rattle.checker.specs.Steps.{player_after, MayComeNext}
use Rattle.checker.specs.Soundness.{opening_at}

-- the card that was played first, second, third or last
abbrev pub real_in_place : List Card → ℕ → Card
real_in_place real place = get_or real place (card_of Spades Two)

-- the cards played are legal, each was dealt to the seat that played it, and the pattern card in its place stands for it
pub record Mirrors (graph : GraphShape) (node : Node) (deal : Deal) (pats : List PatCard) (real : List Card) : Type 0 where
  pub as_long : length real ≡ length pats
  pub legal : IsLegalHistory (opening_at graph node deal) real
  pub dealt : (place : ℕ) → place < length real → holder_of deal (real_in_place real place) ≡ Some (seat_in_place node.lead place)
  pub stand : (place : ℕ) → place < length real → StandsFor node.pattern deal (played_in_place pats place) (real_in_place real place)

-- no cards were played
pub nothing_mirrors : (graph : GraphShape) (node : Node) (deal : Deal) → Mirrors graph node deal [] []
nothing_mirrors graph node deal = record {
  as_long = refl;
  legal = tt;
  dealt = λ place less. absurd (omega arith);
  stand = λ place less. absurd (omega arith);
}

-- the seat to play
turn_is : (graph : GraphShape) (node : Node) (deal : Deal) (real : List Card) → length real < 4 → seat_to_play (opening_at graph node deal) real ≡ seat_in_place node.lead (length real)
turn_is graph node deal real short = seat_to_play-short (opening_at graph node deal) real short

pub player_is : (graph : GraphShape) (node : Node) (deal : Deal) (pats : List PatCard) (real : List Card) → Mirrors graph node deal pats real → length real < 4 →
    seat_to_play (opening_at graph node deal) real ≡ player_after node pats
player_is graph node deal pats real mirrors short = turn_is graph node deal real short ∙ ap (seat_in_place node.lead) mirrors.as_long

-- two places of a trick are two seats
apart : (leader : Seat) (one other : ℕ) → one < 4 → other < 4 → seat_in_place leader one ≡ seat_in_place leader other → one ≡ other
apart leader one other a b same = sym (place_of-seat_in_place leader one a) ∙ (ap (place_of leader) same ∙ place_of-seat_in_place leader other b)

-- so a card that was dealt to the seat to play was not played to the trick
still_holds : (graph : GraphShape) (node : Node) (deal : Deal) (pats : List PatCard) (real : List Card) (card : Card) → Mirrors graph node deal pats real → length real < 4 →
    holder_of deal card ≡ Some (seat_in_place node.lead (length real)) → StillHolds deal real (seat_to_play (opening_at graph node deal) real) card
still_holds graph node deal pats real card mirrors short held = record {
  dealt = held ∙ ap Some (sym (turn_is graph node deal real short));
  unplayed = λ (place, less, is).
      let here : real_in_place real place ≡ card = get_or_default real place (card_of Spades Two) card less ∙ is in
      let both : Some (seat_in_place node.lead place) ≡ Some (seat_in_place node.lead (length real)) = sym (mirrors.dealt place less) ∙ (ap (holder_of deal) here ∙ held) in
      let seats : seat_in_place node.lead place ≡ seat_in_place node.lead (length real) = cc in
      omega (arith, apart node.lead place (length real) (omega arith) short seats, less);
}

-- the suits led are one
led_is : (graph : GraphShape) (node : Node) (deal : Deal) (pats : List PatCard) (real : List Card) → Mirrors graph node deal pats real → length real < 4 → suit_led real ≡ suit_led_by pats
led_is graph node deal pats real mirrors short = suit_of_first-short real short ∙ first pats real mirrors.as_long mirrors.stand
  where
    first : (pats : List PatCard) (real : List Card) → length real ≡ length pats → ((place : ℕ) → place < length real → StandsFor node.pattern deal (played_in_place pats place) (real_in_place real place)) →
        suit_of_first real ≡ suit_led_by pats
    first [] [] same stand = refl
    first (pat ∷ pats) (card ∷ real) same stand = ap Some (stands_suit node.pattern deal pat card (stand 0 (omega arith)))
    first [] (card ∷ real) same stand = absurd (omega (arith, same))
    first (pat ∷ pats) [] same stand = absurd (omega (arith, same))

-- what a pattern card that may come next stands for
pub record IsPlayable (graph : GraphShape) (node : Node) (deal : Deal) (real : List Card) (pat : PatCard) : Type 0 where
  pub card : Card
  pub can : CanPlay (opening_at graph node deal) real card
  pub stands : StandsFor node.pattern deal pat card

-- A pattern card that may come next stands for some card that may be played.
pub some_card_playable : (graph : GraphShape) (node : Node) (deal : Deal) (pats : List PatCard) (real : List Card) (pat : PatCard) → Matches node.pattern deal →
    Mirrors graph node deal pats real → length real < 4 → MayComeNext node pats pat → IsPlayable graph node deal real pat
some_card_playable graph node deal pats real pat matches mirrors short legal =
    let some = IsSomeCard-of node.pattern deal (player_after node pats) pat matches legal.has in
    let held : holder_of deal some.card ≡ Some (seat_in_place node.lead (length real)) = some.held ∙ ap (λ n. Some (seat_in_place node.lead n)) (sym mirrors.as_long) in
    record {
      card = some.card;
      can = record {
        held = still_holds graph node deal pats real some.card mirrors short held;
        follows = λ led is can.
            let here : suit_led_by pats ≡ Some led = sym (led_is graph node deal pats real mirrors short) ∙ is in
            let follows : FollowsSuit node.pattern (player_after node pats) (Some led) pat = rw here at legal.follows in
            let own : holder_of deal can.0 ≡ Some (player_after node pats) = can.1.dealt ∙ ap Some (player_is graph node deal pats real mirrors short) in
            stands_suit node.pattern deal pat some.card some.stands ∙ follows ((length_is_held node.pattern deal led (player_after node pats) matches).1 (can.0, own, can.2));
      };
      stands = some.stands;
    }

-- the pattern card that a card is, where it may come next
pub record IsFound (node : Node) (deal : Deal) (pats : List PatCard) (card : Card) : Type 0 where
  pub pat : PatCard
  pub legal : MayComeNext node pats pat
  pub stands : StandsFor node.pattern deal pat card

-- Each card that may be played is a pattern card that may come next.
pub each_card_found : (graph : GraphShape) (node : Node) (deal : Deal) (pats : List PatCard) (real : List Card) (card : Card) → Matches node.pattern deal →
    Mirrors graph node deal pats real → length real < 4 → CanPlay (opening_at graph node deal) real card → IsFound node deal pats card
each_card_found graph node deal pats real card matches mirrors short can =
    let player = player_after node pats in
    let turn = player_is graph node deal pats real mirrors short in
    let one = IsOnePatCard-of node.pattern deal player card matches (can.held.dealt ∙ ap Some turn) in
    record {
      pat = one.one;
      legal = record { has = one.has; follows = follow (suit_led_by pats) refl one.one one.stands };
      stands = one.stands;
    }
  where
    follow : (led : Option Suit) → suit_led_by pats ≡ led → (pat : PatCard) → StandsFor node.pattern deal pat card → FollowsSuit node.pattern (player_after node pats) led pat
    follow None is pat stands = tt
    follow (Some led) is pat stands = λ some.
        let has = (length_is_held node.pattern deal led (player_after node pats) matches).0 some in
        let own : holder_of deal has.0 ≡ Some (seat_in_place node.lead (length real)) = has.1 ∙ ap (λ n. Some (seat_in_place node.lead n)) (sym mirrors.as_long) in
        let holds = still_holds graph node deal pats real has.0 mirrors short own in
        sym (stands_suit node.pattern deal pat card stands) ∙ can.follows led (led_is graph node deal pats real mirrors short ∙ is) (has.0, holds, has.2)

-- one card more
pub one_more_mirrors : (graph : GraphShape) (node : Node) (deal : Deal) (pats : List PatCard) (real : List Card) (pat : PatCard) (card : Card) → Mirrors graph node deal pats real → length real < 4 →
    CanPlay (opening_at graph node deal) real card → StandsFor node.pattern deal pat card → Mirrors graph node deal (pats ++ pat ∷ []) (real ++ card ∷ [])
one_more_mirrors graph node deal pats real pat card mirrors short can stands =
    let two = card_of Spades Two in
    record {
      as_long = omega (arith, mirrors.as_long, length-append real (card ∷ []), length-append pats (pat ∷ []));
      legal = IsLegalHistory-push (opening_at graph node deal) real card mirrors.legal can;
      dealt = λ place less. elim (cases_lt place (length real)) [
        | inl before ↦ rw (get_or-append real (card ∷ []) two place before) (mirrors.dealt place before)
        | inr last ↦ (let is : place ≡ length real = omega (arith, length-append real (card ∷ [])) in
            rw (is, get_or-append_seam real card [] two) (can.held.dealt ∙ ap Some (turn_is graph node deal real short)))
      ];
      stand = λ place less. elim (cases_lt place (length real)) [
        | inl before ↦ (let before' : place < length pats = omega (arith, mirrors.as_long) in
            rw (get_or-append real (card ∷ []) two place before, get_or-append pats (pat ∷ []) (Top Spades 0) place before') (mirrors.stand place before))
        | inr last ↦ (let is : place ≡ length real = omega (arith, length-append real (card ∷ [])) in
            let pat_is : get_or (pats ++ pat ∷ []) (length real) (Top Spades 0) ≡ pat = ap (λ n. get_or (pats ++ pat ∷ []) n (Top Spades 0)) mirrors.as_long ∙ get_or-append_seam pats pat [] (Top Spades 0) in
            rw (is, get_or-append_seam real card [] two, pat_is) stands)
      ];
    }
