-- The play of a game as it is recorded card by card: no card of it is refused.
use Rattle.std.proofs.Common.{◌≡◌, ℕ, ◌+◌, ◌<◌, ◌≤◌, List, [], ◌∷◌, ◌++◌, length, take, get_or, Err, sym, ◌∙◌, ap, subst, arith}
use Rattle.std.proofs.lemmas.List.{take_more, take_all}
use Rattle.cards.specs.declared.pack.Card.{Card}
use Rattle.cards.specs.declared.seats.Side.{Side}
use Rattle.cards.specs.Seats.{side_of}
use Rattle.cards.specs.Deal.{IsLayout}
use Rattle.play_rules.specs.declared.faults.PlayFault.{PlayFault}
use Rattle.play_rules.specs.declared.faults.PlayFault.TheVariants.{NotHeld, MustFollow, Over}
use Rattle.play_rules.specs.History.{Opening}
use Rattle.play_rules.specs.Legal.{IsLegalHistory}
use Rattle.play_rules.specs.Position.{Position, with_card}
use Rattle.play_rules.specs.Plays.{PlaysOrRefuses}
use Rattle.play_values.specs.PlayValues.{Recorded}
use Rattle.play_values.proofs.LegalLaws.{last_can_play, last_unfinished, next_is_legal}
use Rattle.recorded_plays.specs.declared.plays.RecordedPlay.{RecordedPlay}
use Rattle.recorded_plays.specs.Follow.{opening_of}
use Rattle.play_pages.specs.Lines.{recorded_of, IsLegalPlay}

-- a legal card isn't refused
pub never_refused : (position : Position) (card : Card) (fault : PlayFault) → IsLayout position.opening.deal →
    IsLegalHistory position.opening (position.history ++ card ∷ []) → PlaysOrRefuses position card (Err fault) → ⊥
never_refused position card Over layout legal refused =
    let left = last_unfinished position.opening position.history card layout legal in
    omega (arith, left, refused)
never_refused position card NotHeld layout legal refused =
    refused.1 (last_can_play position.opening position.history card legal).held
never_refused position card MustFollow layout legal refused =
    let fails = refused.1 in
    fails.other_suit ((last_can_play position.opening position.history card legal).follows fails.led fails.is_led fails.can_follow)

abbrev pub made : Opening → List Card → Side → Recorded
made opening history side = record { position = record { opening = opening; history = history }; declarers = side }

-- the first cards of a play, recorded
abbrev pub recorded_to : RecordedPlay → ℕ → Recorded
recorded_to play count = made (opening_of play) (take count play.cards.items) (side_of play.declarer)

pub begun : (play : RecordedPlay) (recorded : Recorded) → recorded.position.opening ≡ opening_of play →
    recorded.position.history ≡ [] → recorded.declarers ≡ side_of play.declarer → recorded ≡ recorded_to play 0
begun play recorded opening history declarers =
    ap (λ (o : Opening). made o recorded.position.history recorded.declarers) opening
    ∙ (ap (λ (h : List Card). made (opening_of play) h recorded.declarers) history
    ∙ ap (λ (s : Side). made (opening_of play) [] s) declarers)

module _ (play : RecordedPlay) (recorded : Recorded) (cards : List Card) (place : ℕ) (d : Card)
    (same : cards ≡ play.cards.items) (within : place < length cards) (is : recorded ≡ recorded_to play place) where
  -- the next card is legal
  pub next_legal : IsLegalPlay play → IsLegalHistory recorded.position.opening (recorded.position.history ++ get_or cards place d ∷ [])
  next_legal legal =
      subst (λ (r : Recorded). IsLegalHistory r.position.opening (r.position.history ++ get_or cards place d ∷ [])) (sym is)
      (subst (λ (c : List Card). IsLegalHistory (opening_of play) (take place play.cards.items ++ get_or c place d ∷ [])) (sym same)
      (next_is_legal (opening_of play) play.cards.items place d legal (omega (arith, within, ap length same))))

  -- and is recorded
  pub recorded_more : (next : Recorded) → next ≡ record recorded { position = with_card recorded.position (get_or cards place d) } →
      next ≡ recorded_to play (place + 1)
  recorded_more next e =
      e
      ∙ (ap (λ (r : Recorded). made r.position.opening (r.position.history ++ get_or cards place d ∷ []) r.declarers) is
      ∙ (ap (λ (c : List Card). made (opening_of play) (take place play.cards.items ++ get_or c place d ∷ []) (side_of play.declarer)) same
      ∙ ap (λ (h : List Card). made (opening_of play) h (side_of play.declarer)) (sym (take_more play.cards.items place d (omega (arith, within, ap length same))))))

-- all cards are recorded
pub all_recorded : (play : RecordedPlay) (recorded : Recorded) (place : ℕ) → length play.cards.items ≤ place →
    recorded ≡ recorded_to play place → recorded ≡ recorded_of play
all_recorded play recorded place over is =
    is ∙ ap (λ (h : List Card). made (opening_of play) h (side_of play.declarer)) (take_all place play.cards.items over)
