-- The lines of a play have one reading.
use Rattle.std.proofs.Common.{◌≡◌, ◌≢◌, ℕ, ◌+◌, ◌≤◌, List, [], ◌∷◌, ◌++◌, length, Bool, sym, ◌∙◌, ap, arith, append_assoc}
use Rattle.std.proofs.lemmas.List.{append-nil, length_push}
use Rattle.cards.specs.declared.pack.Card.{Card}
use Rattle.cards.specs.CardTexts.{card_text, cards_text}
use Rattle.certificate_graph.proofs.OneSpelling.{tails}
use Rattle.card_evidence.proofs.CardLemmas.{one_card}
use Rattle.play_evidence.specs.Readings.{AddsCards}

-- no card is left
pub none_left : (text : List ℕ) (old more : List Card) → text ≡ [] → text ≡ cards_text more → old ≡ old ++ more
none_left text old [] none e = sym (append-nil old)
none_left text old (card ∷ more) none e = absurd (let long : 0 ≡ length (cards_text (card ∷ more)) = ap length (sym none ∙ e) in omega arith)

-- there is no room for a card that is left
pub no_room : (text : List ℕ) (old more : List Card) → text ≢ [] → 52 ≤ length old → length old + length more ≤ 52 → text ≡ cards_text more → ⊥
no_room text old [] some full few e = some e
no_room text old (card ∷ more) some full few e = omega arith

-- the first card was read
pub cards_read : (done : Bool) (text rest : List ℕ) (old pushed new : List Card) (card : Card) → text ≢ [] → text ≡ 32 ∷ (card_text card ++ rest) → pushed ≡ old ++ card ∷ []
    → AddsCards done rest pushed new → AddsCards done text old new
cards_read done text rest old pushed new card some cut push adds [] few e = absurd (some e)
cards_read done text rest old pushed new card some cut push adds (first ∷ cards) few e =
    let long : length pushed ≡ length old + 1 = ap length push ∙ length_push old card in
    let one = one_card card first rest (cards_text cards) (tails 32 32 _ _ (sym cut ∙ e)) in
    let more = adds cards (omega (arith, long)) one.1 in (
      more.0,
      more.1 ∙ (ap (λ (l : List Card). l ++ cards) push ∙ (append_assoc old (card ∷ []) cards ∙ ap (λ (c : Card). old ++ (c ∷ cards)) one.0)),
    )
