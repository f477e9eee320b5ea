-- The sections of evidence, looked through one after the other.
use Rattle.std.proofs.Common.{◌≡◌, Bool, true, false, not, refl, ℕ, ◌+◌, ◌<◌, ◌≤◌, List, [], ◌∷◌, length, drop, get_or, inl, inr, sym, ◌∙◌, ap, subst}
use Rattle.std.proofs.lemmas.List.{drop_more, drop_all}
use Rattle.cards.specs.declared.pack.Card.{Card}
use Rattle.cards.specs.declared.seats.Seat.{Seat}
use Rattle.cards.specs.declared.suits.Trump.{Trump}
use Rattle.cards.specs.Deal.{Deal}
use Rattle.play_claims.specs.declared.claims.PlayBundle.{PlayBundle}
use Rattle.play_evidence.specs.Sections.{PlaySectionShape, parts_of, shape_of, nodes_of}
use Rattle.play_evidence.specs.declared.sections.PlayContents.{PlayContents}
use Rattle.play_evidence.proofs.SectionLemmas.{same_parts}
use Rattle.play_evidence.specs.Answers.{IsOfPlay, IsFirstFor}

-- a test that is not denied holds
pub undenied : (test : Bool) → false ≡ not test → test ≡ true
undenied true denied = refl
undenied false denied = cc

module _ (sections : List PlaySectionShape) (deal : Deal) (leader : Seat) (trump : Trump) (cards : List Card) where
  -- no section before this place is of the play
  abbrev pub IsPassed : ℕ → Type 0
  IsPassed place =
      (bundle : PlayBundle) → IsFirstFor (drop place sections) deal leader trump cards bundle → IsFirstFor sections deal leader trump cards bundle

  pub pass : (place : ℕ) (section : PlaySectionShape) → place < length sections → section ≡ get_or sections place section
      → (IsOfPlay section deal leader trump cards → ⊥) → IsPassed place → IsPassed (place + 1)
  pass place section less is other passed bundle first =
      let here : drop place sections ≡ section ∷ drop (place + 1) sections =
      drop_more sections place section less ∙ ap (λ s. s ∷ drop (place + 1) sections) (sym is) in
      passed bundle (subst (λ l. IsFirstFor l deal leader trump cards bundle) (sym here) (inr (other, first)))

  pub take_here : (place : ℕ) (section : PlaySectionShape) (bundle : PlayBundle) → place < length sections → section ≡ get_or sections place section
      → section ≡ shape_of deal leader trump cards bundle → IsPassed place → IsFirstFor sections deal leader trump cards bundle
  take_here place section bundle less is shape passed =
      let here : drop place sections ≡ section ∷ drop (place + 1) sections =
      drop_more sections place section less ∙ ap (λ s. s ∷ drop (place + 1) sections) (sym is) in
      passed bundle (subst (λ l. IsFirstFor l deal leader trump cards bundle) (sym here) (inl shape))

  pub none_here : (place : ℕ) (bundle : PlayBundle) → length sections ≤ place → bundle.claims.items ≡ [] → IsPassed place → IsFirstFor sections deal leader trump cards bundle
  none_here place bundle end empty passed =
      passed bundle (subst (λ l. IsFirstFor l deal leader trump cards bundle) (sym (drop_all place sections end)) empty)

-- ---- a copy of the bundle of a section
pub copied : (section : PlaySectionShape) (contents : PlayContents) (copy : PlayBundle) (deal : Deal) (leader : Seat) (trump : Trump) (cards : List Card) → parts_of contents ≡ section → IsOfPlay section deal leader trump cards
    → copy.claims.items ≡ contents.bundle.now.claims.items → nodes_of copy.ns ≡ nodes_of contents.bundle.now.ns → nodes_of copy.ew ≡ nodes_of contents.bundle.now.ew
    → section ≡ shape_of deal leader trump cards copy
copied section contents copy deal leader trump cards parts of claims ns ew =
    same_parts section (shape_of deal leader trump cards copy) of.deal_is of.leader_is of.trump_is of.cards_are
    (ap (λ (s : PlaySectionShape). s.claims) (sym parts) ∙ sym claims)
    (ap (λ (s : PlaySectionShape). s.ns) (sym parts) ∙ sym ns)
    (ap (λ (s : PlaySectionShape). s.ew) (sym parts) ∙ sym ew)
