-- A text to which one piece after another is added.
use Rattle.std.proofs.Common.{◌≡◌, ℕ, ◌+◌, ◌<◌, ◌≤◌, List, ◌++◌, length, get_or, take, sym, ◌∙◌, ap, append_assoc}
use Rattle.std.specs.Prelude.{flat_map}
use Rattle.cards.proofs.WriteLemmas.{pieces-more, pieces-all}

module _ {X : Type 0} (text_of : X → List ℕ) (all : List X) (i : ℕ) (old now : List ℕ)
    (added : now ≡ old ++ flat_map text_of (take i all)) where
  -- one piece more
  pub piece_more : (d : X) (next : List ℕ) → i < length all → next ≡ now ++ text_of (get_or all i d) →
      next ≡ old ++ flat_map text_of (take (i + 1) all)
  piece_more d next h is =
      is
      ∙ (ap (λ (t : List ℕ). t ++ text_of (get_or all i d)) added
      ∙ (append_assoc old (flat_map text_of (take i all)) (text_of (get_or all i d))
      ∙ ap (λ (t : List ℕ). old ++ t) (sym (pieces-more text_of all i d h))))

  -- all pieces
  pub pieces_done : length all ≤ i → now ≡ old ++ flat_map text_of all
  pieces_done h = added ∙ ap (λ (t : List ℕ). old ++ t) (pieces-all text_of all i h)
