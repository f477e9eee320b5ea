-- The words share a bit exactly if a card is in two hands.
use Rattle.std.proofs.Common.{◌≡◌, ◌≢◌, ℕ, Bool, true, false, eqb, not, MatchBool, sym, subst, inl, inr}
use Rattle.std.proofs.lemmas.Bool.{cases_eq, eq-eqb, ne_eqb, not_from_true, not_from_false}
use Rattle.cards.proofs.HandLaws.{some_card_twice, at_most_one}
use Rattle.dds_calls.proofs.trick_counts.have_card_twice.Goals as goal

unless_zero : (n : ℕ) (P Q : Type 0) → (n ≢ 0 → P) → (n ≡ 0 → Q) → MatchBool (not (eqb n 0)) P Q
unless_zero n P Q f g =
    let R : Bool → Type 0 = λ b. MatchBool b P Q in
    elim (cases_eq n 0) [
      | inl e ↦ let t : not (eqb n 0) ≡ false = not_from_true _ (eq-eqb n 0 e) in subst R (sym t) (g e)
      | inr ne ↦ let t : not (eqb n 0) ≡ true = not_from_false _ (ne_eqb n 0 ne) in subst R (sym t) (f ne)
    ]

pub returns : goal.returns
returns c = unless_zero _ _ _ (some_card_twice c.args.words.now c.requires) (at_most_one c.args.words.now)
