-- The pieces of a whole text, one after the other.
use Rattle.std.proofs.Common.{◌≡◌, ◌≢◌, ℕ, ◌+◌, ◌≤◌, List, [], ◌∷◌, ◌++◌, length, take, drop, inl, inr, refl, sym, ◌∙◌, ap, subst, arith, append_assoc}
use Rattle.std.proofs.lemmas.List.{append-nil, take-append-drop, length-take-le, length-drop, take_all, nil_from_length, drop-drop}
use Rattle.memchr.specs.Find.{OccursAt, Nowhere, NoneBefore}
use Rattle.evidence.specs.Damages.{IsDamageOf}
use Rattle.play_evidence.specs.Sections.{PlaySectionShape}
use Rattle.play_evidence.specs.Wholes.{border, IsFirstPiece, ArePieces, no_piece, is_section, is_damaged, AddsPiece, IsWhole}
use Rattle.play_evidence.specs.declared.wholes.WholeEvidence.{WholeEvidence}

-- ---- the end of the first piece
pub some_text : (text : List ℕ) → text ≢ [] → 1 ≤ length text
some_text [] some = absurd (some refl)
some_text (byte ∷ text) some = omega arith

pub piece_before : (text : List ℕ) (place : ℕ) → NoneBefore (OccursAt text border) 0 (length text + 1) place → OccursAt text border place
    → IsFirstPiece text (take (place + 1) text) (drop (place + 1) text)
piece_before text place first here =
    let fits = here.fits in
    let long : length (take (place + 1) text) ≡ place + 1 = length-take-le (place + 1) text (omega arith) in
    inl (record {
      whole = sym (take-append-drop (place + 1) text);
      some = omega (arith, long);
      here = subst (OccursAt text border) (omega (arith, long)) here;
      first = λ other less occurs. first.before other (omega arith) (omega (arith, long)) occurs;
    })

pub piece_is_text : (text : List ℕ) → 1 ≤ length text → Nowhere (OccursAt text border) 0 (length text + 1)
    → IsFirstPiece text (take (length text) text) (drop (length text) text)
piece_is_text text some nowhere =
    let all = take_all (length text) text (omega arith) in
    inr (record {
      whole = sym all;
      some = subst (λ (l : List ℕ). 1 ≤ length l) (sym all) some;
      nothing = nil_from_length _ (length-drop (length text) text ∙ (omega arith));
      none = λ place occurs. nowhere place (omega arith) (let fits = occurs.fits in omega arith) occurs;
    })

pub moves_on : (text : List ℕ) (n : ℕ) (rest : List ℕ) → IsFirstPiece text (take n text) rest → n ≤ length text → 1 ≤ n
moves_on text n rest (inl ends) within = omega (arith, length-take-le n text within, ends.some)
moves_on text n rest (inr ends) within = omega (arith, length-take-le n text within, ends.some)

-- ---- what was read of a text
-- If these are the pieces from this byte on, then all pieces are those that were read and these.
abbrev pub GoesOn : List ℕ → ℕ → List PlaySectionShape → List ℕ → Type 0
GoesOn text at sections damaged =
    (more : List PlaySectionShape) (others : List ℕ) → ArePieces at (drop at text) more others
    → ArePieces 0 text (sections ++ more) (damaged ++ others)

pub record IsReadTo (text : List ℕ) (at : ℕ) (whole : WholeEvidence) : Type 0 where
  pub damaged : List ℕ
  pub damage_is : IsDamageOf damaged whole.damage
  pub goes_on : GoesOn text at whole.sections.items damaged

-- nothing was read yet
pub none_read : (text : List ℕ) (whole : WholeEvidence) → whole.sections.items ≡ [] → IsDamageOf [] whole.damage → IsReadTo text 0 whole
none_read text whole empty none = record {
  damaged = [];
  damage_is = none;
  goes_on = λ more others pieces. subst (λ (l : List PlaySectionShape). ArePieces 0 text (l ++ more) others) (sym empty) pieces;
}

-- one piece more
module _ (text : List ℕ) (at n end : ℕ) (until : end ≡ at + n) (first : IsFirstPiece (drop at text) (take n (drop at text)) (drop n (drop at text))) (within : n ≤ length (drop at text)) where
  piece : List ℕ
  piece = take n (drop at text)

  behind : (more : List PlaySectionShape) (others : List ℕ) → ArePieces end (drop end text) more others → ArePieces (at + length piece) (drop n (drop at text)) more others
  unfolding piece
  behind more others pieces =
      let long : at + length (take n (drop at text)) ≡ end = omega (arith, length-take-le n (drop at text) within, until) in
      let here : drop n (drop at text) ≡ drop end text = drop-drop n at text ∙ ap (λ k. drop k text) (omega (arith, until)) in
      subst (λ k. ArePieces k (drop n (drop at text)) more others) (sym long) (subst (λ (t : List ℕ). ArePieces end t more others) (sym here) pieces)

  pub piece_read : (old new : WholeEvidence) → AddsPiece at (take n (drop at text)) old new → IsReadTo text at old → IsReadTo text end new
  unfolding piece
  piece_read old new (inl is) read = record {
    damaged = read.damaged;
    damage_is = subst (IsDamageOf read.damaged) (sym is.3) read.damage_is;
    goes_on = λ more others pieces.
        let next = read.goes_on (is.0 ∷ more) others (is_section at (drop at text) _ (drop n (drop at text)) is.0 more others first is.1 (behind more others pieces)) in
        subst (λ (l : List PlaySectionShape). ArePieces 0 text l (read.damaged ++ others))
        (sym (ap (λ (l : List PlaySectionShape). l ++ more) is.2 ∙ append_assoc old.sections.items (is.0 ∷ []) more)) next;
  }
  piece_read old new (inr is) read = record {
    damaged = read.damaged ++ at ∷ [];
    damage_is = is.2 read.damaged read.damage_is;
    goes_on = λ more others pieces.
        let next = read.goes_on more (at ∷ others) (is_damaged at (drop at text) _ (drop n (drop at text)) more others first is.0 (behind more others pieces)) in
        subst (λ (l : List PlaySectionShape). ArePieces 0 text (l ++ more) ((read.damaged ++ at ∷ []) ++ others)) (sym is.1)
        (subst (λ (d : List ℕ). ArePieces 0 text (old.sections.items ++ more) d) (sym (append_assoc read.damaged (at ∷ []) others)) next);
  }

-- all was read
pub all_read : (text : List ℕ) (at : ℕ) (whole : WholeEvidence) → length text ≤ at → IsReadTo text at whole → IsWhole text whole.sections.items whole.damage
all_read text at whole end read =
    let nothing : drop at text ≡ [] = nil_from_length _ (length-drop at text ∙ (omega arith)) in
    let pieces = read.goes_on [] [] (subst (λ (t : List ℕ). ArePieces at t [] []) (sym nothing) (no_piece at)) in
    record {
      damaged = read.damaged;
      pieces = subst (λ (l : List PlaySectionShape). ArePieces 0 text l read.damaged) (append-nil whole.sections.items)
          (subst (λ (d : List ℕ). ArePieces 0 text (whole.sections.items ++ []) d) (append-nil read.damaged) pieces);
      damage_is = read.damage_is;
    }
