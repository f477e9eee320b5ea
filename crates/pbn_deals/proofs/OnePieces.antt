-- A line has one row of pieces.
use Rattle.std.proofs.Common.{◌≡◌, ℕ, Bool, true, false, List, [], ◌∷◌, ◌++◌, Some, refl, sym, ◌∙◌, ap, subst}
use Rattle.std.proofs.lemmas.List.{append_cancel_right}
use Rattle.pbn_deals.specs.Tags.{Tag, tag_of}
use Rattle.pbn_deals.specs.Reading.{Lacks, Meaning, EndsLine, OpensComment, OpensText, OpensTag, IsSpace}
use Rattle.pbn_deals.specs.Pieces.{Piece, Comment, Pair, Data, is_data, HasPieces, at_line_end, space, section_data, quoted_text, unended_text, line_comment, brace_comment, open_comment, tag_pair, no_tag_pair}
use Rattle.pbn_deals.proofs.OneCut.{one_cut, no_cut}

-- ---- what is section data means nothing else
data_is : (in_data : Bool) {meaning other : Meaning} → is_data in_data meaning ≡ true → meaning ≡ other → is_data in_data other ≡ true
data_is in_data d m = subst (λ x. is_data in_data x ≡ true) m d

module _ (in_data : Bool) {meaning : Meaning} (d : is_data in_data meaning ≡ true) where
  ends_no_line : meaning ≡ EndsLine → ⊥
  ends_no_line m = let f : false ≡ true = data_is in_data d m in absurd (cc)

  opens_no_comment : meaning ≡ OpensComment → ⊥
  opens_no_comment m = let f : false ≡ true = data_is in_data d m in absurd (cc)

  opens_no_text : meaning ≡ OpensText → ⊥
  opens_no_text m = let f : false ≡ true = data_is in_data d m in absurd (cc)

module _ {meaning : Meaning} (d : is_data false meaning ≡ true) where
  opens_no_tag : meaning ≡ OpensTag → ⊥
  opens_no_tag m = let f : false ≡ true = data_is false d m in absurd (cc)

  no_space : meaning ≡ IsSpace → ⊥
  no_space m = let f : false ≡ true = data_is false d m in absurd (cc)

-- ---- a text that is cut at the first such byte
pub one_front : (byte : ℕ) (text text' rest rest' : List ℕ) → text ++ byte ∷ rest ≡ text' ++ byte ∷ rest' → Lacks byte text → Lacks byte text' → text ≡ text'
one_front byte text text' rest rest' e h h' =
    let same : rest ≡ rest' = one_cut byte text text' rest rest' e h h' in
    append_cancel_right text text' (byte ∷ rest) (e ∙ ap (λ r. text' ++ byte ∷ r) (sym same))

-- ---- the pieces
abbrev AreSame : List Piece → List Piece → Bool → Bool → Type 0
AreSame pieces pieces' is_open is_open' = (pieces ≡ pieces') × (is_open ≡ is_open')

behind : {pieces pieces' : List Piece} {is_open is_open' : Bool} (piece piece' : Piece) → piece ≡ piece' → AreSame pieces pieces' is_open is_open' → AreSame (piece ∷ pieces) (piece' ∷ pieces') is_open is_open'
behind piece piece' e same = (let p = same.0 in cc, same.1)

moved : (in_data : Bool) {pieces : List Piece} {is_open : Bool} {rest rest' : List ℕ} → rest ≡ rest' → HasPieces in_data rest pieces is_open → HasPieces in_data rest' pieces is_open
moved in_data {pieces} {is_open} e h = subst (λ t. HasPieces in_data t pieces is_open) e h

some_inj : {A : Type 0} {x y : A} → Some x ≡ Some y → x ≡ y
some_inj e = cc

-- one tag pair stands after a bracket
module _ {tag tag' : Tag} (inside inside' : List ℕ) {rest : List ℕ} (g : tag_of rest ≡ Some tag) (g' : tag_of rest ≡ Some tag') (e : rest ≡ inside ++ tag.rest) (e' : rest ≡ inside' ++ tag'.rest) where
  one_tag : tag ≡ tag'
  one_tag = some_inj (sym g ∙ g')

  one_inside : inside ≡ inside'
  one_inside = append_cancel_right inside inside' tag.rest (sym e ∙ (e' ∙ ap (λ (t : Tag). inside' ++ t.rest) (sym one_tag)))

  one_pair : (byte : ℕ) → Pair tag.name tag.value (byte ∷ inside) ≡ Pair tag'.name tag'.value (byte ∷ inside')
  one_pair byte = ap (λ (t : Tag). Pair t.name t.value (byte ∷ inside)) one_tag ∙ ap (λ x. Pair tag'.name tag'.value (byte ∷ x)) one_inside

pub one_pieces : {in_data : Bool} {line : List ℕ} {pieces pieces' : List Piece} {is_open is_open' : Bool} → HasPieces in_data line pieces is_open → HasPieces in_data line pieces' is_open' → AreSame pieces pieces' is_open is_open'
one_pieces at_line_end at_line_end = (refl, refl)
one_pieces (space m r) (space m' r') = behind _ _ refl (one_pieces r r')
one_pieces (space m r) (section_data d' r') = absurd (no_space d' m)
one_pieces (space m r) (quoted_text t' m' e' l' r') = absurd (cc)
one_pieces (space m r) (unended_text m' l') = absurd (cc)
one_pieces (space m r) (line_comment m') = absurd (cc)
one_pieces (space m r) (brace_comment t' m' e' l' r') = absurd (cc)
one_pieces (space m r) (open_comment m' l') = absurd (cc)
one_pieces (space m r) (tag_pair i' m' g' e' r') = absurd (cc)
one_pieces (space m r) (no_tag_pair m' g') = absurd (cc)
one_pieces (section_data d r) (space m' r') = absurd (no_space d m')
one_pieces (section_data d r) (section_data d' r') = behind _ _ refl (one_pieces r r')
one_pieces (section_data d r) (quoted_text t' m' e' l' r') = absurd (opens_no_text _ d m')
one_pieces (section_data d r) (unended_text m' l') = absurd (opens_no_text _ d m')
one_pieces (section_data d r) (line_comment m') = absurd (ends_no_line _ d m')
one_pieces (section_data d r) (brace_comment t' m' e' l' r') = absurd (opens_no_comment _ d m')
one_pieces (section_data d r) (open_comment m' l') = absurd (opens_no_comment _ d m')
one_pieces (section_data d r) (tag_pair i' m' g' e' r') = absurd (opens_no_tag d m')
one_pieces (section_data d r) (no_tag_pair m' g') = absurd (opens_no_tag d m')
one_pieces (quoted_text t m e l r) (space m' r') = absurd (cc)
one_pieces (quoted_text t m e l r) (section_data d' r') = absurd (opens_no_text _ d' m)
one_pieces (quoted_text {byte = byte} t m e l r) (quoted_text t' m' e' l' r') = let f = sym e ∙ e' in behind _ _ (ap (λ x. Data (byte ∷ (x ++ 34 ∷ []))) (one_front 34 t t' _ _ f l l')) (one_pieces r (moved true (sym (one_cut 34 t t' _ _ f l l')) r'))
one_pieces (quoted_text t m e l r) (unended_text m' l') = absurd (no_cut 34 _ t _ e l')
one_pieces (quoted_text t m e l r) (line_comment m') = absurd (cc)
one_pieces (quoted_text t m e l r) (brace_comment t' m' e' l' r') = absurd (cc)
one_pieces (quoted_text t m e l r) (open_comment m' l') = absurd (cc)
one_pieces (quoted_text t m e l r) (tag_pair i' m' g' e' r') = absurd (cc)
one_pieces (quoted_text t m e l r) (no_tag_pair m' g') = absurd (cc)
one_pieces (unended_text m l) (space m' r') = absurd (cc)
one_pieces (unended_text m l) (section_data d' r') = absurd (opens_no_text _ d' m)
one_pieces (unended_text m l) (quoted_text t' m' e' l' r') = absurd (no_cut 34 _ t' _ e' l)
one_pieces (unended_text m l) (unended_text m' l') = (refl, refl)
one_pieces (unended_text m l) (line_comment m') = absurd (cc)
one_pieces (unended_text m l) (brace_comment t' m' e' l' r') = absurd (cc)
one_pieces (unended_text m l) (open_comment m' l') = absurd (cc)
one_pieces (unended_text m l) (tag_pair i' m' g' e' r') = absurd (cc)
one_pieces (unended_text m l) (no_tag_pair m' g') = absurd (cc)
one_pieces (line_comment m) (space m' r') = absurd (cc)
one_pieces (line_comment m) (section_data d' r') = absurd (ends_no_line _ d' m)
one_pieces (line_comment m) (quoted_text t' m' e' l' r') = absurd (cc)
one_pieces (line_comment m) (unended_text m' l') = absurd (cc)
one_pieces (line_comment m) (line_comment m') = (refl, refl)
one_pieces (line_comment m) (brace_comment t' m' e' l' r') = absurd (cc)
one_pieces (line_comment m) (open_comment m' l') = absurd (cc)
one_pieces (line_comment m) (tag_pair i' m' g' e' r') = absurd (cc)
one_pieces (line_comment m) (no_tag_pair m' g') = absurd (cc)
one_pieces (brace_comment t m e l r) (space m' r') = absurd (cc)
one_pieces (brace_comment t m e l r) (section_data d' r') = absurd (opens_no_comment _ d' m)
one_pieces (brace_comment t m e l r) (quoted_text t' m' e' l' r') = absurd (cc)
one_pieces (brace_comment t m e l r) (unended_text m' l') = absurd (cc)
one_pieces (brace_comment t m e l r) (line_comment m') = absurd (cc)
one_pieces (brace_comment {byte = byte} t m e l r) (brace_comment t' m' e' l' r') = let f = sym e ∙ e' in behind _ _ (ap (λ x. Comment (byte ∷ (x ++ 125 ∷ []))) (one_front 125 t t' _ _ f l l')) (one_pieces r (moved _ (sym (one_cut 125 t t' _ _ f l l')) r'))
one_pieces (brace_comment t m e l r) (open_comment m' l') = absurd (no_cut 125 _ t _ e l')
one_pieces (brace_comment t m e l r) (tag_pair i' m' g' e' r') = absurd (cc)
one_pieces (brace_comment t m e l r) (no_tag_pair m' g') = absurd (cc)
one_pieces (open_comment m l) (space m' r') = absurd (cc)
one_pieces (open_comment m l) (section_data d' r') = absurd (opens_no_comment _ d' m)
one_pieces (open_comment m l) (quoted_text t' m' e' l' r') = absurd (cc)
one_pieces (open_comment m l) (unended_text m' l') = absurd (cc)
one_pieces (open_comment m l) (line_comment m') = absurd (cc)
one_pieces (open_comment m l) (brace_comment t' m' e' l' r') = absurd (no_cut 125 _ t' _ e' l)
one_pieces (open_comment m l) (open_comment m' l') = (refl, refl)
one_pieces (open_comment m l) (tag_pair i' m' g' e' r') = absurd (cc)
one_pieces (open_comment m l) (no_tag_pair m' g') = absurd (cc)
one_pieces (tag_pair i m g e r) (space m' r') = absurd (cc)
one_pieces (tag_pair i m g e r) (section_data d' r') = absurd (opens_no_tag d' m)
one_pieces (tag_pair i m g e r) (quoted_text t' m' e' l' r') = absurd (cc)
one_pieces (tag_pair i m g e r) (unended_text m' l') = absurd (cc)
one_pieces (tag_pair i m g e r) (line_comment m') = absurd (cc)
one_pieces (tag_pair i m g e r) (brace_comment t' m' e' l' r') = absurd (cc)
one_pieces (tag_pair i m g e r) (open_comment m' l') = absurd (cc)
one_pieces (tag_pair i m g e r) (tag_pair i' m' g' e' r') = behind _ _ (one_pair i i' g g' e e' _) (one_pieces r (moved false (ap (λ (t : Tag). t.rest) (sym (one_tag i i' g g' e e'))) r'))
one_pieces (tag_pair i m g e r) (no_tag_pair m' g') = absurd (cc)
one_pieces (no_tag_pair m g) (space m' r') = absurd (cc)
one_pieces (no_tag_pair m g) (section_data d' r') = absurd (opens_no_tag d' m)
one_pieces (no_tag_pair m g) (quoted_text t' m' e' l' r') = absurd (cc)
one_pieces (no_tag_pair m g) (unended_text m' l') = absurd (cc)
one_pieces (no_tag_pair m g) (line_comment m') = absurd (cc)
one_pieces (no_tag_pair m g) (brace_comment t' m' e' l' r') = absurd (cc)
one_pieces (no_tag_pair m g) (open_comment m' l') = absurd (cc)
one_pieces (no_tag_pair m g) (tag_pair i' m' g' e' r') = absurd (cc)
one_pieces (no_tag_pair m g) (no_tag_pair m' g') = (refl, refl)
