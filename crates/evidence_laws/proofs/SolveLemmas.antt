-- The text of an answer is cut where its parts meet: the text of a graph is made of lines, none of them empty.
use Rattle.std.proofs.Common.{◌≡◌, ℕ, zero, suc, ◌+◌, ◌-◌, ◌<◌, List, [], ◌∷◌, ◌++◌, length, slice_get, Some, codes, inl, inr, ◌⊎◌, refl, sym, ◌∙◌, ap, arith, append_assoc}
use Rattle.std.specs.Fmt.{decimal}
use Rattle.std.proofs.lemmas.List.{length-append}
use Rattle.std.proofs.lemmas.Bool.{cases_lt}
use Rattle.std.proofs.lemmas.Option.{slice_get_within}
use Rattle.certificate_graph.specs.Texts.{graph_text}
use Rattle.evidence.proofs.GraphLines.{Plain, Lines, no_line, line, IsOther, graph_lines}
use Rattle.deal_subcommands.specs.Answers.{IsEmptyLine, HasNoEmptyLine, IsCut}
use Rattle.evidence_laws.specs.Solves.{AnswersAreReadBack}

-- ---- what lines have
-- no byte of a plain text ends a line
no_end : (bytes : List ℕ) (place : ℕ) → Plain bytes → slice_get bytes place ≡ Some 10 → ⊥
no_end [] place plain e = cc
no_end (byte ∷ rest) zero plain e = plain.0 (some_same e)
  where
    some_same : Some byte ≡ Some 10 → byte ≡ 10
    some_same h = cc
no_end (byte ∷ rest) (suc place) plain e = no_end rest place plain.1 e

-- the bytes of two parts
get_front : (front rest : List ℕ) (place : ℕ) → place < length front → slice_get (front ++ rest) place ≡ slice_get front place
get_front [] rest place h = absurd (omega arith)
get_front (byte ∷ more) rest zero h = refl
get_front (byte ∷ more) rest (suc place) h = get_front more rest place (omega arith)

get_after : (front rest : List ℕ) (place : ℕ) → slice_get (front ++ rest) (length front + place) ≡ slice_get rest place
get_after [] rest place = let same : 0 + place ≡ place = omega arith in ap (slice_get rest) same
get_after (byte ∷ more) rest place =
    let next : length (byte ∷ more) + place ≡ suc (length more + place) = omega arith in
    ap (slice_get (byte ∷ (more ++ rest))) next ∙ get_after more rest place

-- an empty line after a line is one of the rest
begins_after : (bytes rest : List ℕ) (n place : ℕ) → place ≡ length bytes + suc n → IsEmptyLine (bytes ++ (10 ∷ rest)) place →
    (n ≡ 0) ⊎ (slice_get rest (n - 1) ≡ Some 10)
begins_after bytes rest zero place at e = inl refl
begins_after bytes rest (suc n) place at e = elim e.begins [
  | inl first ↦ absurd (omega arith)
  | inr before ↦
      let here : place - 1 ≡ length bytes + suc n = omega arith in
      let same : suc n - 1 ≡ n = omega arith in
      inr (ap (slice_get rest) same ∙ (sym (get_after bytes (10 ∷ rest) (suc n)) ∙ (ap (slice_get (bytes ++ (10 ∷ rest))) (sym here) ∙ before)))
]

none_after : (bytes rest : List ℕ) (n place : ℕ) → place ≡ length bytes + n → Plain bytes → IsOther bytes → HasNoEmptyLine rest →
    IsEmptyLine (bytes ++ (10 ∷ rest)) place → ⊥
none_after bytes rest zero place at plain other none e = elim e.begins [
  | inl first ↦ (let some = other.some in omega arith)
  | inr before ↦
      let some = other.some in
      no_end bytes (place - 1) plain (sym (get_front bytes (10 ∷ rest) (place - 1) (omega arith)) ∙ before)
]
none_after bytes rest (suc n) place at plain other none e = none n (record {
  ends = sym (get_after bytes (10 ∷ rest) (suc n)) ∙ (ap (slice_get (bytes ++ (10 ∷ rest))) (sym at) ∙ e.ends);
  begins = begins_after bytes rest n place at e;
})

no_empty_line : (text : List ℕ) → Lines text → HasNoEmptyLine text
no_empty_line _ no_line place e = no_end [] place tt e.ends
no_empty_line _ (line bytes rest plain other more) place e = elim (cases_lt place (length bytes)) [
  | inl before ↦ no_end bytes place plain (sym (get_front bytes (10 ∷ rest) place before) ∙ e.ends)
  | inr after ↦ none_after bytes rest (place - length bytes) place (omega arith) plain other (no_empty_line rest more) e
]

-- the last byte ends a line
ends_line : (text : List ℕ) → Lines text → (length text ≡ 0) ⊎ (slice_get text (length text - 1) ≡ Some 10)
ends_line _ no_line = inl refl
ends_line _ (line bytes rest plain other more) =
    let all = length-append bytes (10 ∷ rest) in
    elim (ends_line rest more) [
      | inl none ↦
          let last : length (bytes ++ (10 ∷ rest)) - 1 ≡ length bytes + 0 = omega (arith, all) in
          inr (ap (slice_get (bytes ++ (10 ∷ rest))) last ∙ get_after bytes (10 ∷ rest) 0)
      | inr end ↦
          let within : length rest - 1 < length rest = slice_get_within rest (length rest - 1) 10 end in
          let last : length (bytes ++ (10 ∷ rest)) - 1 ≡ length bytes + suc (length rest - 1) = omega (arith, all) in
          inr (ap (slice_get (bytes ++ (10 ∷ rest))) last ∙ (get_after bytes (10 ∷ rest) (suc (length rest - 1)) ∙ end))
    ]

-- an empty line stands after lines
cut_after : (front rest : List ℕ) → Lines front → IsCut (front ++ (10 ∷ rest)) front rest
cut_after front rest lines = record {
  is = refl;
  empty = record {
    ends = (let here : length front ≡ length front + 0 = omega arith in ap (slice_get (front ++ (10 ∷ rest))) here ∙ get_after front (10 ∷ rest) 0);
    begins = elim (ends_line front lines) [
      | inl none ↦ inl none
      | inr end ↦ inr (get_front front (10 ∷ rest) (length front - 1) (slice_get_within front (length front - 1) 10 end) ∙ end)
    ];
  };
  first = no_empty_line front lines;
}

pub are_read_back : AnswersAreReadBack
are_read_back tricks declarers defenders few one other = record {
  few = few;
  body = graph_text declarers ++ (10 ∷ graph_text defenders);
  line = ap (λ t. codes "result " ++ t) (append_assoc (decimal tricks) (10 ∷ []) (graph_text declarers ++ (10 ∷ graph_text defenders)));
  parts = inl (cut_after (graph_text declarers) (graph_text defenders) (graph_lines declarers one));
}
