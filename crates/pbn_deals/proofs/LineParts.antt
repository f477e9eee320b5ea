-- The lines of a text have no line feed, and what a text lacks its parts lack.
use Rattle.std.proofs.Common.{◌≡◌, ◌≢◌, ℕ, zero, suc, ◌≤◌, Bool, true, false, cond, eqb, List, [], ◌∷◌, ◌++◌, length, subst, arith, All}
use Rattle.std.proofs.lemmas.List.Elements.{All-nil, All-cons, All-head, All-tail, All-same}
use Rattle.pbn_deals.specs.Lines.{without_return, lines_of}
use Rattle.pbn_deals.specs.Reading.{Lacks}
use Rattle.pbn_deals.proofs.CutLemmas.{lines_of-cut, lines_of-last, after_shorter}
use Rattle.pbn_deals.proofs.TagParts.{split, split_nowhere, split_at}

-- ---- parts
pub lacks_rest : (byte : ℕ) (front rest : List ℕ) → Lacks byte (front ++ rest) → Lacks byte rest
lacks_rest byte [] rest h = h
lacks_rest byte (first ∷ front) rest h = lacks_rest byte front rest (All-tail (λ other. other ≢ byte) first (front ++ rest) h)

pub lacks_front : (byte : ℕ) (front rest : List ℕ) → Lacks byte (front ++ rest) → Lacks byte front
lacks_front byte [] rest h = All-nil (λ other. other ≢ byte)
lacks_front byte (first ∷ front) rest h =
    All-cons (λ other. other ≢ byte) first front (All-head (λ other. other ≢ byte) first (front ++ rest) h)
    (lacks_front byte front rest (All-tail (λ other. other ≢ byte) first (front ++ rest) h))

pub lacks_after : (byte sign : ℕ) (text front after : List ℕ) → text ≡ front ++ sign ∷ after → Lacks byte text → Lacks byte after
lacks_after byte sign text front after e h =
    All-tail (λ other. other ≢ byte) sign after (lacks_rest byte front (sign ∷ after) (subst (λ t. Lacks byte t) e h))

-- a part in the middle, and what stands after the sign after it and something more
pub lacks_middle : (byte sign : ℕ) (text front middle more rest : List ℕ) → text ≡ front ++ (middle ++ sign ∷ (more ++ rest)) → Lacks byte text → Lacks byte middle × Lacks byte rest
lacks_middle byte sign text front middle more rest e h =
    let tail = lacks_rest byte front (middle ++ sign ∷ (more ++ rest)) (subst (λ t. Lacks byte t) e h) in
    let after = All-tail (λ other. other ≢ byte) sign (more ++ rest) (lacks_rest byte middle (sign ∷ (more ++ rest)) tail) in
    (lacks_front byte middle (sign ∷ (more ++ rest)) tail, lacks_rest byte more rest after)

-- ---- lines
pub without_return-lacks : (byte : ℕ) (line : List ℕ) → Lacks byte line → Lacks byte (without_return line)
without_return-lacks byte [] h = h
without_return-lacks byte (last ∷ []) h = go (eqb last 13) where
  go : (b : Bool) → Lacks byte (cond b [] (last ∷ []))
  go true = All-nil (λ other. other ≢ byte)
  go false = h
without_return-lacks byte (first ∷ next ∷ rest) h =
    All-cons (λ other. other ≢ byte) first (without_return (next ∷ rest)) (All-head (λ other. other ≢ byte) first (next ∷ rest) h)
    (without_return-lacks byte (next ∷ rest) (All-tail (λ other. other ≢ byte) first (next ∷ rest) h))

-- a text, line by line
pub data Lined : List ℕ → Type 0 where
  last_line : {text : List ℕ} → Lacks 10 text → Lined text
  more_lines : {text : List ℕ} (line after : List ℕ) → text ≡ line ++ 10 ∷ after → Lacks 10 line → Lined after → Lined text

lined_within : (most : ℕ) (text : List ℕ) → length text ≤ most → Lined text
lined_within zero [] h = last_line (All-nil (λ other. other ≢ 10))
lined_within zero (byte ∷ text) h = absurd (omega arith)
lined_within (suc most) text h =
    elim (split 10 text) [
      | split_nowhere lacks ↦ last_line lacks
      | split_at line after e lacks ↦ more_lines line after e lacks (lined_within most after (omega (arith, after_shorter text line after e)))
    ]

pub lined : (text : List ℕ) → Lined text
lined text = lined_within (length text) text (omega arith)

lines_lack : (text : List ℕ) → Lined text → All (Lacks 10) (lines_of text)
lines_lack text (last_line lacks) =
    All-same (Lacks 10) (lines_of text) (text ∷ []) (lines_of-last text lacks) (All-cons (Lacks 10) text [] lacks (All-nil (Lacks 10)))
lines_lack text (more_lines line after e lacks rest) =
    All-same (Lacks 10) (lines_of text) (without_return line ∷ lines_of after) (lines_of-cut text line after e lacks)
    (All-cons (Lacks 10) (without_return line) (lines_of after) (without_return-lacks 10 line lacks) (lines_lack after rest))

pub lines_of-lack : (text : List ℕ) → All (Lacks 10) (lines_of text)
lines_of-lack text = lines_lack text (lined text)
