-- The end that the last line lacks, by the last byte of the text.
use Rattle.std.proofs.Common.{◌≡◌, ◌≢◌, ℕ, true, cond, eqb, List, [], ◌∷◌, ◌++◌, Option, None, Some, refl, sym, ◌∙◌, ap, append-nil, flat_map, inl, inr}
use Rattle.std.proofs.lemmas.Bool.{ne_eqb}
use Rattle.std.proofs.lemmas.List.Elements.{All-head, All-tail}
use Rattle.pbn_deals.specs.DealValue.{is_word}
use Rattle.pbn_deals.specs.Reading.{Lacks}
use Rattle.pbn_deals.specs.Pieces.{ends_with_return, body_of, Line, line_bytes}
use Rattle.whole_texts.specs.LineEnds.{IsLineEnd, last_of, missing_end}
use Rattle.whole_texts.specs.WholeText.{if_none, with_more}
use Rattle.whole_texts.proofs.Ends.{Ended}
use Rattle.whole_texts.proofs.EndsBytes.{last-append}
use Rattle.text_laws.specs.GivenEnds.{new_end, with_ends}
use Rattle.text_laws.proofs.Ends.{tail_ended, has_end, row_end}

record HasLast (before : Option ℕ) (bytes : List ℕ) : Type 0 where
  byte : ℕ
  last : last_of before bytes ≡ Some byte
  returns : ends_with_return bytes ≡ eqb byte 13
  no_feed : Lacks 10 bytes → byte ≢ 10

has_last : (before : Option ℕ) (byte : ℕ) (bytes : List ℕ) → HasLast before (byte ∷ bytes)
has_last before byte [] = record { byte = byte; last = refl; returns = refl; no_feed = λ lacks. All-head (λ other. other ≢ 10) byte [] lacks }
has_last before byte (other ∷ bytes) =
    let more = has_last (Some byte) other bytes in
    record { byte = more.byte; last = more.last; returns = more.returns; no_feed = λ lacks. more.no_feed (All-tail (λ sign. sign ≢ 10) byte (other ∷ bytes) lacks) }

ended_last : (before : Option ℕ) (body end : List ℕ) → IsLineEnd end → last_of before (body ++ end) ≡ Some 10
ended_last before body end (inl e) = last-append before body end ∙ ap (last_of (last_of before body)) e
ended_last before body end (inr e) = last-append before body end ∙ ap (last_of (last_of before body)) e

-- a text without a line feed
missing_text : (before : Option ℕ) (end bytes : List ℕ) → Lacks 10 bytes → is_word bytes ≡ true → missing_end (last_of before bytes) end ≡ cond (ends_with_return bytes) (13 ∷ 10 ∷ []) end
missing_text before end [] lacks w = absurd (cc)
missing_text before end (byte ∷ bytes) lacks w =
    let it = has_last before byte bytes in
    ap (λ l. missing_end l end) it.last
    ∙ (ap (λ b. cond b [] (cond (eqb it.byte 13) (13 ∷ 10 ∷ []) end)) (ne_eqb it.byte 10 (it.no_feed lacks))
    ∙ ap (λ b. cond b (13 ∷ 10 ∷ []) end) (sym it.returns))

missing_line : (before : Option ℕ) (end : List ℕ) (line : Line) → Ended (line ∷ []) → if_none (new_end end line.kind) line.end ≡ line.end ++ missing_end (last_of before (line_bytes line)) end
missing_line before end line (inl (is, more)) =
    let own = row_end line is in
    has_end (new_end end line.kind) line.end own
    ∙ sym (ap (λ l. line.end ++ missing_end l end) (ended_last before (body_of line.kind) line.end own) ∙ append-nil line.end)
missing_line before end line (inr ((lacks, none, w), m)) =
    let body = body_of line.kind in
    let bytes : line_bytes line ≡ body = ap (λ e. body ++ e) none ∙ append-nil body in
    ap (if_none (new_end end line.kind)) none
    ∙ sym (ap (λ e. e ++ missing_end (last_of before (line_bytes line)) end) none ∙ (ap (λ b. missing_end (last_of before b) end) bytes ∙ missing_text before end body lacks w))

-- what the last line lacks is all that it gets
pub unended_missing : (before : Option ℕ) (end : List ℕ) (line : Line) → Ended (line ∷ []) → line.end ≡ [] → missing_end (last_of before (line_bytes line)) end ≡ new_end end line.kind
unended_missing before end line h none =
    let rest = missing_end (last_of before (line_bytes line)) end in
    sym (ap (λ e. e ++ rest) none) ∙ (sym (missing_line before end line h) ∙ ap (if_none (new_end end line.kind)) none)

-- the last line gets what it lacks
ends_same : (before : Option ℕ) (end : List ℕ) (line : Line) (lines : List Line) → Ended (line ∷ lines) → with_more (missing_end (last_of before (flat_map line_bytes (line ∷ lines))) end) (line ∷ lines) ≡ with_ends end (line ∷ lines)
ends_same before end line [] h =
    ap (λ b. record { kind = line.kind; end = line.end ++ missing_end (last_of before b) end } ∷ []) (append-nil (line_bytes line))
    ∙ ap (λ e. record { kind = line.kind; end = e } ∷ []) (sym (missing_line before end line h))
ends_same before end line (next ∷ lines) h =
    ap (λ l. line ∷ with_more (missing_end l end) (next ∷ lines)) (last-append before (line_bytes line) (flat_map line_bytes (next ∷ lines)))
    ∙ ap (λ l. line ∷ l) (ends_same (last_of before (line_bytes line)) end next lines (tail_ended line (next ∷ lines) h))

pub same_ends : (end : List ℕ) (lines : List Line) → Ended lines → with_more (missing_end (last_of None (flat_map line_bytes lines)) end) lines ≡ with_ends end lines
same_ends end [] h = refl
same_ends end (line ∷ lines) h = ends_same None end line lines h
