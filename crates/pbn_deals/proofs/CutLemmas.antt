-- The lines of a text, cut off its front one by one.
use Rattle.std.proofs.Common.{◌≡◌, ◌≢◌, ℕ, zero, suc, ◌<◌, false, cond, List, [], ◌∷◌, ◌++◌, length, take, get_or, refl, sym, ◌∙◌, ap, arith, All, length-append}
use Rattle.std.specs.List.{slice_split}
use Rattle.std.proofs.lemmas.Bool.{eq-eqb, ne_eqb}
use Rattle.std.proofs.lemmas.List.Elements.{All-weaker}
use Rattle.std.proofs.lemmas.List.Splits.{slice_split_none, slice_split_at, length-slice_split}
use Rattle.pbn_deals.specs.Lines.{is_line_feed, without_return, ended, lines_of}
use Rattle.pbn_deals.specs.Reading.{Lacks}

pub return_goes : (line : List ℕ) (i : ℕ) → length line ≡ suc i → get_or line i 0 ≡ 13 → take i line ≡ without_return line
return_goes [] i h e = absurd (omega arith)
return_goes (byte ∷ []) zero h e = sym (ap (λ b. cond b [] (byte ∷ [])) (eq-eqb byte 13 e))
return_goes (byte ∷ []) (suc i) h e = absurd (omega arith)
return_goes (byte ∷ other ∷ bytes) zero h e = absurd (omega arith)
return_goes (byte ∷ other ∷ bytes) (suc i) h e = ap (λ x. byte ∷ x) (return_goes (other ∷ bytes) i (omega arith) e)

pub other_stays : (line : List ℕ) (i : ℕ) → length line ≡ suc i → (get_or line i 0 ≡ 13 → ⊥) → line ≡ without_return line
other_stays [] i h e = absurd (omega arith)
other_stays (byte ∷ []) zero h e = sym (ap (λ b. cond b [] (byte ∷ [])) (ne_eqb byte 13 e))
other_stays (byte ∷ []) (suc i) h e = absurd (omega arith)
other_stays (byte ∷ other ∷ bytes) zero h e = absurd (omega arith)
other_stays (byte ∷ other ∷ bytes) (suc i) h e = ap (λ x. byte ∷ x) (other_stays (other ∷ bytes) i (omega arith) e)

no_line_feed : (text : List ℕ) → Lacks 10 text → All (λ byte. is_line_feed byte ≡ false) text
no_line_feed text h = All-weaker (λ byte. byte ≢ 10) (λ byte. is_line_feed byte ≡ false) (λ byte ne. ne_eqb byte 10 ne) text h

ended-more : (part : List ℕ) (parts : List (List ℕ)) → 0 < length parts → ended (part ∷ parts) ≡ without_return part ∷ ended parts
ended-more part [] h = absurd (omega arith)
ended-more part (next ∷ parts) h = refl

pub lines_of-cut : (text line after : List ℕ) → text ≡ line ++ 10 ∷ after → Lacks 10 line → lines_of text ≡ without_return line ∷ lines_of after
lines_of-cut text line after e h =
    ap lines_of e
    ∙ (ap ended (slice_split_at is_line_feed line 10 after (no_line_feed line h) refl)
    ∙ ended-more line (slice_split is_line_feed after) (omega (arith, length-slice_split is_line_feed after)))

pub after_shorter : (text line after : List ℕ) → text ≡ line ++ 10 ∷ after → length after < length text
after_shorter text line after e = omega (arith, ap length e, length-append line (10 ∷ after))

pub lines_of-last : (text : List ℕ) → Lacks 10 text → lines_of text ≡ text ∷ []
lines_of-last text h = ap ended (slice_split_none is_line_feed text (no_line_feed text h))
