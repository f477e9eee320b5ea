-- The end of the line of a game's Deal tag, and the bytes of its section.
use Rattle.std.proofs.Common.{◌≡◌, ℕ, Bool, true, false, cond, ◌||◌, List, [], ◌∷◌, ◌++◌, None, refl, sym, ◌∙◌, ap, append_assoc, append-nil, flat_map}
use Rattle.std.proofs.lemmas.Grind.{flat_map-append}
use Rattle.pbn_deals.specs.Pieces.{body_of, Line, line_bytes}
use Rattle.tables.specs.TablesText.{Printed, section_text}
use Rattle.whole_texts.specs.LineEnds.{last_of, missing_end}
use Rattle.whole_texts.specs.OldTables.{is_deal_kind, has_deal}
use Rattle.whole_texts.specs.WholeText.{section_lines, if_none, deal_end, with_more, with_section}
use Rattle.whole_texts.specs.FirstGame.{HasDealLine}
use Rattle.whole_texts.proofs.SectionText.{section-text}

end_at : (before : List Line) (line : Line) (after : List Line) → has_deal before ≡ false → is_deal_kind line.kind ≡ true → deal_end (before ++ line ∷ after) ≡ line.end
end_at [] line after none d = ap (λ b. cond b line.end (deal_end after)) d
end_at (first ∷ before) line after none d = go (is_deal_kind first.kind) none (end_at before line after) where
  go : (b : Bool) → (b || has_deal before) ≡ false → (has_deal before ≡ false → is_deal_kind line.kind ≡ true → deal_end (before ++ line ∷ after) ≡ line.end) → cond b first.end (deal_end (before ++ line ∷ after)) ≡ line.end
  go true n more = absurd (cc)
  go false n more = more n d

pub deal_end_is : (lines : List Line) (end : List ℕ) → HasDealLine lines end → deal_end lines ≡ end
deal_end_is lines end h = ap deal_end h.parts ∙ end_at h.before (record { kind = h.kind; end = end }) h.after h.none_before h.deal

more_bytes : (bytes : List ℕ) (line : Line) (lines : List Line) → flat_map line_bytes (with_more bytes (line ∷ lines)) ≡ flat_map line_bytes (line ∷ lines) ++ bytes
more_bytes bytes line [] =
    append-nil (body_of line.kind ++ (line.end ++ bytes))
    ∙ (sym (append_assoc (body_of line.kind) line.end bytes) ∙ ap (λ b. b ++ bytes) (sym (append-nil (line_bytes line))))
more_bytes bytes line (next ∷ lines) = ap (λ r. line_bytes line ++ r) (more_bytes bytes next lines) ∙ sym (append_assoc (line_bytes line) (flat_map line_bytes (next ∷ lines)) bytes)

ends_text : (end : List ℕ) (left : List Line) → flat_map line_bytes (with_more (missing_end (last_of None (flat_map line_bytes left)) end) left) ≡ flat_map line_bytes left ++ missing_end (last_of None (flat_map line_bytes left)) end
ends_text end [] = refl
ends_text end (line ∷ lines) = more_bytes (missing_end (last_of None (flat_map line_bytes (line ∷ lines))) end) line lines

pub section_bytes : (other end : List ℕ) (results : Printed) (left : List Line) → flat_map line_bytes (with_section other end results left) ≡ flat_map line_bytes left ++ (missing_end (last_of None (flat_map line_bytes left)) (if_none other end) ++ section_text (if_none (missing_end (last_of None (flat_map line_bytes left)) (if_none other end)) end) results)
section_bytes other end results left =
    let missing = missing_end (last_of None (flat_map line_bytes left)) (if_none other end) in
    let own = if_none missing end in
    flat_map-append line_bytes (with_more missing left) (section_lines own results)
    ∙ (ap (λ t. t ++ flat_map line_bytes (section_lines own results)) (ends_text (if_none other end) left)
    ∙ (ap (λ s. (flat_map line_bytes left ++ missing) ++ s) (section-text own results)
    ∙ append_assoc (flat_map line_bytes left) missing (section_text own results)))
