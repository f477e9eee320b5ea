-- The first and the last byte of what is left of a line.
use Rattle.std.proofs.Common.{◌≡◌, ◌≢◌, ℕ, Bool, true, false, not, cond, eqb, List, [], ◌∷◌, ◌++◌, refl, sym, ◌∙◌, ap, subst, append_assoc, append-nil, flat_map, ◌||◌}
use Rattle.std.proofs.lemmas.Bool.{eqb-true}
use Rattle.std.proofs.lemmas.List.Elements.{All-append}
use Rattle.pbn_deals.specs.Letters.{is_blank}
use Rattle.pbn_deals.specs.DealValue.{after_blanks, is_word}
use Rattle.pbn_deals.specs.Lines.{is_blank_line, is_escaped}
use Rattle.pbn_deals.specs.Reading.{Lacks, Meaning, EndsLine, OpensComment, OpensText, OpensTag, IsSpace, IsData, meaning_of}
use Rattle.pbn_deals.specs.Pieces.{Piece, Space, Comment, Pair, Data, NoPair, bytes_of, is_data, ends_with_return, HasPieces, at_line_end, space, section_data, quoted_text, unended_text, line_comment, brace_comment, open_comment, tag_pair, no_tag_pair}
use Rattle.text_laws.proofs.TagMoved.{pair_closed}
use Rattle.pbn_deals.proofs.SomePieces.{bytes_of-pieces}
use Rattle.pbn_deals.proofs.LineParts.{lacks_rest, lacks_front}
use Rattle.whole_texts.specs.OldTables.{is_old, left_pieces, has_more}
use Rattle.text_laws.proofs.LeftPieces.{left_bytes, data_stays}
use Rattle.pbn_deals.proofs.LinesOfText.{true_or_false}
use Rattle.tables.specs.declared.results.Renews.{Renews}

-- ---- meanings of bytes
pub blank_means : (byte : ℕ) → is_blank byte ≡ true → meaning_of byte ≡ IsSpace
blank_means byte e = go (eqb byte 32) refl (eqb byte 9) refl e where
  go : (b : Bool) → eqb byte 32 ≡ b → (c : Bool) → eqb byte 9 ≡ c → (b || c) ≡ true → meaning_of byte ≡ IsSpace
  go true f c g h = ap meaning_of (eqb-true byte 32 f)
  go false f true g h = ap meaning_of (eqb-true byte 9 g)
  go false f false g h = absurd (cc)

pub means_blank : (byte : ℕ) → meaning_of byte ≡ IsSpace → is_blank byte ≡ true
means_blank byte m = go (is_blank byte) refl (eqb byte 59) (eqb byte 123) (eqb byte 34) (eqb byte 91) m where
  go : (b : Bool) → is_blank byte ≡ b → (c d e f : Bool) → cond c EndsLine (cond d OpensComment (cond e OpensText (cond f OpensTag (cond (is_blank byte) IsSpace IsData)))) ≡ IsSpace → is_blank byte ≡ true
  go true g c d e f h = g
  go false g true d e f h = absurd (cc)
  go false g false true e f h = absurd (cc)
  go false g false false true f h = absurd (cc)
  go false g false false false true h = absurd (cc)
  go false g false false false false h = let x : cond false IsSpace IsData ≡ IsSpace = subst (λ b. cond b IsSpace IsData ≡ IsSpace) g h in absurd (cc)

no_blank : (byte : ℕ) (meaning : Meaning) → meaning_of byte ≡ meaning → (meaning ≡ IsSpace → ⊥) → is_blank byte ≡ false
no_blank byte meaning m n = go (is_blank byte) refl where
  go : (b : Bool) → is_blank byte ≡ b → is_blank byte ≡ false
  go true e = absurd (n (sym m ∙ blank_means byte e))
  go false e = e

-- more than blanks
word_begins : (byte : ℕ) (rest : List ℕ) → is_blank byte ≡ false → is_blank_line (byte ∷ rest) ≡ false
word_begins byte rest e = ap (λ b. not (is_word (cond b (after_blanks rest) (byte ∷ rest)))) e

data_means : {meaning : Meaning} → is_data false meaning ≡ true → meaning ≡ IsSpace → ⊥
data_means d m = let x : false ≡ true = subst (λ y. is_data false y ≡ true) m d in absurd (cc)

pub not_blank : {in_data is_open : Bool} {line : List ℕ} {pieces : List Piece} → in_data ≡ false → HasPieces in_data line pieces is_open → has_more pieces ≡ true → is_blank_line line ≡ false
not_blank n at_line_end h = absurd (cc)
not_blank n (space {byte} {rest} m r) h = ap (λ b. not (is_word (cond b (after_blanks rest) (byte ∷ rest)))) (means_blank byte m) ∙ not_blank refl r h
not_blank n (section_data {byte = byte} {rest} d r) h = word_begins byte rest (no_blank byte (meaning_of byte) refl (data_means (subst (λ i. is_data i (meaning_of byte) ≡ true) n d)))
not_blank n (quoted_text {byte = byte} text {rest} m e l r) h = word_begins byte rest (no_blank byte OpensText m (λ x. cc))
not_blank n (unended_text {byte = byte} {rest} m l) h = word_begins byte rest (no_blank byte OpensText m (λ x. cc))
not_blank n (line_comment {byte = byte} {rest} m) h = word_begins byte rest (no_blank byte EndsLine m (λ x. cc))
not_blank n (brace_comment {byte = byte} text {rest} m e l r) h = word_begins byte rest (no_blank byte OpensComment m (λ x. cc))
not_blank n (open_comment {byte = byte} {rest} m l) h = word_begins byte rest (no_blank byte OpensComment m (λ x. cc))
not_blank n (tag_pair {byte} inside {rest} m g e r) h = word_begins byte rest (no_blank byte OpensTag m (λ x. cc))
not_blank n (no_tag_pair {byte} {rest} m g) h = word_begins byte rest (no_blank byte OpensTag m (λ x. cc))

-- ---- the last byte
pub return_behind : (front rest : List ℕ) → is_word rest ≡ true → ends_with_return (front ++ rest) ≡ ends_with_return rest
return_behind [] rest w = refl
return_behind (byte ∷ []) [] w = absurd (cc)
return_behind (byte ∷ []) (first ∷ rest) w = refl
return_behind (byte ∷ other ∷ bytes) rest w = return_behind (other ∷ bytes) rest w

return_word : (bytes : List ℕ) → ends_with_return bytes ≡ true → is_word bytes ≡ true
return_word [] e = absurd (cc)
return_word (byte ∷ bytes) e = refl

pub return_more : (front rest whole : List ℕ) → whole ≡ front ++ rest → ends_with_return rest ≡ true → ends_with_return whole ≡ true
return_more front rest whole e h = ap ends_with_return e ∙ (return_behind front rest (return_word rest h) ∙ h)

-- a piece that doesn't end so, before others
pub return_left : (piece rest : List ℕ) → ends_with_return piece ≡ false → ends_with_return (piece ++ rest) ≡ true → ends_with_return rest ≡ true
return_left piece [] n h = absurd (true_or_false (sym (ap ends_with_return (append-nil piece)) ∙ h) n)
return_left piece (byte ∷ bytes) n h = sym (return_behind piece (byte ∷ bytes) refl) ∙ h

pub sign_ends : (front : List ℕ) (sign : ℕ) → eqb sign 13 ≡ false → ends_with_return (front ++ sign ∷ []) ≡ false
sign_ends front sign n = return_behind front (sign ∷ []) refl ∙ n

-- a line of which all is left
all_left : (old : Renews) {in_data is_open : Bool} {line : List ℕ} {pieces : List Piece} → in_data ≡ true → HasPieces in_data line pieces is_open → left_bytes old false pieces ≡ line
all_left old d h = ap (flat_map bytes_of) (data_stays old d h) ∙ bytes_of-pieces h

pub left_return : (old : Renews) (in_table : Bool) {in_data is_open : Bool} {line : List ℕ} {pieces : List Piece} → HasPieces in_data line pieces is_open → ends_with_return (left_bytes old in_table pieces) ≡ true → ends_with_return line ≡ true
left_return old in_table at_line_end h = h
left_return old in_table (space {byte} {rest} {pieces} m r) h =
    return_more (byte ∷ []) rest (byte ∷ rest) refl (left_return old in_table r (return_left (byte ∷ []) (left_bytes old in_table pieces) (go (eqb byte 13) refl) h))
  where
    go : (b : Bool) → eqb byte 13 ≡ b → eqb byte 13 ≡ false
    go true e = let x : IsData ≡ IsSpace = sym (ap meaning_of (eqb-true byte 13 e)) ∙ m in absurd (cc)
    go false e = e
left_return old true (section_data {byte = byte} {rest} d r) h = return_more (byte ∷ []) rest (byte ∷ rest) refl (left_return old true r h)
left_return old false (section_data {byte = byte} d r) h = sym (ap (λ x. ends_with_return (byte ∷ x)) (all_left old refl r)) ∙ h
left_return old true (quoted_text {byte = byte} text {rest} {after} m e l r) h =
    return_more (byte ∷ (text ++ 34 ∷ [])) after (byte ∷ rest) (ap (λ x. byte ∷ x) (e ∙ sym (append_assoc text (34 ∷ []) after))) (left_return old true r h)
left_return old false (quoted_text {byte = byte} text {rest} {after} m e l r) h =
    sym (ap (λ x. ends_with_return (byte ∷ ((text ++ 34 ∷ []) ++ x))) (all_left old refl r) ∙ ap (λ x. ends_with_return (byte ∷ x)) (append_assoc text (34 ∷ []) after ∙ sym e)) ∙ h
left_return old true (unended_text m l) h = absurd (cc)
left_return old false (unended_text {byte = byte} {rest} m l) h = sym (ap ends_with_return (append-nil (byte ∷ rest))) ∙ h
left_return old in_table (line_comment {byte = byte} {rest} m) h = sym (ap ends_with_return (append-nil (byte ∷ rest))) ∙ h
left_return old in_table (brace_comment {byte = byte} text {rest} {after} {pieces} m e l r) h =
    return_more (byte ∷ (text ++ 125 ∷ [])) after (byte ∷ rest) (ap (λ x. byte ∷ x) (e ∙ sym (append_assoc text (125 ∷ []) after)))
    (left_return old in_table r (return_left (byte ∷ (text ++ 125 ∷ [])) (left_bytes old in_table pieces) (sign_ends (byte ∷ text) 125 refl) h))
left_return old in_table (open_comment {byte = byte} {rest} m l) h = sym (ap ends_with_return (append-nil (byte ∷ rest))) ∙ h
left_return old in_table (tag_pair {byte} inside {rest} {tag} {pieces} m g e r) h = go (is_old old tag.name) (left_return old true r) (left_return old false r) h where
  last_sign : ends_with_return (byte ∷ inside) ≡ false
  last_sign = let c = pair_closed rest inside tag g e in ap (λ x. ends_with_return (byte ∷ x)) c.1 ∙ sign_ends (byte ∷ c.0) 93 refl

  more : ends_with_return tag.rest ≡ true → ends_with_return (byte ∷ rest) ≡ true
  more f = return_more (byte ∷ inside) tag.rest (byte ∷ rest) (ap (λ x. byte ∷ x) e) f

  go : (b : Bool) → (ends_with_return (left_bytes old true pieces) ≡ true → ends_with_return tag.rest ≡ true) → (ends_with_return (left_bytes old false pieces) ≡ true → ends_with_return tag.rest ≡ true) → ends_with_return (flat_map bytes_of (cond b (left_pieces old true pieces) (Pair tag.name tag.value (byte ∷ inside) ∷ left_pieces old false pieces))) ≡ true → ends_with_return (byte ∷ rest) ≡ true
  go true gone kept f = more (gone f)
  go false gone kept f = more (kept (return_left (byte ∷ inside) (left_bytes old false pieces) last_sign f))
left_return old in_table (no_tag_pair {byte} {rest} m g) h = sym (ap ends_with_return (append-nil (byte ∷ rest))) ∙ h

-- ---- all bytes
put_lacks : (sign : ℕ) (piece rest left : List ℕ) → Lacks sign (piece ++ rest) → (Lacks sign rest → Lacks sign left) → Lacks sign (piece ++ left)
put_lacks sign piece rest left h more = All-append (λ other. other ≢ sign) piece left (lacks_front sign piece rest h) (more (lacks_rest sign piece rest h))

pub left_lacks : (old : Renews) (in_table : Bool) (sign : ℕ) (pieces : List Piece) → Lacks sign (flat_map bytes_of pieces) → Lacks sign (left_bytes old in_table pieces)
left_lacks old in_table sign [] h = h
left_lacks old in_table sign (Space byte ∷ pieces) h = put_lacks sign (byte ∷ []) (flat_map bytes_of pieces) (left_bytes old in_table pieces) h (left_lacks old in_table sign pieces)
left_lacks old in_table sign (Comment bytes ∷ pieces) h = put_lacks sign bytes (flat_map bytes_of pieces) (left_bytes old in_table pieces) h (left_lacks old in_table sign pieces)
left_lacks old in_table sign (Pair name value bytes ∷ pieces) h = go (is_old old name) (left_lacks old true sign pieces) (left_lacks old false sign pieces) where
  go : (b : Bool) → (Lacks sign (flat_map bytes_of pieces) → Lacks sign (left_bytes old true pieces)) → (Lacks sign (flat_map bytes_of pieces) → Lacks sign (left_bytes old false pieces)) → Lacks sign (flat_map bytes_of (cond b (left_pieces old true pieces) (Pair name value bytes ∷ left_pieces old false pieces)))
  go true gone kept = gone (lacks_rest sign bytes (flat_map bytes_of pieces) h)
  go false gone kept = put_lacks sign bytes (flat_map bytes_of pieces) (left_bytes old false pieces) h kept
left_lacks old true sign (Data bytes ∷ pieces) h = left_lacks old true sign pieces (lacks_rest sign bytes (flat_map bytes_of pieces) h)
left_lacks old false sign (Data bytes ∷ pieces) h = put_lacks sign bytes (flat_map bytes_of pieces) (left_bytes old false pieces) h (left_lacks old false sign pieces)
left_lacks old in_table sign (NoPair bytes ∷ pieces) h = put_lacks sign bytes (flat_map bytes_of pieces) (left_bytes old in_table pieces) h (left_lacks old in_table sign pieces)

-- the first byte is this one
abbrev pub starts : ℕ → List ℕ → Bool
starts sign [] = false
starts sign (byte ∷ bytes) = eqb byte sign

pub starts_not : (sign byte : ℕ) (meaning : Meaning) → meaning_of sign ≡ IsData → meaning_of byte ≡ meaning → (meaning ≡ IsData → ⊥) → eqb byte sign ≡ false
starts_not sign byte meaning d m n = go (eqb byte sign) refl where
  go : (b : Bool) → eqb byte sign ≡ b → eqb byte sign ≡ false
  go true e = absurd (n (sym m ∙ (ap meaning_of (eqb-true byte sign e) ∙ d)))
  go false e = e

-- ---- the first byte
-- what is left behind a table's tag pair has no section data at its beginning
pub none_starts : (old : Renews) (sign : ℕ) → meaning_of sign ≡ IsData → {in_data is_open : Bool} {line : List ℕ} {pieces : List Piece} → HasPieces in_data line pieces is_open → starts sign (left_bytes old true pieces) ≡ false
none_starts old sign i at_line_end = refl
none_starts old sign i (space {byte} m r) = starts_not sign byte IsSpace i m (λ e. cc)
none_starts old sign i (section_data d r) = none_starts old sign i r
none_starts old sign i (quoted_text text m e l r) = none_starts old sign i r
none_starts old sign i (unended_text m l) = refl
none_starts old sign i (line_comment {byte = byte} m) = starts_not sign byte EndsLine i m (λ e. cc)
none_starts old sign i (brace_comment {byte = byte} text m e l r) = starts_not sign byte OpensComment i m (λ e. cc)
none_starts old sign i (open_comment {byte = byte} m l) = starts_not sign byte OpensComment i m (λ e. cc)
none_starts old sign i (tag_pair {byte} inside {tag = tag} {pieces} m g e r) = go (is_old old tag.name) (none_starts old sign i r) where
  go : (b : Bool) → starts sign (left_bytes old true pieces) ≡ false → starts sign (flat_map bytes_of (cond b (left_pieces old true pieces) (Pair tag.name tag.value (byte ∷ inside) ∷ left_pieces old false pieces))) ≡ false
  go true h = h
  go false h = starts_not sign byte OpensTag i m (λ e. cc)
none_starts old sign i (no_tag_pair {byte} m g) = starts_not sign byte OpensTag i m (λ e. cc)

escaped_starts : (text : List ℕ) → is_escaped text ≡ starts 37 text
escaped_starts [] = refl
escaped_starts (byte ∷ bytes) = refl

none_escaped : (old : Renews) {in_data is_open : Bool} {line : List ℕ} {pieces : List Piece} → HasPieces in_data line pieces is_open → is_escaped (left_bytes old true pieces) ≡ false
none_escaped old {pieces = pieces} h = escaped_starts (left_bytes old true pieces) ∙ none_starts old 37 refl h

-- what is left of a line that isn't escaped
pub still_of_game : (old : Renews) (in_table : Bool) {in_data is_open : Bool} {line : List ℕ} {pieces : List Piece} → HasPieces in_data line pieces is_open → is_escaped line ≡ false → is_escaped (left_bytes old in_table pieces) ≡ false
still_of_game old true h n = none_escaped old h
still_of_game old false at_line_end n = refl
still_of_game old false (space m r) n = n
still_of_game old false (section_data d r) n = n
still_of_game old false (quoted_text text m e l r) n = n
still_of_game old false (unended_text m l) n = n
still_of_game old false (line_comment m) n = n
still_of_game old false (brace_comment text m e l r) n = n
still_of_game old false (open_comment m l) n = n
still_of_game old false (tag_pair {byte} inside {tag = tag} {pieces} m g e r) n = go (is_old old tag.name) (none_escaped old r) where
  go : (b : Bool) → is_escaped (left_bytes old true pieces) ≡ false → is_escaped (flat_map bytes_of (cond b (left_pieces old true pieces) (Pair tag.name tag.value (byte ∷ inside) ∷ left_pieces old false pieces))) ≡ false
  go true h = h
  go false h = n
still_of_game old false (no_tag_pair m g) n = n
