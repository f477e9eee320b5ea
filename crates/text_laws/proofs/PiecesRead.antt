-- What a line does to a game, its pieces do, and what its pieces do, the line does.
use Rattle.std.proofs.Common.{◌≡◌, ℕ, Bool, true, false, List, [], ◌∷◌, ◌++◌, Option, Ok, refl, ap}
use Rattle.cards.specs.Deal.{Deal}
use Rattle.pbn_deals.specs.Games.{Tags, SaysDeal, says_nothing, says_part, says_deal, TakesBoard, first_board, later_board, TakesDeal, only_deal, TakesTag, board_tag, deal_tag, other_tag}
use Rattle.pbn_deals.specs.Reading.{Meaning, EndsLine, OpensComment, OpensText, OpensTag, IsSpace, IsData, meaning_of, LineEnd, Ends, Stops, Scans, at_end, at_blank, at_line_comment, at_comment, at_open_comment, at_tag, at_faulty_tag, at_no_tag, at_quoted, at_unended, at_plain, at_bracket}
use Rattle.pbn_deals.specs.Pieces.{Piece, Space, Comment, Pair, Data, is_data, HasPieces, at_line_end, space, section_data, quoted_text, unended_text, line_comment, brace_comment, open_comment, tag_pair, no_tag_pair}
use Rattle.pbn_deals.specs.LineBoards.{AddsTag, AddsPieces, adds_nothing, adds_pair, adds_silent}
use Rattle.pbn_deals.proofs.SomePieces.{inside_of}

-- ---- a tag pair does the same on each line
says_anywhere : {line : ℕ} {value : List ℕ} {deal : Option Deal} → SaysDeal line value (Ok deal) → (number : ℕ) → SaysDeal number value (Ok deal)
says_anywhere (says_nothing e n) number = says_nothing e n
says_anywhere (says_part e p) number = says_part e p
says_anywhere (says_deal e is whole) number = says_deal e is whole

board_anywhere : {line : ℕ} {tags tags' : Tags} {value : List ℕ} → TakesBoard line tags value (Ok tags') → (number : ℕ) → TakesBoard number tags value (Ok tags')
board_anywhere (first_board e n) number = first_board e n
board_anywhere (later_board e n) number = later_board e n

deal_anywhere : {line count : ℕ} {tags tags' : Tags} {value : List ℕ} → TakesDeal line count tags value (Ok tags') → (number : ℕ) → TakesDeal number count tags value (Ok tags')
deal_anywhere (only_deal e s f) number = only_deal e (says_anywhere s number) f

pub takes_anywhere : {line count : ℕ} {tags tags' : Tags} {name value : List ℕ} → TakesTag line count tags name value (Ok tags') → AddsTag count tags name value tags'
takes_anywhere (board_tag b t) number = board_tag b (board_anywhere t number)
takes_anywhere (deal_tag b d t) number = deal_tag b d (deal_anywhere t number)
takes_anywhere (other_tag b d) number = other_tag b d

-- ---- from a line to its pieces
module _ (number count : ℕ) where
  pub record Reads (in_data : Bool) (tags tags' : Tags) (line : List ℕ) (is_open : Bool) : Type 0 where
    pub pieces : List Piece
    pub has : HasPieces in_data line pieces is_open
    pub adds : AddsPieces count tags pieces tags'

  abbrev pub ReadsTo : Bool → Tags → List ℕ → LineEnd → Type 0
  ReadsTo in_data tags line (Ends tags' is_open) = Reads in_data tags tags' line is_open
  ReadsTo in_data tags line (Stops fault) = Unit {0}

  ahead : {flag in_data : Bool} {tags tags' : Tags} {rest line : List ℕ} (piece : Piece) (last : LineEnd) → ((pieces : List Piece) (is_open : Bool) → HasPieces flag rest pieces is_open → HasPieces in_data line (piece ∷ pieces) is_open) → ((pieces : List Piece) (end : Tags) → AddsPieces count tags' pieces end → AddsPieces count tags (piece ∷ pieces) end) → ReadsTo flag tags' rest last → ReadsTo in_data tags line last
  ahead piece (Ends end is_open) has adds r = record { pieces = piece ∷ r.pieces; has = has r.pieces is_open r.has; adds = adds r.pieces end r.adds }
  ahead piece (Stops fault) has adds r = tt

  alone : {in_data is_open : Bool} {tags : Tags} {line : List ℕ} (piece : Piece) → HasPieces in_data line (piece ∷ []) is_open → AddsPieces count tags (piece ∷ []) tags → Reads in_data tags tags line is_open
  alone piece has adds = record { pieces = piece ∷ []; has = has; adds = adds }

  blank_ahead : (in_data : Bool) (tags : Tags) (byte : ℕ) (rest : List ℕ) (last : LineEnd) → meaning_of byte ≡ IsSpace → ReadsTo in_data tags rest last → ReadsTo in_data tags (byte ∷ rest) last
  blank_ahead true tags byte rest last m r = ahead (Data (byte ∷ [])) last (λ pieces is_open h. section_data (ap (is_data true) m) h) (λ pieces end a. adds_silent refl a) r
  blank_ahead false tags byte rest last m r = ahead (Space byte) last (λ pieces is_open h. space m h) (λ pieces end a. adds_silent refl a) r

  pub reads : {in_data : Bool} {tags : Tags} {line : List ℕ} {last : LineEnd} → Scans number count in_data tags line last → ReadsTo in_data tags line last
  reads at_end = record { pieces = []; has = at_line_end; adds = adds_nothing }
  reads {in_data} {tags} {last = last} (at_blank {byte = byte} {rest} m r) = blank_ahead in_data tags byte rest last m (reads r)
  reads (at_line_comment {byte = byte} {rest} m) = alone (Comment (byte ∷ rest)) (line_comment m) (adds_silent refl adds_nothing)
  reads {last = last} (at_comment {byte = byte} text m e l r) = ahead (Comment (byte ∷ (text ++ 125 ∷ []))) last (λ pieces is_open h. brace_comment text m e l h) (λ pieces end a. adds_silent refl a) (reads r)
  reads (at_open_comment {byte = byte} {rest} m l) = alone (Comment (byte ∷ rest)) (open_comment m l) (adds_silent refl adds_nothing)
  reads {last = last} (at_tag {byte = byte} {rest} {tag} m e t r) =
      let inside = inside_of rest tag e in
      ahead (Pair tag.name tag.value (byte ∷ inside.0)) last (λ pieces is_open h. tag_pair inside.0 m e inside.1 h) (λ pieces end a. adds_pair (takes_anywhere t) a) (reads r)
  reads (at_faulty_tag m e t) = tt
  reads (at_no_tag m e) = tt
  reads {last = last} (at_quoted {byte = byte} text m e l r) = ahead (Data (byte ∷ (text ++ 34 ∷ []))) last (λ pieces is_open h. quoted_text text m e l h) (λ pieces end a. adds_silent refl a) (reads r)
  reads (at_unended {byte = byte} {rest} m l) = alone (Data (byte ∷ rest)) (unended_text m l) (adds_silent refl adds_nothing)
  reads {in_data} {last = last} (at_plain {byte = byte} m r) = ahead (Data (byte ∷ [])) last (λ pieces is_open h. section_data (ap (is_data in_data) m) h) (λ pieces end a. adds_silent refl a) (reads r)
  reads {last = last} (at_bracket {byte = byte} m r) = ahead (Data (byte ∷ [])) last (λ pieces is_open h. section_data (ap (is_data true) m) h) (λ pieces end a. adds_silent refl a) (reads r)

  -- ---- from its pieces to a line
  data_ahead : (in_data : Bool) {tags : Tags} {byte : ℕ} {rest : List ℕ} {last : LineEnd} (meaning : Meaning) → meaning_of byte ≡ meaning → is_data in_data meaning ≡ true → Scans number count true tags rest last → Scans number count in_data tags (byte ∷ rest) last
  data_ahead in_data IsData m d r = at_plain m r
  data_ahead true IsSpace m d r = at_blank m r
  data_ahead true OpensTag m d r = at_bracket m r
  data_ahead false IsSpace m d r = absurd (cc)
  data_ahead false OpensTag m d r = absurd (cc)
  data_ahead in_data EndsLine m d r = absurd (cc)
  data_ahead in_data OpensComment m d r = absurd (cc)
  data_ahead in_data OpensText m d r = absurd (cc)

  pub scans_pieces : {in_data is_open : Bool} {tags tags' : Tags} {line : List ℕ} {pieces : List Piece} → HasPieces in_data line pieces is_open → AddsPieces count tags pieces tags' → Scans number count in_data tags line (Ends tags' is_open)
  scans_pieces at_line_end adds_nothing = at_end
  scans_pieces (space m r) (adds_silent s a) = at_blank m (scans_pieces r a)
  scans_pieces {in_data} (section_data {byte = byte} d r) (adds_silent s a) = data_ahead in_data (meaning_of byte) refl d (scans_pieces r a)
  scans_pieces (quoted_text text m e l r) (adds_silent s a) = at_quoted text m e l (scans_pieces r a)
  scans_pieces (unended_text m l) (adds_silent s adds_nothing) = at_unended m l
  scans_pieces (line_comment m) (adds_silent s adds_nothing) = at_line_comment m
  scans_pieces (brace_comment text m e l r) (adds_silent s a) = at_comment text m e l (scans_pieces r a)
  scans_pieces (open_comment m l) (adds_silent s adds_nothing) = at_open_comment m l
  scans_pieces (tag_pair inside m e f r) (adds_pair t a) = at_tag m e (t number) (scans_pieces r a)
  scans_pieces (tag_pair inside m e f r) (adds_silent s a) = absurd (cc)
  scans_pieces (no_tag_pair m e) (adds_silent s a) = absurd (cc)
