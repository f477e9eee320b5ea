-- What is left of pieces, piece by piece.
use Rattle.std.proofs.Common.{◌≡◌, ℕ, Bool, true, false, cond, ◌||◌, List, [], ◌∷◌, ◌++◌, Option, map, refl, sym, ◌∙◌, ap, subst, append-nil, flat_map, inl, inr, ◌⊎◌}
use Rattle.std.specs.Borrow.{Bor}
use Rattle.std.specs.List.{list_all}
use Rattle.std.proofs.lemmas.Grind.{flat_map-append}
use Rattle.cards.specs.Devices.{Device, Adds, AddsBeginning}
use Rattle.pbn_deals.specs.declared.pieces.Piece.{Piece as CodePiece}
use Rattle.pbn_deals.specs.declared.pieces.Piece.TheVariants as found
use Rattle.pbn_deals.specs.FirstPieces.{is_data_piece, is_found_data, ArePieces, IsFirst, comment_before}
use Rattle.pbn_deals.specs.Pieces.{Piece, Space, Comment, NoPair, bytes_of, HasPieces}
use Rattle.whole_texts.specs.OldTables.{left_pieces, table_behind}
use Rattle.whole_texts.specs.LineEnds.{last_of}
use Rattle.whole_texts.proofs.FactsOf.{left-append, AreSilent, silent_spaces, data_silent}
use Rattle.whole_texts.proofs.Gone.{Gone, none_gone, more_gone, fault_in, all_gone}
use Rattle.tables.specs.declared.results.Renews.{Renews}

-- ---- a piece
-- these bytes are left, and section data behind it is a table's or not
abbrev pub LeavesBytes : (old : Renews) → Bool → List Piece → List ℕ → Bool → Type 0
LeavesBytes old in_table pieces bytes behind = (bytes ≡ flat_map bytes_of (left_pieces old in_table pieces)) × (behind ≡ table_behind old in_table pieces)

silent_left : (old : Renews) {in_table : Bool} {pieces left : List Piece} (bytes : List ℕ) → AreSilent old left in_table pieces → flat_map bytes_of left ≡ bytes → LeavesBytes old in_table pieces bytes in_table
silent_left old bytes s e = (sym e ∙ ap (flat_map bytes_of) (sym s.stay), sym s.same)

spaces_bytes : (bytes : List ℕ) → flat_map bytes_of (map Space bytes) ≡ bytes
spaces_bytes [] = refl
spaces_bytes (byte ∷ bytes) = ap (λ x. byte ∷ x) (spaces_bytes bytes)

blanks_left : (old : Renews) (in_table : Bool) (pieces : List Piece) (bytes : List ℕ) → pieces ≡ map Space bytes → LeavesBytes old in_table pieces bytes in_table
blanks_left old in_table pieces bytes e = subst (λ p. LeavesBytes old in_table p bytes in_table) (sym e) (silent_left old bytes (silent_spaces old in_table bytes) (spaces_bytes bytes))

comment_left : (old : Renews) (in_table : Bool) (pieces : List Piece) (bytes : List ℕ) → pieces ≡ Comment bytes ∷ [] → LeavesBytes old in_table pieces bytes in_table
comment_left old in_table pieces bytes e = subst (λ p. LeavesBytes old in_table p bytes in_table) (sym e) (sym (append-nil bytes), refl)

no_pair_left : (old : Renews) (in_table : Bool) (pieces : List Piece) (bytes : List ℕ) → pieces ≡ NoPair bytes ∷ [] → LeavesBytes old in_table pieces bytes in_table
no_pair_left old in_table pieces bytes e = subst (λ p. LeavesBytes old in_table p bytes in_table) (sym e) (sym (append-nil bytes), refl)

-- blanks, a comment, or what begins no tag pair
pub others_left : (old : Renews) (in_table : Bool) (piece : CodePiece) (pieces : List Piece) (bytes : Bor (List ℕ)) → (piece ≡ found.Blanks bytes) ⊎ ((piece ≡ found.Comment bytes) ⊎ ((piece ≡ found.OpenComment bytes) ⊎ (piece ≡ found.NoPair bytes))) → ArePieces piece pieces → LeavesBytes old in_table pieces bytes.now in_table
others_left old in_table piece pieces bytes (inl is) are = blanks_left old in_table pieces bytes.now (subst (λ p. ArePieces p pieces) is are)
others_left old in_table piece pieces bytes (inr (inl is)) are = comment_left old in_table pieces bytes.now (subst (λ p. ArePieces p pieces) is are)
others_left old in_table piece pieces bytes (inr (inr (inl is))) are = comment_left old in_table pieces bytes.now (subst (λ p. ArePieces p pieces) is are)
others_left old in_table piece pieces bytes (inr (inr (inr is))) are = no_pair_left old in_table pieces bytes.now (subst (λ p. ArePieces p pieces) is are)

pub data_left : (old : Renews) (in_table : Bool) (pieces : List Piece) (bytes left : List ℕ) → list_all is_data_piece pieces ≡ true → flat_map bytes_of pieces ≡ bytes → left ≡ cond in_table [] bytes → LeavesBytes old in_table pieces left in_table
data_left old true pieces bytes left all is l = silent_left old left (data_silent old true pieces all) (sym l)
data_left old false pieces bytes left all is l = silent_left old left (data_silent old false pieces all) (is ∙ sym l)

-- ---- piece by piece
pub record PiecesGo (old : Renews) (start now : Device) (before last : Option ℕ) (all : List ℕ) (in_table in_data : Bool) (rest : List ℕ) : Type 0 where
  pub others : List Piece
  pub behind : Bool
  pub has : HasPieces in_data rest others behind
  pub gone : Gone start now before last all (flat_map bytes_of (left_pieces old in_table others))

module _ (old : Renews) {start now : Device} {before last : Option ℕ} {all rest after bytes : List ℕ} {in_table in_data flag : Bool} {piece : CodePiece}
    (go : PiecesGo old start now before last all in_table in_data rest) (first : IsFirst in_data rest go.others go.behind piece after)
    (left : (pieces : List Piece) → ArePieces piece pieces → LeavesBytes old in_table pieces bytes flag) where
  -- the bytes that are left of the piece, and of those behind it
  parts : flat_map bytes_of (left_pieces old in_table go.others) ≡ bytes ++ flat_map bytes_of (left_pieces old flag first.more)
  parts =
      let it = left first.first first.are in
      ap (λ p. flat_map bytes_of (left_pieces old in_table p)) first.all
      ∙ (ap (flat_map bytes_of) (left-append old in_table first.first first.more)
      ∙ (flat_map-append bytes_of (left_pieces old in_table first.first) (left_pieces old (table_behind old in_table first.first) first.more)
      ∙ (ap (λ x. x ++ flat_map bytes_of (left_pieces old (table_behind old in_table first.first) first.more)) (sym it.0)
      ∙ ap (λ t. bytes ++ flat_map bytes_of (left_pieces old t first.more)) (sym it.1))))

  goes : Gone start now before last all (bytes ++ flat_map bytes_of (left_pieces old flag first.more))
  goes = subst (λ t. Gone start now before last all t) parts go.gone

  pub one_piece_more : {later : Device} {last' : Option ℕ} → Adds now later bytes → last' ≡ last_of last bytes → PiecesGo old start later before last' all flag (is_found_data piece || in_data) after
  one_piece_more a e = record {
    others = first.more;
    behind = first.open_behind;
    has = first.has;
    gone = more_gone bytes (flat_map bytes_of (left_pieces old flag first.more)) goes a e;
  }

  pub fault_in_piece : {later : Device} → AddsBeginning now later bytes → AddsBeginning start later all
  fault_in_piece a = fault_in bytes (flat_map bytes_of (left_pieces old flag first.more)) goes a

pub pieces_begin : (old : Renews) (start : Device) (before : Option ℕ) (in_table : Bool) (line : List ℕ) (pieces : List Piece) (is_open : Bool) → HasPieces false line pieces is_open → PiecesGo old start start before before (flat_map bytes_of (left_pieces old in_table pieces)) in_table false line
pieces_begin old start before in_table line pieces is_open h = record { others = pieces; behind = is_open; has = h; gone = none_gone start before (flat_map bytes_of (left_pieces old in_table pieces)) }

pub pieces_gone : (old : Renews) {start now : Device} {before last : Option ℕ} {all rest : List ℕ} {in_table in_data : Bool} → (go : PiecesGo old start now before last all in_table in_data rest) → go.others ≡ [] → Adds start now all × (last ≡ last_of before all)
pieces_gone old {start} {now} {before} {last} {all} {in_table = in_table} go none =
    all_gone (subst (λ t. Gone start now before last all t) (ap (λ p. flat_map bytes_of (left_pieces old in_table p)) none) go.gone)

-- ---- a line, behind the comment that was open before it
pub comment_and_pieces : (old : Renews) (in_table : Bool) (comment : List ℕ) (pieces : List Piece) → flat_map bytes_of (left_pieces old in_table (comment_before comment ++ pieces)) ≡ comment ++ flat_map bytes_of (left_pieces old in_table pieces)
comment_and_pieces old in_table [] pieces = refl
comment_and_pieces old in_table (byte ∷ bytes) pieces = refl
