-- The pieces of a line, one by one.
use Rattle.std.proofs.Common.{◌≡◌, ◌≢◌, ℕ, Bool, List, [], ◌∷◌, ◌++◌, map, refl, sym, ◌∙◌, ap, subst, flat_map, length, length-append, ◌<◌, arith}
use Rattle.pbn_deals.specs.declared.pieces.Piece.{Piece as CodePiece}
use Rattle.pbn_deals.specs.declared.pieces.Piece.TheVariants as found
use Rattle.pbn_deals.specs.FirstPieces.{found_bytes, ArePieces, IsFirst}
use Rattle.pbn_deals.specs.Pieces.{Piece, Space, bytes_of, HasPieces}
use Rattle.pbn_deals.proofs.SomePieces.{pieced}

pub some_first : (piece : CodePiece) (first : List Piece) → ArePieces piece first → found_bytes piece ≢ [] → first ≢ []
some_first (found.Blanks bytes) first are some none = go bytes.now (sym are ∙ none) some where
  go : (b : List ℕ) → map Space b ≡ [] → b ≢ [] → ⊥
  go [] e n = n refl
  go (byte ∷ bytes) e n = cc
some_first (found.Comment bytes) first are some none = let x = sym are ∙ none in cc
some_first (found.OpenComment bytes) first are some none = let x = sym are ∙ none in cc
some_first (found.Pair name value bytes) first are some none = let x = sym are ∙ none in cc
some_first (found.Data bytes) first (all, same) some none = some (sym same ∙ ap (flat_map bytes_of) none)
some_first (found.NoPair bytes) first are some none = let x = sym are ∙ none in cc

-- a piece takes bytes
longer : (bytes rest : List ℕ) → bytes ≢ [] → length rest < length (bytes ++ rest)
longer [] rest some = absurd (some refl)
longer (byte ∷ bytes) rest some = omega (arith, length-append bytes rest)

pub takes_bytes : (in_data : Bool) (text after : List ℕ) (piece : CodePiece) → ((pieces : List Piece) (is_open : Bool) → HasPieces in_data text pieces is_open → IsFirst in_data text pieces is_open piece after) → length after < length text
takes_bytes in_data text after piece found =
    let p = pieced in_data text in
    let f = found p.pieces p.is_open p.has in
    subst (λ t. length after < length t) (sym f.whole) (longer (found_bytes piece) after f.some)

pub begin_nil : (bytes rest : List ℕ) → bytes ++ rest ≡ [] → bytes ≡ []
begin_nil [] rest e = refl
begin_nil (byte ∷ bytes) rest e = absurd (cc)
