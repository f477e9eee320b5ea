-- The lines of rows, one by one.
use Rattle.std.proofs.Common.{◌≡◌, ℕ, ◌<◌, Bool, true, List, [], ◌∷◌, ◌++◌, refl, ap, subst, length, length-append, arith, inl, inr}
use Rattle.pbn_deals.specs.DealValue.{is_word}
use Rattle.pbn_deals.specs.Pieces.{Kind, LineIs, Row, rows_of, Line, AreLines, no_more, one_more}
use Rattle.pbn_deals.proofs.RowsBack.{AreEnded, text_ended}

-- the first of lines, and the others
pub record HasFirst (is_open : Bool) (row : Row) (rows : List Row) (lines : List Line) (last : Bool) : Type 0 where
  pub kind : Kind
  pub behind : Bool
  pub is : LineIs is_open row.bytes kind behind
  pub others : List Line
  pub are : AreLines behind rows others last
  pub all : lines ≡ record { kind = kind; end = row.end } ∷ others

pub has_first : {is_open last : Bool} {row : Row} {rows : List Row} {lines : List Line} → AreLines is_open (row ∷ rows) lines last → HasFirst is_open row rows lines last
has_first (one_more {is_open' = behind} {kind = kind} {lines} l r) = record { kind = kind; behind = behind; is = l; others = lines; are = r; all = refl }

pub no_rows : {is_open last : Bool} {lines : List Line} → AreLines is_open [] lines last → (lines ≡ []) × (is_open ≡ last)
no_rows no_more = (refl, refl)

-- a row has a byte
some_row : (row : Row) (rows : List Row) → AreEnded (row ∷ rows) → 0 < length (row.bytes ++ row.end)
some_row row rows (inl ((lacks, inl e), more)) = let n = length-append row.bytes row.end in let m = ap length e in omega (arith, n, m)
some_row row rows (inl ((lacks, inr (e, f)), more)) = let n = length-append row.bytes row.end in let m = ap length e in omega (arith, n, m)
some_row row rows (inr ((lacks, e, w), none)) = let n = length-append row.bytes row.end in let m = word_length row.bytes w in omega (arith, n, m) where
  word_length : (bytes : List ℕ) → is_word bytes ≡ true → 0 < length bytes
  word_length [] w = absurd (cc)
  word_length (byte ∷ bytes) w = omega arith

pub rest_shorter : (rest after : List ℕ) (row : Row) → rows_of rest ≡ row ∷ rows_of after → rest ≡ (row.bytes ++ row.end) ++ after → length after < length rest
rest_shorter rest after row rows whole =
    let some = some_row row (rows_of after) (subst AreEnded rows (text_ended rest)) in
    let n = length-append (row.bytes ++ row.end) after in
    let m = ap length whole in
    omega (arith, some, n, m)
