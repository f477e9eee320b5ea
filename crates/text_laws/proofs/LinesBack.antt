-- The lines of a printed text, and lines without a meaning.
use Rattle.std.proofs.Common.{◌≡◌, ◌≢◌, ℕ, Bool, true, false, List, [], ◌∷◌, ◌++◌, refl, sym, ◌∙◌, ap, inl, inr, ◌⊎◌}
use Rattle.std.specs.List.{slice_split, AllByRecursion, All}
use Rattle.std.proofs.lemmas.List.Elements.{All-from_recursion}
use Rattle.std.proofs.lemmas.List.Splits.{slice_split_at}
use Rattle.std.proofs.lemmas.Bool.{ne_eqb}
use Rattle.pbn_deals.specs.Lines.{is_line_feed, without_return, ended, lines_of}
use Rattle.pbn_deals.specs.Reading.{meaning_of, IsSpace, IsData, Ends, Scans, at_end, at_blank, at_plain}
use Rattle.pbn_deals.specs.Games.{Tags}
use Rattle.pbn_deals.proofs.LinesOfText.{split_nonempty}

-- a line that is read as it was printed
pub record IsLine (line : List ℕ) : Type 0 where
  pub no_feed : All (λ byte. is_line_feed byte ≡ false) line
  pub no_return : without_return line ≡ line

-- the first line of a text, and the lines after it
pub lines_of-line : (line rest : List ℕ) → IsLine line → lines_of (line ++ 10 ∷ rest) ≡ line ∷ lines_of rest
lines_of-line line rest h =
    let cut : slice_split is_line_feed (line ++ 10 ∷ rest) ≡ line ∷ slice_split is_line_feed rest = slice_split_at is_line_feed line 10 rest h.no_feed refl in
    let more = split_nonempty rest in
    ap ended cut
    ∙ (ap (λ (parts : List (List ℕ)). ended (line ∷ parts)) more.2
    ∙ (ap (λ (l : List ℕ). l ∷ ended (more.0 ∷ more.1)) h.no_return
    ∙ ap (λ (parts : List (List ℕ)). line ∷ ended parts) (sym more.2)))

-- bytes that are neither an end of a line nor a carriage return
abbrev pub IsTame : List ℕ → Type 0
IsTame [] = Unit {0}
IsTame (byte ∷ bytes) = (byte ≢ 10) × (byte ≢ 13) × IsTame bytes

tame-no_feed : (line : List ℕ) → IsTame line → AllByRecursion (λ byte. is_line_feed byte ≡ false) line
tame-no_feed [] h = tt
tame-no_feed (byte ∷ bytes) h = (ne_eqb byte 10 h.0, tame-no_feed bytes h.2)

tame-no_return : (line : List ℕ) → IsTame line → without_return line ≡ line
tame-no_return [] h = refl
tame-no_return (byte ∷ []) h = rw (ne_eqb byte 13 h.1) refl
tame-no_return (byte ∷ other ∷ bytes) h = ap (λ (l : List ℕ). byte ∷ l) (tame-no_return (other ∷ bytes) h.2)

pub IsLine-from_tame : (line : List ℕ) → IsTame line → IsLine line
IsLine-from_tame line h = record { no_feed = All-from_recursion _ line (tame-no_feed line h); no_return = tame-no_return line h }

-- bytes that are blanks or have no meaning of their own
abbrev pub IsQuiet : List ℕ → Type 0
IsQuiet [] = Unit {0}
IsQuiet (byte ∷ bytes) = ((meaning_of byte ≡ IsSpace) ⊎ (meaning_of byte ≡ IsData)) × IsQuiet bytes

-- they read to the end of the line and change nothing
pub Scans-quiet : (number count : ℕ) (in_data : Bool) (tags : Tags) (line : List ℕ) → IsQuiet line → Scans number count in_data tags line (Ends tags false)
Scans-quiet number count in_data tags [] h = at_end
Scans-quiet number count in_data tags (byte ∷ bytes) (inl blank, rest) = at_blank blank (Scans-quiet number count in_data tags bytes rest)
Scans-quiet number count in_data tags (byte ∷ bytes) (inr plain, rest) = at_plain plain (Scans-quiet number count true tags bytes rest)

pub IsTame-append : (one other : List ℕ) → IsTame one → IsTame other → IsTame (one ++ other)
IsTame-append [] other a b = b
IsTame-append (byte ∷ bytes) other a b = (a.0, a.1, IsTame-append bytes other a.2 b)
