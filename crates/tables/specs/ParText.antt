-- What is printed of a board's par, before its table (PBN 2.1, the OptimumScore tag).
use Rattle.std.specs.Prelude.{ℕ, ◌<◌, ◌^◌, List, [], ◌∷◌, ◌++◌, codes, All, Option, None, Some, unsigned_abs, ⊤}
use Rattle.std.specs.List.{flat_map}
use Rattle.par.specs.Texts.{score_text, contracts_text, IsSmallResult}
use Rattle.tables.specs.declared.pars.BoardPar.{BoardPar}
use Rattle.tables.specs.declared.pars.BoardPar.TheVariants.{Known, NoDealer, NoVulnerability}
use Rattle.cards.specs.Bytes as ascii

-- a tag pair: the opening bracket, the name, a space, the value in quotes, the closing bracket
unfoldable pub tag_text : List ℕ → List ℕ → List ℕ
tag_text name value =
    ascii.open_bracket ∷ (name ++ (ascii.blank ∷ ascii.quote ∷ (value ++ (ascii.quote ∷ ascii.close_bracket ∷ []))))

-- the text of a line, with this end
abbrev pub body_line : List ℕ → List ℕ → List ℕ
body_line end body = body ++ end

-- ---- small numbers
-- the numbers that are printed of a par
abbrev pub IsSmallPar : BoardPar → Type 0
IsSmallPar (Known dealer vulnerable score contracts) =
    (unsigned_abs score < 2 ^ 16) × All (λ contract. IsSmallResult contract.outcome) contracts.items
IsSmallPar NoDealer = ⊤
IsSmallPar NoVulnerability = ⊤

-- ---- the lines
-- the lines of a board's par without their ends: the score and the contracts, or what isn't known
abbrev pub par_bodies : Option BoardPar → List (List ℕ)
par_bodies None = []
par_bodies (Some (Known dealer vulnerable score contracts)) =
    tag_text (codes "OptimumScore") (score_text score)
    ∷ tag_text (codes "ParContract") (contracts_text contracts.items) ∷ []
par_bodies (Some NoDealer) = codes "; par unknown: no dealer" ∷ []
par_bodies (Some NoVulnerability) = codes "; par unknown: no vulnerability" ∷ []

-- the lines, each with this end
unfoldable pub par_text : List ℕ → Option BoardPar → List ℕ
par_text end par = flat_map (body_line end) (par_bodies par)
