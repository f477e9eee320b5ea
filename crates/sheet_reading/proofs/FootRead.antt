-- What is read of a board's table and par.
use Rattle.std.proofs.Common.{◌≡◌, ℕ, ◌≤◌, cond, List, [], ◌∷◌, ◌++◌, Option, None, Some, refl, ◌∙◌, ap}
use Rattle.std.specs.Prelude.{codes, IfSome}
use Rattle.std.proofs.lemmas.List.{append-nil}
use Rattle.std.proofs.lemmas.Slice.Eq.{bytes_eq-Decides}
use Rattle.cards.specs.declared.seats.Seat.{Seat}
use Rattle.cards.specs.declared.suits.Trump.{Trump}
use Rattle.par.specs.Texts.{score_text, contracts_text}
use Rattle.tables.specs.declared.pars.BoardPar.{BoardPar}
use Rattle.tables.specs.declared.pars.BoardPar.TheVariants.{Known, NoDealer, NoVulnerability}
use Rattle.tables.specs.TablesText.{Printed}
use Rattle.text_laws.specs.PageReading.{Values, Section}
use Rattle.text_laws.specs.WrittenOnce.{par_said, SaysSection}
use Rattle.sheet_reading.specs.Elements.{Piece, elements}
use Rattle.sheet_reading.specs.SheetReading.{par_in, only_par, section_with, section_of_parts, section_in}
use Rattle.sheet_reading.proofs.ElementLemmas.{Yields, yields-append}
use Rattle.sheet_reading.proofs.TemplatePieces.{piece, footer_start}
use Rattle.sheet_reading.proofs.FootChunks.{par_in as par_pieces_of, results_in, foot_content}
use Rattle.sheet_reading.proofs.TableRead.{paragraphs_before, ReadsTable, results-read}

-- ---- par
abbrev par_content : List ℕ → List ℕ → List Piece
par_content score contracts =
    piece (codes "p") (codes "Par ") ∷ piece (codes "b") score ∷ piece (codes "/b") [] ∷ piece (codes "br") contracts ∷ []

values-read : (score contracts : List ℕ) → par_in (par_content score contracts) ≡ Some (Values score contracts)
values-read score contracts =
    rw (append-nil score, append-nil contracts)
    (let text = codes "Par " ++ (score ++ contracts) in
    ap (λ same. cond same (Some (Values score contracts)) None) ((bytes_eq-Decides text text).1 refl))

-- what a footer's reader finds in these pieces: no table, and one paragraph of par, or none
record ReadsPar (par : Option BoardPar) (pieces : List Piece) : Type 0 where
  paragraphs : List (List Piece)
  have_tables : Yields (codes "table") pieces []
  have_paragraphs : Yields (codes "p") pieces paragraphs
  read : only_par paragraphs ≡ Some (par_said par)

par-read : (par : Option BoardPar) → ReadsPar par (par_pieces_of par)
par-read None = record {
  paragraphs = [];
  have_tables = record { closed = refl; are = refl };
  have_paragraphs = record { closed = refl; are = refl };
  read = refl;
}
par-read (Some (Known dealer vulnerable score contracts)) =
    let written = contracts_text contracts.items in
    record {
      paragraphs = par_content (score_text score) written ∷ [];
      have_tables = record { closed = refl; are = refl };
      have_paragraphs = record { closed = refl; are = refl };
      read = values-read (score_text score) written;
    }
par-read (Some NoDealer) = record {
  paragraphs = _;
  have_tables = record { closed = refl; are = refl };
  have_paragraphs = record { closed = refl; are = refl };
  read = refl;
}
par-read (Some NoVulnerability) = record {
  paragraphs = _;
  have_tables = record { closed = refl; are = refl };
  have_paragraphs = record { closed = refl; are = refl };
  read = refl;
}

-- ---- both
-- a footer with these pieces is read as a section that says what is printed
pub record ReadsFoot (printed : Printed) : Type 0 where
  pub section : Section
  pub read : section_in (footer_start ∷ foot_content printed) ≡ Some section
  pub says : SaysSection printed section

-- what is found in both
together : (printed : Printed) → ReadsTable printed.results (results_in printed.results) →
    ReadsPar printed.par (par_pieces_of printed.par) → ReadsFoot printed
together printed t p =
    let one = results_in printed.results in
    let other = par_pieces_of printed.par in
    let before = paragraphs_before (one ++ other) in
    let tables : elements (codes "table") (one ++ other) ≡ t.tables =
    (yields-append (codes "table") one other t.tables [] t.have_tables p.have_tables).are ∙ append-nil t.tables in
    let paragraphs : elements (codes "p") (one ++ other) ≡ t.paragraphs ++ p.paragraphs =
    (yields-append (codes "p") one other t.paragraphs p.paragraphs t.have_paragraphs p.have_paragraphs).are in
    record {
      section = record { par = par_said printed.par; table = t.table };
      read =
          ap (λ l. section_of_parts l before (elements (codes "p") (one ++ other))) tables
          ∙ (ap (section_of_parts t.tables before) paragraphs
          ∙ (t.read other p.paragraphs ∙ ap (λ s. section_with s (Some t.table)) p.read));
      says = record { par = refl; table = t.says };
    }

pub foot-read : (printed : Printed) →
    ((declarer : Seat) (denomination : Trump) → IfSome (printed.results declarer denomination) (λ tricks. tricks ≤ 13)) →
    ReadsFoot printed
foot-read printed at_most = together printed (results-read printed.results at_most) (par-read printed.par)
