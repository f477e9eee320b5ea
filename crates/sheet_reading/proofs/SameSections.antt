-- One section says one par and one set of results.
use Rattle.std.proofs.Common.{◌≡◌, ℕ, suc, Bool, true, List, [], ◌∷◌, length, Some, refl, sym, ◌∙◌, ap, arith}
use Rattle.std.specs.Prelude.{is_some, filter}
use Rattle.std.proofs.lemmas.Bool.{eqb-true}
use Rattle.std.proofs.lemmas.List.Sums.{length-filter}
use Rattle.cards.specs.declared.seats.Seat.{Seat}
use Rattle.cards.specs.declared.suits.Trump.{Trump}
use Rattle.tables.specs.TablesText.{Results, Printed, entries, published_count, is_complete}
use Rattle.text_laws.specs.PageReading.{Row, Table, Rows, Incomplete, Section}
use Rattle.text_laws.specs.WrittenOnce.{IsWrittenOnce, SaysResults, SaysSection, SaySame}

kept_all : {X : Type 0} (p : X → Bool) → ((x : X) → p x ≡ true) → (xs : List X) → length (filter p xs) ≡ length xs
kept_all p each [] = refl
kept_all p each (x ∷ xs) = rw (each x) (ap (λ n. suc n) (kept_all p each xs))

rows_published : (results : Results) (rows : List Row) →
    ((declarer : Seat) (denomination : Trump) → IsWrittenOnce results rows declarer denomination) → published_count results ≡ 20
unfolding published_count
rows_published results rows once =
    let known = λ (entry : Seat × Trump). is_some (results entry.0 entry.1) in
    sym (length-filter known entries) ∙ kept_all known (λ entry. ap is_some (once entry.0 entry.1).result) entries

head_same : {x y : ℕ} → x ∷ [] ≡ y ∷ [] → x ≡ y
head_same e = cc

complete_count : (results : Results) → is_complete results ≡ true → published_count results ≡ 20
unfolding is_complete
complete_count results e = eqb-true (published_count results) 20 e

record SameResults (one other : Results) : Type 0 where
  counts : published_count one ≡ published_count other
  numbers :
      is_complete one ≡ true → (declarer : Seat) (denomination : Trump) → one declarer denomination ≡ other declarer denomination

same_results : (one other : Results) (table : Table) → SaysResults one table → SaysResults other table → SameResults one other
same_results one other (Rows rows) h h' = record {
  counts = rows_published one rows h.1 ∙ sym (rows_published other rows h'.1);
  numbers = λ _ declarer denomination.
      let w = h.1 declarer denomination in
      let w' = h'.1 declarer denomination in
      w.result ∙ (ap Some (head_same (sym w.once ∙ w'.once)) ∙ sym w'.result);
}
same_results one other (Incomplete count) h h' = record {
  counts = sym h.0 ∙ h'.0;
  numbers = λ complete declarer denomination.
      absurd (let all = complete_count one complete in let is = h.0 in let few = h.1 in omega (arith, all, is, few));
}

pub same_section : (one other : Printed) (section : Section) → SaysSection one section → SaysSection other section → SaySame one other
same_section one other section h h' =
    let same = same_results one.results other.results section.table h.table h'.table in
    record { pars = sym h.par ∙ h'.par; counts = same.counts; numbers = same.numbers }
