-- The lines of a play, from the judgement of a solver's answer.
use Rattle.std.proofs.Common.{◌≡◌, ℕ, Bool, true, false, Option, None, Some, IfSome, Ok, Err, sym, ◌∙◌, subst}
use Rattle.std.proofs.Math.ListN.{get_or-map}
use Rattle.cards.specs.declared.faults.OutOfMemory.{OutOfMemory}
use Rattle.play_claims.specs.Solvers.{MayFindPlay}
use Rattle.play_values.specs.PlayValues.{Recorded, IsValueAt}
use Rattle.certified_plays.specs.declared.searching.PlayFound.{PlayFound}
use Rattle.certified_plays.specs.declared.faults.ValueFault.TheVariants.{ClaimMissing}
use Rattle.certified_plays.specs.declared.faults.PlayEntry.TheVariants.{Unknown}
use Rattle.certified_plays.specs.Searches.{FindsPlay}
use Rattle.certified_plays.specs.Values.{AreShownValues, known_in, value_at}
use Rattle.recorded_plays.specs.declared.plays.RecordedPlay.{RecordedPlay}
use Rattle.play_pages.specs.declared.lines.PlayLines.{PlayLines}
use Rattle.play_pages.specs.declared.queries.PlayQuery.{PlayQuery}
use Rattle.play_pages.specs.Lines.{recorded_of, AreLinesOf}
use Rattle.play_evidence.specs.Sections.{PlaySectionShape, MakesPlaySection}
use Rattle.play_pages.specs.Answers.{AreFoundLines, AreKeptLines, AreTrue, IsKeptOf, numbers_by, numbers_in, section_of}

module _ (may_find : MayFindPlay) (query : PlayQuery) (play : RecordedPlay) (lines : PlayLines) (one : Recorded)
    (one_is : one ≡ recorded_of play) where
  module _ (found : PlayFound) (finds : FindsPlay may_find one query.budget (Ok found))
      (shown : AreShownValues found.values.play found.values.entries) where
    true_at : AreTrue play (numbers_in (Some found.values))
    true_at count =
        subst (λ (r : Recorded). IfSome (value_at found.values count) (IsValueAt r count)) (finds.1.judged.0 ∙ one_is)
        (subst (λ (v : Option ℕ). IfSome v (IsValueAt found.values.play count))
        (get_or-map known_in found.values.entries count (Unknown ClaimMissing)) (shown.each count))

    finds_it : FindsPlay may_find (recorded_of play) query.budget (Ok found)
    finds_it = subst (λ (r : Recorded). FindsPlay may_find r query.budget (Ok found)) one_is finds

    -- the numbers that an answer shows
    pub found_lines : (other : Recorded) → other ≡ recorded_of play → query.keeps ≡ false →
        AreLinesOf other (numbers_in (Some found.values)) lines → lines.section ≡ None →
        AreFoundLines may_find query play lines
    found_lines other other_is not are none = record {
      answer = Ok found;
      finds = finds_it;
      kept = subst (λ (keeps : Bool). IsKeptOf (Ok found) keeps play lines.section) (sym not) none;
      true_are = true_at;
      are = subst (λ (keeps : Bool). AreLinesOf (recorded_of play) (numbers_by (Ok found) keeps lines.section) lines) (sym not)
          (subst (λ (r : Recorded). AreLinesOf r (numbers_in (Some found.values)) lines) other_is are);
    }

    -- the numbers of an answer whose evidence is kept
    pub found_kept : query.keeps ≡ true → AreKeptLines play found lines → AreFoundLines may_find query play lines
    found_kept keeps kept = record {
      answer = Ok found;
      finds = finds_it;
      kept = subst (λ (keeps : Bool). IsKeptOf (Ok found) keeps play lines.section) (sym keeps) kept.kept;
      true_are = true_at;
      are = subst (λ (keeps : Bool). AreLinesOf (recorded_of play) (numbers_by (Ok found) keeps lines.section) lines) (sym keeps) kept.are;
    }

  -- memory ran out
  pub missing_lines : (other : Recorded) → other ≡ recorded_of play → (fault : OutOfMemory) →
      FindsPlay may_find one query.budget (Err fault) → AreLinesOf other (numbers_in None) lines → lines.section ≡ None →
      AreFoundLines may_find query play lines
  missing_lines other other_is fault finds are none = record {
    answer = Err fault;
    finds = subst (λ (r : Recorded). FindsPlay may_find r query.budget (Err fault)) one_is finds;
    kept = none;
    true_are = λ count. tt;
    are = subst (λ (r : Recorded). AreLinesOf r (numbers_in None) lines) other_is are;
  }

-- the lines by an answer that makes this section, or none
module _ (play : RecordedPlay) (found : PlayFound) (lines : PlayLines) (other : Recorded) (other_is : other ≡ recorded_of play) where
  pub kept_with : (section : PlaySectionShape) → MakesPlaySection (section_of play found.bundle) (Some section) →
      AreLinesOf other (numbers_in (Some found.values)) lines → lines.section ≡ Some section → AreKeptLines play found lines
  kept_with section makes are is = record {
    kept = subst (λ (s : Option PlaySectionShape). MakesPlaySection (section_of play found.bundle) s) (sym is) makes;
    are = subst (λ (s : Option PlaySectionShape). AreLinesOf (recorded_of play) (numbers_by (Ok found) true s) lines) (sym is)
        (subst (λ (r : Recorded). AreLinesOf r (numbers_in (Some found.values)) lines) other_is are);
  }

  pub kept_without : MakesPlaySection (section_of play found.bundle) None →
      AreLinesOf other (numbers_in None) lines → lines.section ≡ None → AreKeptLines play found lines
  kept_without makes are is = record {
    kept = subst (λ (s : Option PlaySectionShape). MakesPlaySection (section_of play found.bundle) s) (sym is) makes;
    are = subst (λ (s : Option PlaySectionShape). AreLinesOf (recorded_of play) (numbers_by (Ok found) true s) lines) (sym is)
        (subst (λ (r : Recorded). AreLinesOf r (numbers_in None) lines) other_is are);
  }
