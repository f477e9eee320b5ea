-- The lines of a play that go out, one after another.
use Rattle.std.proofs.Common.{ℕ, ◌+◌, ◌<◌, ◌≤◌, Bool, List, length, take, get_or, sym, subst, arith}
use Rattle.std.specs.List.{flat_map, enumerate_from}
use Rattle.std.proofs.lemmas.List.FromFn.{length-enumerate_from}
use Rattle.cards.specs.Devices.{Device, Adds, AddsBeginning}
use Rattle.cards.proofs.WriteLemmas.{Adds-piece, AddsBeginning-piece, pieces-all}
use Rattle.play_pages.specs.declared.lines.CardLine.{CardLine}
use Rattle.play_pages.specs.Texts.{asked_line, lines_text}
use Rattle.play_pages.proofs.Places.{place_within, one_there}

-- the lines so far have gone out
pub record HaveGone (mistakes : Bool) (lines : List CardLine) (place : ℕ) (first second : Device) : Type 0 where
  pub gone : Adds first second (flat_map (asked_line mistakes) (take place (enumerate_from 0 lines)))

module _ (mistakes : Bool) (lines : List CardLine) (place : ℕ) (d : CardLine) (first second third : Device) (within : place < length lines)
    (before : HaveGone mistakes lines place first second) where
  pub gone_more : Adds second third (asked_line mistakes (place, get_or lines place d)) → HaveGone mistakes lines (place + 1) first third
  gone_more piece = record {
    gone = Adds-piece (asked_line mistakes) (enumerate_from 0 lines) place (0, d) (place_within lines place within) before.gone
        (subst (λ (one : ℕ × CardLine). Adds second third (asked_line mistakes one)) (sym (one_there lines place d within)) piece);
  }

  pub gone_partly : AddsBeginning second third (asked_line mistakes (place, get_or lines place d)) → AddsBeginning first third (lines_text mistakes lines)
  unfolding lines_text
  gone_partly piece =
      AddsBeginning-piece (asked_line mistakes) (enumerate_from 0 lines) place (0, d) (place_within lines place within) before.gone
      (subst (λ (one : ℕ × CardLine). AddsBeginning second third (asked_line mistakes one)) (sym (one_there lines place d within)) piece)

pub all_gone : (mistakes : Bool) (lines : List CardLine) (place : ℕ) (first second : Device) → length lines ≤ place → HaveGone mistakes lines place first second → Adds first second (lines_text mistakes lines)
unfolding lines_text
all_gone mistakes lines place first second over before =
    subst (λ (text : List ℕ). Adds first second text)
    (pieces-all (asked_line mistakes) (enumerate_from 0 lines) place (omega (arith, over, length-enumerate_from 0 lines))) before.gone
