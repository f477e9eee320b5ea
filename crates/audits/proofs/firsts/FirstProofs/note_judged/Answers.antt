use Rattle.std.proofs.Common.{List, Option, refl, sym, ◌∙◌, ap, subst}
use Rattle.std.specs.List.{find}
use Rattle.std.specs.Option.{option_or}
use Rattle.checker.specs.declared.entries.Shown.{Shown}
use Rattle.evidence.specs.declared.parts.Part.TheVariants.{Found}
use Rattle.audits.specs.declared.judging.Judged.{Judged}
use Rattle.audits.specs.Firsts.{AreShownBy, is_at}
use Rattle.audits.specs.Batches.{Judges}
use Rattle.audits.proofs.FirstLaws.{first_added}
use Rattle.audits.proofs.firsts.FirstProofs.note_judged.Goals as goal

pub returns-else-is_err-clause-notes : goal.returns-else-is_err-clause-notes
returns-else-is_err-clause-notes c = λ before piece judges grows.
    let board = c.in-Shows.board in
    let shows = subst (λ (j : Judged). Judges c.args.boards.now before piece j) c.in-Shows.is judges in
    let section = shows.0 in
    let all = c.as_slice.result.now in
    record {
      part = Found section;
      part_is = shows.1;
      adds = (
        first_added c.args.boards.now section board (shows.2).0 (shows.2).1 c.args.self.now c.note_all.new.self all
            (subst (λ (l : List Shown). AreShownBy section l) (sym c.as_slice.ensures.value) (shows.2).2)
            (λ place. c.note_all.ensures.adds place ∙ ap (λ (o : Option Shown). option_or o (find (is_at board place) all)) (c.make_places.ensures.same place)),
        refl,
      );
    }
