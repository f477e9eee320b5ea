use Rattle.std.proofs.Common.{◌≡◌, ◌+◌, ◌<◌, List, [], ◌∷◌, ◌++◌, length, take, set, get_or, None, Some, sym, ◌∙◌, ap, subst, arith}
use Rattle.std.specs.Option.{option_or}
use Rattle.std.proofs.lemmas.List.{take_more, length-set}
use Rattle.checker.specs.declared.entries.Shown.{Shown}
use Rattle.lease_book.specs.Entries.{place_of}
use Rattle.lease_book.proofs.EntryLaws.{contract_below}
use Rattle.audits.specs.Firsts.{AddsProofs, entry_on}
use Rattle.audits.proofs.FirstLaws.{adds_one}
use Rattle.audits.proofs.firsts.FirstProofs.note_all.Goals as goal

pub loop-proven-preserved : goal.loop-proven-preserved
loop-proven-preserved c =
    let inv = c.loop-proven.invariant in
    let board = c.args.board in
    let item = c.proven-item.result in
    let middle = c.loop-proven.self in
    let index = c.loop-proven.proven-index in
    let proofs = c.args.proofs.now in
    let noted : c.note.new.self ≡ set middle (place_of (entry_on board item)) (option_or (get_or middle (place_of (entry_on board item)) None) (Some item)) =
    subst (λ (s : Shown). c.note.new.self ≡ set middle (place_of (entry_on board s)) (option_or (get_or middle (place_of (entry_on board s)) None) (Some item))) c.shown-shown.ensures c.note.ensures in
    let there : place_of (entry_on board item) < length middle = omega (arith, c.requires.there, inv.sized, contract_below item.declarer item.trump) in
    let taken : take (index + 1) proofs ≡ take index proofs ++ item ∷ [] =
    take_more proofs index item (omega (arith, c.loop-proven-test.true)) ∙ ap (λ (s : Shown). take index proofs ++ s ∷ []) (sym c.proven-item.is) in
    record {
      sized = ap length noted ∙ length-set _ _ _ ∙ inv.sized;
      adds = subst (λ (all : List Shown). AddsProofs board c.args.self.now c.note.new.self all) (sym taken) (adds_one board c.args.self.now middle c.note.new.self (take index proofs) item inv.adds there noted);
    }
