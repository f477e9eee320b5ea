use Rattle.std.proofs.Common.{length, set, refl, rules, subst}
use Rattle.std.proofs.lemmas.Option.{slice_get_read}
use Rattle.pattern_store.specs.Records.{Kept, Goes}
use Rattle.pattern_store.proofs.FoundLaws.{goes_past}
use Rattle.pattern_store.proofs.records.Records.pass_block.Goals as goal

pub returns : goal.returns
returns c =
    let shapes = c.self.inside.shapes.rows.items in
    let blocks = c.self.inside.runs.blocks.items in
    let room = c.self.inside.runs.room in
    let came = c.args.waiting.now.moved in
    let goes = c.pass_block.new.self.moved in
    let at = slice_get_read blocks (length blocks) c.args.number c.in-Some.block.now refl c.in-Some.ensures.item.3.0 c.in-Some.ensures.value in
    subst (λ (kept : Kept). Goes kept (record { shapes = shapes; blocks = set blocks c.args.number c.pass_block.new.block; room = room }) c.args.list came goes) c.self.view_is
    (goes_past shapes blocks room c.args.number c.in-Some.block.now c.pass_block.new.block came goes at c.pass_block.ensures.passes c.args.list (search rules))
