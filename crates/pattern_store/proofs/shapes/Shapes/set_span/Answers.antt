use Rattle.std.proofs.Common.{refl, length}
use Rattle.std.proofs.lemmas.Option.{slice_get_read}
use Rattle.pattern_store.proofs.ShapeLaws.{sets_span, no_shape}
use Rattle.pattern_store.proofs.shapes.Shapes.set_span.Goals as goal

pub returns-then-number-lt8 : goal.returns-then-number-lt8
returns-then-number-lt8 c =
    let rows = c.args.self.now.rows.items in
    sets_span rows c.args.list c.args.span c.in-Some.row.now (slice_get_read rows (length rows) c.args.list.shape c.in-Some.row.now refl c.in-Some.ensures.item.3.0 c.in-Some.ensures.value)

pub returns-in_default : goal.returns-in_default
returns-in_default c = no_shape c.args.self.now.rows.items c.args.list c.args.span c.in_default.ensures.item.3
