use Rattle.std.proofs.Common.{◌∙◌, ap, refl, sym, true≢false, length, slice_get}
use Rattle.std.proofs.lemmas.Option.{slice_get_read}
use Rattle.pattern_store.proofs.ShapeLaws.{shape_at, other_shape, no_shape_past}
use Rattle.pattern_store.proofs.shapes.Shapes.is_shape.Goals as goal

pub returns-in-Some : goal.returns-in-Some
returns-in-Some c =
    let read = c.deref.result.now in
    let at = slice_get_read read (length read) c.args.shape c.in-Some.field-0.now refl c.in-Some.ensures.lookup.3.0 c.in-Some.ensures.lookup.1 in
    (λ _. shape_at c.args.self.now.rows.items c.args.shape c.args.lengths c.in-Some.field-0.now (ap (λ rows. slice_get rows c.args.shape) (sym c.deref.ensures.value) ∙ at) c.if-key-lengths.true, λ _. refl)

pub returns-in_default : goal.returns-in_default
returns-in_default c =
    let read = c.deref.result.now in
    let at = slice_get_read read (length read) c.args.shape c.in-Some.field-0.now refl c.in-Some.ensures.lookup.3.0 c.in-Some.ensures.lookup.1 in
    (λ never. absurd (true≢false (sym never)), λ is. absurd (other_shape c.args.self.now.rows.items c.args.shape c.args.lengths c.in-Some.field-0.now (ap (λ rows. slice_get rows c.args.shape) (sym c.deref.ensures.value) ∙ at) c.if-key-lengths.false is))

pub returns-in_default-2 : goal.returns-in_default-2
returns-in_default-2 c =
    let past = rw c.in_default.is at c.get.ensures.lookup.3 in
    (λ never. absurd (true≢false (sym never)), λ is. absurd (no_shape_past c.args.self.now.rows.items c.args.shape c.args.lengths (rw c.deref.ensures.value at past) is))
