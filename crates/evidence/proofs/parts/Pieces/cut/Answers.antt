use Rattle.std.proofs.Common.{◌<◌, ◌^◌, ◌-◌, ℕ, Vec, Global, length, length-drop, take_all, take, drop, refl, ap, sym, ◌∙◌, arith, length-take-le}
use Rattle.evidence.proofs.PartLemmas.{at_end, cut_is}
use Rattle.evidence.proofs.parts.Pieces.cut.Goals as goal

pub returns-then-end-eq0 : goal.returns-then-end-eq0
returns-then-end-eq0 g c =
    let held = c.find_end.new.self.held.items in
    let end = c.in_ok-end.end in
    let found = c.in_ok-end.ensures in
    let counted = found.counted in
    let none = c.if-end-eq0.true in
    let fits : c.args.self.now.before < 2 ^ 64 = (let is = c.place-at.ensures.is in let f = c.place-at.ensures.fits in omega arith) in
    at_end _ _ _ _ held c.args.self.now.before _ _ end c.in_ok-end.is_long (take end held) held found refl refl (sym (ap (λ n. drop n held) none))
    (omega arith) (length-take-le end held found.within ∙ none) fits

pub returns : goal.returns
returns g c =
    let held = c.find_end.new.self.held.items in
    let end = c.in_ok-end.end in
    let seen = c.deref.result.now in
    let behind = take_all (length seen - end) (drop end seen) (omega (arith, length-drop end seen)) in
    let left = ap (λ (v : Vec ℕ Global). v.items) c.replace-bytes.ensures.after ∙ c.in-Ok.ensures.items ∙ behind ∙ ap (drop end) c.deref.ensures.value in
    let whole = ap (λ (v : Vec ℕ Global). v.items) c.replace-bytes.ensures.value in
    cut_is _ _ _ _ held c.args.self.now.before _ _ end c.in_ok-end.is_long (take end held) _ c.in_ok-end.ensures refl refl left
    c.saturating_add-self.ensures (let some = c.if-end-eq0.false in omega arith) c.place-at.result c.truncate.new.self.items c.in_ok-end.is_long c.place-at.ensures.is
    (c.truncate.ensures.items ∙ ap (take end) whole) refl
