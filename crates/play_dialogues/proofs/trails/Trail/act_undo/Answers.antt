use Rattle.std.proofs.Common.{◌≡◌, ◌-◌, List, [], None, length, subst}
use Rattle.std.specs.Prelude.{string_bytes, slice_get}
use Rattle.certificate_play.specs.Promises.{Promise}
use Rattle.play_dialogues.specs.declared.words.Typed.TheVariants as said
use Rattle.play_dialogues.specs.declared.words.Refusal.TheVariants.{NothingBack}
use Rattle.play_dialogues.specs.Trails.{Trail, Acts}
use Rattle.play_dialogues.proofs.ActLaws.{acts_refused, no_last, ok_then}
use Rattle.play_dialogues.proofs.trails.Trail.act_undo.Goals as goal

pub returns-in_default-clause-acts : goal.returns-in_default-clause-acts
returns-in_default-clause-acts c =
    let trail : Trail = record { earlier = c.self.inside.earlier.items; now = c.self.inside.now } in
    let none : trail.earlier ≡ [] = no_last trail.earlier (subst (λ (l : List Promise). None ≡ slice_get l (length l - 1)) c.deref.ensures.value c.in_default.ensures.value) in
    ok_then c.told_refusal.result _ _
    (λ text is. subst (λ (t : Trail). Acts t said.Undo t (string_bytes text)) c.self.view_is
    (acts_refused trail said.Undo NothingBack (string_bytes text) none is))
    c.told_refusal.ensures
