use Rattle.std.proofs.Common.{subst}
use Rattle.std.specs.Prelude.{string_bytes}
use Rattle.play_dialogues.specs.declared.words.Typed.TheVariants as said
use Rattle.play_dialogues.specs.Trails.{Trail, Acts}
use Rattle.play_dialogues.proofs.ActLaws.{acts_refused, ok_then}
use Rattle.play_dialogues.proofs.trails.Trail.act_card.Goals as goal

pub returns-in-Some-clause-acts : goal.returns-in-Some-clause-acts
returns-in-Some-clause-acts c =
    let trail : Trail = record { earlier = c.self.inside.earlier.items; now = c.self.inside.now } in
    ok_then c.told_refusal.result _ _
    (λ text is. subst (λ (t : Trail). Acts t (said.Card c.args.card) t (string_bytes text)) c.self.view_is
    (acts_refused trail (said.Card c.args.card) c.in-Some.refusal (string_bytes text) c.in-Some.ensures is))
    c.told_refusal.ensures
