use Rattle.std.proofs.Common.{sym, subst}
use Rattle.std.specs.Prelude.{string_bytes}
use Rattle.play_dialogues.specs.declared.words.Typed.{Typed}
use Rattle.play_dialogues.specs.declared.words.Refusal.TheVariants.{NoCard}
use Rattle.play_dialogues.specs.Trails.{Trail, IsRefused, Acts}
use Rattle.play_dialogues.proofs.ActLaws.{acts_refused, ok_then}
use Rattle.play_dialogues.proofs.trails.Trail.act.Goals as goal

pub returns-in-Unknown-clause-acts : goal.returns-in-Unknown-clause-acts
returns-in-Unknown-clause-acts c =
    let inside = c.self-in-Unknown.inside in
    let trail : Trail = record { earlier = inside.earlier.items; now = inside.now } in
    let why : IsRefused trail c.args.typed NoCard = subst (λ (t : Typed). IsRefused trail t NoCard) (sym c.in-Unknown.is) tt in
    ok_then c.told_refusal.result _ _
    (λ text is. subst (λ (t : Trail). Acts t c.args.typed t (string_bytes text)) c.self-in-Unknown.view_is
    (acts_refused trail c.args.typed NoCard (string_bytes text) why is))
    c.told_refusal.ensures
