use Rattle.std.proofs.Common.{Err, refl, sym, subst}
use Rattle.play_dialogues.specs.Trails.{Trail, ArePlayedSince}
use Rattle.play_dialogues.specs.Dialogues.{IsOpening}
use Rattle.play_dialogues.specs.Conversing.{Opens}
use Rattle.play_dialogues.proofs.TrailLaws.{replies_since, replies_settle, replies_same, fit_first, turns_fit}
use Rattle.play_dialogues.proofs.ConverseLaws.{is_dialogue, not_opened}
use Rattle.play_dialogues.proofs.dialogues.hold.Goals as goal

pub open-requires : goal.open-requires
open-requires g c =
    let before = c.args.before.now in
    let replied = c.requires.replied in (
      replied.0,
      subst (λ (t : Trail). ArePlayedSince before t.now replied.0) (sym c.trail.view_is)
          (replies_since before replied.0 c.args.trail.now.now replied.1),
    )

pub converse-requires-clause-settled : goal.converse-requires-clause-settled
converse-requires-clause-settled g c =
    replies_settle c.args.before.now c.requires.replied.0 c.args.trail.now.now c.requires.replied.1

pub returns-in-Ok-clause-dialogue : goal.returns-in-Ok-clause-dialogue
returns-in-Ok-clause-dialogue g c =
    let before = c.args.before.now in
    let trail = c.args.trail.now in
    let opens = c.in-Ok.ensures in
    is_dialogue before trail.now c.requires.replied.0 trail (g.I.Source.state c.args.input.now) (g.I.Source.state c.converse.new.input) (g.O.Sink.state c.args.output.now) (g.O.Sink.state c.open.new.output) (g.O.Sink.state c.converse.new.output)
    opens.0 c.converse.new.trail c.converse.result c.requires.replied.1
    (subst (λ (t : Trail). IsOpening before t.now opens.0) c.trail.view_is opens.1)
    opens.2 c.requires.new refl c.converse.ensures

pub returns-in-Ok-clause-same : goal.returns-in-Ok-clause-same
returns-in-Ok-clause-same g c =
    let before = c.args.before.now in
    let trail = c.args.trail.now in
    let replied = c.requires.replied in
    let fit = fit_first before trail c.requires.new (replies_settle before replied.0 trail.now replied.1) (replies_same before replied.0 trail.now replied.1) in
    let turns = c.converse.ensures in
    (turns_fit before trail turns.lines c.converse.new.trail turns.turns turns.turns_are fit).same

pub returns-in-Err-clause-dialogue : goal.returns-in-Err-clause-dialogue
returns-in-Err-clause-dialogue g c =
    let before = c.args.before.now in
    let trail = c.args.trail.now in
    let output = g.O.Sink.state c.args.output.now in
    let output' = g.O.Sink.state c.open.new.output in
    not_opened before c.requires.replied.0 trail (g.I.Source.state c.args.input.now) output output' c.in-Err.end c.requires.replied.1 c.requires.new
    (subst (λ (t : Trail). Opens before t.now output output' (Err c.in-Err.end)) c.trail.view_is c.in-Err.ensures)

pub returns-in-Err-clause-same : goal.returns-in-Err-clause-same
returns-in-Err-clause-same g c =
    replies_same c.args.before.now c.requires.replied.0 c.args.trail.now.now c.requires.replied.1
