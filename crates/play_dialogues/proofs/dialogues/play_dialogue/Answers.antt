use Rattle.std.proofs.Common.{sym, subst}
use Rattle.certificate_play.specs.Promises.{Promise}
use Rattle.play_dialogues.specs.Trails.{Trail, AreReplies}
use Rattle.play_dialogues.proofs.dialogues.play_dialogue.Goals as goal

pub hold-end-requires-clause-replied : goal.hold-end-requires-clause-replied
hold-end-requires-clause-replied g c =
    let cards = c.reply.ensures.0 in
    let same = rw c.unwrap-now.ensures at c.clone.ensures.cases in (
      cards,
      subst (λ (t : Trail). AreReplies c.args.playing cards t.now) (sym c.new-trail.ensures)
          (subst (λ (p : Promise). AreReplies p cards c.reply.new.playing) same c.reply.ensures.1),
    )
