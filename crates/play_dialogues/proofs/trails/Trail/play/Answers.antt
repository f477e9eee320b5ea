use Rattle.std.proofs.Common.{◌≡◌, rules, subst}
use Rattle.certificate_play.specs.Promises.{Promise, after_card}
use Rattle.play_dialogues.specs.Trails.{AreReplies}
use Rattle.play_dialogues.proofs.ActLaws.{played_since}
use Rattle.play_dialogues.proofs.trails.Trail.play.Goals as goal

pub told_played-requires : goal.told_played-requires
told_played-requires c =
    let taken : c.take.new.self ≡ after_card c.self.inside.now c.args.card = search rules in
    played_since c.self.inside.now c.args.card c.reply.ensures.0 c.reply.new.playing
    (subst (λ (p : Promise). AreReplies p c.reply.ensures.0 c.reply.new.playing) taken c.reply.ensures.1)
