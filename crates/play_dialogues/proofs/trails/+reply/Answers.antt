use Rattle.std.proofs.Common.{◌∷◌, rules, subst, sym}
use Rattle.certificate_play.specs.Promises.{Promise, IsSidesTurn, GoesOn}
use Rattle.strategies.proofs.SearchProofs.{turn-unfinished}
use Rattle.play_dialogues.specs.Trails.{AreReplies}
use Rattle.play_dialogues.proofs.trails.+reply.Goals as goal

pub returns-in-Some : goal.returns-in-Some
returns-in-Some t c =
    let promise = c.args.playing.now in
    let goes_on : GoesOn promise = (turn-unfinished promise.position c.in-Some.seat (sym c.in-Some.ensures.turn)).0 in
    let turn : IsSidesTurn promise = search rules in (
      c.answer.result ∷ c.reply.ensures.0,
      (
        goes_on,
        turn,
        c.answer.ensures.legal,
        subst (λ (p : Promise). AreReplies p c.reply.ensures.0 c.reply.new.playing) c.answer.ensures.played c.reply.ensures.1,
      ),
    )
