use Rattle.std.proofs.Common.{◌≡◌, List, Contains, None, ◌∙◌, subst, sym}
use Rattle.cards.specs.declared.pack.Card.{Card}
use Rattle.cards.specs.Deal.{holder_of}
use Rattle.play_rules.specs.Left.{left_of}
use Rattle.certificate_play.specs.Promises.{Promise}
use Rattle.certificate_play.proofs.PromiseLaws.{played_is_gone, unplayed_is_held}
use Rattle.certificate_play.proofs.playing.Playing.holder.Goals as goal

pub returns-then-was_played : goal.returns-then-was_played
returns-then-was_played c =
    let promise : Promise = record { position = c.self.inside.table; side = c.self.inside.side; tricks = c.self.inside.promised } in
    let card = c.args.card in
    subst (λ (p : Promise). None ≡ holder_of (left_of p.position.opening.deal p.position.history) card) c.self.view_is
    (played_is_gone promise c.self.inside.layout c.self.inside.history.items c.self.inside.step card c.self.invariant
    (subst (λ (cards : List Card). Contains cards card) c.as_slice.ensures.value c.if-was_played.ensures))

pub returns-else-was_played : goal.returns-else-was_played
returns-else-was_played c =
    let promise : Promise = record { position = c.self.inside.table; side = c.self.inside.side; tricks = c.self.inside.promised } in
    let card = c.args.card in
    c.owner.ensures
    ∙ subst (λ (p : Promise). holder_of c.self.inside.layout card ≡ holder_of (left_of p.position.opening.deal p.position.history) card) c.self.view_is
    (unplayed_is_held promise c.self.inside.layout c.self.inside.history.items c.self.inside.step card c.self.invariant
    (λ played. c.if-was_played.ensures (subst (λ (cards : List Card). Contains cards card) (sym c.as_slice.ensures.value) played)))
