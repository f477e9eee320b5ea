use Rattle.std.proofs.Common.{◌-◌, ◌%◌, length, drop, length-drop, ◌∙◌, ap, arith}
use Rattle.std.proofs.lemmas.List.{take_all}
use Rattle.play_rules.specs.History.{trick_of}
use Rattle.certificate_play.specs.Promises.{Promise}
use Rattle.certificate_play.proofs.PromiseLaws.{trick_is_last}
use Rattle.certificate_play.proofs.playing.Playing.trick.Goals as goal

pub returns : goal.returns
returns c =
    let cards = c.as_slice-history.result.now in
    let whole = length cards - length cards % 4 in
    take_all (length cards - whole) (drop whole cards) (omega (arith, length-drop whole cards))
    ∙ (trick_is_last cards ∙ ap trick_of (c.as_slice-history.ensures.value ∙ (c.self.invariant.history_is ∙ ap (λ (p : Promise). p.position.history) c.self.view_is)))
