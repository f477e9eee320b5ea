use Rattle.std.proofs.Common.{ℕ, List, ◌++◌, sym, ◌∙◌, ap, append-nil}
use Rattle.std.specs.Prelude.{string_bytes}
use Rattle.play_dialogues.proofs.AskLaws.{asks_none, asks_added}
use Rattle.play_dialogues.proofs.ActLaws.{on_ok_then}
use Rattle.play_dialogues.proofs.showing.push_asking.Goals as goal

pub returns-in_default : goal.returns-in_default
returns-in_default c =
    let text = string_bytes c.args.text.now in
    sym
    (ap (λ (t : List ℕ). text ++ t) (asks_none c.args.playing.now (sym c.turn-turn.ensures.turn ∙ c.in_default.is))
    ∙ append-nil text)

pub returns : goal.returns
returns c =
    on_ok_then c.push_turn.result _ _
    (λ line. asks_added c.args.playing.now c.in-Some.seat c.turn-turn.result (string_bytes c.args.text.now)
    (string_bytes c.push_hands.new.text) (string_bytes c.push_trick.new.text) (string_bytes c.push_score.new.text) (string_bytes c.push_turn.new.text)
    c.turn-turn.ensures.turn c.in-Some.is c.in_ok-push_hands.ensures c.in_ok-push_trick.ensures c.in_ok-push_score.ensures line)
    c.push_turn.ensures
