-- The cards so far were added.
use Rattle.std.proofs.Common.{◌≡◌, ◌++◌, take}
use Rattle.std.specs.Prelude.{string_bytes}
use Rattle.play_dialogues.specs.Texts.{left_in, played_text}
use Rattle.play_dialogues.proofs.texts.push_all_played.Given as goal

abbrev pub invariant-loop-card : goal.invariant-loop-card
invariant-loop-card l =
    string_bytes l.text ≡ string_bytes l.fn.text ++ played_text (left_in l.before) (take l.card-index l.cards)
