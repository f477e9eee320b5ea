-- The cards so far were added.
use Rattle.std.proofs.Common.{◌≡◌, ◌++◌, take}
use Rattle.std.specs.Prelude.{string_bytes}
use Rattle.cards.specs.CardTexts.{cards_text}
use Rattle.play_dialogues.proofs.texts.push_cards.Given as goal

abbrev pub invariant-loop-card : goal.invariant-loop-card
invariant-loop-card l = string_bytes l.text ≡ string_bytes l.fn.text ++ cards_text (take l.card-index l.cards)
