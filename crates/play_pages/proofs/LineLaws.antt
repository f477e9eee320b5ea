-- The lines of the first cards of a play, one after another.
use Rattle.std.proofs.Common.{◌≡◌, ℕ, ◌+◌, ◌<◌, List, [], ◌∷◌, ◌++◌, length, take, get_or, Some, sym, ◌∙◌, ap, arith}
use Rattle.std.specs.Prelude.{slice_get}
use Rattle.std.specs.List.{enumerate_from}
use Rattle.std.proofs.lemmas.List.{take_more, get_or-map, length-map}
use Rattle.std.proofs.lemmas.List.FromFn.{get_or-enumerate_from, length-enumerate_from}
use Rattle.std.proofs.lemmas.Option.{slice_get_within, get_or_from_slice_get}
use Rattle.cards.specs.declared.pack.Card.{Card}
use Rattle.play_values.specs.PlayValues.{Recorded}
use Rattle.play_pages.specs.declared.lines.CardLine.{CardLine}
use Rattle.play_pages.specs.Lines.{Numbers, line_of, lines_of}

module _ (play : Recorded) (numbers : Numbers) (place : ℕ) (line : CardLine)
    (card : slice_get play.position.history place ≡ Some line.card) (is : line ≡ line_of play numbers (place, line.card)) where
  within_play : place < length play.position.history
  within_play = slice_get_within play.position.history place line.card card

  within_cards : place < length (enumerate_from 0 play.position.history)
  within_cards = omega (arith, within_play, length-enumerate_from 0 play.position.history)

  within_lines : place < length (lines_of play numbers)
  within_lines = omega (arith, within_cards, length-map (enumerate_from 0 play.position.history) (line_of play numbers))

  card_there : get_or (enumerate_from 0 play.position.history) place (0, line.card) ≡ (place, line.card)
  card_there =
      let same : 0 + place ≡ place = omega arith in
      get_or-enumerate_from 0 play.position.history place (0, line.card) within_play
      ∙ (ap (λ (n : ℕ). (n, get_or play.position.history place line.card)) same
      ∙ ap (λ (one : Card). (place, one)) (get_or_from_slice_get play.position.history place line.card line.card card))

  line_there : get_or (lines_of play numbers) place line ≡ line
  line_there =
      get_or-map (line_of play numbers) (enumerate_from 0 play.position.history) place (0, line.card) line within_cards
      ∙ (ap (line_of play numbers) card_there ∙ sym is)

  -- the line of the next card is the next line
  pub lines_more : (lines more : List CardLine) → lines ≡ take place (lines_of play numbers) → more ≡ lines ++ line ∷ [] →
      more ≡ take (place + 1) (lines_of play numbers)
  lines_more lines more before e =
      e
      ∙ (ap (λ (list : List CardLine). list ++ line ∷ []) before
      ∙ (ap (λ (one : CardLine). take place (lines_of play numbers) ++ one ∷ []) (sym line_there)
      ∙ sym (take_more (lines_of play numbers) place line within_lines)))

pub lines_count : (play : Recorded) (numbers : Numbers) → length (lines_of play numbers) ≡ length play.position.history
lines_count play numbers =
    length-map (enumerate_from 0 play.position.history) (line_of play numbers) ∙ length-enumerate_from 0 play.position.history
