-- The markup of a sheet depends on its shape alone, board by board.
use Rattle.std.proofs.Common.{◌≡◌, ℕ, ◌+◌, List, [], ◌∷◌, sym, ap}
use Rattle.std.specs.Prelude.{slice_index_or}
use Rattle.pbn_deals.specs.declared.boards.Board.{Board}
use Rattle.board_conditions.specs.declared.conditions.Conditions.{Conditions}
use Rattle.board_conditions.specs.Titles.{TitleValues}
use Rattle.tables.specs.TablesText.{Printed}
use Rattle.sheets.specs.declared.templates.TheConstants as template
use Rattle.sheets.specs.Headings.{title_value}
use Rattle.sheets.specs.Pages.{titles_at, unknown, boards_text, head_text, without_section, sheet_text}
use Rattle.sheets.specs.Markup.{Shown, page_of}
use Rattle.sheet_reading.specs.Markup.{BoardShape, shapes_from, shapes_of}
use Rattle.sheet_reading.proofs.PlainTemplates as plain
use Rattle.sheet_reading.proofs.SameMarkup.{SameMarkup, then, same-text, same-nothing, same-template}
use Rattle.sheet_reading.proofs.BoardMarkup.{same-group, same-board}

same-first : (shape other : BoardShape) (shapes others : List BoardShape) → shape ∷ shapes ≡ other ∷ others → shape ≡ other
same-first shape other shapes others e = cc

same-rest : (shape other : BoardShape) (shapes others : List BoardShape) → shape ∷ shapes ≡ other ∷ others → shapes ≡ others
same-rest shape other shapes others e = cc

none-more : (shape : BoardShape) (shapes : List BoardShape) → [] ≡ shape ∷ shapes → ⊥
none-more shape shapes e = cc

module _ (titles titles' : List TitleValues) (conditions conditions' : List Conditions) (printed printed' : ℕ → Printed) where
  pub same-boards : (boards boards' : List Board) (before before' : TitleValues) (place place' : ℕ) →
      shapes_from titles conditions printed before place boards ≡ shapes_from titles' conditions' printed' before' place' boards' →
      SameMarkup (boards_text titles conditions printed before place boards)
      (boards_text titles' conditions' printed' before' place' boards')
  same-boards [] [] before before' place place' e = same-nothing
  same-boards [] (board' ∷ boards') before before' place place' e = absurd (none-more _ _ e)
  same-boards (board ∷ boards) [] before before' place place' e = absurd (none-more _ _ (sym e))
  same-boards (board ∷ boards) (board' ∷ boards') before before' place place' e =
      let its = titles_at titles before place in
      let its' = titles_at titles' before' place' in
      let first = same-first _ _ _ _ e in
      then
      (then (same-group before its before' its' (ap (λ (s : BoardShape). s.has_heading) first))
      (same-board board board' (slice_index_or conditions place unknown) (slice_index_or conditions' place' unknown)
      (printed place) (printed' place') (ap (λ (s : BoardShape). s.deal) first)))
      (same-boards boards boards' its its' (place + 1) (place' + 1) (same-rest _ _ _ _ e))

same-head : (head head' : TitleValues) → SameMarkup (head_text head) (head_text head')
unfolding head_text
same-head head head' =
    then (same-template template.HEAD.now plain.head-plain (title_value head) (title_value head'))
    (then (same-text template.STYLE.now plain.style-ends)
    (same-template template.BODY.now plain.body-plain (title_value head) (title_value head')))

pub same-sheet : (one other : Shown) → shapes_of one ≡ shapes_of other → SameMarkup (page_of one) (page_of other)
unfolding sheet_text
same-sheet one other e =
    then (same-head one.head other.head)
    (then
    (same-boards one.titles other.titles one.conditions other.conditions one.printed other.printed one.boards other.boards
    (without_section one.head) (without_section other.head) 0 0 e)
    (same-text template.END.now plain.end-ends))
