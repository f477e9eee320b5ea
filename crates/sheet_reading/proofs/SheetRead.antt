-- What is read of a sheet.
use Rattle.std.proofs.Common.{◌≡◌, ℕ, ◌+◌, Bool, true, false, cond, List, [], ◌∷◌, ◌++◌, map, Some, refl, ◌∙◌, ap}
use Rattle.std.specs.Prelude.{codes}
use Rattle.std.proofs.lemmas.List.{append-nil}
use Rattle.pbn_deals.specs.declared.boards.Board.{Board}
use Rattle.board_conditions.specs.Titles.{TitleValues}
use Rattle.tables.specs.TablesText.{Printed}
use Rattle.text_laws.specs.ReadBack.{AreTricks}
use Rattle.text_laws.specs.PageReading.{all_items, put_item}
use Rattle.html.specs.Templates.{filled}
use Rattle.sheets.specs.declared.templates.TheConstants.{GROUP, END}
use Rattle.sheets.specs.Boards.{board_text}
use Rattle.sheets.specs.Headings.{title_shown, title_value, begins_group, new_titles, group_text}
use Rattle.sheets.specs.Pages.{titles_at, boards_text, head_text, without_section, sheet_text}
use Rattle.sheets.specs.Markup.{Shown, page_of}
use Rattle.sheet_reading.specs.Elements.{Piece, elements}
use Rattle.sheet_reading.specs.SheetReading.{only_text, Block, block_in, policies_in, Sheet, notes_in, sheet_with, sheet_of}
use Rattle.sheet_reading.specs.Laws.{title_said, conditions_at, SayBoards, SheetsAreRead}
use Rattle.sheet_reading.proofs.Chunks.{Chunk, chunk-append, chunk-nothing, chunk-pieces}
use Rattle.sheet_reading.proofs.SaidTexts.{value-said}
use Rattle.sheet_reading.proofs.ElementLemmas.{lacks, lacks-append, Yields, yields-append, yields-nothing}
use Rattle.sheet_reading.proofs.TemplatePieces.{piece, group_pieces, value_read, group-chunk, page_end, page_end-chunk}
use Rattle.sheet_reading.proofs.HeadRead.{title_words, head_in, head-chunk, policy-read, notes-read}
use Rattle.sheet_reading.proofs.BoardRead.{IsSmall, article_content, board_in, board_in-chunk, board_in-article, board_in-lacks, board-read}

-- ---- the heading of a group
abbrev heading_in : (List ℕ → List ℕ) → List Piece
heading_in values = group_pieces (value_read values (codes "event")) (value_read values (codes "section"))

abbrev group_in : TitleValues → TitleValues → List Piece
group_in before titles = cond (begins_group before titles) (heading_in (title_value (new_titles before titles))) []

group_in-chunk : (before titles : TitleValues) → Chunk (group_text before titles) (group_in before titles)
group_in-chunk before titles = go (begins_group before titles) (title_value (new_titles before titles))
  where
    go : (begins : Bool) (values : List ℕ → List ℕ) →
        Chunk (cond begins (filled values GROUP.now) []) (cond begins (heading_in values) [])
    go true values = group-chunk values
    go false values = chunk-nothing

-- it has no article and no title
record IsHeading (pieces : List Piece) : Type 0 where
  no_article : lacks (codes "article") pieces ≡ true
  no_title : lacks (codes "title") pieces ≡ true

group_in-is : (before titles : TitleValues) → IsHeading (group_in before titles)
group_in-is before titles = go (begins_group before titles) (title_value (new_titles before titles))
  where
    go : (begins : Bool) (values : List ℕ → List ℕ) →
        IsHeading (cond begins (heading_in values) [])
    go true values = record { no_article = refl; no_title = refl }
    go false values = record { no_article = refl; no_title = refl }

-- ---- the boards
small-at : (printed : ℕ → Printed) (place : ℕ) → AreTricks printed → IsSmall (printed place)
small-at printed place small = record { at_most = small.at_most place; par = small.pars place }

-- these pieces are those of the boards, and their articles are read as blocks that say the boards
record ReadsBoards (shown : Shown) (before : TitleValues) (place : ℕ) (boards : List Board) : Type 0 where
  pieces : List Piece
  chunk : Chunk (boards_text shown.titles shown.conditions shown.printed before place boards) pieces
  contents : List (List Piece)
  articles : Yields (codes "article") pieces contents
  no_title : lacks (codes "title") pieces ≡ true
  blocks : List Block
  read : all_items (map block_in contents) ≡ Some blocks
  says : SayBoards shown place boards blocks

reads_boards : (shown : Shown) (before : TitleValues) (place : ℕ) (boards : List Board) → AreTricks shown.printed →
    ReadsBoards shown before place boards
reads_boards shown before place [] small = record {
  pieces = [];
  chunk = chunk-nothing;
  contents = [];
  articles = record { closed = refl; are = refl };
  no_title = refl;
  blocks = [];
  read = refl;
  says = tt;
}
reads_boards shown before place (board ∷ boards) small =
    let current = titles_at shown.titles before place in
    let its = conditions_at shown place in
    let printed = shown.printed place in
    let one = small-at shown.printed place small in
    let heading = group_in before current in
    let is = group_in-is before current in
    let own = board_in board its printed in
    let content = article_content board its printed in
    let more = reads_boards shown current (place + 1) boards small in
    let block = board-read board its printed one in
    record {
      pieces = (heading ++ own) ++ more.pieces;
      chunk =
          chunk-append (group_text before current ++ board_text board its printed)
          (boards_text shown.titles shown.conditions shown.printed current (place + 1) boards) (heading ++ own) more.pieces
          (chunk-append (group_text before current) (board_text board its printed) heading own
          (group_in-chunk before current) (board_in-chunk board its printed one))
          more.chunk;
      contents = content ∷ more.contents;
      articles =
          yields-append (codes "article") (heading ++ own) more.pieces (content ∷ []) more.contents
          (yields-append (codes "article") heading own [] (content ∷ [])
          (yields-nothing (codes "article") heading is.no_article) (board_in-article board its printed))
          more.articles;
      no_title =
          lacks-append (codes "title") (heading ++ own) more.pieces
          (lacks-append (codes "title") heading own is.no_title (board_in-lacks board its printed (codes "title") refl refl refl))
          more.no_title;
      blocks = block.block ∷ more.blocks;
      read = ap (λ b. put_item b (all_items (map block_in more.contents))) block.read ∙ ap (put_item (Some block.block)) more.read;
      says = (block.says, more.says);
    }

-- ---- the page
page-chunk : (shown : Shown) (pieces : List Piece) →
    Chunk (boards_text shown.titles shown.conditions shown.printed (without_section shown.head) 0 shown.boards) pieces →
    Chunk (page_of shown) (head_in shown.head ++ (pieces ++ page_end))
unfolding sheet_text
page-chunk shown pieces h =
    let text = boards_text shown.titles shown.conditions shown.printed (without_section shown.head) 0 shown.boards in
    chunk-append (head_text shown.head) (text ++ END.now) (head_in shown.head) (pieces ++ page_end) (head-chunk shown.head)
    (chunk-append text END.now pieces page_end h page_end-chunk)

-- the title is that of the head, and the articles are those of the boards
articles-of : (head : TitleValues) (pieces : List Piece) (contents : List (List Piece)) →
    Yields (codes "article") pieces contents →
    elements (codes "article") (head_in head ++ (pieces ++ page_end)) ≡ contents
articles-of head pieces contents h =
    (yields-append (codes "article") pieces page_end contents [] h (record { closed = refl; are = refl })).are ∙ append-nil contents

title-of : (head : TitleValues) (pieces : List Piece) → lacks (codes "title") pieces ≡ true →
    only_text (elements (codes "title") (head_in head ++ (pieces ++ page_end))) ≡ Some (title_said head)
title-of head pieces h =
    let event = value_read (title_value head) (codes "event") in
    ap (λ l. only_text ((piece (codes "title") (title_words ++ event) ∷ []) ∷ l))
    (yields-nothing (codes "title") (pieces ++ page_end) (lacks-append (codes "title") pieces page_end h refl)).are
    ∙ (ap (λ t. Some (title_words ++ t)) (append-nil event)
    ∙ ap (λ t. Some (title_words ++ t)) (value-said (title_shown head.event)))

pub sheets_are_read : SheetsAreRead
sheets_are_read shown small =
    let head = shown.head in
    let it = reads_boards shown (without_section head) 0 shown.boards small in
    let others = it.pieces ++ page_end in
    let pieces = head_in head ++ others in
    let sheet : Sheet =
    record { title = title_said head; notes = notes_in pieces; policies = policies_in pieces; blocks = it.blocks } in
    let read : sheet_of pieces ≡ Some sheet =
    ap (λ t. sheet_with pieces t (all_items (map block_in (elements (codes "article") pieces)))) (title-of head it.pieces it.no_title)
    ∙ (ap (λ l. sheet_with pieces (Some (title_said head)) (all_items (map block_in l)))
    (articles-of head it.pieces it.contents it.articles)
    ∙ ap (sheet_with pieces (Some (title_said head))) it.read) in (
      sheet,
      ap sheet_of (chunk-pieces (page_of shown) pieces (page-chunk shown it.pieces it.chunk)) ∙ read,
      record { title = refl; notes = notes-read head others; policy = policy-read head others },
      it.says,
    )
