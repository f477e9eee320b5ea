-- What is read of a board.
use Rattle.std.proofs.Common.{◌≡◌, ℕ, ◌≤◌, true, false, List, [], ◌∷◌, ◌++◌, map, Option, None, Some, refl, ◌∙◌, ap, subst, append_assoc}
use Rattle.std.specs.Prelude.{codes, filter, IfSome}
use Rattle.std.specs.List.{flat_map}
use Rattle.std.proofs.lemmas.List.{append-nil}
use Rattle.cards.specs.declared.seats.Seat.{Seat}
use Rattle.cards.specs.declared.suits.Trump.{Trump}
use Rattle.cards.specs.Deal.{Deal}
use Rattle.pbn_deals.specs.declared.boards.Board.{Board}
use Rattle.board_conditions.specs.declared.conditions.Conditions.{Conditions}
use Rattle.tables.specs.ParText.{IsSmallPar}
use Rattle.tables.specs.TablesText.{Printed}
use Rattle.text_laws.specs.PageReading.{Section}
use Rattle.sheet_reading.specs.Pages.{resolved}
use Rattle.html.specs.Values.{value_text}
use Rattle.sheets.specs.declared.templates.TheConstants.{BOARD, BOARD_END}
use Rattle.sheets.specs.Facts.{with_value, facts_text}
use Rattle.sheets.specs.Boards.{hands_text, foot_text, dealt_text, dealt_or_nothing, board_text}
use Rattle.sheet_reading.specs.Elements.{Piece, before_tag, elements}
use Rattle.sheet_reading.specs.SheetReading.{only_text, texts_of, facts_in, corners_in, is_of_class, compass_in, hands_in, section_in, whole_section, only_section, Block, block_with, block_in}
use Rattle.sheet_reading.specs.Laws.{said, facts_said, compass_said, hands_said, SaysDeal, SaysBoard}
use Rattle.sheet_reading.proofs.Chunks.{Chunk, chunk-append, chunk-nothing, chunk-as}
use Rattle.sheet_reading.proofs.SaidTexts.{value-said}
use Rattle.sheet_reading.proofs.ElementLemmas.{lacks, lacks-append, before-lacks, Yields, yields-append, yields-nothing}
use Rattle.sheet_reading.proofs.Names.{among, only-lacks, whole-element}
use Rattle.sheet_reading.proofs.TemplatePieces.{piece, line_feed, board_pieces, board-chunk, board_end, board_end-chunk, facts_start, facts_end, hands_end, footer_start, footer_end}
use Rattle.sheet_reading.proofs.BoardChunks as chunks
use Rattle.sheet_reading.proofs.FootChunks as foot
use Rattle.sheet_reading.proofs.BoardNames.{facts_names, facts-only, hand_names, hands-only, foot_names, foot-only, footer_names, foot_in-only, board_names, dealt_in, dealt-lacks}
use Rattle.sheet_reading.proofs.FactsRead.{words-texts, words-lack, compass_content, divisions_in, divisions-yield, compass-read, all-hands}
use Rattle.sheet_reading.proofs.FootRead.{foot-read}

-- results of at most 13 tricks, and a small par
pub record IsSmall (printed : Printed) : Type 0 where
  pub at_most :
      (declarer : Seat) (denomination : Trump) → IfSome (printed.results declarer denomination) (λ tricks. tricks ≤ 13)
  pub par : IfSome printed.par IsSmallPar

-- the tags before what is known of the bidding
abbrev begin : List ℕ → List Piece
begin name = board_pieces name

module _ (deal : Deal) (conditions : Conditions) (printed : Printed) where
  abbrev dealt : List Piece
  dealt = dealt_in deal conditions printed

  dealt-chunk : IsSmall printed → Chunk (dealt_text deal conditions printed) dealt
  unfolding dealt_text
  dealt-chunk small =
      chunk-append (facts_text conditions) (hands_text deal ++ foot_text printed) (chunks.facts_in conditions)
      (chunks.hands_in deal ++ foot.foot_in printed) (chunks.facts_in-chunk conditions)
      (chunk-append (hands_text deal) (foot_text printed) (chunks.hands_in deal) (foot.foot_in printed)
      (chunks.hands_in-chunk deal) (foot.foot_in-chunk printed small.at_most small.par))

  -- ---- the name
  name-read : (name : List ℕ) → only_text (elements (codes "h2") (begin name ++ dealt)) ≡ Some name
  name-read name =
      ap (λ l. only_text ((piece (codes "h2") name ∷ []) ∷ l))
      (yields-nothing (codes "h2") dealt (dealt-lacks deal conditions printed (codes "h2") refl)).are
      ∙ ap (λ t. Some t) (append-nil name)

  -- ---- the facts
  facts-read : (name : List ℕ) → facts_in (begin name ++ dealt) ≡ facts_said conditions
  facts-read name =
      let words = chunks.words_in conditions in
      let after = facts_end ∷ chunks.compass_in conditions in
      let rest = chunks.hands_in deal ++ foot.foot_in printed in
      let cut : before_tag (codes "/div") ((words ++ after) ++ rest) ≡ words =
      ap (before_tag (codes "/div")) (append_assoc words after rest)
      ∙ (before-lacks (codes "/div") words (after ++ rest) (words-lack conditions) ∙ append-nil words) in
      ap (λ l. texts_of (codes "p") (facts_start ∷ l)) cut ∙ words-texts conditions

  -- ---- the compass
  divisions : Yields (codes "div") dealt (divisions_in conditions)
  divisions =
      let div = codes "div" in
      let hands = chunks.hands_in deal in
      let below = foot.foot_in printed in
      let own : Yields div (hands ++ below) [] =
      yields-append div hands below [] [] (yields-nothing div hands (only-lacks hand_names div hands refl (hands-only deal)))
      (yields-nothing div below (only-lacks footer_names div below refl (foot_in-only printed))) in
      yields-append div (chunks.facts_in conditions) (hands ++ below) (divisions_in conditions) [] (divisions-yield conditions) own

  compass-is : (name : List ℕ) → compass_in (begin name ++ dealt) ≡ compass_said conditions
  compass-is name =
      ap (λ l. flat_map corners_in (filter (is_of_class (codes "compass")) l)) divisions.are
      ∙ (append-nil (corners_in (compass_content conditions)) ∙ compass-read conditions)

  -- ---- the hands
  hands-read : (name : List ℕ) → hands_in (begin name ++ dealt) ≡ hands_said deal
  hands-read name =
      let (found, hands, are) = all-hands deal in
      let ul = codes "ul" in
      let facts = chunks.facts_in conditions in
      let below = foot.foot_in printed in
      let own : Yields ul (chunks.hands_in deal ++ below) (found ++ []) =
      yields-append ul (chunks.hands_in deal) below found [] hands
      (yields-nothing ul below (only-lacks footer_names ul below refl (foot_in-only printed))) in
      let whole : Yields ul dealt (found ++ []) =
      yields-append ul facts (chunks.hands_in deal ++ below) [] (found ++ [])
      (yields-nothing ul facts (only-lacks facts_names ul facts refl (facts-only conditions))) own in
      ap (map (texts_of (codes "li"))) (whole.are ∙ append-nil found) ∙ are

  -- ---- the table and the par
  footers : Yields (codes "footer") (foot.foot_in printed) ((footer_start ∷ foot.foot_content printed) ∷ [])
  footers =
      let results = foot.results_in printed.results in
      let par = foot.par_in printed.par in
      let content = foot.foot_content printed in
      let one : Yields (codes "footer") (footer_start ∷ (content ++ footer_end ∷ [])) ((footer_start ∷ content) ∷ []) =
      whole-element (codes "footer") footer_start footer_end content refl refl refl
      (only-lacks foot_names (codes "footer") content refl (foot-only printed))
      (only-lacks foot_names (codes "/footer") content refl (foot-only printed)) in
      yields-append (codes "footer") hands_end (footer_start ∷ (results ++ (par ++ footer_end ∷ []))) []
      ((footer_start ∷ content) ∷ []) (record { closed = refl; are = refl })
      (subst (λ (l : List Piece). Yields (codes "footer") (footer_start ∷ l) ((footer_start ∷ content) ∷ []))
      (append_assoc results par (footer_end ∷ [])) one)

  section-read : (name : List ℕ) (section : Section) → section_in (footer_start ∷ foot.foot_content printed) ≡ Some section →
      only_section (elements (codes "footer") (begin name ++ dealt)) ≡ Some (Some section)
  section-read name section read =
      let footer = codes "footer" in
      let facts = chunks.facts_in conditions in
      let hands = chunks.hands_in deal in
      let found = (footer_start ∷ foot.foot_content printed) ∷ [] in
      let own : Yields footer (hands ++ foot.foot_in printed) found =
      yields-append footer hands (foot.foot_in printed) [] found
      (yields-nothing footer hands (only-lacks hand_names footer hands refl (hands-only deal))) footers in
      let whole : Yields footer dealt found =
      yields-append footer facts (hands ++ foot.foot_in printed) [] found
      (yields-nothing footer facts (only-lacks facts_names footer facts refl (facts-only conditions))) own in
      ap only_section whole.are ∙ ap whole_section read

  -- ---- all of it
  pub dealt-read : (name : List ℕ) (section : Section) →
      section_in (footer_start ∷ foot.foot_content printed) ≡ Some section →
      block_in (begin name ++ dealt)
      ≡ Some (record {
        name = name;
        facts = facts_said conditions;
        compass = compass_said conditions;
        hands = hands_said deal;
        section = Some section;
      })
  dealt-read name section read =
      let content = begin name ++ dealt in
      ap (λ n. block_with content n (only_section (elements (codes "footer") content))) (name-read name)
      ∙ (ap (block_with content (Some name)) (section-read name section read)
      ∙ (ap (λ f. Some (record { name = name; facts = f; compass = compass_in content; hands = hands_in content; section = Some section }))
      (facts-read name)
      ∙ (ap (λ c. Some (record { name = name; facts = facts_said conditions; compass = c; hands = hands_in content; section = Some section }))
      (compass-is name)
      ∙ ap (λ h. Some (record { name = name; facts = facts_said conditions; compass = compass_said conditions; hands = h; section = Some section }))
      (hands-read name))))

-- ---- a board, with or without a deal
abbrev pub dealt_or_none : Option Deal → Conditions → Printed → List Piece
dealt_or_none None conditions printed = []
dealt_or_none (Some deal) conditions printed = dealt_in deal conditions printed

or_none-chunk : (deal : Option Deal) (conditions : Conditions) (printed : Printed) → IsSmall printed →
    Chunk (dealt_or_nothing deal conditions printed) (dealt_or_none deal conditions printed)
or_none-chunk None conditions printed small = chunk-nothing
or_none-chunk (Some deal) conditions printed small = dealt-chunk deal conditions printed small

or_none-lacks : (deal : Option Deal) (conditions : Conditions) (printed : Printed) (name : List ℕ) →
    among board_names name ≡ false → lacks name (dealt_or_none deal conditions printed) ≡ true
or_none-lacks None conditions printed name apart = refl
or_none-lacks (Some deal) conditions printed name apart = dealt-lacks deal conditions printed name apart

-- what is between the tags of a board's article
abbrev pub article_content : Board → Conditions → Printed → List Piece
article_content board conditions printed = begin (said board.name) ++ dealt_or_none board.deal conditions printed

abbrev pub board_in : Board → Conditions → Printed → List Piece
board_in board conditions printed =
    begin (said board.name) ++ (dealt_or_none board.deal conditions printed ++ board_end ∷ [])

pub board_in-chunk : (board : Board) (conditions : Conditions) (printed : Printed) → IsSmall printed →
    Chunk (board_text board conditions printed) (board_in board conditions printed)
unfolding board_text
board_in-chunk board conditions printed small =
    let own = dealt_or_none board.deal conditions printed in
    chunk-append (with_value BOARD.now board.name) (dealt_or_nothing board.deal conditions printed ++ BOARD_END.now)
    (begin (said board.name)) (own ++ board_end ∷ [])
    (chunk-as (with_value BOARD.now board.name) (board_pieces (resolved (value_text board.name ++ [])))
    (begin (said board.name)) (ap board_pieces (value-said board.name)) (board-chunk board.name))
    (chunk-append (dealt_or_nothing board.deal conditions printed) BOARD_END.now own (board_end ∷ [])
    (or_none-chunk board.deal conditions printed small) board_end-chunk)

pub board_in-article : (board : Board) (conditions : Conditions) (printed : Printed) →
    Yields (codes "article") (board_in board conditions printed) (article_content board conditions printed ∷ [])
board_in-article board conditions printed =
    let own = dealt_or_none board.deal conditions printed in
    let lacks_own = or_none-lacks board.deal conditions printed in
    let heading = piece (codes "h2") (said board.name) ∷ piece (codes "/h2") [] ∷ [] in
    whole-element (codes "article") (piece (codes "article") line_feed) board_end (heading ++ own) refl refl refl
    (lacks_own (codes "article") refl) (lacks_own (codes "/article") refl)

pub board_in-lacks : (board : Board) (conditions : Conditions) (printed : Printed) (name : List ℕ) →
    among board_names name ≡ false → lacks name (begin (said board.name)) ≡ true → lacks name (board_end ∷ []) ≡ true →
    lacks name (board_in board conditions printed) ≡ true
board_in-lacks board conditions printed name apart first last =
    let own = dealt_or_none board.deal conditions printed in
    lacks-append name (begin (said board.name)) (own ++ board_end ∷ []) first
    (lacks-append name own (board_end ∷ []) (or_none-lacks board.deal conditions printed name apart) last)

-- a block that says the board
pub record ReadsBoard (board : Board) (conditions : Conditions) (printed : Printed) (content : List Piece) : Type 0 where
  pub block : Block
  pub read : block_in content ≡ Some block
  pub says : SaysBoard board conditions printed block

says-deal : (name : List ℕ) (deal : Option Deal) (conditions : Conditions) (printed : Printed) → IsSmall printed →
    (block : Block) × (block_in (begin name ++ dealt_or_none deal conditions printed) ≡ Some block) × (block.name ≡ name)
    × SaysDeal deal conditions printed block
says-deal name None conditions printed small = (
  record { name = name; facts = []; compass = []; hands = []; section = None },
  ap (λ n. Some (record { name = n; facts = []; compass = []; hands = []; section = None })) (append-nil name),
  refl,
  record { facts = refl; compass = refl; hands = refl; numbers = refl },
)
says-deal name (Some deal) conditions printed small =
    let it = foot-read printed small.at_most in (
      record {
        name = name;
        facts = facts_said conditions;
        compass = compass_said conditions;
        hands = hands_said deal;
        section = Some it.section;
      },
      dealt-read deal conditions printed name it.section it.read,
      refl,
      record { facts = refl; compass = refl; hands = refl; numbers = it.says },
    )

pub board-read : (board : Board) (conditions : Conditions) (printed : Printed) → IsSmall printed →
    ReadsBoard board conditions printed (article_content board conditions printed)
board-read board conditions printed small =
    let (block, read, name, deal) = says-deal (said board.name) board.deal conditions printed small in
    record { block = block; read = read; says = record { name = name; deal = deal } }
