-- The boards of a sheet, one after the other.
use Rattle.std.proofs.Common.{◌≡◌, ℕ, suc, ◌+◌, ◌<◌, List, [], ◌∷◌, ◌++◌, length, get_or, drop, sym, ◌∙◌, ap, arith, append_assoc}
use Rattle.std.specs.Prelude.{slice_index_or}
use Rattle.std.proofs.Math.Seq.{drop-cons}
use Rattle.pbn_deals.specs.declared.boards.Board.{Board}
use Rattle.board_conditions.specs.declared.conditions.Conditions.{Conditions}
use Rattle.board_conditions.specs.Titles.{TitleValues}
use Rattle.tables.specs.TablesText.{Printed}
use Rattle.sheets.specs.Boards.{board_text}
use Rattle.sheets.specs.Headings.{group_text}
use Rattle.sheets.specs.Pages.{titles_at, unknown, boards_text}

module _ (titles : List TitleValues) (conditions : List Conditions) (printed : ℕ → Printed) (before : TitleValues)
    (place : ℕ) (all : List Board) (d : Board) (h : place < length all) where
  abbrev pub heading : List ℕ
  heading = group_text before (titles_at titles before place)

  abbrev pub own : List ℕ
  own = board_text (get_or all place d) (slice_index_or conditions place unknown) (printed place)

  abbrev pub rest : List ℕ
  rest = boards_text titles conditions printed (titles_at titles before place) (place + 1) (drop (place + 1) all)

  next : place + 1 ≡ suc place
  next = omega arith

  -- a board and those behind it
  pub board-first : boards_text titles conditions printed before place (drop place all) ≡ heading ++ (own ++ rest)
  board-first =
      ap (boards_text titles conditions printed before place) (drop-cons all place d h)
      ∙ (ap (λ n. (heading ++ own) ++ boards_text titles conditions printed (titles_at titles before place) (place + 1) (drop n all)) (sym next)
      ∙ append_assoc heading own rest)

-- the same, in the words of the program
pub board-behind : (titles : List TitleValues) (conditions : List Conditions) (printed : ℕ → Printed) (before : TitleValues)
    (place : ℕ) (all : List Board) (gone whole : List ℕ) (current : TitleValues) (board : Board) (its : Conditions) →
    place < length all → current ≡ titles_at titles before place → board ≡ get_or all place board →
    its ≡ slice_index_or conditions place unknown →
    gone ++ boards_text titles conditions printed before place (drop place all) ≡ whole →
    gone ++ (group_text before current ++ (board_text board its (printed place)
    ++ boards_text titles conditions printed current (place + 1) (drop (place + 1) all))) ≡ whole
board-behind titles conditions printed before place all gone whole current board its h current_is board_is its_is are =
    ap (λ t. gone ++ (group_text before t ++ (board_text board its (printed place)
    ++ boards_text titles conditions printed t (place + 1) (drop (place + 1) all)))) current_is
    ∙ (ap (λ i. gone ++ (heading titles conditions printed before place all board h ++ (board_text board i (printed place) ++ rest titles conditions printed before place all board h))) its_is
    ∙ (ap (λ b. gone ++ (heading titles conditions printed before place all board h ++ (board_text b (slice_index_or conditions place unknown) (printed place) ++ rest titles conditions printed before place all board h))) board_is
    ∙ (ap (λ t. gone ++ t) (sym (board-first titles conditions printed before place all board h)) ∙ are)))

-- what is left begins with the first board's heading
pub record Begins (gone heading whole : List ℕ) : Type 0 where
  pub more : List ℕ
  pub is : gone ++ (heading ++ more) ≡ whole

pub group-first : (titles : List TitleValues) (conditions : List Conditions) (printed : ℕ → Printed) (before : TitleValues)
    (place : ℕ) (left : List Board) (gone whole : List ℕ) (current : TitleValues) → 0 < length left →
    current ≡ titles_at titles before place →
    gone ++ boards_text titles conditions printed before place left ≡ whole → Begins gone (group_text before current) whole
group-first titles conditions printed before place [] gone whole current h is are = absurd (omega (arith, h))
group-first titles conditions printed before place (board ∷ boards) gone whole current h is are =
    let head = group_text before (titles_at titles before place) in
    let its = board_text board (slice_index_or conditions place unknown) (printed place) in
    let others = boards_text titles conditions printed (titles_at titles before place) (place + 1) boards in
    record {
      more = its ++ others;
      is =
          ap (λ t. gone ++ (group_text before t ++ (its ++ others))) is
          ∙ (ap (λ t. gone ++ t) (sym (append_assoc head its others)) ∙ are);
    }
