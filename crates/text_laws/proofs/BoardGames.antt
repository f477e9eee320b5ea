-- The boards of a text are its games with a Deal tag.
use Rattle.std.proofs.Common.{◌≡◌, ℕ, Bool, true, false, cond, ◌&&◌, ◌||◌, eqb, List, [], ◌∷◌, ◌++◌, map, Option, None, Some, is_some, unwrap_or, codes, Ok, All, refl, sym, ◌∙◌, ap, subst, append_assoc, append-nil}
use Rattle.std.specs.List.{filter}
use Rattle.std.specs.Option.{option_or}
use Rattle.std.proofs.lemmas.Bool.{eqb-true}
use Rattle.std.proofs.lemmas.List.{map-append}
use Rattle.std.proofs.lemmas.List.Elements.{filter-append, All-nil, All-push}
use Rattle.std.proofs.lemmas.List.Splits.{slice_split_at, slice_split_none}
use Rattle.cards.specs.Deal.{Deal}
use Rattle.pbn_deals.specs.declared.boards.Board.{Board}
use Rattle.pbn_deals.specs.Games.{Tags, no_tags, first_board, later_board, only_deal, TakesTag, board_tag, deal_tag, other_tag, board_of, boards_of}
use Rattle.pbn_deals.specs.Letters.{is_letter}
use Rattle.pbn_deals.specs.LineBoards.{is_silent, AddsPieces, adds_nothing, adds_pair, adds_silent, HaveBoards, at_text_end, behind_gap, behind_escaped, behind_line}
use Rattle.pbn_deals.specs.Pieces.{Piece, Space, Comment, Pair, Data, NoPair, Gap, Escaped, OfGame, Line}
use Rattle.pbn_deals.specs.Tags.{is_same_name, is_board, is_deal}
use Rattle.board_conditions.specs.Games.{Game, is_gap_kind, games_of, game_pieces, first_named, has_deal, name_in, board_games}
use Rattle.board_conditions.proofs.Named.{named-append, pair_more, AddNothing}
use Rattle.board_conditions.proofs.GamesTaken.{pieces_more}

-- ---- the tags of a game
-- the tags say the name and whether there is a deal
pub record Holds (tags : Tags) (pieces : List Piece) : Type 0 where
  pub name : tags.name ≡ first_named (codes "BOARD") pieces
  pub deal : is_some tags.deal ≡ is_some (first_named (codes "DEAL") pieces)

or_none : {X : Type 0} (o : Option X) → option_or o None ≡ o
or_none None = refl
or_none (Some x) = refl

or_some : {X : Type 0} (o : Option X) (x : X) → is_some (option_or o (Some x)) ≡ true
or_some None x = refl
or_some (Some y) x = refl

first_true : (a b : Bool) → (a && b) ≡ true → a ≡ true
first_true true b e = refl
first_true false b e = absurd (cc)

-- no name is `Board` and `Deal`
one_name : (name : List ℕ) → is_board name ≡ true → is_deal name ≡ false
one_name [] e = absurd (cc)
one_name (byte ∷ bytes) e = go (eqb byte 66) (eqb byte 98) refl refl (first_true (is_letter 66 byte) (is_same_name (codes "OARD") bytes) e) where
  go : (a b : Bool) → eqb byte 66 ≡ a → eqb byte 98 ≡ b → (eqb byte 66 || eqb byte 98) ≡ true → is_deal (byte ∷ bytes) ≡ false
  go true b e f g = ap (λ n. is_deal (n ∷ bytes)) (eqb-true byte 66 e)
  go false true e f g = ap (λ n. is_deal (n ∷ bytes)) (eqb-true byte 98 f)
  go false false e f g = let x : false ≡ true = sym (ap (λ a. a || eqb byte 98) e ∙ f) ∙ g in absurd (cc)

module _ (before : List Piece) (name value bytes : List ℕ) where
  other_name : (capitals : List ℕ) → is_same_name capitals name ≡ false → first_named capitals before ≡ first_named capitals (before ++ Pair name value bytes ∷ [])
  other_name capitals e = sym (pair_more capitals name value bytes false before e ∙ or_none (first_named capitals before))

  takes : {line count : ℕ} {tags tags' : Tags} → TakesTag line count tags name value (Ok tags') → Holds tags before → Holds tags' (before ++ Pair name value bytes ∷ [])
  takes (board_tag is (first_board inherited none)) h = record {
    name = sym (pair_more (codes "BOARD") name value bytes true before is ∙ ap (λ o. option_or o (Some value)) (sym h.name ∙ none));
    deal = h.deal ∙ ap is_some (other_name (codes "DEAL") (one_name name is));
  }
  takes (board_tag is (later_board inherited some)) h = record {
    name = some ∙ sym (pair_more (codes "BOARD") name value bytes true before is ∙ ap (λ o. option_or o (Some value)) (sym h.name ∙ some));
    deal = h.deal ∙ ap is_some (other_name (codes "DEAL") (one_name name is));
  }
  takes (deal_tag is_other is (only_deal none says within)) h = record {
    name = h.name ∙ other_name (codes "BOARD") is_other;
    deal = sym (ap is_some (pair_more (codes "DEAL") name value bytes true before is) ∙ or_some (first_named (codes "DEAL") before) value);
  }
  takes (other_tag is_other is_another) h = record {
    name = h.name ∙ other_name (codes "BOARD") is_other;
    deal = h.deal ∙ ap is_some (other_name (codes "DEAL") is_another);
  }

silent_adds_nothing : (piece : Piece) → is_silent piece ≡ true → AddNothing (piece ∷ [])
silent_adds_nothing (Space byte) e capitals = refl
silent_adds_nothing (Comment bytes) e capitals = refl
silent_adds_nothing (Pair name value bytes) e capitals = absurd (cc)
silent_adds_nothing (Data bytes) e capitals = refl
silent_adds_nothing (NoPair bytes) e capitals = absurd (cc)

still_holds : (tags : Tags) (before more : List Piece) → AddNothing more → Holds tags before → Holds tags (before ++ more)
still_holds tags before more none h =
    let same : (capitals : List ℕ) → first_named capitals before ≡ first_named capitals (before ++ more) =
    λ capitals. sym (named-append capitals before more ∙ (ap (option_or (first_named capitals before)) (none capitals) ∙ or_none (first_named capitals before))) in
    record { name = h.name ∙ same (codes "BOARD"); deal = h.deal ∙ ap is_some (same (codes "DEAL")) }

adds : {count : ℕ} {tags tags' : Tags} (before : List Piece) {pieces : List Piece} → AddsPieces count tags pieces tags' → Holds tags before → Holds tags' (before ++ pieces)
adds {tags' = tags'} before adds_nothing h = subst (Holds tags') (sym (append-nil before)) h
adds {tags' = tags'} before (adds_pair {name = name} {value} {bytes} {pieces} adds_tag more) h =
    subst (Holds tags') (append_assoc before (Pair name value bytes ∷ []) pieces)
    (adds (before ++ Pair name value bytes ∷ []) more (takes before name value bytes (adds_tag 0) h))
adds {tags = tags} {tags'} before (adds_silent {piece = piece} {pieces} silent more) h =
    subst (Holds tags') (append_assoc before (piece ∷ []) pieces)
    (adds (before ++ piece ∷ []) more (still_holds tags before (piece ∷ []) (silent_adds_nothing piece silent) h))

-- ---- the boards of lines
abbrev names : List Board → List (List ℕ)
names boards = map (λ (board : Board). board.name) boards

-- the board of a game
one_board : (tags : Tags) (game : Game) → Holds tags (game_pieces game) → names (boards_of tags) ≡ map name_in (filter has_deal (game ∷ []))
one_board tags game h = go tags.deal h.deal where
  named : map name_in (game ∷ []) ≡ unwrap_or tags.name [] ∷ []
  named = ap (λ o. unwrap_or o [] ∷ []) (sym h.name)

  go : (deal : Option (Option Deal)) → is_some deal ≡ has_deal game → names (board_of tags.name deal) ≡ map name_in (filter has_deal (game ∷ []))
  go None e = ap (λ b. map name_in (cond b (game ∷ []) [])) e
  go (Some deal) e = sym named ∙ ap (λ b. map name_in (cond b (game ∷ []) [])) e

pub board_names : {count : ℕ} {tags : Tags} (own : Game) {lines : List Line} {boards : List Board} → HaveBoards count tags lines boards → Holds tags (game_pieces own) → All (λ line. is_gap_kind line.kind ≡ false) own → names boards ≡ map name_in (board_games (own ++ lines))
board_names {tags = tags} own at_text_end h none =
    one_board tags own h
    ∙ ap (λ g. map name_in (filter has_deal g))
    (sym (ap games_of (append-nil own) ∙ slice_split_none (λ (line : Line). is_gap_kind line.kind) own none))
board_names {tags = tags} own (behind_gap {bytes = bytes} {end} {lines} {boards} more) h none =
    let gap : Line = record { kind = Gap bytes; end = end } in
    map-append (λ (board : Board). board.name) (boards_of tags) boards
    ∙ (ap (λ l. l ++ names boards) (one_board tags own h)
    ∙ (ap (λ l. map name_in (filter has_deal (own ∷ [])) ++ l) (board_names [] more (record { name = refl; deal = refl }) (All-nil (λ (line : Line). is_gap_kind line.kind ≡ false)))
    ∙ (sym (map-append name_in (filter has_deal (own ∷ [])) (board_games lines))
    ∙ (ap (map name_in) (sym (filter-append has_deal (own ∷ []) (games_of lines)))
    ∙ ap (λ g. map name_in (filter has_deal g)) (sym (slice_split_at (λ (line : Line). is_gap_kind line.kind) own gap lines none refl))))))
board_names {tags = tags} own (behind_escaped {bytes = bytes} {end} {lines} more) h none =
    let line : Line = record { kind = Escaped bytes; end = end } in
    board_names (own ++ line ∷ []) more
    (subst (Holds tags) (sym (append-nil (game_pieces own)) ∙ pieces_more own line) h)
    (All-push (λ (line : Line). is_gap_kind line.kind ≡ false) own line none refl)
    ∙ ap (λ l. map name_in (board_games l)) (append_assoc own (line ∷ []) lines)
board_names {tags = tags} own (behind_line {tags' = tags'} {pieces} {end} {lines} taken more) h none =
    let line : Line = record { kind = OfGame pieces; end = end } in
    board_names (own ++ line ∷ []) more
    (subst (Holds tags') (pieces_more own line) (adds (game_pieces own) taken h))
    (All-push (λ (line : Line). is_gap_kind line.kind ≡ false) own line none refl)
    ∙ ap (λ l. map name_in (board_games l)) (append_assoc own (line ∷ []) lines)

pub names_are : (lines : List Line) (boards : List Board) → HaveBoards 0 no_tags lines boards → names boards ≡ map name_in (board_games lines)
names_are lines boards h = board_names [] h (record { name = refl; deal = refl }) (All-nil (λ (line : Line). is_gap_kind line.kind ≡ false))
