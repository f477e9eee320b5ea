-- A game with some pieces more.
use Rattle.std.proofs.Common.{◌≡◌, ℕ, Bool, true, false, cond, ◌||◌, List, [], ◌∷◌, ◌++◌, map, flat_map, Option, None, Some, Result, Ok, Err, OnOk, codes, refl, sym, ◌∙◌, ap, subst, append_assoc, append-nil}
use Rattle.std.specs.List.{list_all}
use Rattle.std.specs.Option.{option_or}
use Rattle.pbn_deals.specs.declared.pieces.Piece.{Piece as CodePiece}
use Rattle.pbn_deals.specs.FirstPieces.{is_data_piece, is_found_data, found_bytes, ArePieces, opens_comment, IsFirst}
use Rattle.pbn_deals.specs.Pieces.{Piece, Space, Comment, Pair, Data, NoPair, bytes_of, HasPieces}
use Rattle.pbn_deals.specs.Tags.{is_same_name}
use Rattle.pbn_deals.proofs.PiecesInTurn.{begin_nil}
use Rattle.board_conditions.specs.Games.{first_named}
use Rattle.board_conditions.proofs.Named.{named-append}
use Rattle.recorded_plays.specs.declared.tags.Tags.{Tags}
use Rattle.recorded_plays.specs.declared.game_texts.GameText.{GameText}
use Rattle.recorded_plays.specs.declared.game_texts.Place.{Place}
use Rattle.recorded_plays.specs.declared.game_texts.Place.TheVariants.{BeforeSection, InSection, AfterSection}
use Rattle.recorded_plays.specs.Sections.{after_play, front_text, play_text}
use Rattle.recorded_plays.specs.Values.{AreTags, AreValues, AddsText, text_with, added_in, after_pair, after_bracket}

pub on_ok : {X E P Q : Type 0} (r : Result X E) → OnOk r P → (P → Q) → OnOk r Q
on_ok (Ok x) h f = f h
on_ok (Err e) h f = h

-- the game with the flag of its comment changed
abbrev pub Opened : GameText → Bool → GameText
Opened game is_open = record { tags = game.tags; section = game.section; place = game.place; is_open = is_open }

pub reopened : {pieces : List Piece} {was_open : Bool} (game : GameText) (is_open : Bool) → AreValues pieces was_open game → AreValues pieces is_open (Opened game is_open)
reopened game is_open h = record { tags = h.tags; section = h.section; goes_on = h.goes_on; opened = refl }

-- what a piece of the program stands for
pub fit : (piece : CodePiece) (before pieces first : List Piece) (is_open : Bool) (game : GameText) → pieces ≡ first → opens_comment piece ≡ is_open → AreValues (before ++ first) is_open game → AreValues (before ++ pieces) (opens_comment piece) game
fit piece before pieces first is_open game are opens h =
    subst (λ l. AreValues (before ++ l) (opens_comment piece) game) (sym are)
    (subst (λ o. AreValues (before ++ first) o game) (sym opens) h)

-- ---- pieces that add no tag and begin or end no section
pub record IsSilent (pieces : List Piece) (text : List ℕ) : Type 0 where
  pub named : (capitals : List ℕ) → first_named capitals pieces ≡ None
  pub after : (more : List Piece) → after_play (pieces ++ more) ≡ after_play more
  pub front : (more : List Piece) → front_text (pieces ++ more) ≡ text ++ front_text more

spaces_named : (bytes capitals : List ℕ) → first_named capitals (map Space bytes) ≡ None
spaces_named [] capitals = refl
spaces_named (byte ∷ bytes) capitals = spaces_named bytes capitals

spaces_after : (bytes : List ℕ) (more : List Piece) → after_play (map Space bytes ++ more) ≡ after_play more
spaces_after [] more = refl
spaces_after (byte ∷ bytes) more = spaces_after bytes more

spaces_front : (bytes : List ℕ) (more : List Piece) → front_text (map Space bytes ++ more) ≡ bytes ++ front_text more
spaces_front [] more = refl
spaces_front (byte ∷ bytes) more = ap (λ l. byte ∷ l) (spaces_front bytes more)

pub silent_blanks : (bytes : List ℕ) → IsSilent (map Space bytes) bytes
silent_blanks bytes = record { named = spaces_named bytes; after = spaces_after bytes; front = spaces_front bytes }

pub silent_comment : (bytes : List ℕ) → IsSilent (Comment bytes ∷ []) (32 ∷ [])
silent_comment bytes = record { named = λ capitals. refl; after = λ more. refl; front = λ more. refl }

silent_data : (pieces : List Piece) → list_all is_data_piece pieces ≡ true → IsSilent pieces (flat_map bytes_of pieces)
silent_data [] e = record { named = λ capitals. refl; after = λ more. refl; front = λ more. refl }
silent_data (Data bytes ∷ pieces) e =
    let s = silent_data pieces e in
    record {
      named = s.named;
      after = s.after;
      front = λ more. ap (λ l. bytes ++ l) (s.front more) ∙ sym (append_assoc bytes (flat_map bytes_of pieces) (front_text more));
    }
silent_data (Space byte ∷ pieces) e = absurd (cc)
silent_data (Comment bytes ∷ pieces) e = absurd (cc)
silent_data (Pair name value bytes ∷ pieces) e = absurd (cc)
silent_data (NoPair bytes ∷ pieces) e = absurd (cc)

pub silent_text : (pieces : List Piece) (bytes : List ℕ) → (list_all is_data_piece pieces ≡ true) × (flat_map bytes_of pieces ≡ bytes) → IsSilent pieces bytes
silent_text pieces bytes (all, are) = subst (IsSilent pieces) are (silent_data pieces all)

or_none : {X : Type 0} (o : Option X) → option_or o None ≡ o
or_none None = refl
or_none (Some x) = refl

named_same : (capitals : List ℕ) (before pieces : List Piece) → first_named capitals pieces ≡ None → first_named capitals before ≡ first_named capitals (before ++ pieces)
named_same capitals before pieces none =
    sym (named-append capitals before pieces ∙ (ap (option_or (first_named capitals before)) none ∙ or_none (first_named capitals before)))

pub tags_same : (before pieces : List Piece) (tags : Tags) → ((capitals : List ℕ) → first_named capitals pieces ≡ None) → AreTags before tags → AreTags (before ++ pieces) tags
tags_same before pieces tags none h = record {
  board = h.board ∙ named_same (codes "BOARD") before pieces (none (codes "BOARD"));
  deal = h.deal ∙ named_same (codes "DEAL") before pieces (none (codes "DEAL"));
  declarer = h.declarer ∙ named_same (codes "DECLARER") before pieces (none (codes "DECLARER"));
  contract = h.contract ∙ named_same (codes "CONTRACT") before pieces (none (codes "CONTRACT"));
  play = h.play ∙ named_same (codes "PLAY") before pieces (none (codes "PLAY"));
}

-- ---- what a step makes of the section
-- before the section there is no text
no_text : (before : List Piece) (was_open : Bool) (old : GameText) → AreValues before was_open old → old.place ≡ BeforeSection → play_text before ≡ []
no_text before was_open old h is =
    ap play_text (sym (append-nil before)) ∙ (h.goes_on [] ∙ ap (λ p. text_with p (play_text before) []) is)

module _ (before pieces : List Piece) (old new : GameText) (is_open was_open : Bool) (h : AreValues before was_open old) where
  built : (now : List ℕ) → AreTags (before ++ pieces) new.tags → new.section.items ≡ now → text_with old.place (play_text before) pieces ≡ now → ((more : List Piece) → text_with old.place (play_text before) (pieces ++ more) ≡ text_with new.place now more) → new.is_open ≡ is_open → AreValues (before ++ pieces) is_open new
  built now tags section is later opened = record {
    tags = tags;
    section = section ∙ sym (h.goes_on pieces ∙ is);
    goes_on = λ more.
        ap play_text (append_assoc before pieces more)
        ∙ (h.goes_on (pieces ++ more) ∙ (later more ∙ ap (λ t. text_with new.place t more) (sym (h.goes_on pieces ∙ is))));
    opened = opened;
  }

with_silent : (place : Place) (text added : List ℕ) (pieces : List Piece) → IsSilent pieces added → (place ≡ BeforeSection → text ≡ []) → (text_with place text pieces ≡ text ++ added_in place added) × ((more : List Piece) → text_with place text (pieces ++ more) ≡ text_with place (text ++ added_in place added) more)
with_silent BeforeSection text added pieces s none = (
  ap play_text (sym (append-nil pieces)) ∙ (ap front_text (s.after []) ∙ sym (append-nil text ∙ none refl)),
  λ more. ap front_text (s.after more),
)
with_silent InSection text added pieces s none = (
  ap (λ l. text ++ l) (ap front_text (sym (append-nil pieces)) ∙ (s.front [] ∙ append-nil added)),
  λ more. ap (λ l. text ++ l) (s.front more) ∙ sym (append_assoc text added (front_text more)),
)
with_silent AfterSection text added pieces s none = (sym (append-nil text), λ more. sym (append-nil text))

pub silent_more : (before pieces : List Piece) (added : List ℕ) (old new : GameText) (was_open is_open : Bool) → IsSilent pieces added → AreValues before was_open old → AddsText added old new → new.is_open ≡ is_open → AreValues (before ++ pieces) is_open new
silent_more before pieces added old new was_open is_open s h adds opened =
    let w = with_silent old.place (play_text before) added pieces s (no_text before was_open old h) in
    built before pieces old new is_open was_open h (play_text before ++ added_in old.place added)
    (subst (AreTags (before ++ pieces)) (sym adds.tags) (tags_same before pieces old.tags s.named h.tags))
    (adds.section ∙ ap (λ l. l ++ added_in old.place added) h.section)
    w.0
    (λ more. w.1 more ∙ ap (λ p. text_with p (play_text before ++ added_in old.place added) more) (sym adds.place))
    opened

with_bracket : (place : Place) (text bytes : List ℕ) → (place ≡ BeforeSection → text ≡ []) → (text_with place text (NoPair bytes ∷ []) ≡ text) × ((more : List Piece) → text_with place text (NoPair bytes ∷ more) ≡ text_with (after_bracket place) text more)
with_bracket BeforeSection text bytes none = (sym (none refl), λ more. refl)
with_bracket InSection text bytes none = (append-nil text, λ more. append-nil text)
with_bracket AfterSection text bytes none = (refl, λ more. refl)

pub bracket_more : (before : List Piece) (bytes : List ℕ) (old new : GameText) → AreValues before false old → new.tags ≡ old.tags → new.section ≡ old.section → new.place ≡ after_bracket old.place → new.is_open ≡ false → AreValues (before ++ NoPair bytes ∷ []) false new
bracket_more before bytes old new h tags section place opened =
    let pieces : List Piece = NoPair bytes ∷ [] in
    let w = with_bracket old.place (play_text before) bytes (no_text before false old h) in
    built before pieces old new false false h (play_text before)
    (subst (AreTags (before ++ pieces)) (sym tags) (tags_same before pieces old.tags (λ capitals. refl) h.tags))
    (ap (λ s. s.items) section ∙ h.section)
    w.0
    (λ more. w.1 more ∙ ap (λ p. text_with p (play_text before) more) (sym place))
    opened

with_pair : (place : Place) (is_play : Bool) (text name value bytes : List ℕ) → is_same_name (codes "PLAY") name ≡ is_play → (place ≡ BeforeSection → text ≡ []) → (text_with place text (Pair name value bytes ∷ []) ≡ text) × ((more : List Piece) → text_with place text (Pair name value bytes ∷ more) ≡ text_with (after_pair place is_play) text more)
with_pair BeforeSection true text name value bytes is none = (
  ap (λ b. front_text (cond b [] [])) is ∙ sym (none refl),
  λ more. ap (λ b. front_text (cond b more (after_play more))) is ∙ ap (λ t. t ++ front_text more) (sym (none refl)),
)
with_pair BeforeSection false text name value bytes is none = (
  ap (λ b. front_text (cond b [] [])) is ∙ sym (none refl),
  λ more. ap (λ b. front_text (cond b more (after_play more))) is,
)
with_pair InSection is_play text name value bytes is none = (append-nil text, λ more. append-nil text)
with_pair AfterSection is_play text name value bytes is none = (refl, λ more. refl)

pub pair_more : (before : List Piece) (name value bytes : List ℕ) (old new : GameText) → AreValues before false old → AreTags (before ++ Pair name value bytes ∷ []) new.tags → new.section ≡ old.section → new.place ≡ after_pair old.place (is_same_name (codes "PLAY") name) → new.is_open ≡ false → AreValues (before ++ Pair name value bytes ∷ []) false new
pair_more before name value bytes old new h tags section place opened =
    let pieces : List Piece = Pair name value bytes ∷ [] in
    let w = with_pair old.place (is_same_name (codes "PLAY") name) (play_text before) name value bytes refl (no_text before false old h) in
    built before pieces old new false false h (play_text before)
    tags
    (ap (λ s. s.items) section ∙ h.section)
    w.0
    (λ more. w.1 more ∙ ap (λ p. text_with p (play_text before) more) (sym place))
    opened

-- ---- piece by piece
-- the pieces that were taken behind others, and those of the rest of the line
pub record GoesOn (pieces more : List Piece) (is_open : Bool) (game : GameText) (in_data : Bool) (rest : List ℕ) : Type 0 where
  pub done : List Piece
  pub others : List Piece
  pub opened : Bool
  pub behind : Bool
  pub are : AreValues (pieces ++ done) opened game
  pub has : HasPieces in_data rest others behind
  pub all : more ≡ done ++ others
  pub opens : is_open ≡ (opened || behind)
  pub last : opened ≡ true → rest ≡ []

pub begins : (pieces more : List Piece) (is_open : Bool) (game : GameText) (line : List ℕ) → AreValues pieces false game → HasPieces false line more is_open → GoesOn pieces more is_open game false line
begins pieces more is_open game line h has = record {
  done = [];
  others = more;
  opened = false;
  behind = is_open;
  are = subst (λ l. AreValues l false game) (sym (append-nil pieces)) h;
  has = has;
  all = refl;
  opens = refl;
  last = λ e. absurd (cc);
}

pub goes_on : (pieces more : List Piece) (is_open in_data : Bool) (rest after : List ℕ) (game game' : GameText) (piece : CodePiece) → (g : GoesOn pieces more is_open game in_data rest) → IsFirst in_data rest g.others g.behind piece after → ((before first : List Piece) → AreValues before false game → ArePieces piece first → AreValues (before ++ first) (opens_comment piece) game') → GoesOn pieces more is_open game' (is_found_data piece || in_data) after
goes_on pieces more is_open in_data rest after game game' piece g f made = record {
  done = g.done ++ f.first;
  others = f.more;
  opened = opens_comment piece;
  behind = f.open_behind;
  are =
      subst (λ l. AreValues l (opens_comment piece) game') (append_assoc pieces g.done f.first)
      (made (pieces ++ g.done) f.first (subst (λ o. AreValues (pieces ++ g.done) o game) closed g.are) f.are);
  has = f.has;
  all = g.all ∙ (ap (λ l. g.done ++ l) f.all ∙ sym (append_assoc g.done f.first f.more));
  opens = g.opens ∙ (ap (λ o. o || g.behind) closed ∙ f.opens);
  last = f.last;
} where
  closed : g.opened ≡ false
  closed = go g.opened g.last where
    go : (b : Bool) → (b ≡ true → rest ≡ []) → b ≡ false
    go false l = refl
    go true l = absurd (f.some (begin_nil (found_bytes piece) after (sym f.whole ∙ l refl)))

pub ends : (pieces more : List Piece) (is_open in_data : Bool) (rest : List ℕ) (game : GameText) → (g : GoesOn pieces more is_open game in_data rest) → (g.others ≡ []) × (g.behind ≡ false) → AreValues (pieces ++ more) is_open game
ends pieces more is_open in_data rest game g (none, closed) =
    subst (λ o. AreValues (pieces ++ more) o game) (sym (g.opens ∙ (ap (λ b. g.opened || b) closed ∙ or_false g.opened)))
    (subst (λ l. AreValues (pieces ++ l) g.opened game) (sym (g.all ∙ (ap (λ l. g.done ++ l) none ∙ append-nil g.done))) g.are)
  where
    or_false : (b : Bool) → (b || false) ≡ b
    or_false true = refl
    or_false false = refl
