-- The first values of names, with some pieces more.
use Rattle.std.proofs.Common.{◌≡◌, ℕ, Bool, true, false, cond, ◌||◌, List, [], ◌∷◌, ◌++◌, map, Option, None, Some, is_some, codes, refl, sym, ◌∙◌, ap, subst, append_assoc, append-nil, inl, inr, ◌⊎◌}
use Rattle.std.specs.Borrow.{Bor}
use Rattle.std.specs.List.{list_all, filter_map, slice_get}
use Rattle.std.specs.Option.{option_copied, option_or}
use Rattle.std.proofs.lemmas.List.Elements.{filter_map-append}
use Rattle.pbn_deals.specs.declared.pieces.Piece.{Piece as CodePiece}
use Rattle.pbn_deals.specs.declared.pieces.Piece.TheVariants as found
use Rattle.pbn_deals.specs.FirstPieces.{is_data_piece, is_found_data, found_bytes, ArePieces, opens_comment, IsFirst}
use Rattle.pbn_deals.specs.Pieces.{Piece, Space, Comment, Pair, Data, NoPair, HasPieces}
use Rattle.pbn_deals.specs.Tags.{is_same_name}
use Rattle.pbn_deals.proofs.PiecesInTurn.{begin_nil}
use Rattle.board_conditions.specs.Games.{value_named, first_named}
use Rattle.board_conditions.specs.Titles.{is_title}
use Rattle.board_conditions.specs.Values.{AreValues}
use Rattle.board_conditions.specs.Words.{says_dealer, says_vulnerability}
use Rattle.board_conditions.proofs.KeptNamed.{kept-same}
use Rattle.board_conditions.specs.declared.game_texts.GameText.{GameText}

-- ---- lists of values
first_or : {X : Type 0} (xs ys : List X) → slice_get (xs ++ ys) 0 ≡ option_or (slice_get xs 0) (slice_get ys 0)
first_or [] ys = refl
first_or (x ∷ xs) ys = refl

pub named-append : (capitals : List ℕ) (one other : List Piece) → first_named capitals (one ++ other) ≡ option_or (first_named capitals one) (first_named capitals other)
named-append capitals one other =
    ap (λ l. slice_get l 0) (filter_map-append (value_named capitals) one other)
    ∙ first_or (filter_map (value_named capitals) one) (filter_map (value_named capitals) other)

or_none : {X : Type 0} (o : Option X) → option_or o None ≡ o
or_none None = refl
or_none (Some x) = refl

-- pieces without a tag pair add no value
abbrev pub AddNothing : List Piece → Type 0
AddNothing pieces = (capitals : List ℕ) → first_named capitals pieces ≡ None

named-same : (capitals : List ℕ) (before pieces : List Piece) → AddNothing pieces → first_named capitals before ≡ first_named capitals (before ++ pieces)
named-same capitals before pieces none =
    sym (named-append capitals before pieces ∙ (ap (option_or (first_named capitals before)) (none capitals) ∙ or_none (first_named capitals before)))

-- ---- a tag pair
pair_first : (capitals name value bytes : List ℕ) (b : Bool) → is_same_name capitals name ≡ b → first_named capitals (Pair name value bytes ∷ []) ≡ cond b (Some value) None
pair_first capitals name value bytes b is = ap first_of is ∙ go b where
  first_of : Bool → Option (List ℕ)
  first_of b = slice_get (filter_map (λ (p : Piece). cond b (Some value) None) (Pair name value bytes ∷ [])) 0

  go : (b : Bool) → first_of b ≡ cond b (Some value) None
  go true = refl
  go false = refl

pub pair_more : (capitals name value bytes : List ℕ) (b : Bool) (pieces : List Piece) → is_same_name capitals name ≡ b → first_named capitals (pieces ++ Pair name value bytes ∷ []) ≡ option_or (first_named capitals pieces) (cond b (Some value) None)
pair_more capitals name value bytes b pieces is =
    named-append capitals pieces (Pair name value bytes ∷ []) ∙ ap (option_or (first_named capitals pieces)) (pair_first capitals name value bytes b is)

pub first_found : (capitals name : List ℕ) (value : Bor (List ℕ)) (bytes : List ℕ) (before : Option (Bor (List ℕ))) (pieces : List Piece) → is_some before ≡ false → is_same_name capitals name ≡ true → option_copied before ≡ first_named capitals pieces → Some value.now ≡ first_named capitals (pieces ++ Pair name value.now bytes ∷ [])
first_found capitals name value bytes None pieces none is e =
    sym (pair_more capitals name value.now bytes true pieces is ∙ ap (λ o. option_or o (Some value.now)) (sym e))
first_found capitals name value bytes (Some old) pieces none is e = absurd (cc)

pub first_stays : (capitals name value bytes : List ℕ) (before : Option (Bor (List ℕ))) (pieces : List Piece) → (is_some before ≡ false → is_same_name capitals name ≡ false) → option_copied before ≡ first_named capitals pieces → option_copied before ≡ first_named capitals (pieces ++ Pair name value bytes ∷ [])
first_stays capitals name value bytes None pieces other e =
    sym (pair_more capitals name value bytes false pieces (other refl) ∙ ap (λ o. option_or o None) (sym e))
first_stays capitals name value bytes (Some old) pieces other e =
    sym (named-append capitals pieces (Pair name value bytes ∷ []) ∙ ap (λ o. option_or o (first_named capitals (Pair name value bytes ∷ []))) (sym e))

-- ---- other pieces
spaces : (bytes : List ℕ) → AddNothing (map Space bytes)
spaces [] capitals = refl
spaces (byte ∷ bytes) capitals = spaces bytes capitals

data_alone : (pieces : List Piece) → list_all is_data_piece pieces ≡ true → AddNothing pieces
data_alone [] e capitals = refl
data_alone (Data bytes ∷ pieces) e capitals = data_alone pieces e capitals
data_alone (Space byte ∷ pieces) e capitals = absurd (cc)
data_alone (Comment bytes ∷ pieces) e capitals = absurd (cc)
data_alone (Pair name value bytes ∷ pieces) e capitals = absurd (cc)
data_alone (NoPair bytes ∷ pieces) e capitals = absurd (cc)

comment_alone : (pieces : List Piece) (bytes : List ℕ) → pieces ≡ Comment bytes ∷ [] → AddNothing pieces
comment_alone pieces bytes e capitals = ap (first_named capitals) e

no_pair_alone : (pieces : List Piece) (bytes : List ℕ) → pieces ≡ NoPair bytes ∷ [] → AddNothing pieces
no_pair_alone pieces bytes e capitals = ap (first_named capitals) e

abbrev pub With : GameText → Bool → GameText
With game is_open = record { board = game.board; deal = game.deal; dealer = game.dealer; vulnerable = game.vulnerable; event = game.event; section = game.section; site = game.site; date = game.date; is_open = is_open; rest = game.rest }

pub stays : (before pieces : List Piece) (was is_open : Bool) (game : GameText) → AddNothing pieces → AreValues before was game → AreValues (before ++ pieces) is_open (With game is_open)
stays before pieces was is_open game none h = record {
  board = h.board ∙ named-same (codes "BOARD") before pieces none;
  deal = h.deal ∙ named-same (codes "DEAL") before pieces none;
  dealer = h.dealer ∙ kept-same says_dealer (codes "DEALER") before pieces (none (codes "DEALER"));
  vulnerable = h.vulnerable ∙ kept-same says_vulnerability (codes "VULNERABLE") before pieces (none (codes "VULNERABLE"));
  event = h.event ∙ kept-same is_title (codes "EVENT") before pieces (none (codes "EVENT"));
  section = h.section ∙ kept-same is_title (codes "SECTION") before pieces (none (codes "SECTION"));
  site = h.site ∙ kept-same is_title (codes "SITE") before pieces (none (codes "SITE"));
  date = h.date ∙ kept-same is_title (codes "DATE") before pieces (none (codes "DATE"));
  opened = refl;
}

pub others_stay : (piece : CodePiece) (before pieces : List Piece) (game : GameText) → ((bytes : Bor (List ℕ)) × (piece ≡ found.Blanks bytes)) ⊎ ((bytes : Bor (List ℕ)) × (piece ≡ found.Comment bytes)) ⊎ ((bytes : Bor (List ℕ)) × (piece ≡ found.Data bytes)) ⊎ ((bytes : Bor (List ℕ)) × (piece ≡ found.NoPair bytes)) → AreValues before false game → ArePieces piece pieces → AreValues (before ++ pieces) (opens_comment piece) game
others_stay piece before pieces game which h are = go which where
  made : opens_comment piece ≡ false → AddNothing pieces → AreValues (before ++ pieces) (opens_comment piece) game
  made closed none =
      let s = stays before pieces false false game none h in
      record { board = s.board; deal = s.deal; dealer = s.dealer; vulnerable = s.vulnerable; event = s.event; section = s.section; site = s.site; date = s.date; opened = h.opened ∙ sym closed }

  go : ((bytes : Bor (List ℕ)) × (piece ≡ found.Blanks bytes)) ⊎ ((bytes : Bor (List ℕ)) × (piece ≡ found.Comment bytes)) ⊎ ((bytes : Bor (List ℕ)) × (piece ≡ found.Data bytes)) ⊎ ((bytes : Bor (List ℕ)) × (piece ≡ found.NoPair bytes)) → AreValues (before ++ pieces) (opens_comment piece) game
  go (inl (bytes, is)) = made (ap opens_comment is) (subst AddNothing (sym (subst (λ p. ArePieces p pieces) is are)) (spaces bytes.now))
  go (inr (inl (bytes, is))) = made (ap opens_comment is) (comment_alone pieces bytes.now (subst (λ p. ArePieces p pieces) is are))
  go (inr (inr (inl (bytes, is)))) = made (ap opens_comment is) (data_alone pieces (subst (λ p. ArePieces p pieces) is are).0)
  go (inr (inr (inr (bytes, is)))) = made (ap opens_comment is) (no_pair_alone pieces bytes.now (subst (λ p. ArePieces p pieces) is are))

pub open_stays : (piece : CodePiece) (bytes : Bor (List ℕ)) (before pieces : List Piece) (game : GameText) → piece ≡ found.OpenComment bytes → AreValues before false game → ArePieces piece pieces → AreValues (before ++ pieces) (opens_comment piece) (With game true)
open_stays piece bytes before pieces game is h are =
    subst (λ o. AreValues (before ++ pieces) o (With game true)) (sym (ap opens_comment is))
    (stays before pieces false true game (comment_alone pieces bytes.now (subst (λ p. ArePieces p pieces) is are)) h)

-- ---- piece by piece
-- the pieces that were taken behind others, and those of the rest of the line
pub record GoesOn (pieces more : List Piece) (is_open : Bool) (game : GameText) (in_data : Bool) (rest : List ℕ) : Type 0 where
  pub done : List Piece
  pub others : List Piece
  pub opened : Bool
  pub behind : Bool
  pub are : AreValues (pieces ++ done) opened game
  pub has : HasPieces in_data rest others behind
  pub all : more ≡ done ++ others
  pub opens : is_open ≡ (opened || behind)
  pub last : opened ≡ true → rest ≡ []

pub begins : (pieces more : List Piece) (is_open : Bool) (game : GameText) (line : List ℕ) → AreValues pieces false game → HasPieces false line more is_open → GoesOn pieces more is_open game false line
begins pieces more is_open game line h has = record {
  done = [];
  others = more;
  opened = false;
  behind = is_open;
  are = subst (λ l. AreValues l false game) (sym (append-nil pieces)) h;
  has = has;
  all = refl;
  opens = refl;
  last = λ e. absurd (cc);
}

pub goes_on : (pieces more : List Piece) (is_open in_data : Bool) (rest after : List ℕ) (game game' : GameText) (piece : CodePiece) → (g : GoesOn pieces more is_open game in_data rest) → IsFirst in_data rest g.others g.behind piece after → ((before first : List Piece) → AreValues before false game → ArePieces piece first → AreValues (before ++ first) (opens_comment piece) game') → GoesOn pieces more is_open game' (is_found_data piece || in_data) after
goes_on pieces more is_open in_data rest after game game' piece g f made = record {
  done = g.done ++ f.first;
  others = f.more;
  opened = opens_comment piece;
  behind = f.open_behind;
  are =
      subst (λ l. AreValues l (opens_comment piece) game') (append_assoc pieces g.done f.first)
      (made (pieces ++ g.done) f.first (subst (λ o. AreValues (pieces ++ g.done) o game) closed g.are) f.are);
  has = f.has;
  all = g.all ∙ (ap (λ l. g.done ++ l) f.all ∙ sym (append_assoc g.done f.first f.more));
  opens = g.opens ∙ (ap (λ o. o || g.behind) closed ∙ f.opens);
  last = f.last;
} where
  closed : g.opened ≡ false
  closed = go g.opened g.last where
    go : (b : Bool) → (b ≡ true → rest ≡ []) → b ≡ false
    go false l = refl
    go true l = absurd (f.some (begin_nil (found_bytes piece) after (sym f.whole ∙ l refl)))

pub ends : (pieces more : List Piece) (is_open in_data : Bool) (rest : List ℕ) (game : GameText) → (g : GoesOn pieces more is_open game in_data rest) → (g.others ≡ []) × (g.behind ≡ false) → AreValues (pieces ++ more) is_open game
ends pieces more is_open in_data rest game g (none, closed) =
    subst (λ o. AreValues (pieces ++ more) o game) (sym (g.opens ∙ (ap (λ b. g.opened || b) closed ∙ or_false g.opened)))
    (subst (λ l. AreValues (pieces ++ l) g.opened game) (sym (g.all ∙ (ap (λ l. g.done ++ l) none ∙ append-nil g.done))) g.are)
  where
    or_false : (b : Bool) → (b || false) ≡ b
    or_false true = refl
    or_false false = refl
