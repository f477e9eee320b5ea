-- What pieces do to a game, with one more.
use Rattle.std.proofs.Common.{◌≡◌, ◌≢◌, ℕ, Bool, true, false, cond, ◌||◌, List, [], ◌∷◌, ◌++◌, map, refl, sym, ◌∙◌, ap, subst, append_assoc, append-nil, inl, inr, ◌⊎◌}
use Rattle.std.specs.Borrow.{Bor}
use Rattle.std.specs.List.{list_any, list_all}
use Rattle.std.proofs.lemmas.List.Folds.{list_any-append}
use Rattle.pbn_deals.specs.declared.pieces.Piece.{Piece as CodePiece}
use Rattle.pbn_deals.specs.declared.pieces.Piece.TheVariants as found
use Rattle.pbn_deals.specs.Tags.{is_deal}
use Rattle.pbn_deals.specs.FirstPieces.{is_data_piece, is_found_data, found_bytes, ArePieces, opens_comment, IsFirst}
use Rattle.pbn_deals.specs.Pieces.{Piece, Space, Comment, Pair, Data, NoPair, HasPieces}
use Rattle.pbn_deals.proofs.PiecesInTurn.{some_first, begin_nil}
use Rattle.whole_texts.specs.OldTables.{is_old, left_pieces, table_behind, is_deal_pair}
use Rattle.whole_texts.specs.Lefts.{left_kind}
use Rattle.whole_texts.specs.Facts.{AreFacts}
use Rattle.whole_texts.specs.declared.lefts.Left.{Left}
use Rattle.whole_texts.specs.declared.piece_facts.PieceFacts.{PieceFacts}
use Rattle.tables.specs.declared.results.Renews.{Renews}

pub left-append : (old : Renews) (t : Bool) (before pieces : List Piece) → left_pieces old t (before ++ pieces) ≡ left_pieces old t before ++ left_pieces old (table_behind old t before) pieces
left-append old t [] pieces = refl
left-append old t (Space byte ∷ before) pieces = ap (λ l. Space byte ∷ l) (left-append old t before pieces)
left-append old t (Comment bytes ∷ before) pieces = ap (λ l. Comment bytes ∷ l) (left-append old t before pieces)
left-append old t (Pair name value bytes ∷ before) pieces = go (is_old old name) (left-append old true before pieces) (left-append old false before pieces) where
  go : (b : Bool) → left_pieces old true (before ++ pieces) ≡ left_pieces old true before ++ left_pieces old (table_behind old true before) pieces → left_pieces old false (before ++ pieces) ≡ left_pieces old false before ++ left_pieces old (table_behind old false before) pieces → cond b (left_pieces old true (before ++ pieces)) (Pair name value bytes ∷ left_pieces old false (before ++ pieces)) ≡ cond b (left_pieces old true before) (Pair name value bytes ∷ left_pieces old false before) ++ left_pieces old (table_behind old b before) pieces
  go true e f = e
  go false e f = ap (λ l. Pair name value bytes ∷ l) f
left-append old true (Data bytes ∷ before) pieces = left-append old true before pieces
left-append old false (Data bytes ∷ before) pieces = ap (λ l. Data bytes ∷ l) (left-append old false before pieces)
left-append old t (NoPair bytes ∷ before) pieces = ap (λ l. NoPair bytes ∷ l) (left-append old t before pieces)

pub behind-append : (old : Renews) (t : Bool) (before pieces : List Piece) → table_behind old t (before ++ pieces) ≡ table_behind old (table_behind old t before) pieces
behind-append old t [] pieces = refl
behind-append old t (Space byte ∷ before) pieces = behind-append old t before pieces
behind-append old t (Comment bytes ∷ before) pieces = behind-append old t before pieces
behind-append old t (Pair name value bytes ∷ before) pieces = behind-append old (is_old old name) before pieces
behind-append old t (Data bytes ∷ before) pieces = behind-append old t before pieces
behind-append old t (NoPair bytes ∷ before) pieces = behind-append old t before pieces

-- pieces that change nothing but what is left
pub record AreSilent (old : Renews) (left : List Piece) (t : Bool) (pieces : List Piece) : Type 0 where
  pub stay : left_pieces old t pieces ≡ left
  pub same : table_behind old t pieces ≡ t
  no_deal : list_any is_deal_pair pieces ≡ false

or_false : (b c : Bool) → c ≡ false → (b || c) ≡ b
or_false true c e = refl
or_false false c e = e

-- what is said of silent pieces behind others
silent : (old : Renews) (t : Bool) (before pieces left : List Piece) (facts : PieceFacts) (kind : Left) (is_open : Bool) → AreFacts old t before false facts → AreSilent old left facts.in_table pieces → kind ≡ left_kind old (left_pieces old t before ++ left) → AreFacts old t (before ++ pieces) is_open (record { left = kind; is_open = is_open; in_table = facts.in_table; has_deal = facts.has_deal })
silent old t before pieces left facts kind is_open h s e = record {
  left = e ∙ ap (left_kind old) (sym (left-append old t before pieces ∙ ap (λ l. left_pieces old t before ++ l) (ap (λ b. left_pieces old b pieces) (sym h.behind) ∙ s.stay)));
  opened = refl;
  behind = sym (behind-append old t before pieces ∙ (ap (λ b. table_behind old b pieces) (sym h.behind) ∙ s.same));
  deal = h.deal ∙ sym (list_any-append is_deal_pair before pieces ∙ or_false (list_any is_deal_pair before) (list_any is_deal_pair pieces) s.no_deal);
}

pub silent_spaces : (old : Renews) (t : Bool) (bytes : List ℕ) → AreSilent old (map Space bytes) t (map Space bytes)
silent_spaces old t [] = record { stay = refl; same = refl; no_deal = refl }
silent_spaces old t (byte ∷ bytes) = let s = silent_spaces old t bytes in record { stay = ap (λ l. Space byte ∷ l) s.stay; same = s.same; no_deal = s.no_deal }

pub data_silent : (old : Renews) (t : Bool) (pieces : List Piece) → list_all is_data_piece pieces ≡ true → AreSilent old (cond t [] pieces) t pieces
data_silent old true [] e = record { stay = refl; same = refl; no_deal = refl }
data_silent old false [] e = record { stay = refl; same = refl; no_deal = refl }
data_silent old true (Data bytes ∷ pieces) e = let s = data_silent old true pieces e in record { stay = s.stay; same = s.same; no_deal = s.no_deal }
data_silent old false (Data bytes ∷ pieces) e = let s = data_silent old false pieces e in record { stay = ap (λ l. Data bytes ∷ l) s.stay; same = s.same; no_deal = s.no_deal }
data_silent old t (Space byte ∷ pieces) e = absurd (cc)
data_silent old t (Comment bytes ∷ pieces) e = absurd (cc)
data_silent old t (Pair name value bytes ∷ pieces) e = absurd (cc)
data_silent old t (NoPair bytes ∷ pieces) e = absurd (cc)

abbrev With : PieceFacts → Left → Bool → PieceFacts
With facts kind is_open = record { left = kind; is_open = is_open; in_table = facts.in_table; has_deal = facts.has_deal }

stays : (old : Renews) (piece : CodePiece) (t : Bool) (before pieces left : List Piece) (facts : PieceFacts) (kind : Left) → opens_comment piece ≡ false → AreSilent old left facts.in_table pieces → AreFacts old t before false facts → kind ≡ left_kind old (left_pieces old t before ++ left) → AreFacts old t (before ++ pieces) (opens_comment piece) (With facts kind facts.is_open)
stays old piece t before pieces left facts kind closed s h e =
    subst (λ o. AreFacts old t (before ++ pieces) o (With facts kind facts.is_open)) (h.opened ∙ sym closed) (silent old t before pieces left facts kind facts.is_open h s e)

-- blanks, a comment, or what begins no tag pair
pub others_stay : (old : Renews) (piece : CodePiece) (t : Bool) (before pieces : List Piece) (facts : PieceFacts) (kind : Left) → ((bytes : Bor (List ℕ)) × (piece ≡ found.Blanks bytes)) ⊎ ((bytes : Bor (List ℕ)) × (piece ≡ found.Comment bytes)) ⊎ ((bytes : Bor (List ℕ)) × (piece ≡ found.NoPair bytes)) → AreFacts old t before false facts → ArePieces piece pieces → kind ≡ left_kind old (left_pieces old t before ++ pieces) → AreFacts old t (before ++ pieces) (opens_comment piece) (With facts kind facts.is_open)
others_stay old piece t before pieces facts kind (inl (bytes, is)) h are e =
    stays old piece t before pieces pieces facts kind (ap opens_comment is) (subst (λ l. AreSilent old l facts.in_table l) (sym (subst (λ p. ArePieces p pieces) is are)) (silent_spaces old facts.in_table bytes.now)) h e
others_stay old piece t before pieces facts kind (inr (inl (bytes, is))) h are e =
    stays old piece t before pieces pieces facts kind (ap opens_comment is) (subst (λ l. AreSilent old l facts.in_table l) (sym (subst (λ p. ArePieces p pieces) is are)) (record { stay = refl; same = refl; no_deal = refl })) h e
others_stay old piece t before pieces facts kind (inr (inr (bytes, is))) h are e =
    stays old piece t before pieces pieces facts kind (ap opens_comment is) (subst (λ l. AreSilent old l facts.in_table l) (sym (subst (λ p. ArePieces p pieces) is are)) (record { stay = refl; same = refl; no_deal = refl })) h e

-- a comment that is open behind the line
pub open_stays : (old : Renews) (piece : CodePiece) (bytes : Bor (List ℕ)) (t : Bool) (before pieces : List Piece) (facts : PieceFacts) (kind : Left) → piece ≡ found.OpenComment bytes → AreFacts old t before false facts → ArePieces piece pieces → kind ≡ left_kind old (left_pieces old t before ++ pieces) → AreFacts old t (before ++ pieces) (opens_comment piece) (With facts kind true)
open_stays old piece bytes t before pieces facts kind is h are e =
    subst (λ o. AreFacts old t (before ++ pieces) o (With facts kind true)) (sym (ap opens_comment is))
    (silent old t before pieces pieces facts kind true h (subst (λ l. AreSilent old l facts.in_table l) (sym (subst (λ p. ArePieces p pieces) is are)) (record { stay = refl; same = refl; no_deal = refl })) e)

-- section data, of a table or not
pub data_goes : (old : Renews) (piece : CodePiece) (bytes : Bor (List ℕ)) (t : Bool) (before pieces : List Piece) (facts : PieceFacts) → piece ≡ found.Data bytes → facts.in_table ≡ true → AreFacts old t before false facts → ArePieces piece pieces → AreFacts old t (before ++ pieces) (opens_comment piece) facts
data_goes old piece bytes t before pieces facts is in_table h are =
    stays old piece t before pieces [] facts facts.left (ap opens_comment is) (subst (λ b. AreSilent old [] b pieces) (sym in_table) (data_silent old true pieces (subst (λ p. ArePieces p pieces) is are).0)) h (h.left ∙ ap (left_kind old) (sym (append-nil (left_pieces old t before))))

pub data_is_left : (old : Renews) (piece : CodePiece) (bytes : Bor (List ℕ)) (t : Bool) (before pieces : List Piece) (facts : PieceFacts) (kind : Left) → piece ≡ found.Data bytes → facts.in_table ≡ false → AreFacts old t before false facts → ArePieces piece pieces → kind ≡ left_kind old (left_pieces old t before ++ pieces) → AreFacts old t (before ++ pieces) (opens_comment piece) (With facts kind facts.is_open)
data_is_left old piece bytes t before pieces facts kind is in_table h are e =
    stays old piece t before pieces pieces facts kind (ap opens_comment is) (subst (λ b. AreSilent old pieces b pieces) (sym in_table) (data_silent old false pieces (subst (λ p. ArePieces p pieces) is are).0)) h e

-- ---- a tag pair
or_none : (b : Bool) → (b || false) ≡ b
or_none true = refl
or_none false = refl

pub pair_facts : (old : Renews) (t : Bool) (before : List Piece) (name value bytes : List ℕ) (facts : PieceFacts) (kind : Left) (is_tab is_deal_tag : Bool) → AreFacts old t before false facts → is_tab ≡ is_old old name → is_deal_tag ≡ is_deal name → kind ≡ left_kind old (left_pieces old t before ++ cond (is_old old name) [] (Pair name value bytes ∷ [])) → AreFacts old t (before ++ Pair name value bytes ∷ []) false (record { left = kind; is_open = facts.is_open; in_table = is_tab; has_deal = facts.has_deal || is_deal_tag })
pair_facts old t before name value bytes facts kind is_tab is_deal_tag h tab deal e = record {
  left = e ∙ ap (left_kind old) (sym (left-append old t before (Pair name value bytes ∷ [])));
  opened = h.opened;
  behind = tab ∙ sym (behind-append old t before (Pair name value bytes ∷ []));
  deal = ap (λ b. b || is_deal_tag) h.deal ∙ (ap (λ b. list_any is_deal_pair before || b) (deal ∙ sym (or_none (is_deal name))) ∙ sym (list_any-append is_deal_pair before (Pair name value bytes ∷ [])));
}

-- ---- piece by piece
-- the pieces that were taken behind others, and those of the rest of the line
pub record GoesOn (old : Renews) (t : Bool) (pieces more : List Piece) (is_open : Bool) (facts : PieceFacts) (in_data : Bool) (rest : List ℕ) : Type 0 where
  pub done : List Piece
  pub others : List Piece
  pub opened : Bool
  pub behind : Bool
  pub are : AreFacts old t (pieces ++ done) opened facts
  pub has : HasPieces in_data rest others behind
  pub all : more ≡ done ++ others
  pub opens : is_open ≡ (opened || behind)
  pub last : opened ≡ true → rest ≡ []

pub begins : (old : Renews) (t : Bool) (pieces more : List Piece) (is_open : Bool) (facts : PieceFacts) (line : List ℕ) → AreFacts old t pieces false facts → HasPieces false line more is_open → GoesOn old t pieces more is_open facts false line
begins old t pieces more is_open facts line h has = record {
  done = [];
  others = more;
  opened = false;
  behind = is_open;
  are = subst (λ l. AreFacts old t l false facts) (sym (append-nil pieces)) h;
  has = has;
  all = refl;
  opens = refl;
  last = λ e. absurd (cc);
}

pub goes_on : (old : Renews) (t : Bool) (pieces more : List Piece) (is_open in_data : Bool) (rest after : List ℕ) (facts facts' : PieceFacts) (piece : CodePiece) → (g : GoesOn old t pieces more is_open facts in_data rest) → IsFirst in_data rest g.others g.behind piece after → ((before first : List Piece) → AreFacts old t before false facts → ArePieces piece first → first ≢ [] → AreFacts old t (before ++ first) (opens_comment piece) facts') → GoesOn old t pieces more is_open facts' (is_found_data piece || in_data) after
goes_on old t pieces more is_open in_data rest after facts facts' piece g f made = record {
  done = g.done ++ f.first;
  others = f.more;
  opened = opens_comment piece;
  behind = f.open_behind;
  are =
      subst (λ l. AreFacts old t l (opens_comment piece) facts') (append_assoc pieces g.done f.first)
      (made (pieces ++ g.done) f.first (subst (λ o. AreFacts old t (pieces ++ g.done) o facts) closed g.are) f.are (some_first piece f.first f.are f.some));
  has = f.has;
  all = g.all ∙ (ap (λ l. g.done ++ l) f.all ∙ sym (append_assoc g.done f.first f.more));
  opens = g.opens ∙ (ap (λ o. o || g.behind) closed ∙ f.opens);
  last = f.last;
} where
  closed : g.opened ≡ false
  closed = go g.opened g.last where
    go : (b : Bool) → (b ≡ true → rest ≡ []) → b ≡ false
    go false l = refl
    go true l = absurd (f.some (begin_nil (found_bytes piece) after (sym f.whole ∙ l refl)))

pub ends : (old : Renews) (t : Bool) (pieces more : List Piece) (is_open in_data : Bool) (rest : List ℕ) (facts : PieceFacts) → (g : GoesOn old t pieces more is_open facts in_data rest) → (g.others ≡ []) × (g.behind ≡ false) → AreFacts old t (pieces ++ more) is_open facts
ends old t pieces more is_open in_data rest facts g (none, closed) =
    subst (λ o. AreFacts old t (pieces ++ more) o facts) (sym (g.opens ∙ (ap (λ b. g.opened || b) closed ∙ or_none g.opened)))
    (subst (λ l. AreFacts old t (pieces ++ l) g.opened facts) (sym (g.all ∙ (ap (λ l. g.done ++ l) none ∙ append-nil g.done))) g.are)
