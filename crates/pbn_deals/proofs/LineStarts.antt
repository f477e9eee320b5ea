-- What a line is, by its beginning.
use Rattle.std.proofs.Common.{◌≡◌, ℕ, Bool, true, false, List, [], ◌∷◌, ◌++◌, refl, sym, ◌∙◌, ap, subst, append_assoc}
use Rattle.pbn_deals.specs.DealValue.{is_word}
use Rattle.pbn_deals.specs.Lines.{is_escaped, is_blank_line}
use Rattle.pbn_deals.specs.Reading.{Lacks}
use Rattle.pbn_deals.specs.Pieces.{Comment, HasPieces, Kind, OfGame, LineIs, is_of_game, is_in_comment, closes_comment}
use Rattle.pbn_deals.specs.FirstPieces.{comment_before, IsOfGame}
use Rattle.pbn_deals.proofs.LinesOfText.{one_line}
use Rattle.pbn_deals.proofs.SomePieces.{pieced}

pub comment_start : (is_open : Bool) (line : List ℕ) (kind : Kind) (last : Bool) → is_open ≡ true → Lacks 125 line → LineIs is_open line kind last → (is_open ≡ true) × (kind ≡ OfGame (Comment line ∷ [])) × (last ≡ true)
comment_start is_open line kind last o l h = let same = one_line (subst (λ x. LineIs x line kind last) o h) (is_in_comment l) in (o, same.0, same.1)

pub game_start : (is_open : Bool) (line : List ℕ) (kind : Kind) (last : Bool) → is_open ≡ false → is_escaped line ≡ false → is_blank_line line ≡ false → LineIs is_open line kind last → IsOfGame is_open line [] line kind last
game_start is_open line kind last o e b h =
    let p = pieced false line in
    let same = one_line (subst (λ x. LineIs x line kind last) o h) (is_of_game e b p.has) in
    record { whole = refl; has_comment = sym o; pieces = p.pieces; are = same.0; has = subst (λ x. HasPieces false line p.pieces x) (sym same.1) p.has }

some_before : (text : List ℕ) → comment_before (text ++ 125 ∷ []) ≡ Comment (text ++ 125 ∷ []) ∷ []
some_before [] = refl
some_before (byte ∷ bytes) = refl

word_before : (text : List ℕ) → is_word (text ++ 125 ∷ []) ≡ true
word_before [] = refl
word_before (byte ∷ bytes) = refl

closed_here : (is_open : Bool) (line text rest : List ℕ) (kind : Kind) (last : Bool) → is_open ≡ true → line ≡ text ++ 125 ∷ rest → Lacks 125 text → LineIs is_open line kind last → IsOfGame is_open line (text ++ 125 ∷ []) rest kind last
closed_here is_open line text rest kind last o e l h =
    let p = pieced false rest in
    let same = one_line (subst (λ x. LineIs x line kind last) o h) (closes_comment text e l p.has) in
    record {
      whole = e ∙ sym (append_assoc text (125 ∷ []) rest);
      has_comment = word_before text ∙ sym o;
      pieces = p.pieces;
      are = same.0 ∙ ap (λ c. OfGame (c ++ p.pieces)) (sym (some_before text));
      has = subst (λ x. HasPieces false rest p.pieces x) (sym same.1) p.has;
    }

pub closed_start : (is_open : Bool) (line text rest comment : List ℕ) (kind : Kind) (last : Bool) → is_open ≡ true → line ≡ text ++ 125 ∷ rest → Lacks 125 text → ((front : List ℕ) → line ≡ front ++ rest → comment ≡ front) → LineIs is_open line kind last → IsOfGame is_open line comment rest kind last
closed_start is_open line text rest comment kind last o e l cut h =
    subst (λ c. IsOfGame is_open line c rest kind last) (sym (cut (text ++ 125 ∷ []) (e ∙ sym (append_assoc text (125 ∷ []) rest))))
    (closed_here is_open line text rest kind last o e l h)
