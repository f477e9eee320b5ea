-- Chunks of a page: each begins and ends with a tag, and one after the other they are read piece by piece.
use Rattle.std.proofs.Common.{◌≡◌, ◌≢◌, ℕ, Bool, true, false, true≢false, List, [], ◌∷◌, ◌++◌, map, None, refl, sym, ◌∙◌, ap}
use Rattle.std.proofs.lemmas.List.{append-nil}
use Rattle.html.specs.Values.{value_text}
use Rattle.html.specs.Places.{Place, InText, place_after, place_at_end}
use Rattle.sheet_reading.specs.Pages.{parts_from, parts_of, joined, resolved}
use Rattle.html.specs.Templates.{filled_from, filled}
use Rattle.html.specs.PlainTemplates.{is_template}
use Rattle.sheet_reading.proofs.Filling.{InPage, AreCalm, end-filled}
use Rattle.sheet_reading.proofs.FilledTexts.{fill_all, parts-filled}
use Rattle.html.proofs.Each.{Each}
use Rattle.sheet_reading.proofs.Parts.{parts-append, calm-end, calm-before, with_text}
use Rattle.sheet_reading.proofs.ValueTexts.{value-calm}
use Rattle.sheet_reading.specs.Elements.{Piece, tag_name, pieces_in, pieces_of, past_text}

-- ---- tags, each with the text after it
abbrev pub Tagged : Type 0
Tagged = List ℕ × List ℕ

abbrev pub flat : List Tagged → List (List ℕ)
flat [] = []
flat (one ∷ more) = one.0 ∷ one.1 ∷ flat more

-- those of parts that begin with a tag
abbrev pub tagged_in : List (List ℕ) → List Tagged
tagged_in (tag ∷ text ∷ parts) = (tag, text) ∷ tagged_in parts
tagged_in _ = []

-- those of parts that begin with a text
abbrev pub tagged_of : List (List ℕ) → List Tagged
tagged_of [] = []
tagged_of (text ∷ parts) = tagged_in parts

flat-append : (one other : List Tagged) → flat (one ++ other) ≡ flat one ++ flat other
flat-append [] other = refl
flat-append (first ∷ one) other = ap (λ t. first.0 ∷ first.1 ∷ t) (flat-append one other)

pieces-append : (one other : List Tagged) → pieces_in (flat (one ++ other)) ≡ pieces_in (flat one) ++ pieces_in (flat other)
pieces-append [] other = refl
pieces-append (first ∷ one) other = ap (λ t. record { tag = first.0; name = tag_name first.0; text = resolved first.1 } ∷ t) (pieces-append one other)

-- ---- chunks
pub record Chunk (page : List ℕ) (pieces : List Piece) : Type 0 where
  pub ends : place_at_end InText page ≡ InText
  pub tagged : List Tagged
  pub parts : parts_from InText page ≡ [] ∷ flat tagged
  pub are : pieces_in (flat tagged) ≡ pieces

pub chunk-pieces : (page : List ℕ) (pieces : List Piece) → Chunk page pieces → pieces_of page ≡ pieces
chunk-pieces page pieces h = ap past_text h.parts ∙ h.are

pub chunk-nothing : Chunk [] []
chunk-nothing = record { ends = refl; tagged = []; parts = refl; are = refl }

place-append : (place : Place) (one other : List ℕ) →
    place_at_end place (one ++ other) ≡ place_at_end (place_at_end place one) other
place-append place [] other = refl
place-append place (byte ∷ one) other = place-append (place_after place byte) one other

joined-tag : (first : List ℕ) (others more : List (List ℕ)) → joined (first ∷ others) ([] ∷ more) ≡ first ∷ (others ++ more)
joined-tag first [] more = ap (λ t. t ∷ more) (append-nil first)
joined-tag first (next ∷ others) more = ap (λ t. first ∷ t) (joined-tag next others more)

pub chunk-append : (page after : List ℕ) (one other : List Piece) → Chunk page one → Chunk after other →
    Chunk (page ++ after) (one ++ other)
chunk-append page after one other h k = record {
  ends = place-append InText page after ∙ (ap (λ p. place_at_end p after) h.ends ∙ k.ends);
  tagged = h.tagged ++ k.tagged;
  parts =
      parts-append InText page after h.ends
      ∙ (ap (λ p. joined p (parts_from InText after)) h.parts
      ∙ (ap (λ p. joined ([] ∷ flat h.tagged) p) k.parts
      ∙ (joined-tag [] (flat h.tagged) (flat k.tagged)
      ∙ ap (λ t. [] ∷ t) (sym (flat-append h.tagged k.tagged)))));
  are =
      pieces-append h.tagged k.tagged
      ∙ (ap (λ p. p ++ pieces_in (flat k.tagged)) h.are ∙ ap (λ p. one ++ p) k.are);
}

pub chunk-as : (page : List ℕ) (one other : List Piece) → one ≡ other → Chunk page one → Chunk page other
chunk-as page one other e h = record { ends = h.ends; tagged = h.tagged; parts = h.parts; are = h.are ∙ e }

-- ---- a text without a place for a value
pub chunk-constant : (page : List ℕ) (pieces : List Piece) → place_at_end InText page ≡ InText →
    parts_from InText page ≡ [] ∷ flat (tagged_of (parts_of page)) →
    pieces_in (flat (tagged_of (parts_of page))) ≡ pieces → Chunk page pieces
chunk-constant page pieces ends parts are =
    record { ends = ends; tagged = tagged_of (parts_of page); parts = parts; are = are }

-- ---- a template with its values
module _ (values : List ℕ → List ℕ) where
  abbrev texts : List ℕ → List ℕ
  texts name = value_text (values name)

  calm : AreCalm texts
  calm name = value-calm (values name)

  abbrev pub fill_one : Tagged → Tagged
  fill_one one = (filled_from texts None one.0, filled_from texts None one.1)

  abbrev pub fill_all_tagged : List Tagged → List Tagged
  fill_all_tagged [] = []
  fill_all_tagged (one ∷ more) = fill_one one ∷ fill_all_tagged more

  flat-filled : (tagged : List Tagged) → map (filled_from texts None) (flat tagged) ≡ flat (fill_all_tagged tagged)
  flat-filled [] = refl
  flat-filled (one ∷ more) = ap (λ t. filled_from texts None one.0 ∷ filled_from texts None one.1 ∷ t) (flat-filled more)

  pub filled-parts : (template : List ℕ) (tagged : List Tagged) → is_template template ≡ true →
      parts_from InText template ≡ [] ∷ flat tagged →
      parts_from InText (filled values template) ≡ [] ∷ flat (fill_all_tagged tagged)
  unfolding filled is_template
  filled-parts template tagged is parts =
      parts-filled texts calm template (InPage InText) is
      ∙ (fill_all texts calm (parts_from InText template)
      ∙ (ap (map (filled_from texts None)) parts
      ∙ ap (λ t. [] ∷ t) (flat-filled tagged)))

  pub chunk-filled : (template : List ℕ) (pieces : List Piece) → is_template template ≡ true →
      parts_from InText template ≡ [] ∷ flat (tagged_of (parts_of template)) →
      pieces_in (flat (fill_all_tagged (tagged_of (parts_of template)))) ≡ pieces → Chunk (filled values template) pieces
  unfolding filled is_template
  chunk-filled template pieces is parts are = record {
    ends = end-filled texts calm template (InPage InText) is;
    tagged = fill_all_tagged (tagged_of (parts_of template));
    parts = filled-parts template (tagged_of (parts_of template)) is parts;
    are = are;
  }

  pub filled-ends : (template : List ℕ) → is_template template ≡ true → place_at_end InText (filled values template) ≡ InText
  unfolding filled is_template
  filled-ends template is = end-filled texts calm template (InPage InText) is

-- ---- two chunks with a text between them
-- the last text with another one after it
abbrev pub with_last : List ℕ → List Tagged → List Tagged
with_last text [] = []
with_last text (one ∷ []) = (one.0, one.1 ++ text) ∷ []
with_last text (one ∷ next ∷ more) = one ∷ with_last text (next ∷ more)

abbrev pub has_tag : List Tagged → Bool
has_tag [] = false
has_tag (one ∷ more) = true

joined-text : (first : List ℕ) (tagged : List Tagged) (text : List ℕ) (others : List (List ℕ)) → has_tag tagged ≡ true →
    joined (first ∷ flat tagged) (text ∷ others) ≡ first ∷ (flat (with_last text tagged) ++ others)
joined-text first [] text others h = absurd (true≢false (sym h))
joined-text first (one ∷ []) text others h = refl
joined-text first (one ∷ next ∷ more) text others h =
    ap (λ t. first ∷ one.0 ∷ t) (joined-text one.1 (next ∷ more) text others refl)

pub chunk-text : (page text after : List ℕ) (one other : List Tagged) (pieces : List Piece) → place_at_end InText page ≡ InText →
    parts_from InText page ≡ [] ∷ flat one → has_tag one ≡ true → Each (λ byte. byte ≢ 60) text →
    place_at_end InText after ≡ InText → parts_from InText after ≡ [] ∷ flat other →
    pieces_in (flat (with_last (text ++ []) one ++ other)) ≡ pieces → Chunk (page ++ (text ++ after)) pieces
chunk-text page text after one other pieces ends parts some calm_text after_ends after_parts are = record {
  ends =
      place-append InText page (text ++ after)
      ∙ (ap (λ p. place_at_end p (text ++ after)) ends ∙ (calm-end text after calm_text ∙ after_ends));
  tagged = with_last (text ++ []) one ++ other;
  parts =
      parts-append InText page (text ++ after) ends
      ∙ (ap (λ p. joined p (parts_from InText (text ++ after))) parts
      ∙ (ap (joined ([] ∷ flat one)) (calm-before text after calm_text ∙ ap (with_text text) after_parts)
      ∙ (joined-text [] one (text ++ []) (flat other) some
      ∙ ap (λ t. [] ∷ t) (sym (flat-append (with_last (text ++ []) one) other)))));
  are = are;
}
