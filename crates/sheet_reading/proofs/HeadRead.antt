-- What is read of a sheet's head.
use Rattle.std.proofs.Common.{◌≡◌, ◌≢◌, ℕ, true, cond, not, eqb, List, [], ◌∷◌, ◌++◌, refl, ◌∙◌, ap}
use Rattle.std.specs.Prelude.{codes}
use Rattle.std.specs.List.{list_all}
use Rattle.std.proofs.lemmas.Bool.{and_parts, not-true, eqb-false}
use Rattle.std.proofs.lemmas.List.{append-nil}
use Rattle.board_conditions.specs.Titles.{TitleValues}
use Rattle.html.specs.Places.{InText}
use Rattle.sheet_reading.specs.Pages.{parts_from, resolved, parts_of}
use Rattle.html.specs.Templates.{filled}
use Rattle.html.specs.PlainTemplates.{is_template}
use Rattle.html.proofs.Each.{Each}
use Rattle.sheets.specs.declared.templates.TheConstants.{HEAD, STYLE, BODY}
use Rattle.sheets.specs.Headings.{title_shown, title_value}
use Rattle.sheets.specs.Pages.{head_text}
use Rattle.sheet_reading.specs.Elements.{past_start, attribute_in, Piece, pieces_in}
use Rattle.sheet_reading.specs.SheetReading.{said_or_nothing, policies_in, notes_in}
use Rattle.sheet_reading.specs.Laws.{said, key_words, notes_said, IsPolicy}
use Rattle.sheet_reading.proofs.Alternating.{begins-with-tag}
use Rattle.sheet_reading.proofs.Chunks.{Tagged, flat, Chunk, with_last, has_tag, tagged_of, fill_all_tagged, filled-ends, filled-parts, chunk-text}
use Rattle.sheet_reading.proofs.SaidTexts.{value-said}
use Rattle.sheet_reading.proofs.TemplatePieces.{piece_with, piece, attribute, of_class, line_feed, value_read}

-- what stands before the name of the event
abbrev pub title_words : List ℕ
title_words = codes "Hand record "

-- ---- the tags of the head
abbrev pub head_tags : List Tagged
head_tags = tagged_of (parts_of HEAD.now)

abbrev fifth_tag : List Tagged → List ℕ
fifth_tag (a ∷ b ∷ c ∷ d ∷ e ∷ more) = e.0
fifth_tag _ = []

abbrev pub policy_tag : List ℕ
policy_tag = fifth_tag head_tags

abbrev pub head_pieces : List ℕ → List ℕ → List ℕ → List ℕ → List Piece
head_pieces event style site date =
    piece_with (codes " html") (codes "!DOCTYPE") line_feed
    ∷ piece_with (attribute (codes "lang") (codes "en")) (codes "html") line_feed ∷ piece (codes "head") line_feed
    ∷ piece_with (attribute (codes "charset") (codes "utf-8")) (codes "meta") line_feed
    ∷ record { tag = policy_tag; name = codes "meta"; text = line_feed }
    ∷ piece_with
    (attribute (codes "name") (codes "viewport") ++ attribute (codes "content") (codes "width=device-width, initial-scale=1"))
    (codes "meta") line_feed
    ∷ piece (codes "title") (title_words ++ event) ∷ piece (codes "/title") line_feed
    ∷ piece (codes "style") style ∷ piece (codes "/style") line_feed ∷ piece (codes "/head") line_feed
    ∷ piece (codes "body") line_feed ∷ piece (codes "header") line_feed
    ∷ piece (codes "h1") title_words ∷ piece (codes "bdi") event ∷ piece (codes "/bdi") [] ∷ piece (codes "/h1") line_feed
    ∷ piece (codes "p") [] ∷ piece (codes "bdi") site ∷ piece (codes "/bdi") (codes " ") ∷ piece (codes "bdi") date
    ∷ piece (codes "/bdi") [] ∷ piece (codes "/p") line_feed ∷ of_class (codes "key") (codes "p") key_words
    ∷ piece (codes "/p") line_feed ∷ piece (codes "/header") line_feed
    ∷ piece (codes "main") [] ∷ []

-- ---- the templates of the head
head-is : is_template HEAD.now ≡ true
unfolding is_template
head-is = refl

body-is : is_template BODY.now ≡ true
unfolding is_template
body-is = refl

abbrev pub body_tags : List Tagged
body_tags = tagged_of (parts_of BODY.now)

head-parts : parts_from InText HEAD.now ≡ [] ∷ flat head_tags
head-parts = begins-with-tag HEAD.now refl refl

body-parts : parts_from InText BODY.now ≡ [] ∷ flat body_tags
body-parts = begins-with-tag BODY.now refl refl

has-head : (values : List ℕ → List ℕ) → has_tag (fill_all_tagged values head_tags) ≡ true
has-head values = refl

abbrev styled_pieces : (List ℕ → List ℕ) → List ℕ → List Piece
styled_pieces values style =
    pieces_in (flat (with_last (style ++ []) (fill_all_tagged values head_tags) ++ fill_all_tagged values body_tags))

styled-are : (values : List ℕ → List ℕ) (style : List ℕ) →
    styled_pieces values style
    ≡ head_pieces (value_read values (codes "event")) (resolved (style ++ [])) (value_read values (codes "site"))
    (value_read values (codes "date"))
styled-are values style = refl

-- ---- the head
-- whatever the style is
styled-chunk : (values : List ℕ → List ℕ) (style : List ℕ) → Each (λ byte. byte ≢ 60) style →
    Chunk (filled values HEAD.now ++ (style ++ filled values BODY.now))
    (head_pieces (value_read values (codes "event")) (resolved (style ++ [])) (value_read values (codes "site"))
    (value_read values (codes "date")))
styled-chunk values style calm =
    chunk-text (filled values HEAD.now) style (filled values BODY.now)
    (fill_all_tagged values head_tags) (fill_all_tagged values body_tags)
    (head_pieces (value_read values (codes "event")) (resolved (style ++ [])) (value_read values (codes "site"))
    (value_read values (codes "date")))
    (filled-ends values HEAD.now head-is) (filled-parts values HEAD.now head_tags head-is head-parts) (has-head values) calm
    (filled-ends values BODY.now body-is) (filled-parts values BODY.now body_tags body-is body-parts) (styled-are values style)

calm-from : (text : List ℕ) → list_all (λ byte. not (eqb byte 60)) text ≡ true → Each (λ byte. byte ≢ 60) text
calm-from [] h = tt
calm-from (byte ∷ text) h =
    let parts = and_parts (not (eqb byte 60)) (list_all (λ byte. not (eqb byte 60)) text) h in
    (eqb-false byte 60 (not-true (eqb byte 60) parts.0), calm-from text parts.1)

style-calm : Each (λ byte. byte ≢ 60) STYLE.now
style-calm = calm-from STYLE.now refl

-- the text of the style, in a page
pub style_read : List ℕ
style_read = resolved (STYLE.now ++ [])

abbrev pub head_in : TitleValues → List Piece
head_in head =
    head_pieces (value_read (title_value head) (codes "event")) style_read
    (value_read (title_value head) (codes "site")) (value_read (title_value head) (codes "date"))

pub head-chunk : (head : TitleValues) → Chunk (head_text head) (head_in head)
unfolding head_text style_read
head-chunk head = styled-chunk (title_value head) STYLE.now style-calm

-- ---- what is read of it
-- the hash in the policy
abbrev up_to_apostrophe : List ℕ → List ℕ
up_to_apostrophe [] = []
up_to_apostrophe (byte ∷ bytes) = cond (eqb byte 39) [] (byte ∷ up_to_apostrophe bytes)

abbrev head_hash : List ℕ
head_hash =
    up_to_apostrophe (said_or_nothing (past_start (codes "default-src 'none';\n  style-src 'sha256-")
    (said_or_nothing (attribute_in (codes "content") policy_tag))))

pub policy-read : (head : TitleValues) (others : List Piece) → IsPolicy (policies_in (head_in head ++ others))
policy-read head others = record { hash = head_hash; is_hash = refl; is = refl }

pub notes-read : (head : TitleValues) (others : List Piece) → notes_in (head_in head ++ others) ≡ notes_said head
notes-read head others =
    let site = value_read (title_value head) (codes "site") in
    let date = value_read (title_value head) (codes "date") in
    ap (λ t. (site ++ (codes " " ++ t)) ∷ key_words ∷ []) (append-nil date)
    ∙ (ap (λ t. (t ++ (codes " " ++ date)) ∷ key_words ∷ []) (value-said (title_shown head.site))
    ∙ ap (λ t. (said (title_shown head.site) ++ (codes " " ++ t)) ∷ key_words ∷ []) (value-said (title_shown head.date)))
