-- The parts of a page that ends between tags are a text, and then tags, each with the text after it.
use Rattle.std.proofs.Common.{◌≡◌, ℕ, Bool, true, false, true≢false, List, [], ◌∷◌, refl, sym, ◌∙◌, ap}
use Rattle.html.specs.Places.{Place, InText, InTag, InQuotes, is_text, place_after, place_at_end}
use Rattle.sheet_reading.specs.Pages.{with_byte, parts_with, parts_from, parts_of}
use Rattle.sheet_reading.proofs.Chunks.{Tagged, flat, tagged_in, tagged_of}

-- from a place in a text on, or from a place in a tag
abbrev Alternates : Bool → List (List ℕ) → Type 0
Alternates true parts = (first : List ℕ) × (tagged : List Tagged) × (parts ≡ first ∷ flat tagged)
Alternates false parts = (tag : List ℕ) × (text : List ℕ) × (tagged : List Tagged) × (parts ≡ tag ∷ text ∷ flat tagged)

step : (before after : Bool) (byte : ℕ) (parts : List (List ℕ)) → Alternates after parts →
    Alternates before (parts_with before after byte parts)
step true true byte parts (first, tagged, are) = (byte ∷ first, tagged, ap (with_byte byte) are)
step true false byte parts (tag, text, tagged, are) =
    ([], (byte ∷ tag, text) ∷ tagged, ap (λ t. [] ∷ with_byte byte t) are)
step false true byte parts (first, tagged, are) = (byte ∷ [], first, tagged, ap (λ t. (byte ∷ []) ∷ t) are)
step false false byte parts (tag, text, tagged, are) = (byte ∷ tag, text, tagged, ap (with_byte byte) are)

alternate : (place : Place) (page : List ℕ) → place_at_end place page ≡ InText → Alternates (is_text place) (parts_from place page)
alternate InText [] e = ([], [], refl)
alternate InTag [] e = absurd (true≢false (sym (ap is_text e)))
alternate (InQuotes quote) [] e = absurd (true≢false (sym (ap is_text e)))
alternate place (byte ∷ page) e =
    step (is_text place) (is_text (place_after place byte)) byte (parts_from (place_after place byte) page)
    (alternate (place_after place byte) page e)

in-flat : (tagged : List Tagged) → tagged_in (flat tagged) ≡ tagged
in-flat [] = refl
in-flat (one ∷ more) = ap (λ t. one ∷ t) (in-flat more)

of-parts : (first : List ℕ) (tagged : List Tagged) (parts : List (List ℕ)) → parts ≡ first ∷ flat tagged →
    parts ≡ first ∷ flat (tagged_of parts)
of-parts first tagged parts are =
    are ∙ ap (λ t. first ∷ flat t) (sym (in-flat tagged) ∙ sym (ap tagged_of are))

abbrev pub past_first : List ℕ → List ℕ
past_first [] = []
past_first (byte ∷ bytes) = bytes

abbrev first_part : List (List ℕ) → List ℕ
first_part [] = []
first_part (part ∷ parts) = part

-- a page that begins with a tag
pub begins-with-tag : (page : List ℕ) → page ≡ 60 ∷ past_first page → place_at_end InText page ≡ InText →
    parts_from InText page ≡ [] ∷ flat (tagged_of (parts_of page))
begins-with-tag page is ends =
    let (first, tagged, are) = alternate InText page ends in
    let none : [] ≡ first = sym (ap (λ p. first_part (parts_from InText p)) is) ∙ ap first_part are in
    of-parts [] tagged (parts_from InText page) (are ∙ ap (λ f. f ∷ flat tagged) (sym none))
