-- Two texts with the same markup, both of which end outside of their tags: what they are made of.
use Rattle.std.proofs.Common.{◌≡◌, ℕ, Bool, true, false, true≢false, cond, List, [], ◌∷◌, ◌++◌, refl, sym, ◌∙◌, ap, ap₂}
use Rattle.html.specs.Values.{value_text}
use Rattle.html.specs.Places.{Place, InText, place_after, place_at_end}
use Rattle.sheet_reading.specs.Pages.{markup_of}
use Rattle.html.specs.Templates.{filled}
use Rattle.html.specs.PlainTemplates.{is_template}
use Rattle.sheet_reading.proofs.Parts.{tags-append}
use Rattle.sheet_reading.proofs.Filling.{InPage, same-filled, end-filled}
use Rattle.sheet_reading.proofs.ValueTexts.{value-calm}

pub record SameMarkup (one other : List ℕ) : Type 0 where
  pub markup : markup_of one ≡ markup_of other
  pub one_ends : place_at_end InText one ≡ InText
  pub other_ends : place_at_end InText other ≡ InText

-- ---- one text after the other
end-append : (place : Place) (one other : List ℕ) → place_at_end place (one ++ other) ≡ place_at_end (place_at_end place one) other
end-append place [] other = refl
end-append place (byte ∷ one) other = end-append (place_after place byte) one other

end-both : (one other : List ℕ) → place_at_end InText one ≡ InText → place_at_end InText other ≡ InText →
    place_at_end InText (one ++ other) ≡ InText
end-both one other h k = end-append InText one other ∙ (ap (λ p. place_at_end p other) h ∙ k)

pub then : {first second third fourth : List ℕ} → SameMarkup first second → SameMarkup third fourth →
    SameMarkup (first ++ third) (second ++ fourth)
then {first} {second} {third} {fourth} a b = record {
  markup =
      tags-append InText first third a.one_ends
      ∙ (ap₂ (λ t u. t ++ u) a.markup b.markup ∙ sym (tags-append InText second fourth a.other_ends));
  one_ends = end-both first third a.one_ends b.one_ends;
  other_ends = end-both second fourth a.other_ends b.other_ends;
}

-- ---- one text
pub same-text : (text : List ℕ) → place_at_end InText text ≡ InText → SameMarkup text text
same-text text h = record { markup = refl; one_ends = h; other_ends = h }

pub same-nothing : SameMarkup [] []
same-nothing = same-text [] refl

-- a template with these values and with others
pub same-template : (template : List ℕ) → is_template template ≡ true → (values others : List ℕ → List ℕ) →
    SameMarkup (filled values template) (filled others template)
unfolding filled is_template
same-template template h values others = record {
  markup =
      same-filled (λ name. value_text (values name)) (λ name. value_text (others name))
      (λ name. value-calm (values name)) (λ name. value-calm (others name)) template (InPage InText) h;
  one_ends = end-filled (λ name. value_text (values name)) (λ name. value-calm (values name)) template (InPage InText) h;
  other_ends = end-filled (λ name. value_text (others name)) (λ name. value-calm (others name)) template (InPage InText) h;
}

-- ---- one of two texts
pub same-choice : {first second third fourth : List ℕ} (one other : Bool) → one ≡ other → (one ≡ true → other ≡ true → SameMarkup first third) →
    (SameMarkup second fourth) → SameMarkup (cond one first second) (cond other third fourth)
same-choice true true e h k = h refl refl
same-choice true false e h k = absurd (true≢false e)
same-choice false true e h k = absurd (true≢false (sym e))
same-choice false false e h k = k
