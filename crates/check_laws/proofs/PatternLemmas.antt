-- Suits and patterns at the beginning of a text.
use Rattle.std.proofs.Common.{◌≡◌, ℕ, ◌-◌, List, [], ◌∷◌, refl, ◌∙◌, ap, arith}
use Rattle.cards.specs.declared.suits.Suit.TheVariants.{Spades, Hearts, Diamonds, Clubs}
use Rattle.patterns.specs.Shapes.{SuitShape, Shape}
use Rattle.certificate_graph.specs.Texts.{suit_text}
use Rattle.certificate_graph.specs.Readings.{len_text, IsLen, Begins, LacksOwners, BeginsTwo, BeginsLens, LacksLens, BeginsSuit, LacksSuit, BeginsTwoSuits, LacksTwoSuits, BeginsPattern}
use Rattle.certificate_graph.proofs.LeafLemmas.{LacksByte}
use Rattle.certificate_graph.proofs.PatternLemmas.{lens_low}

pub owners_by_room : (room : ℕ) (text : List ℕ) → LacksByte 32 text → room ≡ 0 → LacksOwners room text
owners_by_room room text blank none [] rest few e = blank rest e
owners_by_room room text blank none (owner ∷ more) rest few e = omega arith

pub two_read : (first second : ℕ) (text : List ℕ) (one other : ℕ) (after rest : List ℕ) → Begins IsLen (len_text first) text one after → Begins IsLen (len_text second) after other rest → BeginsTwo first second text one other rest
two_read first second text one other after rest a b = record {
  low = a.good;
  also = b.good;
  is = a.is ∙ ap (len_text first one) b.is;
}

pub lens_read : (text : List ℕ) (a b c d : ℕ) (after rest : List ℕ) → BeginsTwo 46 46 text a b after → BeginsTwo 46 47 after c d rest → BeginsLens text (a ∷ b ∷ c ∷ d ∷ []) rest
lens_read text a b c d after rest x y = record {
  four = refl;
  low = lens_low a b c d x.low x.also y.low y.also;
  is = x.is ∙ ap (λ t. len_text 46 a (len_text 46 b t)) y.is;
}

-- ---- suits
pub suit_by_lens : (text : List ℕ) → LacksLens text → LacksSuit text
suit_by_lens text lacks suit rest begins = lacks suit.lens _ (record { four = begins.form.four; low = begins.form.lens; is = begins.is })

pub two_suits_by_first : (text : List ℕ) → LacksSuit text → LacksTwoSuits text
two_suits_by_first text lacks first second rest begins = lacks first _ (record { form = begins.form; is = begins.is })

pub two_suits_read : (text : List ℕ) (first second : SuitShape) (after rest : List ℕ) → BeginsSuit text first after → BeginsSuit after second rest → BeginsTwoSuits text first second rest
two_suits_read text first second after rest a b = record {
  form = a.form;
  also = b.form;
  is = a.is ∙ ap (λ t. suit_text first (32 ∷ t)) b.is;
}

pub pattern_read : (text : List ℕ) (pattern : Shape) (after rest : List ℕ) → BeginsTwoSuits text pattern.spades pattern.hearts after → BeginsTwoSuits after pattern.diamonds pattern.clubs rest → BeginsPattern text pattern rest
pattern_read text pattern after rest a b = record {
  form = elim [ Spades ↦ a.form | Hearts ↦ a.also | Diamonds ↦ b.form | Clubs ↦ b.also ];
  is = a.is ∙ ap (λ t. suit_text pattern.spades (32 ∷ suit_text pattern.hearts (32 ∷ t))) b.is;
}
