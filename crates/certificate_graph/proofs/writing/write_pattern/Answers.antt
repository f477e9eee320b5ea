use Rattle.std.proofs.Common.{◌≡◌, ℕ, List, [], ◌∷◌, ◌++◌, sym, append_assoc, ◌∙◌, ap}
use Rattle.patterns.specs.Shapes.{SuitShape, Shape}
use Rattle.certificate_graph.specs.Texts.{suit_text, pattern_text}
use Rattle.certificate_graph.proofs.TextParts.{suit-cut}
use Rattle.cards.proofs.WriteLemmas.{AddsBeginning-then, Writes-then}
use Rattle.certificate_graph.proofs.WriteLemmas.{writes_same, stops_within}
use Rattle.certificate_graph.proofs.writing.write_pattern.Goals as goal

-- a suit and a blank, and a text after them
next : (suit : SuitShape) (text : List ℕ) → suit_text suit (32 ∷ []) ++ text ≡ suit_text suit (32 ∷ text)
next suit text = sym (suit-cut suit (32 ∷ []) text)

-- the text after the first suit, the second and the third
abbrev third : Shape → List ℕ
third shape = suit_text shape.clubs []

abbrev second : Shape → List ℕ
second shape = suit_text shape.diamonds (32 ∷ third shape)

abbrev first : Shape → List ℕ
first shape = suit_text shape.hearts (32 ∷ second shape)

abbrev piece : SuitShape → List ℕ
piece suit = suit_text suit (32 ∷ [])

two : (shape : Shape) → piece shape.spades ++ (piece shape.hearts ++ second shape) ≡ pattern_text shape []
two shape = ap (λ t. piece shape.spades ++ t) (next shape.hearts (second shape)) ∙ next shape.spades (first shape)

three : (shape : Shape) → piece shape.spades ++ (piece shape.hearts ++ (piece shape.diamonds ++ third shape)) ≡ pattern_text shape []
three shape = ap (λ t. piece shape.spades ++ (piece shape.hearts ++ t)) (next shape.diamonds (third shape)) ∙ two shape

pub returns-in_err-write_suit_and_blank : goal.returns-in_err-write_suit_and_blank
returns-in_err-write_suit_and_blank g c =
    let shape = c.args.pattern.now in
    stops_within _ _ c.from_residual.result _ (first shape) c.from_residual.ensures.1 (next shape.spades (first shape)) c.in_err-write_suit_and_blank.ensures

pub returns-in_err-write_suit_and_blank-2 : goal.returns-in_err-write_suit_and_blank-2
returns-in_err-write_suit_and_blank-2 g c =
    let shape = c.args.pattern.now in
    stops_within _ _ c.from_residual-in_err-write_suit_and_blank-2.result _ (second shape) c.from_residual-in_err-write_suit_and_blank-2.ensures.1
    (append_assoc (piece shape.spades) (piece shape.hearts) (second shape) ∙ two shape)
    (AddsBeginning-then c.in_ok-write_suit_and_blank.ensures c.in_err-write_suit_and_blank-2.ensures)

pub returns-in_err-write_suit_and_blank-3 : goal.returns-in_err-write_suit_and_blank-3
returns-in_err-write_suit_and_blank-3 g c =
    let shape = c.args.pattern.now in
    stops_within _ _ c.from_residual-in_err-write_suit_and_blank-3.result _ (third shape) c.from_residual-in_err-write_suit_and_blank-3.ensures.1
    (append_assoc (piece shape.spades) (piece shape.hearts ++ piece shape.diamonds) (third shape)
    ∙ (ap (λ t. piece shape.spades ++ t) (append_assoc (piece shape.hearts) (piece shape.diamonds) (third shape)) ∙ three shape))
    (AddsBeginning-then c.in_ok-write_suit_and_blank.ensures (AddsBeginning-then c.in_ok-write_suit_and_blank-2.ensures c.in_err-write_suit_and_blank-3.ensures))

pub returns : goal.returns
returns g c =
    let done = c.write_suit.result in
    writes_same _ _ done (three c.args.pattern.now)
    (Writes-then done _ _ c.in_ok-write_suit_and_blank.ensures (Writes-then done _ _ c.in_ok-write_suit_and_blank-2.ensures
    (Writes-then done _ _ c.in_ok-write_suit_and_blank-3.ensures c.write_suit.ensures)))
