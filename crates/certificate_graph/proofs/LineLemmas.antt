-- The line of a node at the beginning of a text.
use Rattle.std.proofs.Common.{◌≡◌, ℕ, List, ◌∷◌, sym, ◌∙◌, ap, arith}
use Rattle.cards.specs.declared.seats.Seat.{Seat}
use Rattle.patterns.specs.Shapes.{Shape}
use Rattle.certificate_graph.specs.Trees.{TrickTree}
use Rattle.certificate_graph.specs.Texts.{claim_text, pattern_text, tree_text}
use Rattle.certificate_graph.specs.TextFaults.{BeginsNode, LacksNode}
use Rattle.certificate_graph.specs.Readings.{seat_text, len_text, IsLen, Begins, BeginsClaim, LacksClaim, BeginsPattern, LacksPattern, BeginsTree, LacksTree}
use Rattle.certificate_graph.proofs.OneNode.{one_claim, one_pattern, one_tree}
use Rattle.certificate_graph.proofs.LeafLemmas.{LacksByte}

pub claim_zero : (text : List ℕ) (lead : Seat) (after next : List ℕ) (need : ℕ) (rest : List ℕ) → text ≡ seat_text lead after → after ≡ 32 ∷ next → Begins IsLen (len_text 32) next need rest → need ≡ 0 → LacksClaim text
claim_zero text lead after next need rest seat blank len zero other n more begins =
    let same = one_claim lead other need n rest more len.good begins.is_need.1
    (sym (seat ∙ ap (seat_text lead) (blank ∙ ap (λ t. 32 ∷ t) len.is)) ∙ begins.is) in
    omega (arith, same.1, begins.is_need.0)

pub node_by_suits : (text : List ℕ) (lead : Seat) (need : ℕ) (after : List ℕ) → BeginsClaim text lead need after → LacksPattern after → LacksNode text
node_by_suits text lead need after claim lacks node rest begins =
    let same = one_claim lead node.lead need node.need _ _ claim.is_need.1 begins.form.need.1 (sym claim.is ∙ begins.is) in
    lacks node.pattern _ (record { form = begins.form.pattern; is = same.2 })

pub node_by_tree : (text : List ℕ) (lead : Seat) (need : ℕ) (after : List ℕ) (pattern : Shape) (next : List ℕ) → BeginsClaim text lead need after → BeginsPattern after pattern next → LacksTree 4 next → LacksNode text
node_by_tree text lead need after pattern next claim suits lacks node rest begins =
    let same = one_claim lead node.lead need node.need _ _ claim.is_need.1 begins.form.need.1 (sym claim.is ∙ begins.is) in
    let shape = one_pattern pattern node.pattern next _ suits.form begins.form.pattern (sym suits.is ∙ same.2) in
    lacks node.tree _ (record { good = begins.form.tree; is = shape.1 })

pub node_by_end : (text : List ℕ) (lead : Seat) (need : ℕ) (after : List ℕ) (pattern : Shape) (next : List ℕ) (tree : TrickTree) (end : List ℕ) → BeginsClaim text lead need after → BeginsPattern after pattern next → BeginsTree 4 next tree end → LacksByte 10 end → LacksNode text
node_by_end text lead need after pattern next tree end claim suits of_tree lacks node rest begins =
    let same = one_claim lead node.lead need node.need _ _ claim.is_need.1 begins.form.need.1 (sym claim.is ∙ begins.is) in
    let shape = one_pattern pattern node.pattern next _ suits.form begins.form.pattern (sym suits.is ∙ same.2) in
    let below = one_tree tree node.tree 4 4 end _ of_tree.good.form begins.form.tree.form of_tree.good.numbers begins.form.tree.numbers (sym of_tree.is ∙ shape.1) in
    lacks rest below.1

pub node_begun : (text : List ℕ) (lead : Seat) (need : ℕ) (after : List ℕ) (pattern : Shape) (next : List ℕ) (tree : TrickTree) (end rest : List ℕ) →
    BeginsClaim text lead need after → BeginsPattern after pattern next → BeginsTree 4 next tree end → end ≡ 10 ∷ rest →
    BeginsNode text (record { pattern = pattern; lead = lead; need = need; tree = tree }) rest
node_begun text lead need after pattern next tree end rest claim suits of_tree ended = record {
  form = record { pattern = suits.form; need = claim.is_need; tree = of_tree.good };
  is = claim.is ∙ ap (claim_text lead need) (suits.is ∙ ap (λ t. pattern_text pattern (32 ∷ t)) (of_tree.is ∙ ap (tree_text tree) ended));
}
