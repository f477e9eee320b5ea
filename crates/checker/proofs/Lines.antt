-- The beginnings of lines, card by card.
use Rattle.std.proofs.Common.{◌≡◌, List, [], ◌∷◌, ◌++◌, length, inl, inr, arith}
use Rattle.std.proofs.lemmas.Bool.{cases_lt}
use Rattle.std.proofs.lemmas.List.{take-append-le, length-append}
use Rattle.std.proofs.Math.Seq.{take-append_seam, get_or-append_seam}
use Rattle.std.proofs.Math.ListN.{get_or-append}
use Rattle.cards.specs.declared.suits.Suit.TheVariants.{Spades}
use Rattle.pattern_step.specs.declared.pat_cards.PatCard.{PatCard}
use Rattle.pattern_step.specs.declared.pat_cards.PatCard.TheVariants.{Top}
use Rattle.pattern_step.specs.Tricks.{AreLegalInTurn}
use Rattle.certificate_graph.specs.declared.nodes.Node.{Node}
use Rattle.checker.specs.Steps.{MayComeNext, BeginLine}

-- no cards begin a line
pub no_cards_begin : (node : Node) → BeginLine node []
no_cards_begin node place less = absurd (omega arith)

-- and cards that do, with one more that is legal after them
pub one_more_begins : (node : Node) (cards : List PatCard) (card : PatCard) → BeginLine node cards → MayComeNext node cards card → BeginLine node (cards ++ card ∷ [])
one_more_begins node cards card begun legal place less =
    elim (cases_lt place (length cards)) [
      | inl before ↦ rw (take-append-le place cards (card ∷ []) (omega arith), get_or-append cards (card ∷ []) (Top Spades 0) place before) (begun place before)
      | inr last ↦ (let is : place ≡ length cards = omega (arith, length-append cards (card ∷ [])) in
          rw (is, take-append_seam cards (card ∷ []), get_or-append_seam cards card [] (Top Spades 0)) legal)
    ]

-- four of them are legal in turn
pub four_are_legal : (node : Node) (cards : List PatCard) → length cards ≡ 4 → BeginLine node cards → AreLegalInTurn node.pattern node.lead cards
four_are_legal node cards four begun place less = begun place (omega arith)
