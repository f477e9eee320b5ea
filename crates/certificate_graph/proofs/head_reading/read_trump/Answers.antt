use Rattle.std.proofs.Common.{ℕ, ◌++◌, [], List, refl, sym, ◌∙◌, ap, arith, inl, inr}
use Rattle.std.proofs.lemmas.Bool.{cases_lt}
use Rattle.cards.specs.declared.suits.Trump.{Trump}
use Rattle.certificate_graph.specs.Texts.{trump_text}
use Rattle.certificate_graph.proofs.HeadLemmas.{trump_place, trump_place-lt, trump_at_place, trump_line-cut}
use Rattle.certificate_graph.proofs.head_reading.read_trump.Goals as goal

pub loop-trump-preserved : goal.loop-trump-preserved
loop-trump-preserved c = record {
  items = refl;
  none = λ trump rest h e. elim (cases_lt (trump_place trump) c.loop-trump.trump-index) [
    | inl low ↦ c.loop-trump.invariant.none trump rest low e
    | inr high ↦ c.in_default.ensures rest
        (e ∙ (trump_line-cut trump rest
        ∙ (ap (λ (t : Trump). trump_text t [] ++ rest) (sym (trump_at_place trump c.loop-trump.trump-index _ (omega arith)))
        ∙ ap (λ (line : List ℕ). line ++ rest) (sym c.trump_line.ensures))))
  ];
}

pub returns : goal.returns
returns c = λ trump rest e. c.loop-trump.invariant.none trump rest (let low = trump_place-lt trump in omega arith) e
