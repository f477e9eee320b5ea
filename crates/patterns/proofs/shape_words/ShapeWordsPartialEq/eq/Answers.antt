use Rattle.std.proofs.Common.{◌∙◌, List, ℕ, ap, sym, nat_eq}
use Rattle.std.specs.Cmp.Lexicographic.{pointwise}
use Rattle.patterns.specs.Words.{words_of}
use Rattle.patterns.proofs.SuitWords.{words_told}
use Rattle.patterns.proofs.shape_words.ShapeWordsPartialEq.eq.Goals as goal

pub returns : goal.returns
returns c =
    c.eq.ensures
    ∙ (ap (λ (words : List ℕ). pointwise nat_eq words c.t2-1.inside.words) (sym (words_told c.t1-1.invariant c.t1-1.view_is))
    ∙ ap (pointwise nat_eq (words_of c.args.self.now)) (sym (words_told c.t2-1.invariant c.t2-1.view_is)))
