use Rattle.std.proofs.Common.{List, length, sym, ap, ◌∙◌}
use Rattle.pattern_step.specs.declared.pat_cards.PatCard.{PatCard}
use Rattle.checker.proofs.TrickWordLaws.{length-cards_in}
use Rattle.checker.proofs.played.Played.count.Goals as goal

pub returns : goal.returns
returns c = sym (length-cards_in c.self.inside.count c.self.inside.word) ∙ ap (λ (l : List PatCard). length l) c.self.view_is
