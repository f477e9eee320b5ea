-- What rules that are added in turn make of a command.
use Rattle.std.proofs.Common.{◌≡◌, ◌∙◌, List, [], ◌∷◌, ◌++◌, ap, sym, append_assoc, append-nil}
use Rattle.std.specs.List.{fold}
use Rattle.clap.specs.Words.{App, Rule, with_rule}
use Rattle.clap.specs.Simple.{on_top}

-- they are added at the end, in their order
pub rules_added : (a : App) (rules : List Rule) → fold with_rule a rules ≡ on_top (λ s. record s { rules = s.rules ++ rules }) a
rules_added a [] = ap (λ (all : List Rule). on_top (λ s. record s { rules = all }) a) (sym (append-nil a.top.rules))
rules_added a (rule ∷ rules) =
    rules_added (with_rule a rule) rules
    ∙ ap (λ (all : List Rule). on_top (λ s. record s { rules = all }) a) (append_assoc a.top.rules (rule ∷ []) rules)
