use Rattle.std.proofs.Common.{◌∙◌, ◌||◌, take, ap, ap₂, sym}
use Rattle.std.proofs.lemmas.List.{map_more}
use Rattle.std.proofs.lemmas.List.Sums.{fold-append}
use Rattle.std.specs.Prelude.{map}
use Rattle.std.specs.List.{fold}
use Rattle.clap.specs.Words.{app_of, with_rule}
use Rattle.command_words.specs.Rules.{rule_in}
use Rattle.command_words.proofs.commands.with_arguments.Goals as goal

pub loop-argument-preserved : goal.loop-argument-preserved
loop-argument-preserved c =
    let rows = c.args.arguments.now in
    let before = c.loop-argument.invariant in
    let rule = c.arg_of.ensures in
    let added = c.in_ok-command.ensures in
    let start = app_of c.args.command in
    let whole = ap (fold with_rule start) (map_more (rule_in c.args.letters) rows c.loop-argument.argument-index _ c.loop-argument-test.true)
    ∙ fold-append with_rule start (map (rule_in c.args.letters) (take c.loop-argument.argument-index rows)) _ in (
      added.shape rule.1 ∙ (ap₂ with_rule before.0 rule.0 ∙ sym whole),
      λ none. added.globals ∙ ap₂ ◌||◌ (before.1 none) rule.1,
    )
