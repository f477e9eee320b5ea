use Rattle.std.proofs.Common.{◌∙◌, ap, map}
use Rattle.std.proofs.lemmas.Result.{IfOk-weaker}
use Rattle.std.specs.List.{fold}
use Rattle.clap.specs.Words.{App, new_app, with_rule}
use Rattle.command_words.specs.Rules.{rule_in}
use Rattle.command_words.proofs.RuleLemmas.{rules_added}
use Rattle.command_words.proofs.commands.subcommand.Goals as goal

pub returns : goal.returns
returns c =
    let told = c.described-command.ensures in
    let rules = map (rule_in c.args.letters) c.args.definition.now.arguments.now in
    let start = ap (λ (a : App). fold with_rule a rules) (told.0 ∙ c.new.ensures.app) in
    IfOk-weaker c.with_arguments.result _ _ (λ made added. (
      added.0 ∙ (start ∙ rules_added (new_app c.args.definition.now.name.now) rules),
      added.1 (told.1 ∙ c.new.ensures.local),
    )) c.with_arguments.ensures
