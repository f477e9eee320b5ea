use Rattle.std.proofs.Common.{◌∙◌, ap, rules}
use Rattle.clap.specs.Simple.{app_of_fields}
use Rattle.command_words.proofs.commands.described.Goals as goal

pub returns-in-Some : goal.returns-in-Some
returns-in-Some c = (
  ap app_of_fields c.override_usage.ensures
      ∙ (ap app_of_fields c.after_help-command.ensures ∙ ap app_of_fields c.about.ensures),
  search rules,
)

pub returns-in-None : goal.returns-in-None
returns-in-None c = (ap app_of_fields c.after_help-command.ensures ∙ ap app_of_fields c.about.ensures, search rules)
