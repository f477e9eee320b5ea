use Rattle.std.proofs.Common.{◌≡◌, ◌∙◌, ap, true, codes}
use Rattle.std.proofs.lemmas.Result.{IfOk-weaker}
use Rattle.clap.specs.Words.{app_of, new_app}
use Rattle.clap.specs.Simple.{app_of_fields, on_top}
use Rattle.command_line.proofs.commands.program.Goals as goal

pub returns : goal.returns
returns c =
    let about : app_of c.about.result ≡ new_app (codes "ddfarm") = ap app_of_fields c.about.ensures ∙ c.new.ensures.app in
    let told = ap app_of_fields c.after_help.ensures ∙ (ap app_of_fields c.version.ensures
    ∙ ap (on_top (λ s. record s { has_version = true })) about) in
    let named = ap app_of_fields c.subcommand_required.ensures
    ∙ ap (on_top (λ s. record s { subcommand_required = true })) told in
    let shown = ap app_of_fields c.arg_required_else_help.ensures
    ∙ ap (on_top (λ s. record s { arg_required_else_help = true })) named in
    let top = ap app_of_fields c.disable_help_subcommand-command.ensures
    ∙ ap (on_top (λ s. record s { disable_help_subcommand = true })) shown in
    IfOk-weaker c.bin_name.result _ _ (λ made given. ap app_of_fields given.0 ∙ top) c.bin_name.ensures
