use Rattle.std.proofs.Common.{◌∙◌, ap, map}
use Rattle.std.proofs.lemmas.Result.{IfOk-weaker}
use Rattle.std.specs.List.{fold}
use Rattle.clap.specs.Words.{App, with_subcommand}
use Rattle.command_line.specs.CommandLine.{program}
use Rattle.command_words.specs.Rules.{shape_in}
use Rattle.command_line.proofs.commands.command.Goals as goal

pub returns : goal.returns
returns c =
    let shapes = map (shape_in c.args.letters) c.as_slice.result.now in
    let start = ap (λ (a : App). fold with_subcommand a shapes) c.in_ok-program.ensures in
    IfOk-weaker c.with_subcommands.result _ _
    (λ made added. added ∙ (start ∙ ap (fold with_subcommand program) (ap (map (shape_in c.args.letters)) c.as_slice.ensures ∙ c.definitions-definitions.ensures c.args.letters)))
    c.with_subcommands.ensures
