use Rattle.std.proofs.Common.{◌∙◌, take, ap, ap₂, sym}
use Rattle.std.proofs.lemmas.List.{map_more}
use Rattle.std.proofs.lemmas.List.Sums.{fold-append}
use Rattle.std.specs.Prelude.{map}
use Rattle.std.specs.List.{fold}
use Rattle.clap.specs.Words.{App, app_of, with_subcommand}
use Rattle.command_words.specs.Rules.{shape_in}
use Rattle.command_words.proofs.commands.with_subcommands.Goals as goal

pub loop-definition-preserved : goal.loop-definition-preserved
loop-definition-preserved c =
    let rows = c.args.definitions.now in
    let leaf = c.in_ok-subcommand.ensures in
    let start = app_of c.args.command in
    let whole = ap (fold with_subcommand start) (map_more (shape_in c.args.letters) rows c.loop-definition.definition-index _ c.loop-definition-test.true)
    ∙ fold-append with_subcommand start (map (shape_in c.args.letters) (take c.loop-definition.definition-index rows)) _ in
    c.in_ok-command.ensures.shape leaf.1
    ∙ (ap₂ with_subcommand c.loop-definition.invariant (ap (λ (a : App). a.top) leaf.0) ∙ sym whole)
