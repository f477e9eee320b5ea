use Rattle.std.proofs.Common.{rules, ◌∙◌, List, Option, map, ap, sym, subst}
use Rattle.clap.specs.Words.{App, HasKind, Row, Text, fault_of, is_simple, is_simple_and_free, subcommand_of}
use Rattle.command_line.specs.Subcommands.{SaysMatched}
use Rattle.command_line.specs.Words.{exclude_each_other}
use Rattle.command_line.specs.Words.{refusal_kind}
use Rattle.command_line.proofs.ReadLemmas.{simple, simple_and_free, none_from, none_without, refused_by}
use Rattle.command_line.proofs.words.parse_arguments.Goals as goal

pub returns-in_err-matches : goal.returns-in_err-matches
returns-in_err-matches g c =
    let words = map g.S.AsStr.text c.args.words.now in
    let letters = c.known_letters-letters.result in
    let error = c.in_err-matches.field-0.0 in
    let same = c.in_ok-command.ensures in
    let kinds = subst (λ (app : App). HasKind (fault_of app words) error) same
    (c.in_err-matches.ensures.kinds (ap is_simple_and_free same ∙ simple_and_free letters)) in (
      letters,
      c.known_letters-letters.ensures,
      refused_by letters words c.args.processors c.from_residual-in_err-matches.result error (search rules) (none_from letters words c.args.processors error kinds),
    )

pub returns-in-Some : goal.returns-in-Some
returns-in-Some g c =
    let words = map g.S.AsStr.text c.args.words.now in
    let letters = c.known_letters-letters.result in
    let same = c.in_ok-command.ensures in
    let taken = c.in_ok-matches.ensures.kinds (ap is_simple_and_free same ∙ simple_and_free letters) in
    let matched = (c.in_ok-matches.ensures.matches (ap is_simple same ∙ simple letters)).1 in (
      letters,
      c.known_letters-letters.ensures,
      (
        sym (ap (λ (app : App). fault_of app words) same) ∙ taken,
        subst (λ (o : Option (Text × List Row)). SaysMatched o c.args.processors c.in-Some.asked)
            (matched ∙ ap (λ (app : App). subcommand_of app words) same) c.in-Some.ensures,
      ),
    )

pub returns : goal.returns
returns g c =
    let words = map g.S.AsStr.text c.args.words.now in
    let letters = c.known_letters-letters.result in
    let same = c.in_ok-command.ensures in
    let taken = c.in_ok-matches.ensures.kinds (ap is_simple_and_free same ∙ simple_and_free letters) in
    let matched = (c.in_ok-matches.ensures.matches (ap is_simple same ∙ simple letters)).1
    ∙ ap (λ (app : App). subcommand_of app words) same in (
      letters,
      c.known_letters-letters.ensures,
      none_without letters words c.args.processors c.in_ok-refusal-in-None.field-0 (sym (ap (λ (app : App). fault_of app words) same) ∙ taken)
          (λ asked said. c.in-None.ensures asked (subst (λ (o : Option (Text × List Row)). SaysMatched o c.args.processors asked) (sym matched) said))
          (c.in_ok-refusal-in-None.ensures ∙ ap refusal_kind (c.excluded.ensures ∙ ap exclude_each_other matched)),
    )
