use Rattle.command_line.proofs.SaysLemmas.{says_matched, of_options}
use Rattle.command_line.specs.declared.subcommands.Subcommand.TheVariants.{Table, Audit, Leads, Plays, Solve, Check, Line, Play, Cards, Plain}
use Rattle.command_line.proofs.subcommands.matched_subcommand.Goals as goal

pub returns-in-table : goal.returns-in-table
returns-in-table c = says_matched _ _ _ _ _ _ _ _ c.in_ok-name.ensures.name c.in_ok-name.ensures.rows c.in-table.is
    (of_options Table _ _ _ c.map.ensures.cases c.options_of.ensures)

pub returns-in-audit : goal.returns-in-audit
returns-in-audit c = says_matched _ _ _ _ _ _ _ _ c.in_ok-name.ensures.name c.in_ok-name.ensures.rows c.in-audit.is
    (of_options Audit _ _ _ c.map-in-audit.ensures.cases c.options_of-in-audit.ensures)

pub returns-in-leads : goal.returns-in-leads
returns-in-leads c = says_matched _ _ _ _ _ _ _ _ c.in_ok-name.ensures.name c.in_ok-name.ensures.rows c.in-leads.is
    (of_options Leads _ _ _ c.map-in-leads.ensures.cases c.options_of-in-leads.ensures)

pub returns-in-plays : goal.returns-in-plays
returns-in-plays c = says_matched _ _ _ _ _ _ _ _ c.in_ok-name.ensures.name c.in_ok-name.ensures.rows c.in-plays.is
    (of_options Plays _ _ _ c.map-in-plays.ensures.cases c.options_of-in-plays.ensures)

pub returns-in-solve : goal.returns-in-solve
returns-in-solve c = says_matched _ _ _ _ _ _ _ _ c.in_ok-name.ensures.name c.in_ok-name.ensures.rows c.in-solve.is
    (of_options Solve _ _ _ c.map-in-solve.ensures.cases c.options_of-in-solve.ensures)

pub returns-in-check : goal.returns-in-check
returns-in-check c = says_matched _ _ _ _ _ _ _ _ c.in_ok-name.ensures.name c.in_ok-name.ensures.rows c.in-check.is
    (of_options Check _ _ _ c.map-in-check.ensures.cases c.options_of-in-check.ensures)

pub returns-in-line : goal.returns-in-line
returns-in-line c = says_matched _ _ _ _ _ _ _ _ c.in_ok-name.ensures.name c.in_ok-name.ensures.rows c.in-line.is
    (of_options Line _ _ _ c.map-in-line.ensures.cases c.options_of-in-line.ensures)

pub returns-in-play : goal.returns-in-play
returns-in-play c = says_matched _ _ _ _ _ _ _ _ c.in_ok-name.ensures.name c.in_ok-name.ensures.rows c.in-play.is
    (of_options Play _ _ _ c.map-in-play.ensures.cases c.options_of-in-play.ensures)

pub returns-in-cards : goal.returns-in-cards
returns-in-cards c = says_matched _ _ _ _ _ _ _ _ c.in_ok-name.ensures.name c.in_ok-name.ensures.rows c.in-cards.is
    (of_options Cards _ _ _ c.map-in-cards.ensures.cases c.options_of-in-cards.ensures)

pub returns-in-plain : goal.returns-in-plain
returns-in-plain c = says_matched _ _ _ _ _ _ _ _ c.in_ok-name.ensures.name c.in_ok-name.ensures.rows c.in-plain.is
    (of_options Plain _ _ _ c.map-in-plain.ensures.cases c.options_of-in-plain.ensures)
