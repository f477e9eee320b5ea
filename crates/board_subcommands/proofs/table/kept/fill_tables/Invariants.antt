-- What the file holds that was opened, and what may be added to it.
use Rattle.evidence_solvers.specs.Added.{IsAnswered}
use Rattle.evidence_solvers.specs.Tails.{tail_contents}
use Rattle.board_subcommands.proofs.table.kept.fill_tables.Given as goal

abbrev pub ghosts-write_beside : goal.ghosts-write_beside
ghosts-write_beside g a = record {
  held = tail_contents g.R.Kept.Write.contents a.opened.tail;
  may_be = IsAnswered (g.P.Solver.may_find a.making.means.now.solver.now);
}
