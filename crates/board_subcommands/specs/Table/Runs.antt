-- A whole run of `table`.
use Rattle.std.specs.Prelude.{ℕ, List, Option}
use Rattle.certificate_graph.specs.Solvers.{MayFind}
use Rattle.lease_book.specs.Moments.{MayTell}
use Rattle.streams.specs.RunStreams.{RunDevices}
use Rattle.run_ends.specs.NamedFiles.{Opens}
use Rattle.run_ends.specs.declared.statuses.Status.{Status}
use Rattle.board_subcommands.specs.Ends.{Runs}
use Rattle.board_subcommands.specs.NamedBoards.{DoesOn}
use Rattle.board_subcommands.specs.Table.Kept.{FillsTables, Left}
use Rattle.board_subcommands.specs.Table.KeptFiles.{OpensToKeep}
use Rattle.board_subcommands.specs.declared.table.options.TableOptions.{TableOptions}

-- what a run does, what it leaves of the file of evidence, and what the output has handed on
abbrev pub RunsTable : MayFind → MayTell → Opens → OpensToKeep → TableOptions → Left → RunDevices → RunDevices
    → Option (List ℕ) → Status → Type 0
RunsTable may_find may_tell opens keeps options left old new handed_on status =
    Runs (DoesOn opens options.boards (FillsTables may_find keeps may_tell options options.evidence left))
    (record { boards = options.boards; evidence = options.evidence }) old new handed_on status
