use Rattle.std.proofs.Common.{ap}
use Rattle.clap.specs.Words.{found_of, rows_of}
use Rattle.farm.specs.Settings.{Numbers}
use Rattle.command_words.specs.Says.{SaysNumber, SaysThreads}
use Rattle.board_subcommands.specs.Table.Options.{SaysSettings}
use Rattle.command_words.proofs.SaysLemmas.{nothing_read}
use Rattle.board_subcommands.proofs.SettingsLemmas.{set_to}
use Rattle.board_subcommands.proofs.table.options.settings_of.Goals as goal

pub returns-in_err-solvers : goal.returns-in_err-solvers
returns-in_err-solvers c = nothing_read _ _ c.from_residual.ensures (λ settings said. c.in_err-solvers.ensures settings.solvers said.solvers)

pub returns-in_err-checkers : goal.returns-in_err-checkers
returns-in_err-checkers c = nothing_read _ _ c.from_residual-in_err-checkers.ensures (λ settings said. c.in_err-checkers.ensures settings.checkers said.checkers)

pub returns-in_err-term : goal.returns-in_err-term
returns-in_err-term c = nothing_read _ _ c.from_residual-in_err-term.ensures (λ settings said. c.in_err-term.ensures settings.term said.term)

pub returns-in_err-tries : goal.returns-in_err-tries
returns-in_err-tries c = nothing_read _ _ c.from_residual-in_err-tries.ensures (λ settings said. c.in_err-tries.ensures settings.tries said.tries)

pub returns-in_err-budget : goal.returns-in_err-budget
returns-in_err-budget c = nothing_read _ _ c.from_residual-in_err-budget.ensures (λ settings said. c.in_err-budget.ensures settings.budget said.budget)

pub returns-in_err-batch : goal.returns-in_err-batch
returns-in_err-batch c = nothing_read _ _ c.from_residual-in_err-batch.ensures (λ settings said. c.in_err-batch.ensures settings.batch said.batch)

pub returns : goal.returns
returns c =
    let term = c.with_term-settings.ensures in
    let solvers = set_to _ (λ n. record n { solvers = c.in_ok-solvers.solvers }) _ _ _ _ _ _ c.with_solvers.ensures c.ok.ensures.value c.in_ok-settings.was term in
    let checkers = set_to _ (λ n. record n { checkers = c.in_ok-checkers.checkers }) _ _ _ _ _ _ c.with_checkers.ensures c.ok-2.ensures.value c.in_ok-settings-2.was solvers in
    let tries = set_to _ (λ n. record n { tries = c.in_ok-tries.tries }) _ _ _ _ _ _ c.with_tries.ensures c.ok-3.ensures.value c.in_ok-settings-3.was checkers in
    let budget = set_to _ (λ n. record n { budget = c.in_ok-budget.budget }) _ _ _ _ _ _ c.with_budget.ensures c.ok-4.ensures.value c.in_ok-settings-4.was tries in
    let batch = set_to _ (λ n. record n { batch = c.in_ok-batch.batch }) _ _ _ _ _ _ c.with_batch.ensures c.ok-5.ensures.value c.in_ok-settings-5.was budget in
    record {
      solvers = rw (ap (λ (n : Numbers). n.solvers) batch) c.in_ok-solvers.ensures;
      checkers = rw (ap (λ (n : Numbers). n.checkers) batch) c.in_ok-checkers.ensures;
      term = rw (ap (λ (n : Numbers). n.term) batch) c.in_ok-term.ensures;
      tries = rw (ap (λ (n : Numbers). n.tries) batch) c.in_ok-tries.ensures;
      budget = rw (ap (λ (n : Numbers). n.budget) batch) c.in_ok-budget.ensures;
      batch = rw (ap (λ (n : Numbers). n.batch) batch) c.in_ok-batch.ensures;
    }
