-- The rows of the boards so far are counted.
use Rattle.std.proofs.Common.{◌≡◌, ◌≤◌, ◌*◌, take, sum_by}
use Rattle.std.specs.List.{enumerate_from}
use Rattle.opening_leads.specs.Tasks.{leads_in}
use Rattle.opening_leads.specs.Texts.{counted_on}
use Rattle.opening_leads.proofs.counts.count_all.Given as goal

abbrev pub invariant-loop-place : goal.invariant-loop-place
invariant-loop-place l = record {
  counted : l.count ≡ sum_by (λ numbered. counted_on l.counted numbered.1.deal (leads_in l.table numbered.0)) (take l.place (enumerate_from 0 l.boards));
  bound : l.count ≤ 20 * l.place;
}
