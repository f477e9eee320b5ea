use Rattle.std.specs.Prelude.{◌+◌, ◌*◌}
use Rattle.partition_search.proofs.search.Search.+searching.Given as goal

-- sixteen for each trick left, and the place of the function in a trick

abbrev pub decreases-search : goal.decreases-search
decreases-search l = 16 * l.tricks + 15

abbrev pub decreases-lead : goal.decreases-lead
decreases-lead l = 16 * l.tricks + 14

abbrev pub decreases-second : goal.decreases-second
decreases-second l = 16 * l.tricks + 13

abbrev pub decreases-third : goal.decreases-third
decreases-third l = 16 * l.tricks + 12

abbrev pub decreases-last : goal.decreases-last
decreases-last l = 16 * l.tricks + 11

abbrev pub decreases-try_last : goal.decreases-try_last
decreases-try_last l = 16 * l.rest + 20

abbrev pub decreases-rest : goal.decreases-rest
decreases-rest l = 16 * l.rest + 19

abbrev pub decreases-ended : goal.decreases-ended
decreases-ended l = 16 * l.rest + 18

abbrev pub decreases-whoever : goal.decreases-whoever
decreases-whoever l = 16 * l.rest + 17
