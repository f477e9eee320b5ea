use Rattle.partition_search.proofs.search.Search.+begun_turn.Given as goal

-- the cards still to be played

abbrev pub decreases-begun_turn : goal.decreases-begun_turn
decreases-begun_turn l = l.others
