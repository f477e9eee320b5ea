use Rattle.farm_tests.proofs.RelayPairs.{still_all}
use Rattle.farm_tests.proofs.relay_thread_tests.exchange.Goals as goal

pub close-requires : goal.close-requires
close-requires g c =
    let worked = c.in_ok-low.ensures in
    still_all c.in_ok-relay.relay _ _ _ _ _ _ _ _ _ _ _ _ c.two_of-low.ensures c.in_ok-putters.ensures c.two_of-one.ensures c.in_ok-takers.ensures worked.low worked.high worked.one worked.other c.in_ok-relay.ensures.ends
