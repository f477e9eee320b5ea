use Rattle.farm.proofs.Ending.{new_lender, new_posts, can_be_manned}
use Rattle.farm.proofs.running.open_posts.Goals as goal

pub of-requires : goal.of-requires
of-requires g c =
    can_be_manned c.args.crew.now.settings c.in_ok-relays.relays c.args.chairs.items c.in_ok-relays.ends c.in_ok-relays.ensures c.requires.count

pub returns : goal.returns
returns g c =
    let opened = c.in_ok-relays.ensures in
    let manned = c.in_ok-lender.ensures.manned in
    let settings = c.args.crew.now.settings in
    let desk = c.args.crew.now.desk.now in
    let lender = c.in_ok-lender.lender in
    record {
      ends = c.in_ok-relays.ends;
      opened = opened;
      manned = manned;
      new_lender = new_lender settings desk c.in_ok-relays.relays c.args.chairs.items c.in_ok-relays.ends lender c.in_ok-lender.posts c.requires.new opened manned c.in_ok-lender.ensures.steps;
      new = new_posts settings desk c.in_ok-relays.relays c.args.chairs.items c.in_ok-relays.ends lender c.in_ok-lender.posts c.requires.new opened manned c.in_ok-lender.ensures.steps;
    }
