use Rattle.std.proofs.lemmas.List.{length-set}
use Rattle.pattern_store.proofs.FoundLaws.{holds_put, holds_there}
use Rattle.pattern_store.proofs.runs.Runs.put.Goals as goal

pub returns-in-Some-clause-puts : goal.returns-in-Some-clause-puts
returns-in-Some-clause-puts c = let blocks = c.args.self.now.blocks.items in record {
  stays = holds_put blocks c.args.number c.new.result c.args.list c.args.told c.new.ensures;
  there = holds_there blocks c.args.number c.new.result c.args.list c.args.told c.new.ensures;
  count = length-set blocks c.args.number c.new.result;
}
