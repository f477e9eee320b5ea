use Rattle.std.proofs.lemmas.Option.{slice_get_past}
use Rattle.cards.proofs.WriteLemmas.{Adds-none}
use Rattle.play_sheets.proofs.tricks.write_place.Goals as goal

pub returns-in-None : goal.returns-in-None
returns-in-None g c =
    let past = c.in-None.ensures.lookup.3 in
    rw (slice_get_past c.args.trick.now c.args.place past) (Adds-none (g.S.Sink.state c.args.sink.now))
