use Rattle.std.proofs.Common.{[], ◌+◌, drop, sym, arith}
use Rattle.std.proofs.lemmas.Option.{slice_get_within}
use Rattle.certificate_graph.specs.Texts.{owners_text}
use Rattle.cards.proofs.WriteLemmas.{Adds-none, Writes-then}
use Rattle.certificate_graph.proofs.PieceLemmas.{no_owner, owner_is}
use Rattle.certificate_graph.proofs.WriteLemmas.{writes_same, stops_within}
use Rattle.certificate_graph.proofs.writing.+write_owners.Goals as goal

pub returns-in-None : goal.returns-in-None
returns-in-None g t c = rw (no_owner c.args.suit.now.owners c.args.place (sym c.in-None.ensures)) (Adds-none _)

pub write_owners-requires : goal.write_owners-requires
write_owners-requires g t c κs within =
    let here = slice_get_within c.args.suit.now.owners c.args.place c.in-Some.owner (sym c.in-Some.ensures) in
    (omega (arith, here, c.decreases), within)

pub overflow_add-place : goal.overflow_add-place
overflow_add-place g t c =
    let here = slice_get_within c.args.suit.now.owners c.args.place c.in-Some.owner (sym c.in-Some.ensures) in
    omega (arith, here, c.owner_count-count.ensures.count, c.owner_count-count.ensures.within)

pub returns-in_err-write_all-in-Some : goal.returns-in_err-write_all-in-Some
returns-in_err-write_all-in-Some g t c =
    let end = c.from_residual in
    let owners = c.args.suit.now.owners in
    stops_within _ _ end.result _ (owners_text (drop (c.args.place + 1) owners) []) end.ensures.1
    (owner_is owners c.args.place c.in-Some.owner _ (sym c.in-Some.ensures) c.seat_byte.ensures) c.in_err-write_all-in-Some.ensures

pub returns-in_ok-write_all-in-Some : goal.returns-in_ok-write_all-in-Some
returns-in_ok-write_all-in-Some g t c =
    let done = c.write_owners.result in
    let owners = c.args.suit.now.owners in
    writes_same _ _ done (owner_is owners c.args.place c.in-Some.owner _ (sym c.in-Some.ensures) c.seat_byte.ensures)
    (Writes-then done _ _ c.in_ok-write_all-in-Some.ensures c.write_owners.ensures)
