use Rattle.std.proofs.Common.{◌≡◌, ◌+◌, ◌-◌, ◌∷◌, ◌∙◌, ap, subst, arith}
use Rattle.certificate_graph.specs.Readings.{seat_text, LacksOwners}
use Rattle.certificate_graph.proofs.LeafLemmas.{test_map}
use Rattle.certificate_graph.proofs.PatternLemmas.{owners_by_seat, owners_by_more, owner_added, owners_more}
use Rattle.certificate_graph.proofs.pattern_reading.+read_owners.Goals as goal

pub returns-in_default-read_seat : goal.returns-in_default-read_seat
returns-in_default-read_seat t c = owners_by_seat _ c.args.cursor.now.rest.now c.in_default.ensures c.in_default-read_seat.ensures

pub overflow_add-word-2 : goal.overflow_add-word-2
overflow_add-word-2 t c =
    let added = owner_added c.args.word.now c.args.count c.number.result c.in-Some-read_seat.owner c.requires.suit c.requires.count c.number.ensures.place (omega arith) in
    omega (arith, added.fits)

pub read_owners-requires : goal.read_owners-requires
read_owners-requires t c =
    let added = owner_added c.args.word.now c.args.count c.number.result c.in-Some-read_seat.owner c.requires.suit c.requires.count c.number.ensures.place (omega arith) in
    (omega (arith, c.decreases), (added.is_word, omega (arith, added.count, c.requires.count)))

pub returns : goal.returns
returns t c =
    let text = c.args.cursor.now.rest.now in
    let count = c.args.count in
    let owner = c.in-Some-read_seat.owner in
    let after = c.in-Some-read_seat.rest.now in
    let added = owner_added c.args.word.now count c.number.result owner c.requires.suit c.requires.count c.number.ensures.place (omega arith) in
    let room : 13 - (count + 1) ≡ 13 - count - 1 = omega arith in
    test_map c.read_owners.result
    (λ begins. (
      owner ∷ begins.0,
      (let few = begins.1 in omega arith),
      c.in-Some-read_seat.ensures ∙ ap (seat_text owner) begins.2,
      owners_more c.args.word.now _ _ owner begins.0 added begins.3,
    ))
    (λ lacks. owners_by_more (13 - count) text owner after c.in_default.ensures c.in-Some-read_seat.ensures (subst (λ n. LacksOwners n after) room lacks))
    c.read_owners.ensures
