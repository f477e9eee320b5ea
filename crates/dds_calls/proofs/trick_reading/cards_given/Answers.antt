-- Each place adds its card, or has none.
use Rattle.std.proofs.Common.{◌≡◌, ◌+◌, ◌++◌, ◌∷◌, ◌≤◌, [], List, length, pos, sym, subst, arith}
use Rattle.std.proofs.lemmas.Int.{ints}
use Rattle.cards.specs.declared.pack.Card.{Card}
use Rattle.dds_calls.specs.BoardPositions.{IsGiven, rank_given}
use Rattle.dds_calls.specs.Readings.{AreGivenTo}
use Rattle.dds_calls.proofs.TrickCards.{given_skip, given_push}
use Rattle.dds_calls.proofs.trick_reading.cards_given.Goals as goal
use Rattle.dds_calls.proofs.trick_reading.cards_given.Goals.{then-rank-ne0+in-Some+else-len-place, else-rank-ne0}

pub loop-place-preserved : goal.loop-place-preserved
loop-place-preserved c =
    let board = c.args.board.now in
    elim c.if-rank-ne0.branch [
      | then-rank-ne0+in-Some+else-len-place w ↦
          let given : IsGiven board c.loop-place.place w.in-Some.card = (omega (arith, ints, w.in-Some.ensures.0), omega (arith, ints, w.in-Some.ensures.1)) in
          let is : c.if-rank-ne0.cards.items ≡ c.loop-place.cards.items ++ w.in-Some.card ∷ [] = cc in
          let all : c.loop-place.place ≤ length c.loop-place.cards.items = omega (arith, w.if-len-place.false, w.len.ensures.value) in
          given_push board c.loop-place.place c.loop-place.cards.items c.if-rank-ne0.cards.items w.in-Some.card c.loop-place.invariant all given is
      | else-rank-ne0 w ↦
          let none : rank_given board c.loop-place.place ≡ pos 0 = omega (arith, ints, w.if-rank-ne0.false) in
          let P : List Card → Type 0 = λ xs. AreGivenTo board (c.loop-place.place + 1) xs in
          let is : c.if-rank-ne0.cards.items ≡ c.loop-place.cards.items = cc in
          subst P (sym is) (given_skip board c.loop-place.place c.loop-place.cards.items c.loop-place.invariant none)
    ]
