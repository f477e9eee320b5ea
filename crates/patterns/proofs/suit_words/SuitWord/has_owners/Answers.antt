use Rattle.std.proofs.Common.{◌≡◌, get_or, sym, ◌∙◌, ap, arith, rules, Some}
use denote.Enum.Bare.{differs_true, differs_false}
use Rattle.cards.specs.contracts.seats.Seat.{the_type}
use Rattle.cards.specs.declared.seats.Seat.TheVariants.{North}
use Rattle.patterns.proofs.SeatLaws.{told_true, told_false}
use Rattle.patterns.proofs.OwnerLemmas.{all_met, other_met, owner_met, nobody_met, all_cards_met}
use Rattle.patterns.proofs.suit_words.SuitWord.has_owners.Goals as goal
use Rattle.patterns.proofs.suit_words.SuitWord.has_owners.Goals.{in-Some+else-ne, in_default}

pub returns-then-seen-count : goal.returns-then-seen-count
returns-then-seen-count c =
    told_true (all_met c.args.words.now c.args.self.now.owners c.loop-above.above c.loop-above.seen c.owner_count-count.result c.loop-above.invariant.so_far c.if-seen-count.true c.owner_count-count.ensures.count)

pub returns-then-ne : goal.returns-then-ne
returns-then-ne c =
    told_false (other_met c.args.words.now c.args.self.now.owners c.loop-above.above c.loop-above.seen c.in-Some.seat
    c.loop-above-test.true (omega (arith, c.owner_count-count.ensures.count, c.if-seen-count.false, c.loop-above.invariant.within)) c.loop-above.invariant.so_far
    (sym c.holder_by_words.ensures ∙ c.in-Some.is) (λ same. differs_true the_type _ _ (sym c.ne.ensures ∙ c.if-ne.true) (same ∙ sym c.owner_in.ensures)))

pub loop-above-preserved : goal.loop-above-preserved
loop-above-preserved c =
    let owners = c.args.self.now.owners in
    let so_far = c.loop-above.invariant.so_far in
    elim c.match-holder_by_words.branch [
      | in-Some+else-ne w ↦
          (let same : w.in-Some.seat ≡ get_or owners c.loop-above.seen North = differs_false the_type (search rules) _ _ (sym w.ne.ensures ∙ w.if-ne.false) ∙ w.owner_in.ensures in
          rw w.seen-is (record {
            within = omega (arith, c.if-seen-count.false, c.loop-above.invariant.within);
            so_far = owner_met c.args.words.now owners c.loop-above.above c.loop-above.seen c.loop-above-test.true
                (omega (arith, c.if-seen-count.false, c.loop-above.invariant.within, c.owner_count-count.ensures.count)) so_far
                (sym c.holder_by_words.ensures ∙ (w.in-Some.is ∙ ap Some same));
          }))
      | in_default w ↦
          rw w.seen-is (record {
            within = c.loop-above.invariant.within;
            so_far = nobody_met c.args.words.now owners c.loop-above.above c.loop-above.seen c.loop-above-test.true so_far
                (sym c.holder_by_words.ensures ∙ w.in_default.is);
          })
    ]

pub returns : goal.returns
returns c =
    all_cards_met c.args.words.now c.args.self.now.owners c.loop-above.above c.loop-above.seen c.owner_count-count.result (omega (arith, c.loop-above.auto.above-end))
    c.owner_count-count.ensures.count c.loop-above.invariant.within c.loop-above.invariant.so_far
