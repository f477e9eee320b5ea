use Rattle.std.proofs.Common.{◌≡◌, ◌+◌, ◌-◌, ◌||◌, [], refl, ap, arith}
use Rattle.std.specs.List.{list_any}
use Rattle.pbn_deals.specs.DealValue.{words_of, is_unknown, hands_held, seats_from}
use Rattle.pbn_deals.proofs.GroupLemmas.{put_all-nil}
use Rattle.pbn_deals.proofs.HandLemmas.{HandsRead-more, HandsRead-few, HandsRead-bad, HandsRead-many, HandsRead-all}
use Rattle.pbn_deals.proofs.deal_values.read_hands.Goals as goal

pub loop-hand-init : goal.loop-hand-init
loop-hand-init c =
    let words = words_of c.args.text.now in
    record {
      held = [];
      represents = c.new-dealing.ensures.none;
      so_far = put_all-nil (hands_held (seats_from 4 c.args.first) words);
      partial = ap (λ b. b || list_any is_unknown words) c.new-dealing.ensures.whole;
    }

pub returns-in_err-word : goal.returns-in_err-word
returns-in_err-word c =
    let text = c.args.text.now in
    let now = c.loop-hand in
    rw c.from_residual.ensures (HandsRead-few now.dealing now.seat c.args.first (words_of text) (4 - now._hand) (4 - (now._hand + 1)) (words_of now.rest.now) text refl now.invariant (omega arith) c.in_err-word.ensures)

pub returns-then-not-add_hand : goal.returns-then-not-add_hand
returns-then-not-add_hand c =
    let text = c.args.text.now in
    let now = c.loop-hand in
    let found = c.in_ok-word in
    HandsRead-bad now.dealing now.seat c.args.first (words_of text) c.add_hand.new.self (4 - now._hand) (4 - (now._hand + 1)) found.word.now (words_of now.rest.now) (words_of found.after.now) text refl now.invariant (omega arith) found.ensures c.if-not-add_hand.ensures.reads

pub loop-hand-preserved : goal.loop-hand-preserved
loop-hand-preserved c =
    let now = c.loop-hand in
    let found = c.in_ok-word in
    rw c.next-seat.ensures (HandsRead-more now.dealing now.seat c.args.first (words_of c.args.text.now) c.add_hand.new.self (4 - now._hand) (4 - (now._hand + 1)) found.word.now (words_of now.rest.now) (words_of found.after.now) now.invariant (omega arith) found.ensures c.if-not-add_hand.ensures.reads c.if-not-add_hand.ensures.partial)

pub returns-in-None : goal.returns-in-None
returns-in-None c =
    let text = c.args.text.now in
    let now = c.loop-hand in
    let done : 4 - now._hand ≡ 0 = omega arith in
    HandsRead-all now.dealing now.seat c.args.first (words_of text) (words_of now.rest.now) text refl (rw done at now.invariant) c.in-None.ensures

pub returns-in-Some : goal.returns-in-Some
returns-in-Some c =
    let text = c.args.text.now in
    let now = c.loop-hand in
    let done : 4 - now._hand ≡ 0 = omega arith in
    let found = c.in-Some in
    HandsRead-many now.dealing now.seat c.args.first (words_of text) found.field-0.0.now (words_of now.rest.now) (words_of found.field-0.1.now) text refl (rw done at now.invariant) found.ensures
