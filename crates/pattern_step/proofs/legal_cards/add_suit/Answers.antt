use Rattle.std.proofs.Common.{List, ◌≡◌, ◌+◌, ◌++◌, length, refl, sym, ◌∙◌, ap, arith}
use Rattle.std.proofs.lemmas.List.{length-append, append_assoc, append-nil}
use Rattle.cards.specs.declared.suits.Suit.{Suit}
use Rattle.cards.specs.declared.seats.Seat.{Seat}
use Rattle.patterns.specs.Shapes.{SuitShape, Shape, suit_of, len_of, tops_of, IsPattern}
use Rattle.patterns.specs.Words.{places_of}
use Rattle.pattern_step.specs.LegalCards.{cards_in}
use Rattle.pattern_step.specs.declared.pat_cards.PatCard.{PatCard}
use Rattle.pattern_step.proofs.PatCardLaws.{tops_in, low_in, cards_in-is, low_in-some, low_in-none}
use Rattle.pattern_step.proofs.TopPlaces.{tops_at, places_even, all_tops_told, length-tops_told, is_pushed, all_pushed}
use Rattle.pattern_step.proofs.legal_cards.add_suit.Goals as goal

pub loop-places-init : goal.loop-places-init
loop-places-init c = rw c.places_of-places.ensures (record { even = places_even c.args.seat c.suit-held.result.owners; items = refl })

pub push-requires : goal.push-requires
push-requires c =
    let l = c.loop-places in
    let pushed = is_pushed c.args.suit (length c.suit-held.result.owners) l.places l.cards.items _ l.invariant.even l.invariant.items (omega (arith, c.loop-places-test.true)) l.auto.places-fits.fits in
    let tops = length-tops_told c.args.pattern.now c.invariant.ensures c.args.seat c.args.suit c.suit-held.result c.suit-held.ensures in
    let all = length-append c.args.cards.now.items (tops_at c.args.suit 0 (length c.suit-held.result.owners) (places_of c.args.seat c.suit-held.result.owners)) in
    (omega arith, omega (arith, pushed.room, tops, all, c.invariant.ensures.owners c.args.suit c.args.seat, c.requires))

pub loop-places-preserved : goal.loop-places-preserved
loop-places-preserved c =
    let l = c.loop-places in
    let pushed = is_pushed c.args.suit (length c.suit-held.result.owners) l.places l.cards.items _ l.invariant.even l.invariant.items (omega (arith, c.loop-places-test.true)) l.auto.places-fits.fits in
    record { even = pushed.even; items = rw c.push.ensures.items pushed.items }

pub overflow_sub-len : goal.overflow_sub-len
overflow_sub-len c =
    let l = c.loop-places in
    let all = ap length (all_pushed c.args.suit (length c.suit-held.result.owners) l.places l.cards.items _ l.invariant.items c.loop-places-test.false) in
    omega (arith, all, length-append c.args.cards.now.items (tops_at c.args.suit 0 (length c.suit-held.result.owners) (places_of c.args.seat c.suit-held.result.owners)), c.len-before.ensures.value, c.len.ensures.value)

-- at the end of the loop all tops were added
all_added : (old new all : List PatCard) (shape : Shape) → IsPattern shape → (seat : Seat) (suit : Suit) → new ≡ old ++ all → all ≡ tops_in shape seat suit (length (suit_of shape suit).owners) → length all ≡ tops_of (suit_of shape suit) seat →
    record { items : new ++ low_in shape seat suit ≡ old ++ cards_in shape seat suit; tops : length new ≡ length old + tops_of (suit_of shape suit) seat }
all_added old new all shape pattern seat suit is are counted =
    record {
      items = ap (λ xs. xs ++ low_in shape seat suit) (is ∙ ap (λ xs. old ++ xs) are)
          ∙ (append_assoc old (tops_in shape seat suit (length (suit_of shape suit).owners)) (low_in shape seat suit) ∙ ap (λ xs. old ++ xs) (sym (cards_in-is shape pattern seat suit)));
      tops = ap length is ∙ (length-append old all ∙ ap (λ n. length old + n) counted);
    }

pub returns-then-len-before : goal.returns-then-len-before
returns-then-len-before c =
    let shape = c.args.pattern.now in
    let l = c.loop-places in
    let added = all_added c.args.cards.now.items l.cards.items _ shape c.invariant.ensures c.args.seat c.args.suit
    (all_pushed c.args.suit (length c.suit-held.result.owners) l.places l.cards.items _ l.invariant.items c.loop-places-test.false)
    (all_tops_told shape c.invariant.ensures c.args.seat c.args.suit c.suit-held.result c.suit-held.ensures)
    (length-tops_told shape c.invariant.ensures c.args.seat c.args.suit c.suit-held.result c.suit-held.ensures) in
    let len = c.len-2.ensures.len ∙ ap (λ (s : SuitShape). len_of s c.args.seat) c.suit-held.ensures in
    let low = low_in-some shape c.args.seat c.args.suit (omega (arith, added.tops, len, c.if-len-before.true, c.len-before.ensures.value, c.len.ensures.value)) in
    c.push-then-len-before.ensures.items ∙ (ap (λ xs. l.cards.items ++ xs) (sym low) ∙ added.items)

pub returns-else-len-before : goal.returns-else-len-before
returns-else-len-before c =
    let shape = c.args.pattern.now in
    let l = c.loop-places in
    let added = all_added c.args.cards.now.items l.cards.items _ shape c.invariant.ensures c.args.seat c.args.suit
    (all_pushed c.args.suit (length c.suit-held.result.owners) l.places l.cards.items _ l.invariant.items c.loop-places-test.false)
    (all_tops_told shape c.invariant.ensures c.args.seat c.args.suit c.suit-held.result c.suit-held.ensures)
    (length-tops_told shape c.invariant.ensures c.args.seat c.args.suit c.suit-held.result c.suit-held.ensures) in
    let len = c.len-2.ensures.len ∙ ap (λ (s : SuitShape). len_of s c.args.seat) c.suit-held.ensures in
    let low = low_in-none shape c.args.seat c.args.suit (omega (arith, added.tops, len, c.if-len-before.false, c.len-before.ensures.value, c.len.ensures.value)) in
    sym (append-nil l.cards.items) ∙ (ap (λ xs. l.cards.items ++ xs) (sym low) ∙ added.items)
