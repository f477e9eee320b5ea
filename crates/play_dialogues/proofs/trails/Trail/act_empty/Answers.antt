use Rattle.std.proofs.Common.{List, length, get_or, sym, ap, subst, arith}
use Rattle.std.specs.Prelude.{string_bytes}
use Rattle.cards.specs.declared.pack.Card.{Card}
use Rattle.cards.specs.declared.pack.Rank.TheVariants.{Two}
use Rattle.cards.specs.declared.suits.Suit.TheVariants.{Spades}
use Rattle.cards.specs.Pack.{card_of}
use Rattle.play_dialogues.specs.declared.words.Typed.TheVariants as said
use Rattle.play_dialogues.specs.declared.words.Refusal.TheVariants.{Several}
use Rattle.certificate_play.specs.Promises.{GoesOn}
use Rattle.play_dialogues.specs.Trails.{Trail, MayPlay, IsOnly, Acts}
use Rattle.play_dialogues.proofs.ActLaws.{acts_refused, acts_played, several_listed, only_listed, ok_then, ok_and_then}
use Rattle.play_dialogues.proofs.SeatLaws.{some_listed}
use Rattle.play_dialogues.proofs.trails.Trail.act_empty.Goals as goal

pub returns-then-len-gt-ONLY-clause-acts : goal.returns-then-len-gt-ONLY-clause-acts
returns-then-len-gt-ONLY-clause-acts c =
    let trail : Trail = record { earlier = c.self.inside.earlier.items; now = c.self.inside.now } in
    ok_then c.told_refusal.result _ _
    (λ text is. subst (λ (t : Trail). Acts t said.Empty t (string_bytes text)) c.self.view_is
    (acts_refused trail said.Empty Several (string_bytes text)
    (several_listed c.self.inside.now c.legal-legal.result.items c.legal-legal.ensures (omega (arith, c.len.ensures.value))) is))
    c.told_refusal.ensures

pub bounds-deref-0 : goal.bounds-deref-0
bounds-deref-0 c =
    omega (arith, ap length c.deref.ensures.0, some_listed c.self.inside.now.position c.legal-legal.result.items c.invariant.ensures.reached (subst (λ (t : Trail). GoesOn t.now) (sym c.self.view_is) c.requires.goes_on) c.legal-legal.ensures)

-- the only card
pub play-requires-clause-can : goal.play-requires-clause-can
play-requires-clause-can c =
    let card = get_or c.deref.result.now 0 (card_of Spades Two) in
    let goes_on = subst (λ (t : Trail). GoesOn t.now) (sym c.self.view_is) c.requires.goes_on in
    let some = some_listed c.self.inside.now.position c.legal-legal.result.items c.invariant.ensures.reached goes_on c.legal-legal.ensures in
    let only = only_listed c.self.inside.now c.legal-legal.result.items (card_of Spades Two) c.legal-legal.ensures some (omega (arith, c.len.ensures.value)) in
    subst (λ (t : Trail). MayPlay t.now card) c.self.view_is
    (subst (λ (l : List Card). MayPlay c.self.inside.now (get_or l 0 (card_of Spades Two))) (sym c.deref.ensures.0) only.can)

pub returns-clause-acts : goal.returns-clause-acts
returns-clause-acts c =
    let card = get_or c.deref.result.now 0 (card_of Spades Two) in
    let goes_on = subst (λ (t : Trail). GoesOn t.now) (sym c.self.view_is) c.requires.goes_on in
    let some = some_listed c.self.inside.now.position c.legal-legal.result.items c.invariant.ensures.reached goes_on c.legal-legal.ensures in
    let only = only_listed c.self.inside.now c.legal-legal.result.items (card_of Spades Two) c.legal-legal.ensures some (omega (arith, c.len.ensures.value)) in
    let meant : IsOnly c.args.self.now.now card =
    subst (λ (t : Trail). IsOnly t.now card) c.self.view_is
    (subst (λ (l : List Card). IsOnly c.self.inside.now (get_or l 0 (card_of Spades Two))) (sym c.deref.ensures.0) only) in
    ok_and_then c.play.result _ _ _
    (λ plays text is. acts_played c.args.self.now said.Empty card c.play.new.self (string_bytes text) meant plays is)
    c.play.ensures.plays c.play.ensures.tells
