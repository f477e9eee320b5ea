use Rattle.std.proofs.Common.{List, length, Contains, None, Some, sym, ap, subst, arith}
use Rattle.cards.specs.declared.pack.Card.{Card}
use Rattle.certificate_play.specs.Promises.{Promise}
use Rattle.certificate_play.proofs.OwnCardLaws.{own_of, own_can}
use Rattle.certificate_play.proofs.PromiseLaws.{can_in_play, can_in_step, turn_in_step, kept_on, won_stays, some_listed}
use Rattle.certificate_play.proofs.playing.choose.Goals as goal

pub own_card-card-requires-clause-turn : goal.own_card-card-requires-clause-turn
own_card-card-requires-clause-turn c =
    let promise : Promise = record { position = c.args.table.now; side = c.args.side; tricks = c.args.promised } in
    turn_in_step promise c.in-Some.step (rw c.in-Some.is at c.requires.kept) c.requires.turn

pub own_card-card-requires-clause-all : goal.own_card-card-requires-clause-all
own_card-card-requires-clause-all c =
    let promise : Promise = record { position = c.args.table.now; side = c.args.side; tricks = c.args.promised } in
    λ card can. subst (λ (cards : List Card). Contains cards card) (sym c.as_slice.ensures.value) (c.legal-legal.ensures.legal.all card (can_in_play promise c.in-Some.step card (rw c.in-Some.is at c.requires.kept) can))

pub after_own-requires-clause-can : goal.after_own-requires-clause-can
after_own-requires-clause-can c =
    let promise : Promise = record { position = c.args.table.now; side = c.args.side; tricks = c.args.promised } in
    let card = c.own_card-card.result in
    let own = own_of c.args.table.now (Some c.in-Some.step) c.legal-legal.result.items c.as_slice.result.now card c.legal-legal.ensures.legal c.as_slice.ensures.value c.own_card-card.ensures in
    can_in_step promise c.in-Some.step card (rw c.in-Some.is at c.requires.kept) (own_can c.args.table.now (Some c.in-Some.step) card own)

pub returns-in-Some : goal.returns-in-Some
returns-in-Some c =
    let promise : Promise = record { position = c.args.table.now; side = c.args.side; tricks = c.args.promised } in
    let card = c.own_card-card.result in
    let own = own_of c.args.table.now (Some c.in-Some.step) c.legal-legal.result.items c.as_slice.result.now card c.legal-legal.ensures.legal c.as_slice.ensures.value c.own_card-card.ensures in
    record {
      legal = own_can c.args.table.now (Some c.in-Some.step) card own;
      own = rw c.in-Some.is own;
      kept = kept_on promise c.in-Some.step card c.after_own.result (rw c.in-Some.is at c.requires.kept) c.after_own.ensures;
    }

pub last_card-card-requires : goal.last_card-card-requires
last_card-card-requires c =
    omega (arith, ap length c.as_slice-in-None.ensures.value, some_listed c.args.table.now c.legal-legal.result.items c.requires.reached c.requires.goes_on c.legal-legal.ensures.legal)

pub returns-in-None : goal.returns-in-None
returns-in-None c =
    let promise : Promise = record { position = c.args.table.now; side = c.args.side; tricks = c.args.promised } in
    let card = c.last_card-card.result in
    let own = own_of c.args.table.now None c.legal-legal.result.items c.as_slice-in-None.result.now card c.legal-legal.ensures.legal c.as_slice-in-None.ensures.value c.last_card-card.ensures in
    record {
      legal = own_can c.args.table.now None card own;
      own = rw c.in-None.is own;
      kept = won_stays promise card (rw c.in-None.is at c.requires.kept);
    }
