use Rattle.std.proofs.Common.{◌≡◌, ℕ, ◌+◌, List, [], ◌∷◌, ◌++◌, All, map, arith, sym, ap, ◌∙◌, subst}
use Rattle.std.proofs.lemmas.List.{map_push}
use Rattle.std.proofs.lemmas.List.Elements.{All-push}
use Rattle.crossbeam_channel.specs.Claims.{view}
use Rattle.lease_desk.specs.declared.chairs.Chair.{Chair}
use Rattle.lease_desk.specs.declared.receipts.Receipt.{Receipt}
use Rattle.lease_desk.specs.Views.{sitter}
use Rattle.lease_desk.specs.Steps.{ushering, seated}
use Rattle.lease_desk.specs.Desks.{IsChairAt, AreAll, number_of, receipts_in}
use Rattle.lease_desk.proofs.Moves.{seats_as}
use Rattle.lease_desk.proofs.Numbers.{AreUpTo, are_all, one_more}
use Rattle.lease_desk.proofs.seating.seat_all.Goals as goal

pub another-seat-requires-clause-rule : goal.another-seat-requires-clause-rule
another-seat-requires-clause-rule c =
    seats_as _ _ _ c.loop-number.number c.args.count c.loop-number.invariant.1 c.requires.count (omega arith)

pub loop-number-preserved : goal.loop-number-preserved
loop-number-preserved c =
    let i = c.loop-number.invariant in
    let cut = c.another-seat.ensures in
    let number : ℕ = c.loop-number.number in
    let old : List Chair = c.loop-number.chairs.items in
    let chair : Chair = record { number = number; receipts = c.new.result; token = c.another-seat.result } in
    let opening = (view c.args.token).opening in
    let pushed : c.push.new.self.items ≡ old ++ chair ∷ [] = c.in_ok-push.ensures.items in
    let at : IsChairAt c.args.ends.now opening chair =
    record { seat = cut.channel.2; knows = cut.rule.1 ∙ ap seated i.1 ∙ ap (λ (l : List Receipt). sitter opening number l) (sym c.new.ensures.items) } in (
      cut.channel.0,
      cut.rule.0 ∙ ap ushering i.1,
      subst (λ (l : List Chair). All (IsChairAt c.args.ends.now opening) l) (sym pushed) (All-push (IsChairAt c.args.ends.now opening) old chair i.2 at),
      subst (λ (l : List ℕ). AreUpTo (number + 1) l) (sym (ap (map number_of) pushed ∙ map_push number_of old chair)) (one_more number (map number_of old) i.3),
      subst (λ (l : List Chair). All (λ c. receipts_in c ≡ []) l) (sym pushed) (All-push (λ c. receipts_in c ≡ []) old chair i.4 c.new.ensures.items),
    )

pub returns-clause-all : goal.returns-clause-all
returns-clause-all c =
    subst (λ n. AreAll n (map number_of c.loop-number.chairs.items)) (omega arith) (are_all _ _ c.loop-number.invariant.3)
