use Rattle.std.proofs.Common.{ℕ, List, None, Some, sym, ◌∙◌, ap, subst}
use Rattle.std.specs.Fmt.{decimal}
use Rattle.cards.specs.Devices.{Writes, Adds}
use Rattle.cards.proofs.WriteLemmas.{Adds-none}
use Rattle.sheets.specs.declared.hands.HandPlace.TheVariants.{Letter, Holding, Points}
use Rattle.sheets.proofs.HandLemmas.{hand-text}
use Rattle.sheets.proofs.hands.HandValuesValues.write.Goals as goal

pub returns-in-Some-Letter : goal.returns-in-Some-Letter
returns-in-Some-Letter g c =
    let deal = c.args.self.now.layout.now in
    let seat = c.args.self.now.seat in
    subst (λ (text : List ℕ). Writes (g.S.Sink.state c.args.sink.now) (g.S.Sink.state c.write_all.new.sink) text c.write_all.result)
    (c.seat_letter.ensures ∙ sym (hand-text deal seat c.args.name.now c.hand_place.result (Some Letter) c.hand_place.ensures
    (c.in-Some-Letter.is ∙ ap (λ p. Some p) c.in-Some-Letter.field-0-is)))
    c.write_all.ensures

pub returns-in-Some-Holding : goal.returns-in-Some-Holding
returns-in-Some-Holding g c =
    let deal = c.args.self.now.layout.now in
    let seat = c.args.self.now.seat in
    subst (λ (text : List ℕ). Writes (g.S.Sink.state c.args.sink.now) (g.S.Sink.state c.write_holding.new.sink) text c.write_holding.result)
    (sym (hand-text deal seat c.args.name.now c.hand_place.result (Some (Holding c.in-Some-Holding.suit)) c.hand_place.ensures
    (c.in-Some-Holding.is ∙ ap (λ p. Some p) c.in-Some-Holding.field-0-is)))
    c.write_holding.ensures

pub returns-in-Some-Points : goal.returns-in-Some-Points
returns-in-Some-Points g c =
    let deal = c.args.self.now.layout.now in
    let seat = c.args.self.now.seat in
    subst (λ (text : List ℕ). Writes (g.S.Sink.state c.args.sink.now) (g.S.Sink.state c.write_number.new.sink) text c.write_number.result)
    (ap decimal c.points_of.ensures ∙ sym (hand-text deal seat c.args.name.now c.hand_place.result (Some Points) c.hand_place.ensures
    (c.in-Some-Points.is ∙ ap (λ p. Some p) c.in-Some-Points.field-0-is)))
    c.write_number.ensures

pub returns-in-None : goal.returns-in-None
returns-in-None g c =
    let device = g.S.Sink.state c.args.sink.now in
    subst (λ (text : List ℕ). Adds device device text)
    (sym (hand-text c.args.self.now.layout.now c.args.self.now.seat c.args.name.now c.hand_place.result None c.hand_place.ensures c.in-None.is))
    (Adds-none device)
