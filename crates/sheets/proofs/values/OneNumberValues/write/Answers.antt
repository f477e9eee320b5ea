use Rattle.std.proofs.Common.{ℕ, List, sym, ◌∙◌, ap, subst, arith}
use Rattle.std.specs.Fmt.{decimal}
use Rattle.cards.specs.Devices.{Writes}
use Rattle.sheets.proofs.PlainTexts.{decimal-stays}
use Rattle.sheets.proofs.values.OneNumberValues.write.Goals as goal

pub returns : goal.returns
returns g c =
    let n = c.number_of.ensures in
    subst (λ (text : List ℕ). Writes (g.S.Sink.state c.args.sink.now) (g.S.Sink.state c.write_number.new.sink) text c.write_number.result)
    (ap decimal n.value ∙ sym (decimal-stays c.args.self.now.number (omega (arith, rw n.value at n.below))))
    c.write_number.ensures
