use Rattle.std.proofs.Common.{◌≡◌, ◌-◌, ◌<◌, ℕ, pos, length, ap, sym, ◌∙◌, arith, to_z, of_z, w32, length-set, inl, inr}
use Rattle.std.proofs.lemmas.Bool.{cases_eq}
use Rattle.std.proofs.lemmas.Int.{ints}
use Rattle.certified_plays.specs.Values.{value_at}
use Rattle.dds_calls.specs.Telling.{at_place}
use Rattle.dds_calls.proofs.PlayLaws.{zeros_at, set_here, set_there}
use Rattle.dds_calls.proofs.plays.written.Goals as goal

pub loop-count-init : goal.loop-count-init
loop-count-init c = record {
  size = ap (λ t. length t.tricks) c.blank-told.ensures;
  each = λ k more less. absurd (omega (arith, more, less));
  rest = λ place more. ap (λ t. at_place t.tricks place) c.blank-told.ensures ∙ zeros_at place;
}

pub loop-count-preserved : goal.loop-count-preserved
loop-count-preserved c =
    let inv = c.loop-count.invariant in
    let n : ℕ = c.loop-count.count - c.args.given in
    let room : n < length c.loop-count.told.tricks = omega (arith, inv.size, c.loop-count-test.true, ap length c.cards.ensures, ap (λ p. length p.position.history) c.play-2.ensures, ap (λ p. length p.position.history) c.play.ensures, c.invariant.ensures.within, c.invariant.ensures.layout.at_most_13) in
    let whole : to_z w32 (of_z w32 c.from.result) ≡ pos c.in-Some.value = omega (arith, ints, c.from.ensures) in
    record {
      size = length-set c.loop-count.told.tricks n _ ∙ inv.size;
      each = λ k more less. elim (cases_eq k c.loop-count.count) [
        | inl e ↦ (c.in-Some.value, ap (λ (i : ℕ). value_at c.args.values.now i) e ∙ (sym c.value.ensures ∙ c.in-Some.is), set_here c.loop-count.told.tricks n (k - c.args.given) _ room (ap (λ (i : ℕ). i - c.args.given) e) ∙ whole)
        | inr ne ↦
            let old = inv.each k more (omega (arith, less, ne)) in
            (old.0, old.1, set_there c.loop-count.told.tricks n (k - c.args.given) _ (omega (arith, less, ne, more)) ∙ old.2)
      ];
      rest = λ place more. set_there c.loop-count.told.tricks n place _ (omega (arith, more)) ∙ inv.rest place (omega (arith, more));
    }
