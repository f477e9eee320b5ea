use Rattle.std.proofs.Common.{◌≡◌, ◌<◌, ◌≤◌, ◌-◌, ◌*◌, ◌/◌, ◌%◌, ◌^◌, length, refl, sym, ◌∙◌, ap, arith}
use Rattle.std.specs.Prelude.{bit_and}
use Rattle.std.specs.Int.{trailing_zeros, w64}
use Rattle.std.proofs.lemmas.Nat.{and_mask, one_shl, mod_below, pow_pos}
use Rattle.patterns.specs.Shapes.{SuitShape}
use Rattle.patterns.specs.Words.{owners_in, owner_count, suit_in}
use Rattle.patterns.specs.WordLaws.{length-owners_in}
use Rattle.patterns.specs.Removals.{owners_but}
use Rattle.patterns.proofs.Removals.{kept, kept-none, kept-mod, taken_out, owners_but-kept, places_moved, none_taken}
use Rattle.patterns.proofs.suit_words.SuitWord.without.Goals as goal

pub loop-taken-init : goal.loop-taken-init
loop-taken-init c =
    let k = c.nibble-count.result in
    let places = c.args.places in
    let bits = c.self.inside.word / 2 ^ 20 in
    let is : k ≡ owner_count c.self.inside.word = c.nibble-count.ensures.value in
    let small : k < 64 = omega (arith, c.nibble-count.ensures.below) in
    let mask : bit_and places (1 * 2 ^ k % 2 ^ 64 - 1) ≡ places % 2 ^ k = ap (λ m. bit_and places (m - 1)) (one_shl k 64 small) ∙ and_mask places k in
    let fits : length (owners_in k bits) ≤ k = omega (arith, length-owners_in k bits) in
    record {
      within = c.self.invariant.within;
      bits = c.self.invariant.blank;
      places = rw (mask, is) (mod_below places (2 ^ owner_count c.self.inside.word) (pow_pos (owner_count c.self.inside.word)));
      lens = refl;
      same = rw mask (ap (λ n. kept (places % 2 ^ k) (owners_in n bits)) (sym is) ∙ (kept-mod k places (owners_in k bits) fits ∙ ap (λ n. kept places (owners_in n bits)) is));
    }

pub without_place-word-requires : goal.without_place-word-requires
without_place-word-requires c =
    let l = c.loop-taken in
    let step = taken_out (owner_count l.word) (l.word / 2 ^ 20) l.taken (trailing_zeros w64 l.taken) l.invariant.bits l.invariant.places l.invariant.within (omega (arith, c.loop-taken-test.true)) refl in
    step.inside

pub loop-taken-smaller : goal.loop-taken-smaller
loop-taken-smaller c =
    let l = c.loop-taken in
    let p = trailing_zeros w64 l.taken in
    let step = taken_out (owner_count l.word) (l.word / 2 ^ 20) l.taken p l.invariant.bits l.invariant.places l.invariant.within (omega (arith, c.loop-taken-test.true)) refl in
    rw (places_moved l.taken (omega (arith, c.loop-taken-test.true)) l.auto.taken-fits.fits) step.fewer

pub loop-taken-preserved : goal.loop-taken-preserved
loop-taken-preserved c =
    let l = c.loop-taken in
    let p = trailing_zeros w64 l.taken in
    let step = taken_out (owner_count l.word) (l.word / 2 ^ 20) l.taken p l.invariant.bits l.invariant.places l.invariant.within (omega (arith, c.loop-taken-test.true)) refl in
    let moved = places_moved l.taken (omega (arith, c.loop-taken-test.true)) l.auto.taken-fits.fits in
    let count = c.without_place-word.ensures.count in
    let bits = c.without_place-word.ensures.owners in
    record {
      within = omega (arith, count, l.invariant.within);
      bits = rw (count, bits) step.bits;
      places = rw (moved, count) step.places;
      lens = c.without_place-word.ensures.lens ∙ l.invariant.lens;
      same = rw (moved, count, bits) (step.same ∙ l.invariant.same);
    }

pub returns-then-places-eq0-clause-owners : goal.returns-then-places-eq0-clause-owners
returns-then-places-eq0-clause-owners c =
    let word = c.self.inside.word in
    let few : length (suit_in word).owners ≤ 13 = omega (arith, length-owners_in (owner_count word) (word / 2 ^ 20), c.self.invariant.within) in
    none_taken c.args.places (suit_in word).owners few c.if-places-eq0.true ∙ ap (λ (s : SuitShape). owners_but c.args.places s.owners) c.self.view_is

pub returns-clause-owners : goal.returns-clause-owners
returns-clause-owners c =
    let l = c.loop-taken in
    let k = owner_count l.word in
    let bits = l.word / 2 ^ 20 in
    let done : l.taken ≡ 0 = c.loop-taken-test.false in
    sym (kept-none (owners_in k bits))
    ∙ (ap (λ t. kept t (owners_in k bits)) (sym done)
    ∙ (l.invariant.same
    ∙ (sym (owners_but-kept c.args.places (suit_in c.self.inside.word).owners)
    ∙ ap (λ (s : SuitShape). owners_but c.args.places s.owners) c.self.view_is)))
