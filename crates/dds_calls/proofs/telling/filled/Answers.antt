-- Each line fills the next place.
use Rattle.std.proofs.Common.{◌≡◌, ◌≢◌, ◌+◌, ◌≤◌, ◌<◌, ℤ, pos, length, get_or, refl, sym, ap, ◌∙◌, subst, arith, w32, to_z, of_z, length-set, eqb}
use Rattle.std.proofs.lemmas.Int.{ints}
use Rattle.std.proofs.lemmas.Bool.{cond-false, ne_eqb}
use Rattle.std.proofs.lemmas.List.{get_or_default}
use Rattle.std.proofs.lemmas.Option.{slice_get_within, get_or_from_slice_get}
use Rattle.cards.specs.declared.suits.Suit.TheVariants.{Spades}
use Rattle.cards.specs.declared.pack.Rank.TheVariants.{Two}
use Rattle.cards.specs.Pack.{suit_number, rank_number}
use Rattle.dds_calls.specs.declared.lines.Line.{Line}
use Rattle.dds_calls.specs.Rules.{IsScore, empty_score}
use Rattle.dds_calls.proofs.TellLaws.{set_below, set_above}
use Rattle.dds_calls.proofs.telling.filled.Goals as goal

-- what an index past the end would give
abbrev blank : Line
blank = record { card = record { suit = Spades; rank = Two }; equals = 0; tricks = 0 }

pub loop-place-preserved : goal.loop-place-preserved
loop-place-preserved c =
    let inv = c.loop-place.invariant in
    let lines = c.args.lines.now in
    let n = c.loop-place.place in
    let within : n < length lines = c.loop-place-test.true in
    let room : n < 13 = omega (arith, within, c.requires.few) in
    let here : (d : Line) → get_or lines n blank ≡ get_or lines n d = λ d. get_or_default lines n blank d within in
    let whole : to_z w32 (of_z w32 c.score.result) ≡ c.score.result = omega (arith, ints) in
    let score_here : IsScore c.args.ask c.args.rule (get_or lines n blank).tricks (to_z w32 (of_z w32 c.score.result)) = subst (λ (z : ℤ). IsScore c.args.ask c.args.rule (get_or lines n blank).tricks z) (sym whole) c.score.ensures in
    record {
      suits = length-set c.loop-place.suit n _ ∙ inv.suits;
      ranks = length-set c.loop-place.rank n _ ∙ inv.ranks;
      all_equals = length-set c.loop-place.equals n _ ∙ inv.all_equals;
      scores = length-set c.loop-place.score n _ ∙ inv.scores;
      suit_is = set_below c.loop-place.suit n _ (λ k z. (d : Line) → z ≡ pos (suit_number (get_or lines k d).card.suit)) (omega (arith, room, inv.suits)) inv.suit_is
          (λ d. omega (arith, ints, c.number.ensures.place, c.number.ensures.below, ap (λ (l : Line). suit_number l.card.suit) (here d)));
      rank_is = set_below c.loop-place.rank n _ (λ k z. (d : Line) → z ≡ pos (rank_number (get_or lines k d).card.rank + 2)) (omega (arith, room, inv.ranks)) inv.rank_is
          (λ d. omega (arith, ints, c.number-in-loop-place.ensures.place, c.number-in-loop-place.ensures.below, ap (λ (l : Line). rank_number l.card.rank) (here d)));
      equals_are = set_below c.loop-place.equals n _ (λ k z. (d : Line) → z ≡ pos (get_or lines k d).equals) (omega (arith, room, inv.all_equals)) inv.equals_are
          (λ d. omega (arith, ints, c.from.ensures, ap (λ (l : Line). l.equals) (here d)));
      score_is = set_below c.loop-place.score n _ (λ k z. (d : Line) → IsScore c.args.ask c.args.rule (get_or lines k d).tricks z) (omega (arith, room, inv.scores)) inv.score_is
          (λ d. subst (λ (l : Line). IsScore c.args.ask c.args.rule l.tricks (to_z w32 (of_z w32 c.score.result))) (here d) score_here);
      no_suit = set_above c.loop-place.suit n _ inv.no_suit;
      no_rank = set_above c.loop-place.rank n _ inv.no_rank;
      no_equals = set_above c.loop-place.equals n _ inv.no_equals;
      no_score = set_above c.loop-place.score n _ inv.no_score;
    }

pub returns : goal.returns
returns c =
    let inv = c.loop-place.invariant in
    let lines = c.args.lines.now in
    record {
      nodes = refl;
      cards = omega (arith, ints, c.requires.few);
      each = λ place line at. (
          let within = slice_get_within lines place line at in
          let low : place < c.loop-place.place = omega (arith, within, c.loop-place-test.false) in
          let is : get_or lines place line ≡ line = get_or_from_slice_get lines place line line at in
          record {
            suit = inv.suit_is place low line ∙ ap (λ (l : Line). pos (suit_number l.card.suit)) is;
            rank = inv.rank_is place low line ∙ ap (λ (l : Line). pos (rank_number l.card.rank + 2)) is;
            equals = inv.equals_are place low line ∙ ap (λ (l : Line). pos l.equals) is;
            score = subst (λ (l : Line). IsScore c.args.ask c.args.rule l.tricks (get_or c.loop-place.score place (pos 0))) is (inv.score_is place low line);
          });
      rest = λ place more. (
          let high : c.loop-place.place ≤ place = omega (arith, more, c.loop-place.auto.place-end) in
          let ne : place ≢ 0 = omega (arith, more, c.requires.some) in
          record {
            suit = inv.no_suit place high;
            rank = inv.no_rank place high;
            equals = inv.no_equals place high;
            score = inv.no_score place high ∙ sym (cond-false (eqb place 0) (empty_score c.args.rule) (pos 0) (ne_eqb place 0 ne));
          });
    }
