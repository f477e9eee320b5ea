-- The words are those of the hands.
use Rattle.std.proofs.Common.{◌≡◌, ℕ, List, subst, Err}
use Rattle.cards.specs.FromHands.{MeetsHands}
use Rattle.dds_calls.specs.Hands.{HaveSizes, words_of}
use Rattle.dds_calls.proofs.HandLayouts.{layout_in, refused_twice}
use Rattle.dds_calls.proofs.hands.layout_of.Goals as goal

pub returns-in-Ok : goal.returns-in-Ok
returns-in-Ok c =
    let words : c.words_of-words.result ≡ words_of c.args.hands.now = c.words_of-words.ensures in
    layout_in c.args.hands.now c.in-Ok.layout c.if-not-are_of_cards.ensures (rw words at c.in-Ok.ensures.cases)

pub returns-in-Err : goal.returns-in-Err
returns-in-Err c =
    let words : c.words_of-words.result ≡ words_of c.args.hands.now = c.words_of-words.ensures in
    let Sized : List ℕ → Type 0 = λ list. HaveSizes list in
    let sized : HaveSizes (words_of c.args.hands.now) = subst Sized words c.in_default.ensures in
    let Met : List ℕ → Type 0 = λ list. MeetsHands list (Err c.in-Err.field-0) in
    let met : MeetsHands (words_of c.args.hands.now) (Err c.in-Err.field-0) = subst Met words c.in-Err.ensures.cases in (
      c.if-not-are_of_cards.ensures,
      sized,
      refused_twice c.args.hands.now c.in-Err.field-0 c.if-not-are_of_cards.ensures sized met,
    )
