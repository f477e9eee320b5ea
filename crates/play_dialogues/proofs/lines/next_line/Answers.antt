use Rattle.std.proofs.Common.{◌≡◌, [], ◌∷◌, ◌++◌, length, take, inl, inr, refl, sym, ◌∙◌, ap, subst, arith, length-append}
use Rattle.std.proofs.lemmas.List.Elements.{Contains-push_cases}
use Rattle.cards.specs.Devices.{TakesWhereTold, one_more}
use Rattle.play_dialogues.specs.Words.{letters_of, Says}
use Rattle.play_dialogues.proofs.LineLaws.{taken_none, taken_more, taken_stays, line_fed, line_last, none_left, none_of, reads_err}
use Rattle.play_dialogues.proofs.LetterLaws.{letters_more, letters_none}
use Rattle.play_dialogues.proofs.WordLaws.{says_all}
use Rattle.play_dialogues.proofs.lines.next_line.Goals as goal

pub loop-turn-init : goal.loop-turn-init
loop-turn-init g c = record {
  seen = [];
  taken = taken_none (g.S.Source.state c.args.source.now).bytes;
  none_failed = refl;
  counted = refl;
  letters_are = c.new-letters.ensures ∙ sym letters_none;
  one = λ has. absurd (omega (arith, has.1));
}

pub loop-turn-preserved : goal.loop-turn-preserved
loop-turn-preserved g c =
    let kept = c.loop-turn.invariant in
    let byte = c.in-Some.byte in
    let gives = rw c.in-Some.is at c.in_ok-byte.ensures in
    record {
      seen = kept.seen ++ byte ∷ [];
      taken = taken_more (g.S.Source.state c.args.source.now).bytes (g.S.Source.state c.loop-turn.source).bytes (g.S.Source.state c.next_byte.new.source).bytes kept.seen (byte ∷ []) kept.taken gives.0;
      none_failed = gives.1 ∙ kept.none_failed;
      counted = omega (arith, kept.counted, length-append kept.seen (byte ∷ []));
      letters_are = c.keep.ensures ∙ (ap (λ l. take 6 (l ++ letters_of (byte ∷ []))) kept.letters_are ∙ letters_more kept.seen byte);
      one = λ has. elim (Contains-push_cases kept.seen byte 10 has) [
        | inl before ↦ kept.one before
        | inr same ↦ c.if-byte-eq10.false same
      ];
    }

pub returns-then-turn-eq0 : goal.returns-then-turn-eq0
returns-then-turn-eq0 g c =
    let kept = c.loop-turn.invariant in
    let left = (g.S.Source.state c.args.source.now).bytes in
    let middle = (g.S.Source.state c.loop-turn.source).bytes in
    let left' = (g.S.Source.state c.next_byte.new.source).bytes in
    let gives = rw c.in_default.is at c.in_ok-byte.ensures in
    let nothing : kept.seen ≡ [] = none_of kept.seen (omega (arith, kept.counted, c.if-turn-eq0.true)) in (
      none_left left middle left' (subst (λ s. TakesWhereTold left middle s) nothing kept.taken) gives.0.0 gives.0.1,
      gives.1 ∙ kept.none_failed,
    )

pub returns-in_default : goal.returns-in_default
returns-in_default g c =
    let kept = c.loop-turn.invariant in
    let left = (g.S.Source.state c.args.source.now).bytes in
    let middle = (g.S.Source.state c.loop-turn.source).bytes in
    let left' = (g.S.Source.state c.next_byte.new.source).bytes in
    let gives = rw c.in_default.is at c.in_ok-byte.ensures in (
      record {
        line = kept.seen;
        next = line_last left middle left' kept.seen kept.taken gives.0.0 gives.0.1 kept.one (λ nothing. c.if-turn-eq0.false (sym kept.counted ∙ ap length nothing));
        says = says_all (letters_of kept.seen) c.typed_of.result (subst (λ l. Says l c.typed_of.result) (c.as_slice.ensures.value ∙ kept.letters_are) c.typed_of.ensures);
      },
      gives.1 ∙ kept.none_failed,
    )

pub returns-then-byte-eq10 : goal.returns-then-byte-eq10
returns-then-byte-eq10 g c =
    let kept = c.loop-turn.invariant in
    let left = (g.S.Source.state c.args.source.now).bytes in
    let middle = (g.S.Source.state c.loop-turn.source).bytes in
    let left' = (g.S.Source.state c.next_byte.new.source).bytes in
    let gives = rw c.in-Some.is at c.in_ok-byte.ensures in
    let fed = subst (λ b. TakesWhereTold middle left' (b ∷ [])) c.if-byte-eq10.true gives.0 in (
      record {
        line = kept.seen;
        next = line_fed left middle left' kept.seen kept.taken fed kept.one;
        says = says_all (letters_of kept.seen) c.typed_of-then-byte-eq10.result (subst (λ l. Says l c.typed_of-then-byte-eq10.result) (c.as_slice-then-byte-eq10.ensures.value ∙ kept.letters_are) c.typed_of-then-byte-eq10.ensures);
      },
      gives.1 ∙ kept.none_failed,
    )

pub returns-in_err-byte : goal.returns-in_err-byte
returns-in_err-byte g c =
    let kept = c.loop-turn.invariant in
    let fails = c.in_err-byte.ensures in
    reads_err (g.S.Source.state c.args.source.now) (g.S.Source.state c.next_byte.new.source) c.from_residual.result _ c.from_residual.ensures.1
    (record {
      lost = kept.seen;
      first = taken_stays (g.S.Source.state c.args.source.now).bytes (g.S.Source.state c.loop-turn.source).bytes (g.S.Source.state c.next_byte.new.source).bytes kept.seen kept.taken fails.bytes;
      why = inl (fails.counted ∙ ap one_more kept.none_failed);
    })

pub returns : goal.returns
returns g c =
    let kept = c.loop-turn.invariant in
    record {
      lost = kept.seen;
      first = kept.taken;
      why = inr (kept.none_failed, omega (arith, kept.counted, c.loop-turn-test.false));
    }
