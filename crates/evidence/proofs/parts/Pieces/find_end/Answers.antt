use Rattle.std.proofs.Common.{ℕ, List, [], ◌≡◌, ◌+◌, ◌≤◌, ◌⊎◌, ◌++◌, length, inl, inr, sym, ◌∙◌, ap, subst, arith, append-nil, length-append, length-drop, Bool, Ok, Err}
use Rattle.memchr.specs.Find.{OccursAt}
use Rattle.cards.specs.Devices.{Device, TakesWhereTold}
use Rattle.evidence.specs.Ends.{ReadsOn}
use Rattle.cards.proofs.DeviceLemmas.{take-drop_rest}
use Rattle.streams.proofs.InputLemmas.{takes_twice, all_taken}
use Rattle.evidence.specs.Pieces.{border}
use Rattle.evidence.proofs.PieceLemmas.{none_at_all, found_end, passed_more, none_behind, seen_after, seen_more, room_after, room_more, counted_more, stops_after, match_err, none_seen}
use Rattle.evidence.proofs.parts.Pieces.find_end.Goals as goal

pub returns-in-Some : goal.returns-in-Some
returns-in-Some g c =
    let inv = c.loop-turn.invariant in
    let held = c.loop-turn.self.held.items in
    let found = rw (c.deref.ensures.value, take-drop_rest held c.loop-turn.searched) at c.in-Some.ensures in
    let fits = found.1.fits in
    record {
      taken = inv.taken;
      passed = inv.passed;
      given = inv.given;
      parts = inv.parts;
      long = inv.long;
      ends = found_end inv.passed held c.loop-turn.searched inv.within inv.none _ c.in-Some.place found.0 found.1;
      within = omega (arith, length-drop c.loop-turn.searched held);
      empty = λ none. absurd (omega arith);
      counted = inv.counted;
      none_failed = inv.none_failed;
    }

pub returns-in_err-fill : goal.returns-in_err-fill
returns-in_err-fill g c =
    let inv = c.loop-turn.invariant in
    let fault = c.in_err-fill.field-0.0 in
    let reads = subst (λ (device : Device). ReadsOn device (g.S.Source.state c.fill.new.self.source) c.shorten.new.self.held.items c.fill.new.self.held.items (Err fault))
    (ap g.S.Source.state c.shorten.ensures.source) c.in_err-fill.ensures.reads in
    match_err _ _ c.from_residual.result c.in_err-fill.field-0.0 c.from_residual.ensures.1
    (inl (stops_after _ _ _ c.shorten.new.self.held.items c.fill.new.self.held.items inv.taken c.in_err-fill.field-0.0 inv.given inv.none_failed reads))

pub returns-then-not-branch : goal.returns-then-not-branch
returns-then-not-branch g c =
    let inv = c.loop-turn.invariant in
    let held = c.loop-turn.self.held.items in
    let left = c.shorten.new.self.held.items in
    let short = c.shorten.ensures.bytes in
    let told = subst (λ (device : Device). ReadsOn device (g.S.Source.state c.fill.new.self.source) left c.fill.new.self.held.items (Ok c.in_ok-fill.field-0))
    (ap g.S.Source.state c.shorten.ensures.source) c.in_ok-fill.ensures.reads in
    let reads = subst (λ (more : Bool). ReadsOn (g.S.Source.state c.loop-turn.self.source) (g.S.Source.state c.fill.new.self.source) left c.fill.new.self.held.items (Ok more))
    c.if-not-branch.true told in
    let nowhere = rw (c.deref.ensures.value, take-drop_rest held c.loop-turn.searched) at c.in_default.ensures in
    let none = none_at_all inv.passed held c.loop-turn.searched inv.within inv.none nowhere in
    let same : c.fill.new.self.held.items ≡ left = reads.1.behind ∙ append-nil left in
    let seen = seen_after inv.passed held short.cut left short.parts in
    let room = room_after c.loop-turn.is_long c.shorten.result.1 inv.passed held short.cut left [] inv.room short.parts short.let_go in
    let passed = inv.passed ++ short.cut in
    let all : inv.passed ++ held ≡ passed ++ c.fill.new.self.held.items = seen ∙ ap (λ l. passed ++ l) (sym same) in
    let count = c.len.ensures in
    let long = c.fill.new.self.held.ok.0 in
    record {
      taken = inv.taken;
      passed = passed;
      given = subst (λ t. TakesWhereTold (g.S.Source.state c.args.self.now.source).bytes (g.S.Source.state c.fill.new.self.source).bytes t)
          (append-nil inv.taken) (takes_twice _ _ _ inv.taken [] inv.given reads.1.given);
      parts = inv.parts ∙ all;
      long = passed_more c.loop-turn.is_long c.shorten.result.1 inv.passed short.cut left inv.long short.let_go;
      ends = inr (
        all_taken _ _ _ inv.taken inv.given reads.1.given reads.0,
        omega (arith, length-append passed c.fill.new.self.held.items),
        λ place o. none place (subst (λ l. OccursAt l border place) (sym all) o),
      );
      within = omega arith;
      empty = λ zero. (none_seen passed left c.fill.new.self.held.items room (sym same) (omega arith), all_taken _ _ _ inv.taken inv.given reads.1.given reads.0);
      counted = c.in_ok-fill.ensures.before ∙ counted_more c.args.self.now.before c.loop-turn.self.before c.shorten.new.self.before inv.passed short.cut inv.counted short.counted;
      none_failed = reads.1.none_failed ∙ inv.none_failed;
    }

pub loop-turn-preserved : goal.loop-turn-preserved
loop-turn-preserved g c =
    let inv = c.loop-turn.invariant in
    let held = c.loop-turn.self.held.items in
    let left = c.shorten.new.self.held.items in
    let short = c.shorten.ensures.bytes in
    let told = subst (λ (device : Device). ReadsOn device (g.S.Source.state c.fill.new.self.source) left c.fill.new.self.held.items (Ok c.in_ok-fill.field-0))
    (ap g.S.Source.state c.shorten.ensures.source) c.in_ok-fill.ensures.reads in
    let reads = subst (λ (more : Bool). ReadsOn (g.S.Source.state c.loop-turn.self.source) (g.S.Source.state c.fill.new.self.source) left c.fill.new.self.held.items (Ok more))
    c.if-not-branch.false told in
    let nowhere = rw (c.deref.ensures.value, take-drop_rest held c.loop-turn.searched) at c.in_default.ensures in
    let none = none_at_all inv.passed held c.loop-turn.searched inv.within inv.none nowhere in
    let seen = seen_after inv.passed held short.cut left short.parts in
    let room = room_after c.loop-turn.is_long c.shorten.result.1 inv.passed held short.cut left reads.0 inv.room short.parts short.let_go in
    let searched = c.shorten.ensures.searched in
    let some = reads.2 in
    let passed = inv.passed ++ short.cut in
    let more = reads.0 in
    let behind = reads.1.behind in
    let long : length c.fill.new.self.held.items ≡ length left + length more = ap length behind ∙ length-append left more in
    record {
      taken = inv.taken ++ more;
      passed = passed;
      given = takes_twice _ _ _ inv.taken more inv.given reads.1.given;
      parts = seen_more c.args.self.now.held.items inv.taken inv.passed held short.cut left more inv.parts short.parts ∙ ap (λ l. passed ++ l) (sym behind);
      long = passed_more c.loop-turn.is_long c.shorten.result.1 inv.passed short.cut left inv.long short.let_go;
      room = subst (λ (l : List ℕ). (length passed ≡ 0) ⊎ (6 ≤ length l)) (sym behind) (room_more passed left more room);
      within = omega arith;
      none = λ place low o. none_behind passed left more room (λ p occurs. none p (subst (λ l. OccursAt l border p) (sym seen) occurs))
          place (omega arith) (subst (λ l. OccursAt (passed ++ l) border place) behind o);
      counted = c.in_ok-fill.ensures.before ∙ counted_more c.args.self.now.before c.loop-turn.self.before c.shorten.new.self.before inv.passed short.cut inv.counted short.counted;
      none_failed = reads.1.none_failed ∙ inv.none_failed;
      turns = omega (arith, length-append inv.taken more);
    }
