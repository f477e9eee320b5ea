use Rattle.std.proofs.Common.{◌≡◌, None, refl, sym, ◌∙◌, subst}
use Rattle.play_rules.specs.Position.{IsReached, turn_of}
use Rattle.play_dialogues.specs.declared.dialogues.End.TheVariants as end
use Rattle.play_dialogues.specs.declared.words.Typed.{Typed}
use Rattle.play_dialogues.specs.Lines.{GivesLine}
use Rattle.play_dialogues.specs.Trails.{Trail}
use Rattle.play_dialogues.specs.Dialogues.{IsTurn}
use Rattle.play_dialogues.specs.Conversing.{Closes}
use Rattle.play_dialogues.proofs.TrailLaws.{fit_first, turn_fit}
use Rattle.play_dialogues.proofs.ConverseLaws.{underway_first, underway_more, read_more, over, input_ends, quits, read_fails, gives_up, turn_fails, asked_some, none_from}
use Rattle.play_dialogues.proofs.dialogues.converse.Goals as goal

pub loop-turn-init : goal.loop-turn-init
loop-turn-init g c = record {
  under = underway_first c.args.trail.now (g.I.Source.state c.args.input.now) (g.O.Sink.state c.args.output.now);
  fit = fit_first c.args.trail.now.now c.args.trail.now c.requires.new c.requires.settled (record { opening = refl; side = refl; tricks = refl });
}

pub returns-then-is_none : goal.returns-then-is_none
returns-then-is_none g c =
    let trail = c.loop-turn.trail in
    let output = g.O.Sink.state c.loop-turn.output in
    let output' = g.O.Sink.state c.close.new.output in
    let reached = subst (λ (t : Trail). IsReached t.now.position) c.trail.view_is c.turn.ensures.reached in
    let none = subst (λ (t : Trail). turn_of t.now.position ≡ None) c.trail.view_is (sym c.turn.ensures.turn ∙ none_from c.turn.result c.if-is_none.ensures) in
    over c.args.trail.now trail (g.I.Source.state c.args.input.now) (g.I.Source.state c.loop-turn.input) (g.O.Sink.state c.args.output.now) output c.loop-turn._turn
    c.loop-turn.invariant.under output' c.close.result reached none
    (subst (λ (t : Trail). Closes t.now output output' end.Played c.close.result) c.trail.view_is c.close.ensures)

pub returns-in-Ok-None : goal.returns-in-Ok-None
returns-in-Ok-None g c =
    let trail = c.loop-turn.trail in
    let output = g.O.Sink.state c.loop-turn.output in
    let output' = g.O.Sink.state c.close-in-Ok-None.new.output in
    let turn = subst (λ (t : Trail). c.turn.result ≡ turn_of t.now.position) c.trail.view_is c.turn.ensures.turn in
    let asked = asked_some trail.now c.turn.result c.loop-turn.invariant.fit.settled turn c.if-is_none.ensures in
    let gives = rw c.in-Ok-None.field-0-is at c.in-Ok-None.ensures in
    input_ends c.args.trail.now trail (g.I.Source.state c.args.input.now) (g.I.Source.state c.loop-turn.input) (g.O.Sink.state c.args.output.now) output c.loop-turn._turn
    c.loop-turn.invariant.under asked (g.I.Source.state c.next_line.new.source) output' c.close-in-Ok-None.result gives.0.0 gives.0.1 gives.1
    (subst (λ (t : Trail). Closes t.now output output' end.InputEnds c.close-in-Ok-None.result) c.trail.view_is c.close-in-Ok-None.ensures)

pub returns-in-Err : goal.returns-in-Err
returns-in-Err g c =
    let trail = c.loop-turn.trail in
    let turn = subst (λ (t : Trail). c.turn.result ≡ turn_of t.now.position) c.trail.view_is c.turn.ensures.turn in
    let asked = asked_some trail.now c.turn.result c.loop-turn.invariant.fit.settled turn c.if-is_none.ensures in
    read_fails c.args.trail.now trail (g.I.Source.state c.args.input.now) (g.I.Source.state c.loop-turn.input) (g.O.Sink.state c.args.output.now) (g.O.Sink.state c.loop-turn.output) c.loop-turn._turn
    c.loop-turn.invariant.under asked (g.I.Source.state c.next_line.new.source) c.in-Err.ensures

pub returns-in-Quit : goal.returns-in-Quit
returns-in-Quit g c =
    let trail = c.loop-turn.trail in
    let input = g.I.Source.state c.loop-turn.input in
    let input' = g.I.Source.state c.next_line.new.source in
    let output = g.O.Sink.state c.loop-turn.output in
    let output' = g.O.Sink.state c.close-in-Quit.new.output in
    let turn = subst (λ (t : Trail). c.turn.result ≡ turn_of t.now.position) c.trail.view_is c.turn.ensures.turn in
    let asked = asked_some trail.now c.turn.result c.loop-turn.invariant.fit.settled turn c.if-is_none.ensures in
    let gives = rw c.in-Ok-Some.field-0-is at c.in-Ok-Some.ensures in
    quits c.args.trail.now trail (g.I.Source.state c.args.input.now) input (g.O.Sink.state c.args.output.now) output c.loop-turn._turn
    c.loop-turn.invariant.under asked input' output' c.close-in-Quit.result
    (subst (λ (t : Typed). GivesLine input.bytes input'.bytes t) c.in-Quit.is gives.0) gives.1
    (subst (λ (t : Trail). Closes t.now output output' end.Quit c.close-in-Quit.result) c.trail.view_is c.close-in-Quit.ensures)

pub take_turn-requires : goal.take_turn-requires
take_turn-requires g c =
    let turn = subst (λ (t : Trail). c.turn.result ≡ turn_of t.now.position) c.trail.view_is c.turn.ensures.turn in
    record {
      asked = asked_some c.loop-turn.trail.now c.turn.result c.loop-turn.invariant.fit.settled turn c.if-is_none.ensures;
      goes_on = c.in_default.not-Quit;
    }

pub returns-in-Err-take_turn : goal.returns-in-Err-take_turn
returns-in-Err-take_turn g c =
    let trail = c.loop-turn.trail in
    let first = g.I.Source.state c.args.input.now in
    let input = g.I.Source.state c.loop-turn.input in
    let input' = g.I.Source.state c.next_line.new.source in
    let under = c.loop-turn.invariant.under in
    let turn = subst (λ (t : Trail). c.turn.result ≡ turn_of t.now.position) c.trail.view_is c.turn.ensures.turn in
    let asked = asked_some trail.now c.turn.result c.loop-turn.invariant.fit.settled turn c.if-is_none.ensures in
    let gives = rw c.in-Ok-Some.field-0-is at c.in-Ok-Some.ensures in
    turn_fails c.args.trail.now trail first input (g.O.Sink.state c.args.output.now) (g.O.Sink.state c.loop-turn.output) c.loop-turn._turn
    under input' c.in-Ok-Some.typed asked (read_more first input input' under.lines c.in-Ok-Some.typed under.read gives.0 gives.1)
    c.take_turn.new.trail (g.O.Sink.state c.take_turn.new.output) c.in-Err-take_turn.end c.in-Err-take_turn.ensures

pub loop-turn-preserved : goal.loop-turn-preserved
loop-turn-preserved g c =
    let trail = c.loop-turn.trail in
    let first = g.I.Source.state c.args.input.now in
    let input = g.I.Source.state c.loop-turn.input in
    let input' = g.I.Source.state c.next_line.new.source in
    let under = c.loop-turn.invariant.under in
    let turn = subst (λ (t : Trail). c.turn.result ≡ turn_of t.now.position) c.trail.view_is c.turn.ensures.turn in
    let asked = asked_some trail.now c.turn.result c.loop-turn.invariant.fit.settled turn c.if-is_none.ensures in
    let gives = rw c.in-Ok-Some.field-0-is at c.in-Ok-Some.ensures in
    let before = read_more first input input' under.lines c.in-Ok-Some.typed under.read gives.0 gives.1 in
    let takes = c.in_default-take_turn.ensures in
    let done : IsTurn trail before.line c.take_turn.new.trail takes.0 = record { asked = asked; typed = c.in-Ok-Some.typed; says = before.says; acts = takes.1 } in
    record {
      under = underway_more c.args.trail.now trail first input (g.O.Sink.state c.args.output.now) (g.O.Sink.state c.loop-turn.output) c.loop-turn._turn
          under input' c.in-Ok-Some.typed asked before c.take_turn.new.trail (g.O.Sink.state c.take_turn.new.output) takes;
      fit = turn_fit c.args.trail.now.now trail before.line c.take_turn.new.trail takes.0 done c.loop-turn.invariant.fit;
    }

pub returns : goal.returns
returns g c =
    gives_up c.args.trail.now c.loop-turn.trail (g.I.Source.state c.args.input.now) (g.I.Source.state c.loop-turn.input) (g.O.Sink.state c.args.output.now) (g.O.Sink.state c.loop-turn.output) c.loop-turn._turn
    c.loop-turn.invariant.under c.loop-turn-test.false
