use Rattle.std.proofs.Common.{◌≡◌, ◌+◌, ◌-◌, arith}
use Rattle.cards.specs.Seats.{side_of}
use Rattle.cards.specs.Deal.{size_of}
use Rattle.play_rules.specs.History.{Opening, tricks_of}
use Rattle.play_rules.specs.Legal.{IsPlay}
use Rattle.strategies.specs.Values.{opening_of}
use Rattle.deal_subcommands.proofs.LineLemmas.{others_of}
use Rattle.deal_subcommands.proofs.line.runs.line_of.Goals as goal

pub returns : goal.returns
returns c =
    let shown = c.args.proven.now in
    let opening : Opening = opening_of shown.layout shown.declarer shown.trump in
    let play : IsPlay opening c.line.result.items = rw c.requires.declarers at c.line.ensures.play in
    let exactly : shown.k + (size_of shown.layout - shown.k) ≡ size_of shown.layout → tricks_of (side_of shown.declarer) opening.trump opening.leader c.line.result.items ≡ shown.k =
    rw c.requires.declarers at (rw c.requires.defenders at c.line.ensures.exactly) in
    let declarers = exactly (omega (arith, c.invariant.ensures.value.within)) in
    record { play = play; declarers_have = declarers; defenders_have = others_of (side_of shown.declarer) opening c.line.result.items shown.k play declarers }
