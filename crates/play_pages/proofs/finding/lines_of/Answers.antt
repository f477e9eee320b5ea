use Rattle.std.proofs.Common.{◌∙◌, ℕ, [], ◌∷◌, length, ap, arith, length-append}
use Rattle.std.specs.Option.{option_copied}
use Rattle.std.proofs.lemmas.List.{take_all}
use Rattle.play_pages.specs.Answers.{numbers_in}
use Rattle.play_pages.specs.Lines.{lines_of}
use Rattle.play_pages.proofs.LineLaws.{lines_more, lines_count}
use Rattle.play_pages.proofs.finding.lines_of.Goals as goal

pub push-requires : goal.push-requires
push-requires c = (
  omega arith,
  omega (arith, c.loop-place.invariant.size, c.loop-place-test.true, ap length c.cards-count.ensures, c.invariant.ensures.within, c.invariant.ensures.layout.at_most_13),
)

pub loop-place-preserved : goal.loop-place-preserved
loop-place-preserved c =
    let line = c.line_at.result in
    record {
      size = ap length c.push.ensures.items ∙ (length-append c.loop-place.lines.items (line ∷ []) ∙ omega (arith, c.loop-place.invariant.size));
      are = lines_more c.args.play.now (numbers_in (option_copied c.args.values)) c.loop-place.place line c.line_at.ensures.card c.line_at.ensures.line c.loop-place.lines.items c.push.new.self.items c.loop-place.invariant.are c.push.ensures.items;
    }

pub returns-clause-lines : goal.returns-clause-lines
returns-clause-lines c =
    let numbers = numbers_in (option_copied c.args.values) in
    let all = lines_of c.args.play.now numbers in
    record {
      start = c.number.ensures;
      lines_are = c.loop-place.invariant.are ∙ take_all c.loop-place.place all (omega (arith, lines_count c.args.play.now numbers, ap length c.cards-count.ensures));
      end = c.number-2.ensures ∙ ap (λ (n : ℕ). numbers n) (ap length c.cards-count.ensures);
    }
