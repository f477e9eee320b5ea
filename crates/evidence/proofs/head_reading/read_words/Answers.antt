use Rattle.std.specs.Fmt.{decimal}
use Rattle.evidence.specs.SectionTexts.{root_text}
use Rattle.evidence.proofs.HeadLemmas.{first_word, second_word, third_word, fourth_word, no_byte, from_first_root, from_second_root}
use Rattle.evidence.proofs.head_reading.read_words.Goals as goal

pub returns-in_default-cut_at : goal.returns-in_default-cut_at
returns-in_default-cut_at c = λ claim rest is e.
    let one = first_word claim rest is c.args.text.now _ _ c.in-Some.ensures.0 c.in-Some.ensures.1 e in
    no_byte 32 _ (decimal claim.k) (from_first_root claim rest) c.in_default-cut_at.ensures one.1

pub returns-in_default-cut_at-2 : goal.returns-in_default-cut_at-2
returns-in_default-cut_at-2 c = λ claim rest is e.
    let one = first_word claim rest is c.args.text.now _ _ c.in-Some.ensures.0 c.in-Some.ensures.1 e in
    let two = second_word claim rest is _ _ _ c.in-Some-cut_at.ensures.0 c.in-Some-cut_at.ensures.1 one.1 in
    no_byte 32 _ (root_text claim.declarer_root) (from_second_root claim rest) c.in_default-cut_at-2.ensures two.1

pub returns-in_default-cut_at-3 : goal.returns-in_default-cut_at-3
returns-in_default-cut_at-3 c = λ claim rest is e.
    let one = first_word claim rest is c.args.text.now _ _ c.in-Some.ensures.0 c.in-Some.ensures.1 e in
    let two = second_word claim rest is _ _ _ c.in-Some-cut_at.ensures.0 c.in-Some-cut_at.ensures.1 one.1 in
    let three = third_word claim rest is _ _ _ c.in-Some-cut_at-2.ensures.0 c.in-Some-cut_at-2.ensures.1 two.1 in
    no_byte 10 _ (root_text claim.defenders_root) rest c.in_default-cut_at-3.ensures three.1

pub returns : goal.returns
returns c = record {
  after = _;
  first = c.in-Some.ensures.0;
  found = λ claim rest is e.
      let one = first_word claim rest is c.args.text.now _ _ c.in-Some.ensures.0 c.in-Some.ensures.1 e in
      let two = second_word claim rest is _ _ _ c.in-Some-cut_at.ensures.0 c.in-Some-cut_at.ensures.1 one.1 in
      let three = third_word claim rest is _ _ _ c.in-Some-cut_at-2.ensures.0 c.in-Some-cut_at-2.ensures.1 two.1 in
      let four = fourth_word claim rest is _ _ _ c.in-Some-cut_at-3.ensures.0 c.in-Some-cut_at-3.ensures.1 three.1 in
      (record { declarer_is = one.0; tricks_are = two.0; declarer_root_is = three.0; defenders_root_is = four.0 }, four.1);
}
