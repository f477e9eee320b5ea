use Rattle.std.proofs.Common.{◌++◌, refl, ◌∙◌, ap, arith}
use Rattle.std.specs.Prelude.{string_bytes}
use Rattle.cards.specs.declared.pack.Rank.TheVariants.{Two}
use Rattle.play_dialogues.specs.Texts.{left_in, ranks_falling, held_letter, suit_text}
use Rattle.play_dialogues.proofs.TextLaws.{piece_more, pieces_done}
use Rattle.play_dialogues.proofs.texts.push_suit.Goals as goal

pub loop-rank-preserved : goal.loop-rank-preserved
loop-rank-preserved c =
    let letter = held_letter (left_in c.args.playing.now) c.args.seat c.args.suit in
    record {
      items = refl;
      added = piece_more letter ranks_falling c.loop-rank.rank-index (string_bytes c.args.text.now) (string_bytes c.loop-rank.text) c.loop-rank.invariant.added
          Two (string_bytes c.push_str.new.self) (omega arith)
          (c.in_ok-push_str.ensures.bytes ∙ ap (λ t. string_bytes c.loop-rank.text ++ t) c.letter_held.ensures);
    }

pub returns : goal.returns
unfolding suit_text
returns c =
    pieces_done (held_letter (left_in c.args.playing.now) c.args.seat c.args.suit) ranks_falling c.loop-rank.rank-index (string_bytes c.args.text.now) (string_bytes c.loop-rank.text) c.loop-rank.invariant.added c.loop-rank-test.false
