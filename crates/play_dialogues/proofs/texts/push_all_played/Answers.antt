use Rattle.std.proofs.Common.{sym, append-nil, arith}
use Rattle.std.specs.Prelude.{string_bytes}
use Rattle.cards.specs.declared.suits.Suit.TheVariants.{Spades}
use Rattle.cards.specs.declared.pack.Rank.TheVariants.{Two}
use Rattle.cards.specs.Pack.{card_of}
use Rattle.play_dialogues.specs.Texts.{left_in, played_line, played_text}
use Rattle.play_dialogues.proofs.TextLaws.{piece_more, pieces_done}
use Rattle.play_dialogues.proofs.texts.push_all_played.Goals as goal

pub loop-card-init : goal.loop-card-init
unfolding played_text
loop-card-init c = sym (append-nil (string_bytes c.args.text.now))

pub loop-card-preserved : goal.loop-card-preserved
unfolding played_text
loop-card-preserved c =
    piece_more (played_line (left_in c.args.before.now)) c.args.cards.now c.loop-card.card-index (string_bytes c.args.text.now) (string_bytes c.loop-card.text) c.loop-card.invariant
    (card_of Spades Two) (string_bytes c.push_played.new.text) (omega arith) c.in_ok-push_played.ensures

pub returns : goal.returns
unfolding played_text
returns c =
    pieces_done (played_line (left_in c.args.before.now)) c.args.cards.now c.loop-card.card-index (string_bytes c.args.text.now) (string_bytes c.loop-card.text) c.loop-card.invariant c.loop-card-test.false
