-- The letters of the ranks so far were added.
use Rattle.std.proofs.Common.{◌≡◌, ◌++◌, take}
use Rattle.std.specs.Prelude.{flat_map, string_bytes}
use Rattle.play_dialogues.specs.Texts.{left_in, ranks_falling, held_letter}
use Rattle.play_dialogues.proofs.texts.push_suit.Given as goal

abbrev pub invariant-loop-rank : goal.invariant-loop-rank
invariant-loop-rank l = record {
  items : l.rank-items ≡ ranks_falling;
  added : string_bytes l.text ≡ string_bytes l.fn.text
      ++ flat_map (held_letter (left_in l.playing) l.seat l.suit) (take l.rank-index ranks_falling);
}
