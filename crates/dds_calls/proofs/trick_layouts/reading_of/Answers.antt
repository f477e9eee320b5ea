-- Each fault is ruled out before the next one is looked for.
use Rattle.std.proofs.Common.{◌∙◌, refl, inl, inr}
use Rattle.dds_calls.specs.declared.board_faults.BoardFault.TheVariants.{StrayNumber, PlayedAndHeld, CardTwice}
use Rattle.dds_calls.proofs.FaultOrder.{clear_more}
use Rattle.dds_calls.proofs.Positions.{not_stray, not_stray_bit}
use Rattle.dds_calls.proofs.ReadingLaws.{held_now, not_held_now, trick_few, trick_each, trick_no_more, words_alone, card_twice, no_card_twice}
use Rattle.dds_calls.proofs.trick_layouts.reading_of.Goals as goal

pub trick_size_of-requires-clause-clear : goal.trick_size_of-requires-clause-clear
trick_size_of-requires-clause-clear c =
    let board = c.args.board.now in
    clear_more board c.args.ask StrayNumber 9 refl c.in-Ok.ensures.clear
    (λ h. elim h [ inl trick ↦ not_stray board c.in-Some.trick.items c.in-Some.ensures trick | inr bit ↦ not_stray_bit board.remain_cards c.if-not-are_of_cards.ensures bit ])

pub returns-then-are_held : goal.returns-then-are_held
returns-then-are_held c =
    let sized = c.in-Ok-trick_size_of.ensures in (
      held_now c.args.board.now c.in-Some.trick.items c.as_slice.result.now c.in-Ok-trick_size_of.played c.words_of-words.result c.if-not-are_of_cards.ensures c.in-Some.ensures sized.size (c.as_slice.ensures.value ∙ c.truncate.ensures.items) c.words_of-words.ensures c.if-are_held.ensures,
      sized.clear,
    )

pub have_card_twice-requires : goal.have_card_twice-requires
have_card_twice-requires c =
    let sized = c.in-Ok-trick_size_of.ensures in
    words_alone c.args.board.now c.in-Some.trick.items c.as_slice.result.now c.in-Ok-trick_size_of.played c.words_of-words.result c.if-not-are_of_cards.ensures c.in-Some.ensures sized.size (c.as_slice.ensures.value ∙ c.truncate.ensures.items) c.words_of-words.ensures

pub returns-then-have_card_twice : goal.returns-then-have_card_twice
returns-then-have_card_twice c =
    let sized = c.in-Ok-trick_size_of.ensures in
    let board = c.args.board.now in
    let not = not_held_now board c.in-Some.trick.items c.as_slice.result.now c.in-Ok-trick_size_of.played c.words_of-words.result c.if-not-are_of_cards.ensures c.in-Some.ensures sized.size (c.as_slice.ensures.value ∙ c.truncate.ensures.items) c.words_of-words.ensures c.if-are_held.ensures in (
      card_twice board c.in-Some.trick.items c.as_slice.result.now c.in-Ok-trick_size_of.played c.words_of-words.result c.if-not-are_of_cards.ensures c.in-Some.ensures sized.size (c.as_slice.ensures.value ∙ c.truncate.ensures.items) c.words_of-words.ensures c.if-have_card_twice.ensures,
      clear_more board c.args.ask PlayedAndHeld 14 refl sized.clear not,
    )

pub returns : goal.returns
returns c =
    let sized = c.in-Ok-trick_size_of.ensures in
    let board = c.args.board.now in
    let given = c.in-Some.trick.items in
    let played = c.in-Ok-trick_size_of.played in
    let held = c.words_of-words.result in
    let of = c.if-not-are_of_cards.ensures in
    let items = c.truncate.new.self.items in
    let is = c.truncate.ensures.items in
    let words = c.words_of-words.ensures in
    let not = not_held_now board given c.as_slice.result.now played held of c.in-Some.ensures sized.size (c.as_slice.ensures.value ∙ c.truncate.ensures.items) words c.if-are_held.ensures in
    let c14 = clear_more board c.args.ask PlayedAndHeld 14 refl sized.clear not in
    record {
      leader_is = c.in-Ok.ensures.leader_is;
      trump_is = c.in-Ok.ensures.trump_is;
      of_cards = of;
      words_are = words;
      size = sized.size;
      some = sized.some;
      equal = sized.equal;
      few = trick_few board given items played held of c.in-Some.ensures sized.size is words;
      each = trick_each board given items played held of c.in-Some.ensures sized.size is words;
      no_more = trick_no_more board given items played held of c.in-Some.ensures sized.size is words;
      gone = rw c.as_slice.ensures.value at c.if-are_held.ensures;
      apart = c.if-have_card_twice.ensures;
      clear = clear_more board c.args.ask CardTwice 15 refl c14 (no_card_twice board given items played held of c.in-Some.ensures sized.size is words c.if-have_card_twice.ensures);
    }
