-- What the words of a Play section say (PBN 2.1, section 3.5).
use Rattle.std.specs.Prelude.{ℕ, ◌-◌, ◌==◌, Bool, false, List, [], ◌∷◌, length, take, Option, None, Some, codes}
use Rattle.std.specs.Prelude.{if◌then◌else◌, slice_get}
use Rattle.std.specs.List.{filter_map, slice_split}
use Rattle.cards.specs.declared.suits.Suit.{Suit}
use Rattle.cards.specs.declared.pack.Rank.{Rank}
use Rattle.cards.specs.Pack.{card_of}
use Rattle.pbn_deals.specs.Letters.{is_blank, rank_of_letter}
use Rattle.recorded_plays.specs.declared.plays.Slot.{Slot}
use Rattle.recorded_plays.specs.declared.plays.Slot.TheVariants.{Played, Unknown, Unread}
use Rattle.recorded_plays.specs.Words.{before_any, suit_of_letter}

-- a word up to its first remark: `!`, `?`, a note `=1=` or a number `$1`
abbrev pub without_remarks : List ℕ → List ℕ
without_remarks word = before_any (codes "!?=$") word

abbrev pub card_slot : Option Suit → Option Rank → Slot
card_slot (Some suit) (Some rank) = Played (card_of suit rank)
card_slot (Some suit) None = Unread
card_slot None rank = Unread

-- what a word says of one player's card to one trick; a word of remarks alone says nothing
abbrev pub slot_of : List ℕ → Option Slot
slot_of [] = None
slot_of (byte ∷ []) = if byte == 45 then Some Unknown else Some Unread
slot_of (suit ∷ rank ∷ []) = Some (card_slot (suit_of_letter suit) (rank_of_letter rank))
slot_of (one ∷ two ∷ three ∷ more) = Some Unread

abbrev pub word_slot : List ℕ → Option Slot
word_slot word = slot_of (without_remarks word)

-- a section ends at its first `*`, `+` or `^`
abbrev pub before_end : List ℕ → List ℕ
before_end text = before_any (codes "*+^") text

-- that of the words between the blanks
abbrev pub words_slots : List ℕ → List Slot
words_slots text = filter_map word_slot (slice_split is_blank (before_end text))

abbrev pub is_caret : Option ℕ → Bool
is_caret None = false
is_caret (Some byte) = byte == 94

-- the section ends with an irregularity
abbrev pub is_irregular : List ℕ → Bool
is_irregular text = is_caret (slice_get text (length (before_end text)))

-- An irregularity is one of the card before it, which is left out.
abbrev pub slots_of : List ℕ → List Slot
slots_of text =
    if is_irregular text then take (length (words_slots text) - 1) (words_slots text) else words_slots text
