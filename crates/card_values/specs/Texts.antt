-- The text of the values of cards: whose turn it is, and a line for each number of tricks that a card leads to, the
-- most first, with its cards.
use Rattle.std.specs.Prelude.{ℕ, List, [], ◌∷◌, ◌++◌, codes, flat_map, nat_eq, Bool, if◌then◌else◌, decimal}
use Rattle.std.specs.List.{list_any}
use Rattle.cards.specs.Seats.{seat_letter}
use Rattle.play_rules.specs.Legal.{seat_to_play}
use Rattle.cards.specs.CardTexts.{card_text}
use Rattle.card_values.specs.declared.values.CardValue.{CardValue}
use Rattle.card_values.specs.CardValues.{ShownValues}
use Rattle.cards.specs.Bytes as ascii

-- the numbers of tricks, the most first
abbrev pub falling_counts : List ℕ
falling_counts = 13 ∷ 12 ∷ 11 ∷ 10 ∷ 9 ∷ 8 ∷ 7 ∷ 6 ∷ 5 ∷ 4 ∷ 3 ∷ 2 ∷ 1 ∷ 0 ∷ []

abbrev pub is_worth : ℕ → CardValue → Bool
is_worth tricks value = nat_eq value.tricks tricks

-- a card after a blank, if it leads to this many tricks
abbrev pub card_if_worth : ℕ → CardValue → List ℕ
card_if_worth tricks value = if is_worth tricks value then ascii.blank ∷ card_text value.card else []

-- the cards that lead to this many tricks
unfoldable pub cards_worth : List CardValue → ℕ → List ℕ
cards_worth values tricks = flat_map (card_if_worth tricks) values

-- their line: `3  HK HQ DA`
unfoldable pub line_of : List CardValue → ℕ → List ℕ
line_of values tricks = decimal tricks ++ (codes " " ++ (cards_worth values tricks ++ codes "\n"))

-- the line for this many tricks, if a card leads to them
abbrev pub line_if_any : List CardValue → ℕ → List ℕ
line_if_any values tricks = if list_any (is_worth tricks) values then line_of values tricks else []

-- all lines
unfoldable pub lines_text : List CardValue → List ℕ
lines_text values = flat_map (line_if_any values) falling_counts

-- the number of tricks after two blanks, and the cards that lead to it: `  3 HK HQ DA`
unfoldable pub group_of : List CardValue → ℕ → List ℕ
group_of values tricks = codes "  " ++ (decimal tricks ++ cards_worth values tricks)

-- the group of this many tricks, if a card leads to them
abbrev pub group_if_any : List CardValue → ℕ → List ℕ
group_if_any values tricks = if list_any (is_worth tricks) values then group_of values tricks else []

-- all groups
unfoldable pub groups_text : List CardValue → List ℕ
groups_text values = flat_map (group_if_any values) falling_counts

-- `E to play`, and the lines
unfoldable pub values_text : ShownValues → List ℕ
values_text shown =
    seat_letter (seat_to_play shown.position.opening shown.position.history)
    ++ (codes " to play\n" ++ lines_text shown.values)
