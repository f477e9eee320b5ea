-- Values that stand in a page as they are.
use Rattle.std.specs.Prelude.{ℕ, ◌==◌, Bool, not, ◌&&◌, List, nat_le, nat_lt}
use Rattle.std.specs.List.{list_all}
use Rattle.cards.specs.Bytes as ascii

-- a character of ASCII that prints, and could begin or end no markup
abbrev pub is_plain_byte : ℕ → Bool
is_plain_byte byte =
    nat_le ascii.blank byte && (nat_lt byte ascii.delete &&
    (not (byte == ascii.ampersand) && (not (byte == ascii.open_angle) &&
    not (byte == ascii.close_angle))))

abbrev pub is_plain : List ℕ → Bool
is_plain value = list_all is_plain_byte value
