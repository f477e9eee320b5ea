-- What the words of a subcommand say, and what `clap`'s matches are read as.
use Rattle.std.specs.Prelude.{◌≡◌, ◌⊎◌, ℕ, Bool, true, false, List, Option, Some, None, codes, option_map}
use Rattle.std.specs.Prelude.{if◌then◌else◌}
use Rattle.std.specs.Str.{bytes_eq}
use Rattle.std.specs.Borrow.{Bor}
use Rattle.std.specs.Str.Parse.{IsNumeral, digits_value, without_leading_plus}
use Rattle.clap.specs.Words.{Row, Text, first_of, one_of}
use Rattle.cards.specs.Seats.{seat_letter}
use Rattle.cards.specs.Pack.{trump_letters}
use Rattle.command_words.specs.Options.{OptionNumbers, IsIn, nearest_in}
use Rattle.command_words.specs.declared.reading.LayoutWords.{LayoutWords}

-- the digits, which a plus may precede, write the number
abbrev pub Writes : Text → ℕ → Type 0
Writes text number = IsNumeral 10 (without_leading_plus text) × (digits_value 10 (without_leading_plus text) ≡ number)

-- the words say the layout, the seat under this name and the denomination
abbrev pub SaysDeal : List Row → Text → LayoutWords → Type 0
SaysDeal said name deal = (first_of (codes "LAYOUT") said ≡ Some deal.layout.now)
    × (first_of name said ≡ Some (seat_letter deal.seat))
    × (first_of (codes "TRUMP") said ≡ Some (trump_letters deal.trump))

-- the words have an option's number, or it is the default; it is in its range
abbrev pub SaysNumber : List Row → OptionNumbers → ℕ → Type 0
SaysNumber said option number =
    (text : Text) × (one_of option.name said ≡ Some text) × Writes text number × IsIn option number

-- the words have an option's number; where the option is missing it is that of the processors, as near as the range has
abbrev pub SaysThreads : List Row → ℕ → OptionNumbers → ℕ → Type 0
SaysThreads said processors option number =
    SaysNumber said option number ⊎ ((first_of option.name said ≡ None) × (number ≡ nearest_in option processors))

-- an option without a value stands among the words, or does not
abbrev pub flag_letters : Bool → Text
flag_letters true = codes "true"
flag_letters false = codes "false"

abbrev pub SaysFlag : List Row → Text → Bool → Type 0
SaysFlag said name flag = first_of name said ≡ Some (flag_letters flag)

-- an option stands among the words with this text, or is missing
abbrev pub SaysText : List Row → Text → Option (Bor Text) → Type 0
SaysText said name text = option_map (λ t. t.now) text ≡ first_of name said

-- the file of this name, or the input where there is no name or it is `-`
abbrev pub named_boards : Option Text → Option Text
named_boards None = None
named_boards (Some name) = if bytes_eq name (codes "-") then None else Some name

-- the words name the file with the boards
abbrev pub SaysBoards : List Row → Option (Bor Text) → Type 0
SaysBoards said boards = option_map (λ t. t.now) boards ≡ named_boards (first_of (codes "BOARDS") said)

-- an option without a value is said
abbrev pub is_true : Option Text → Bool
is_true None = false
is_true (Some letters) = bytes_eq letters (codes "true")

abbrev pub is_said : List Row → Text → Bool
is_said said name = is_true (first_of name said)

-- an option with a text is said
abbrev pub is_some_text : Option Text → Bool
is_some_text None = false
is_some_text (Some text) = true

-- what is read is said, and where nothing is read nothing is said
abbrev pub IsRead : {T : Type 0} → (T → Type 0) → Option T → Type 0
IsRead Said (Some read) = Said read
IsRead Said None = (read : _) → Said read → ⊥
