-- How a subcommand is defined for `clap`: a rule for each of its words and options.
use Rattle.std.specs.Prelude.{◌≡◌, Bool, List, [], ◌∷◌, Some, map, fold, codes, true, false, pos}
use Rattle.std.specs.Borrow.{Bor}
use Rattle.clap.specs.Words.{Rule, Shape, Text, app_of, new_rule, rule_of, with_rule, with_subcommand}
use Rattle.clap.specs.Simple.{new_shape}
use Rattle.clap.specs.declared.builder.arg.Arg.{Arg}
use Rattle.clap.specs.declared.builder.action.ArgAction.TheVariants.{SetTrue}
use Rattle.clap.specs.declared.builder.command.Command.{Command}
use Rattle.clap.specs.declared.builder.command.Command.TheViews.{out-Command as fields_of}
use Rattle.clap.specs.declared.builder.value_parser.ValueParser.TheVariants.{Names, Signed}
use Rattle.cards.specs.Seats.{seat_letter}
use Rattle.cards.specs.Pack.{trump_letters}
use Rattle.cards.specs.declared.seats.Seat.TheVariants.{North, East, South, West}
use Rattle.cards.specs.declared.suits.Suit.TheVariants.{Spades, Hearts, Diamonds, Clubs}
use Rattle.cards.specs.declared.suits.Trump.TheVariants.{Nt, Suit}
use Rattle.command_words.specs.Options.{OptionNumbers, numbers_of}
use Rattle.command_words.specs.declared.commands.Letters.{Letters}
use Rattle.command_words.specs.declared.definitions.Argument.{Argument}
use Rattle.command_words.specs.declared.definitions.Argument.TheVariants.{Word, OptionalWord, Seat, Trump}
use Rattle.command_words.specs.declared.definitions.Argument.TheVariants.{Number, Flag, Text as AnyText, Side}
use Rattle.command_words.specs.declared.definitions.Definition.{Definition}

-- the letters are those of the seats and of the denominations, and the words those for the sides
pub record AreLetters (letters : Letters) : Type 0 where
  pub seats : map (λ s. s.now) letters.seats.now ≡ map seat_letter (North ∷ East ∷ South ∷ West ∷ [])
  pub trumps : map (λ s. s.now) letters.trumps.now
      ≡ map trump_letters (Nt ∷ Suit Spades ∷ Suit Hearts ∷ Suit Diamonds ∷ Suit Clubs ∷ [])
  pub sides : map (λ s. s.now) letters.sides.now ≡ codes "declarer" ∷ codes "defenders" ∷ []

-- a word that has to be there
abbrev pub word : Text → Rule
word name = record (new_rule name) { required = true }

-- a word that may be missing
abbrev pub optional_word : Text → Rule
optional_word name = new_rule name

-- one of these texts
abbrev pub choice : Text → Bor (List (Bor Text)) → Rule
choice name texts = record (word name) { parser = Some (Names texts) }

-- the layout, a seat of this name, and the denomination
abbrev pub hand_words : Letters → Text → List Rule
hand_words letters seat = word (codes "LAYOUT") ∷ choice seat letters.seats ∷ choice (codes "TRUMP") letters.trumps ∷ []

-- the texts that stand for a missing number: none where the number of processors does
abbrev pub defaults_of : Bool → Text → List Text
defaults_of true default = []
defaults_of false default = default ∷ []

-- `--name NUMBER`, with the number that stands for a missing one; a number with a sign is refused for its range too
abbrev pub number_rule : OptionNumbers → Rule
number_rule option = record (new_rule option.name) {
  long = Some option.name;
  parser = Some (Signed (pos option.least) (pos option.most));
  defaults = defaults_of option.is_by_machine option.default;
  value_names = 1;
}

-- `--name WORD`, with one of these texts, and the one that stands for a missing one
abbrev pub choice_rule : Text → Bor (List (Bor Text)) → Text → Rule
choice_rule name texts default = record (new_rule name) {
  long = Some name;
  parser = Some (Names texts);
  defaults = default ∷ [];
  value_names = 1;
}

-- `--name` alone
abbrev pub flag : Text → Rule
flag name = record (new_rule name) {
  long = Some name;
  action = Some SetTrue;
}

-- `--name TEXT`
abbrev pub text_rule : Text → Rule
text_rule name = record (new_rule name) {
  long = Some name;
  value_names = 1;
}

abbrev pub subcommand : Text → List Rule → Shape
subcommand name rules = record (new_shape name) { rules = rules }

-- the argument has the rule, and is none of the subcommands' too
abbrev pub IsArg : Rule → Arg → Type 0
IsArg rule arg = (rule_of arg ≡ rule) × (arg.global ≡ false)

-- the command has these rules more, at the end, and keeps no argument for its subcommands too
abbrev pub AddsRules : Command → List Rule → Command → Type 0
AddsRules old rules new = (app_of new ≡ fold with_rule (app_of old) rules)
    × ((fields_of old).has_globals ≡ false → (fields_of new).has_globals ≡ false)

-- the command is the subcommand of this shape
abbrev pub IsLeaf : Shape → Command → Type 0
IsLeaf shape made = (app_of made ≡ record { top = shape; subs = [] }) × ((fields_of made).has_globals ≡ false)

-- the command has subcommands of these shapes more, at the end
abbrev pub AddsShapes : Command → List Shape → Command → Type 0
AddsShapes old shapes new = app_of new ≡ fold with_subcommand (app_of old) shapes

-- `clap` reads the command as it read the old one
abbrev pub KeepsShape : Command → Command → Type 0
KeepsShape old new = (app_of new ≡ app_of old) × ((fields_of new).has_globals ≡ (fields_of old).has_globals)

-- the rule of a word or an option
abbrev pub rule_in : Letters → Argument → Rule
rule_in letters (Word row) = word row.name.now
rule_in letters (OptionalWord row) = optional_word row.name.now
rule_in letters (Seat row) = choice row.name.now letters.seats
rule_in letters (Trump row) = choice row.name.now letters.trumps
rule_in letters (Number row) = number_rule (numbers_of row)
rule_in letters (Flag row) = flag row.name.now
rule_in letters (AnyText row) = text_rule row.name.now
rule_in letters (Side row) = choice_rule row.name.now letters.sides row.default.now

-- the shape of a subcommand
abbrev pub shape_in : Letters → Definition → Shape
shape_in letters definition = subcommand definition.name.now (map (rule_in letters) definition.arguments.now)
