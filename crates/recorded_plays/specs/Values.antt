-- What the values of the program say on the way to the plays of a text.
use Rattle.std.specs.Prelude.{◌≡◌, ℕ, ◌≤◌, Bool, true, false, List, [], ◌∷◌, ◌++◌, length, Option, None, Some, codes}
use Rattle.std.specs.Prelude.{Result, Ok, Err, IsSome, option_and_then}
use Rattle.std.specs.List.{filter}
use Rattle.std.specs.Option.{option_copied, option_map_or}
use Rattle.cards.specs.declared.seats.Seat.{Seat}
use Rattle.cards.specs.declared.pack.Card.{Card}
use Rattle.cards.specs.Deal.{Deal}
use Rattle.play_rules.specs.Left.{left_of}
use Rattle.play_rules.specs.Legal.{IsLegalHistory, cards_in_play}
use Rattle.pbn_deals.specs.Pieces.{Piece, Space, Kind, Line, rows_of, AreLines}
use Rattle.board_conditions.specs.Games.{Game, first_named, is_gap_kind, pieces_of, games_of}
use Rattle.recorded_plays.specs.declared.plays.Slot.{Slot}
use Rattle.recorded_plays.specs.declared.plays.Slot.TheVariants.{Played}
use Rattle.recorded_plays.specs.declared.plays.PlayEnd.{PlayEnd}
use Rattle.recorded_plays.specs.declared.plays.Lack.{Lack}
use Rattle.recorded_plays.specs.declared.plays.Lack.TheVariants as lack
use Rattle.recorded_plays.specs.declared.follow.Walk.{Walk}
use Rattle.recorded_plays.specs.declared.tags.Tags.{Tags}
use Rattle.recorded_plays.specs.declared.tags.Parts.{Parts}
use Rattle.recorded_plays.specs.declared.game_texts.GameText.{GameText}
use Rattle.recorded_plays.specs.declared.game_texts.Place.{Place}
use Rattle.recorded_plays.specs.declared.game_texts.Place.TheVariants.{BeforeSection, InSection, AfterSection}
use Rattle.recorded_plays.specs.Words.{seat_said, trump_said, says_passed_out}
use Rattle.recorded_plays.specs.Follow.{slot_to_play, IsEnd}
use Rattle.recorded_plays.specs.Sections.{front_text, play_text, lined_pieces}
use Rattle.recorded_plays.specs.Games.{GivesDeal, GivesNoDeal, is_recorded, recorded_games}

-- ---- a play on its way
-- the cards are those of the table
pub record IsWalk (walk : Walk) : Type 0 where
  pub history : walk.table.history ≡ walk.cards.items
  pub left : walk.left ≡ left_of walk.table.opening.deal walk.cards.items

-- one card was played
pub record Plays (first : Seat) (slots : List Slot) (old new : Walk) : Type 0 where
  pub walk : IsWalk new
  pub opening : new.table.opening ≡ old.table.opening
  pub card : Card
  pub cards : new.cards.items ≡ old.cards.items ++ card ∷ []
  pub slot : slot_to_play old.table.opening first slots old.cards.items ≡ Some (Played card)
  pub within : length new.cards.items ≤ cards_in_play old.table.opening

-- there is no card to play
pub record Stops (first : Seat) (slots : List Slot) (irregular : Bool) (end : PlayEnd) (old new : Walk) : Type 0 where
  pub opening : new.table.opening ≡ old.table.opening
  pub cards : new.cards.items ≡ old.cards.items
  pub legal : IsLegalHistory old.table.opening old.cards.items
  pub ends :
      IsEnd old.table.opening old.cards.items
      (slot_to_play old.table.opening first slots old.cards.items)
      irregular end

abbrev pub Steps : Option PlayEnd → Seat → List Slot → Bool → Walk → Walk → Type 0
Steps None first slots irregular old new = Plays first slots old new
Steps (Some end) first slots irregular old new = Stops first slots irregular end old new

-- ---- the tags of a game
-- those of these pieces
pub record AreTags (pieces : List Piece) (tags : Tags) : Type 0 where
  pub board : option_copied tags.board ≡ first_named (codes "BOARD") pieces
  pub deal : option_copied tags.deal ≡ first_named (codes "DEAL") pieces
  pub declarer : option_copied tags.declarer ≡ first_named (codes "DECLARER") pieces
  pub contract : option_copied tags.contract ≡ first_named (codes "CONTRACT") pieces
  pub play : option_copied tags.play ≡ first_named (codes "PLAY") pieces

-- what the values of a game's tags say of its play, or the first part that is lacking
abbrev pub PartsSaid :
    Option (List ℕ) → Option (List ℕ) → Option (List ℕ) → Option (List ℕ) → Result Parts Lack → Type 0
PartsSaid contract play deal declarer (Ok parts) =
    (option_map_or says_passed_out contract false ≡ false) ×
    (option_and_then seat_said play ≡ Some parts.first) ×
    GivesDeal deal parts.deal ×
    (option_and_then trump_said contract ≡ Some parts.trump) ×
    (option_and_then seat_said declarer ≡ Some parts.declarer)
PartsSaid contract play deal declarer (Err lack.PassedOut) = option_map_or says_passed_out contract false ≡ true
PartsSaid contract play deal declarer (Err lack.Play) =
    (option_map_or says_passed_out contract false ≡ false) × (option_and_then seat_said play ≡ None)
PartsSaid contract play deal declarer (Err lack.Deal) =
    (option_map_or says_passed_out contract false ≡ false) ×
    IsSome (option_and_then seat_said play) ×
    GivesNoDeal deal
PartsSaid contract play deal declarer (Err lack.Contract) =
    (option_map_or says_passed_out contract false ≡ false) ×
    IsSome (option_and_then seat_said play) ×
    ((dealt : Deal) × GivesDeal deal dealt) ×
    (option_and_then trump_said contract ≡ None)
PartsSaid contract play deal declarer (Err lack.Declarer) =
    (option_map_or says_passed_out contract false ≡ false) ×
    IsSome (option_and_then seat_said play) ×
    ((dealt : Deal) × GivesDeal deal dealt) ×
    IsSome (option_and_then trump_said contract) ×
    (option_and_then seat_said declarer ≡ None)

abbrev pub SayParts : Tags → Result Parts Lack → Type 0
SayParts tags found =
    PartsSaid (option_copied tags.contract) (option_copied tags.play) (option_copied tags.deal)
    (option_copied tags.declarer) found

-- ---- a game on its way
-- the text of the section with more pieces, where it was this
abbrev pub text_with : Place → List ℕ → List Piece → List ℕ
text_with BeforeSection text more = play_text more
text_with InSection text more = text ++ front_text more
text_with AfterSection text more = text

-- the place after a tag pair, where the flag says that it is a Play tag
abbrev pub after_pair : Place → Bool → Place
after_pair BeforeSection true = InSection
after_pair BeforeSection false = BeforeSection
after_pair InSection is_play = AfterSection
after_pair AfterSection is_play = AfterSection

abbrev pub after_bracket : Place → Place
after_bracket BeforeSection = BeforeSection
after_bracket InSection = AfterSection
after_bracket AfterSection = AfterSection

-- what was read of these pieces; the flag says whether a brace comment is open behind them
pub record AreValues (pieces : List Piece) (is_open : Bool) (found : GameText) : Type 0 where
  pub tags : AreTags pieces found.tags
  pub section : found.section.items ≡ play_text pieces
  pub goes_on : (more : List Piece) → play_text (pieces ++ more) ≡ text_with found.place (play_text pieces) more
  pub opened : found.is_open ≡ is_open

abbrev pub added_in : Place → List ℕ → List ℕ
added_in BeforeSection text = []
added_in InSection text = text
added_in AfterSection text = []

-- the text was added if the place is in the section
pub record AddsText (text : List ℕ) (old new : GameText) : Type 0 where
  pub section : new.section.items ≡ old.section.items ++ added_in old.place text
  pub tags : new.tags ≡ old.tags
  pub place : new.place ≡ old.place
  pub opened : new.is_open ≡ old.is_open

-- one line more, or a line that ends the game
abbrev pub TakesLine : {E : Type 0} → Result Bool E → List Piece → Kind → Bool → GameText → Type 0
TakesLine (Ok true) pieces kind last new =
    (is_gap_kind kind ≡ false) × AreValues (pieces ++ (Space 32 ∷ pieces_of kind)) last new
TakesLine (Ok false) pieces kind last new = (is_gap_kind kind ≡ true) × AreValues pieces false new
TakesLine (Err refused) pieces kind last new = Unit {0}

-- the first game of these lines, and the text of the games after it
pub record IsFirstGame (lines : List Line) (found : GameText) (rest : List ℕ) : Type 0 where
  pub game : Game
  pub later : List Game
  pub parts : games_of lines ≡ game ∷ later
  pub is_open : Bool
  pub are : AreValues (lined_pieces game) is_open found
  pub more : List Line
  pub last : Bool
  pub read : AreLines false (rows_of rest) more last
  pub games : filter is_recorded later ≡ recorded_games more
