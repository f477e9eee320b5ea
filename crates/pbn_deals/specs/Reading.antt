-- How a PBN text is read (PBN 2.1, sections 2.3 to 3.2; docs/FORMATS.md has what the standard leaves open): the pieces
-- of a line, and games between blank lines. Reading stops at the fault that stands first.
use Rattle.std.specs.Prelude.{◌≡◌, ◌≢◌, ℕ, ◌+◌, ◌==◌, Bool, true, false, if◌then◌else◌}
use Rattle.std.specs.Prelude.{List, [], ◌∷◌, ◌++◌, length, Option, Some, None, Result, Ok, Err, All}
use Rattle.pbn_deals.specs.declared.boards.Board.{Board}
use Rattle.pbn_deals.specs.declared.faults.PbnFault.{PbnFault}
use Rattle.pbn_deals.specs.declared.faults.PbnFault.TheVariants.{TagForm, OpenComment, OutOfMemory}
use Rattle.pbn_deals.specs.Letters.{is_blank}
use Rattle.pbn_deals.specs.Lines.{without_mark, lines_of, is_escaped, is_blank_line}
use Rattle.pbn_deals.specs.Tags.{Tag, tag_of}
use Rattle.pbn_deals.specs.Games.{Tags, no_tags, TakesTag, boards_of}
use Rattle.cards.specs.Bytes as ascii

-- ---- the pieces of a line
abbrev pub Lacks : ℕ → List ℕ → Type 0
Lacks byte text = All (λ other. other ≢ byte) text

-- what a byte means where it stands outside comments and quoted texts
pub data Meaning : Type 0 where
  EndsLine : Meaning
  OpensComment : Meaning
  OpensText : Meaning
  OpensTag : Meaning
  IsSpace : Meaning
  IsData : Meaning

abbrev pub meaning_of : ℕ → Meaning
meaning_of byte =
    if byte == ascii.semicolon then EndsLine else
    (if byte == ascii.open_brace then OpensComment else
    (if byte == ascii.quote then OpensText else
    (if byte == ascii.open_bracket then OpensTag else
    (if is_blank byte then IsSpace else
    IsData))))

-- how the reading of a line ends: with the game's tags so far, and whether a brace comment is open, or with a fault
pub data LineEnd : Type 0 where
  Ends : Tags → Bool → LineEnd
  Stops : PbnFault → LineEnd

-- What a line does, from one of its places on, to a game that follows so many boards. The flag tells that section
-- data stands before the place. Comments and quoted texts go as far as their ends; a tag pair stands before all
-- section data; section data goes to the end of the line.
pub data Scans (number count : ℕ) : Bool → Tags → List ℕ → LineEnd → Type 0 where
  at_end : {in_data : Bool} {tags : Tags} → Scans number count in_data tags [] (Ends tags false)
  at_blank :
      {in_data : Bool} {tags : Tags} {byte : ℕ} {rest : List ℕ} {last : LineEnd} →
      meaning_of byte ≡ IsSpace → Scans number count in_data tags rest last →
      Scans number count in_data tags (byte ∷ rest) last
  at_line_comment :
      {in_data : Bool} {tags : Tags} {byte : ℕ} {rest : List ℕ} →
      meaning_of byte ≡ EndsLine →
      Scans number count in_data tags (byte ∷ rest) (Ends tags false)
  at_comment :
      {in_data : Bool} {tags : Tags} {byte : ℕ} (text : List ℕ) {rest after : List ℕ} {last : LineEnd} →
      meaning_of byte ≡ OpensComment → rest ≡ text ++ ascii.close_brace ∷ after → Lacks ascii.close_brace text →
      Scans number count in_data tags after last →
      Scans number count in_data tags (byte ∷ rest) last
  at_open_comment :
      {in_data : Bool} {tags : Tags} {byte : ℕ} {rest : List ℕ} →
      meaning_of byte ≡ OpensComment → Lacks ascii.close_brace rest →
      Scans number count in_data tags (byte ∷ rest) (Ends tags true)
  at_tag :
      {tags tags' : Tags} {byte : ℕ} {rest : List ℕ} {tag : Tag} {last : LineEnd} →
      meaning_of byte ≡ OpensTag → tag_of rest ≡ Some tag →
      TakesTag number count tags tag.name tag.value (Ok tags') → Scans number count false tags' tag.rest last →
      Scans number count false tags (byte ∷ rest) last
  at_faulty_tag :
      {tags : Tags} {byte : ℕ} {rest : List ℕ} {tag : Tag} {fault : PbnFault} →
      meaning_of byte ≡ OpensTag → tag_of rest ≡ Some tag →
      TakesTag number count tags tag.name tag.value (Err fault) →
      Scans number count false tags (byte ∷ rest) (Stops fault)
  at_no_tag :
      {tags : Tags} {byte : ℕ} {rest : List ℕ} →
      meaning_of byte ≡ OpensTag → tag_of rest ≡ None →
      Scans number count false tags (byte ∷ rest) (Stops (TagForm number))
  at_quoted :
      {in_data : Bool} {tags : Tags} {byte : ℕ} (text : List ℕ) {rest after : List ℕ} {last : LineEnd} →
      meaning_of byte ≡ OpensText → rest ≡ text ++ ascii.quote ∷ after → Lacks ascii.quote text →
      Scans number count true tags after last →
      Scans number count in_data tags (byte ∷ rest) last
  at_unended :
      {in_data : Bool} {tags : Tags} {byte : ℕ} {rest : List ℕ} →
      meaning_of byte ≡ OpensText → Lacks ascii.quote rest →
      Scans number count in_data tags (byte ∷ rest) (Ends tags false)
  at_plain :
      {in_data : Bool} {tags : Tags} {byte : ℕ} {rest : List ℕ} {last : LineEnd} →
      meaning_of byte ≡ IsData → Scans number count true tags rest last →
      Scans number count in_data tags (byte ∷ rest) last
  at_bracket :
      {tags : Tags} {byte : ℕ} {rest : List ℕ} {last : LineEnd} →
      meaning_of byte ≡ OpensTag → Scans number count true tags rest last →
      Scans number count true tags (byte ∷ rest) last

-- ---- the lines of a text
-- boards before those of a reading that went well
abbrev pub put_boards : List Board → Result (List Board) PbnFault → Result (List Board) PbnFault
put_boards boards (Ok others) = Ok (boards ++ others)
put_boards boards (Err fault) = Err fault

-- The answer for the lines from this number on, where the line of the `{` tells that a brace comment is open, the
-- game's tags so far are these, and so many boards came before the game.
pub data Answers : ℕ → Option ℕ → Tags → ℕ → List (List ℕ) → Result (List Board) PbnFault → Type 0 where
  no_line : {number count : ℕ} {tags : Tags} → Answers number None tags count [] (Ok (boards_of tags))
  unclosed :
      {number opened count : ℕ} {tags : Tags} →
      Answers number (Some opened) tags count [] (Err (OpenComment opened))
  escaped_line :
      {number count : ℕ} {tags : Tags} {line : List ℕ}
      {lines : List (List ℕ)} {answer : Result (List Board) PbnFault} →
      is_escaped line ≡ true → Answers (number + 1) None tags count lines answer →
      Answers number None tags count (line ∷ lines) answer
  blank_line :
      {number count : ℕ} {tags : Tags} {line : List ℕ}
      {lines : List (List ℕ)} {answer : Result (List Board) PbnFault} →
      is_escaped line ≡ false → is_blank_line line ≡ true →
      Answers (number + 1) None no_tags (count + length (boards_of tags)) lines answer →
      Answers number None tags count (line ∷ lines) (put_boards (boards_of tags) answer)
  whole_line :
      {number count : ℕ} {tags tags' : Tags} {line : List ℕ}
      {lines : List (List ℕ)} {answer : Result (List Board) PbnFault} →
      is_escaped line ≡ false → is_blank_line line ≡ false → Scans number count false tags line (Ends tags' false) →
      Answers (number + 1) None tags' count lines answer →
      Answers number None tags count (line ∷ lines) answer
  opening_line :
      {number count : ℕ} {tags tags' : Tags} {line : List ℕ}
      {lines : List (List ℕ)} {answer : Result (List Board) PbnFault} →
      is_escaped line ≡ false → is_blank_line line ≡ false → Scans number count false tags line (Ends tags' true) →
      Answers (number + 1) (Some number) tags' count lines answer →
      Answers number None tags count (line ∷ lines) answer
  faulty_line :
      {number count : ℕ} {tags : Tags} {line : List ℕ} {lines : List (List ℕ)} {fault : PbnFault} →
      is_escaped line ≡ false → is_blank_line line ≡ false → Scans number count false tags line (Stops fault) →
      Answers number None tags count (line ∷ lines) (Err fault)
  inner_line :
      {number opened count : ℕ} {tags : Tags} {line : List ℕ}
      {lines : List (List ℕ)} {answer : Result (List Board) PbnFault} →
      Lacks ascii.close_brace line → Answers (number + 1) (Some opened) tags count lines answer →
      Answers number (Some opened) tags count (line ∷ lines) answer
  closing_line :
      {number opened count : ℕ} {tags tags' : Tags} (text : List ℕ) {line rest : List ℕ}
      {lines : List (List ℕ)} {answer : Result (List Board) PbnFault} →
      line ≡ text ++ ascii.close_brace ∷ rest → Lacks ascii.close_brace text →
      Scans number count false tags rest (Ends tags' false) →
      Answers (number + 1) None tags' count lines answer →
      Answers number (Some opened) tags count (line ∷ lines) answer
  reopening_line :
      {number opened count : ℕ} {tags tags' : Tags} (text : List ℕ) {line rest : List ℕ}
      {lines : List (List ℕ)} {answer : Result (List Board) PbnFault} →
      line ≡ text ++ ascii.close_brace ∷ rest → Lacks ascii.close_brace text →
      Scans number count false tags rest (Ends tags' true) →
      Answers (number + 1) (Some number) tags' count lines answer →
      Answers number (Some opened) tags count (line ∷ lines) answer
  faulty_closing_line :
      {number opened count : ℕ} {tags : Tags} (text : List ℕ) {line rest : List ℕ}
      {lines : List (List ℕ)} {fault : PbnFault} →
      line ≡ text ++ ascii.close_brace ∷ rest → Lacks ascii.close_brace text →
      Scans number count false tags rest (Stops fault) →
      Answers number (Some opened) tags count (line ∷ lines) (Err fault)

-- the answer for a whole text
abbrev pub TextAnswers : List ℕ → Result (List Board) PbnFault → Type 0
TextAnswers text answer = Answers 1 None no_tags 0 (lines_of (without_mark text)) answer

-- what a reader answers: that, or that memory ran out, of which nothing is said
abbrev pub SaysBoards : List ℕ → Result (List Board) PbnFault → Type 0
SaysBoards text (Ok boards) = TextAnswers text (Ok boards)
SaysBoards text (Err OutOfMemory) = Unit {0}
SaysBoards text (Err fault) = TextAnswers text (Err fault)
