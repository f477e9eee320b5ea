-- The lines of a text that others stand before are counted on, and its boards with theirs.
use Rattle.std.proofs.Common.{◌≡◌, ℕ, ◌+◌, ◌<◌, ◌≤◌, Bool, List, ◌∷◌, length, Option, Some, None, Result, Ok, Err, refl, sym, subst, arith, length-append}
use Rattle.cards.specs.Deal.{Deal}
use Rattle.pbn_deals.specs.declared.boards.Board.{Board}
use Rattle.pbn_deals.specs.declared.faults.PbnFault.{PbnFault}
use Rattle.pbn_deals.specs.Games.{Tags, boards_of, greatest_count, SaysDeal, says_inherited, says_nothing, says_other_form, says_part, says_twice, says_size, says_deal, TakesBoard, inherited_board, first_board, later_board, TakesDeal, second_deal, faulty_deal, deal_too_many, only_deal, TakesTag, board_tag, deal_tag, other_tag}
use Rattle.pbn_deals.specs.Reading.{LineEnd, Ends, Stops, Scans, at_end, at_blank, at_line_comment, at_comment, at_open_comment, at_tag, at_faulty_tag, at_no_tag, at_quoted, at_unended, at_plain, at_bracket, Answers, no_line, unclosed, escaped_line, blank_line, whole_line, opening_line, faulty_line, inner_line, closing_line, reopening_line, faulty_closing_line, put_boards}
use Rattle.text_laws.specs.TwoTexts.{counted_on}

-- ---- lines
abbrev answer_on : {A : Type 0} → ℕ → Result A PbnFault → Result A PbnFault
answer_on lines (Ok value) = Ok value
answer_on lines (Err fault) = Err (counted_on lines fault)

abbrev end_on : ℕ → LineEnd → LineEnd
end_on lines (Ends tags is_open) = Ends tags is_open
end_on lines (Stops fault) = Stops (counted_on lines fault)

abbrev opened_on : ℕ → Option ℕ → Option ℕ
opened_on lines None = None
opened_on lines (Some opened) = Some (lines + opened)

module _ (before : ℕ) where
  says_on : {line : ℕ} {value : List ℕ} {said : Result (Option Deal) PbnFault} → SaysDeal line value said → SaysDeal (before + line) value (answer_on before said)
  says_on (says_inherited e) = says_inherited e
  says_on (says_nothing e n) = says_nothing e n
  says_on (says_other_form e n f) = says_other_form e n f
  says_on (says_part e p) = says_part e p
  says_on (says_twice e t) = says_twice e t
  says_on (says_size e o s) = says_size e o s
  says_on (says_deal e is whole) = says_deal e is whole

  takes_board_on : {line : ℕ} {tags : Tags} {value : List ℕ} {taken : Result Tags PbnFault} → TakesBoard line tags value taken → TakesBoard (before + line) tags value (answer_on before taken)
  takes_board_on (inherited_board e) = inherited_board e
  takes_board_on (first_board e n) = first_board e n
  takes_board_on (later_board e n) = later_board e n

  takes_deal_on : {line count : ℕ} {tags : Tags} {value : List ℕ} {taken : Result Tags PbnFault} → TakesDeal line count tags value taken → TakesDeal (before + line) count tags value (answer_on before taken)
  takes_deal_on (second_deal e) = second_deal e
  takes_deal_on (faulty_deal e s) = faulty_deal e (says_on s)
  takes_deal_on (deal_too_many e s m) = deal_too_many e (says_on s) m
  takes_deal_on (only_deal e s f) = only_deal e (says_on s) f

  takes_on : {line count : ℕ} {tags : Tags} {name value : List ℕ} {taken : Result Tags PbnFault} → TakesTag line count tags name value taken → TakesTag (before + line) count tags name value (answer_on before taken)
  takes_on (board_tag b t) = board_tag b (takes_board_on t)
  takes_on (deal_tag b d t) = deal_tag b d (takes_deal_on t)
  takes_on (other_tag b d) = other_tag b d

  scans_on : {number count : ℕ} {in_data : Bool} {tags : Tags} {line : List ℕ} {last : LineEnd} → Scans number count in_data tags line last → Scans (before + number) count in_data tags line (end_on before last)
  scans_on at_end = at_end
  scans_on (at_blank m r) = at_blank m (scans_on r)
  scans_on (at_line_comment m) = at_line_comment m
  scans_on (at_comment text m e l r) = at_comment text m e l (scans_on r)
  scans_on (at_open_comment m l) = at_open_comment m l
  scans_on (at_tag m e t r) = at_tag m e (takes_on t) (scans_on r)
  scans_on (at_faulty_tag m e t) = at_faulty_tag m e (takes_on t)
  scans_on (at_no_tag m e) = at_no_tag m e
  scans_on (at_quoted text m e l r) = at_quoted text m e l (scans_on r)
  scans_on (at_unended m l) = at_unended m l
  scans_on (at_plain m r) = at_plain m (scans_on r)
  scans_on (at_bracket m r) = at_bracket m (scans_on r)

  put_boards-on : (boards : List Board) (answer : Result (List Board) PbnFault) → answer_on before (put_boards boards answer) ≡ put_boards boards (answer_on before answer)
  put_boards-on boards (Ok others) = refl
  put_boards-on boards (Err fault) = refl

  next_on : (number : ℕ) {count : ℕ} {opened : Option ℕ} {tags : Tags} {lines : List (List ℕ)} {answer : Result (List Board) PbnFault} → Answers (before + (number + 1)) opened tags count lines answer → Answers (before + number + 1) opened tags count lines answer
  next_on number {count} {opened} {tags} {lines} {answer} h = subst (λ n. Answers n opened tags count lines answer) (let e : before + (number + 1) ≡ before + number + 1 = omega arith in e) h

  pub answers_on : {number count : ℕ} {opened : Option ℕ} {tags : Tags} {lines : List (List ℕ)} {answer : Result (List Board) PbnFault} → Answers number opened tags count lines answer → Answers (before + number) (opened_on before opened) tags count lines (answer_on before answer)
  answers_on no_line = no_line
  answers_on unclosed = unclosed
  answers_on {number} (escaped_line e r) = escaped_line e (next_on number (answers_on r))
  answers_on {number} {count} {tags = tags} (blank_line {line = line} {lines} {answer} e b r) =
      subst (λ a. Answers (before + number) None tags count (line ∷ lines) a) (sym (put_boards-on (boards_of tags) answer)) (blank_line e b (next_on number (answers_on r)))
  answers_on {number} (whole_line e b q r) = whole_line e b (scans_on q) (next_on number (answers_on r))
  answers_on {number} (opening_line e b q r) = opening_line e b (scans_on q) (next_on number (answers_on r))
  answers_on {number} (faulty_line e b q) = faulty_line e b (scans_on q)
  answers_on {number} (inner_line l r) = inner_line l (next_on number (answers_on r))
  answers_on {number} (closing_line text e l q r) = closing_line text e l (scans_on q) (next_on number (answers_on r))
  answers_on {number} (reopening_line text e l q r) = reopening_line text e l (scans_on q) (next_on number (answers_on r))
  answers_on {number} (faulty_closing_line text e l q) = faulty_closing_line text e l (scans_on q)

-- ---- boards
abbrev HasDeal : Tags → Type 0
HasDeal tags = (deal : Option Deal) × (tags.deal ≡ Some deal)

abbrev HasBoards : Result (List Board) PbnFault → Type 0
HasBoards (Ok boards) = 1 ≤ length boards
HasBoards (Err fault) = Unit {0}

takes_board_deal : {line : ℕ} {tags tags' : Tags} {value : List ℕ} → TakesBoard line tags value (Ok tags') → HasDeal tags → HasDeal tags'
takes_board_deal (first_board e n) h = h
takes_board_deal (later_board e n) h = h

takes_deal_deal : {line count : ℕ} {tags tags' : Tags} {value : List ℕ} → TakesDeal line count tags value (Ok tags') → HasDeal tags'
takes_deal_deal (only_deal {deal} e s f) = (deal, refl)

takes_keeps : {line count : ℕ} {tags tags' : Tags} {name value : List ℕ} → TakesTag line count tags name value (Ok tags') → HasDeal tags → HasDeal tags'
takes_keeps (board_tag b t) h = takes_board_deal t h
takes_keeps (deal_tag b d t) h = takes_deal_deal t
takes_keeps (other_tag b d) h = h

abbrev EndHasDeal : LineEnd → Type 0
EndHasDeal (Ends tags is_open) = HasDeal tags
EndHasDeal (Stops fault) = Unit {0}

scans_keeps : {number count : ℕ} {in_data : Bool} {tags : Tags} {line : List ℕ} {last : LineEnd} → Scans number count in_data tags line last → HasDeal tags → EndHasDeal last
scans_keeps at_end h = h
scans_keeps (at_blank m r) h = scans_keeps r h
scans_keeps (at_line_comment m) h = h
scans_keeps (at_comment text m e l r) h = scans_keeps r h
scans_keeps (at_open_comment m l) h = h
scans_keeps (at_tag m e t r) h = scans_keeps r (takes_keeps t h)
scans_keeps (at_faulty_tag m e t) h = tt
scans_keeps (at_no_tag m e) h = tt
scans_keeps (at_quoted text m e l r) h = scans_keeps r h
scans_keeps (at_unended m l) h = h
scans_keeps (at_plain m r) h = scans_keeps r h
scans_keeps (at_bracket m r) h = scans_keeps r h

boards_of-deal : (tags : Tags) → HasDeal tags → HasBoards (Ok (boards_of tags))
boards_of-deal tags h = rw h.1 (omega arith)

put_boards-some : (boards : List Board) (answer : Result (List Board) PbnFault) → HasBoards (Ok boards) → HasBoards (put_boards boards answer)
put_boards-some boards (Ok others) h = omega (arith, length-append boards others)
put_boards-some boards (Err fault) h = tt

answers_has : {number count : ℕ} {opened : Option ℕ} {tags : Tags} {lines : List (List ℕ)} {answer : Result (List Board) PbnFault} → Answers number opened tags count lines answer → HasDeal tags → HasBoards answer
answers_has {tags = tags} no_line h = boards_of-deal tags h
answers_has unclosed h = tt
answers_has (escaped_line e r) h = answers_has r h
answers_has {tags = tags} (blank_line {answer = answer} e b r) h = put_boards-some (boards_of tags) answer (boards_of-deal tags h)
answers_has (whole_line e b q r) h = answers_has r (scans_keeps q h)
answers_has (opening_line e b q r) h = answers_has r (scans_keeps q h)
answers_has (faulty_line e b q) h = tt
answers_has (inner_line l r) h = answers_has r h
answers_has (closing_line text e l q r) h = answers_has r (scans_keeps q h)
answers_has (reopening_line text e l q r) h = answers_has r (scans_keeps q h)
answers_has (faulty_closing_line text e l q) h = tt

-- a reading with another count of boards before it, where there is room
module _ (count' : ℕ) where
  abbrev Room : LineEnd → Type 0
  Room (Ends tags is_open) = HasDeal tags → count' < greatest_count
  Room (Stops fault) = ⊥

  takes_deal_room : {line count : ℕ} {tags tags' : Tags} {value : List ℕ} → count' < greatest_count → TakesDeal line count tags value (Ok tags') → TakesDeal line count' tags value (Ok tags')
  takes_deal_room room (only_deal e s f) = only_deal e s room

  takes_room : {line count : ℕ} {tags tags' : Tags} {name value : List ℕ} → (HasDeal tags' → count' < greatest_count) → TakesTag line count tags name value (Ok tags') → TakesTag line count' tags name value (Ok tags')
  takes_room room (board_tag b t) = board_tag b t
  takes_room room (deal_tag b d t) = deal_tag b d (takes_deal_room (room (takes_deal_deal t)) t)
  takes_room room (other_tag b d) = other_tag b d

  room_before : {number count : ℕ} {in_data : Bool} {tags : Tags} {line : List ℕ} (last : LineEnd) → Scans number count in_data tags line last → Room last → HasDeal tags → count' < greatest_count
  room_before (Ends tags is_open) r room h = room (scans_keeps r h)
  room_before (Stops fault) r room h = absurd room

  scans_room : {number count : ℕ} {in_data : Bool} {tags : Tags} {line : List ℕ} {last : LineEnd} → Room last → Scans number count in_data tags line last → Scans number count' in_data tags line last
  scans_room room at_end = at_end
  scans_room room (at_blank m r) = at_blank m (scans_room room r)
  scans_room room (at_line_comment m) = at_line_comment m
  scans_room room (at_comment text m e l r) = at_comment text m e l (scans_room room r)
  scans_room room (at_open_comment m l) = at_open_comment m l
  scans_room {last = last} room (at_tag m e t r) = at_tag m e (takes_room (room_before last r room) t) (scans_room room r)
  scans_room room (at_faulty_tag m e t) = absurd room
  scans_room room (at_no_tag m e) = absurd room
  scans_room room (at_quoted text m e l r) = at_quoted text m e l (scans_room room r)
  scans_room room (at_unended m l) = at_unended m l
  scans_room room (at_plain m r) = at_plain m (scans_room room r)
  scans_room room (at_bracket m r) = at_bracket m (scans_room room r)

abbrev Fits : ℕ → Result (List Board) PbnFault → Type 0
Fits count (Ok boards) = count + length boards ≤ greatest_count
Fits count (Err fault) = ⊥

fits_room : (count : ℕ) (tags : Tags) (answer : Result (List Board) PbnFault) → Fits count answer → (HasDeal tags → HasBoards answer) → HasDeal tags → count < greatest_count
fits_room count tags (Ok boards) fits some h = omega (arith, fits, some h)
fits_room count tags (Err fault) fits some h = absurd fits

fits_later : (count : ℕ) (boards : List Board) (answer : Result (List Board) PbnFault) → Fits count (put_boards boards answer) → Fits (count + length boards) answer
fits_later count boards (Ok others) fits = omega (arith, fits, length-append boards others)
fits_later count boards (Err fault) fits = fits

pub answers_fit : {number count : ℕ} {opened : Option ℕ} {tags : Tags} {lines : List (List ℕ)} {answer : Result (List Board) PbnFault} → Answers number opened tags count lines answer → (count' : ℕ) → Fits count' answer → Answers number opened tags count' lines answer
answers_fit no_line count' fits = no_line
answers_fit unclosed count' fits = absurd fits
answers_fit (escaped_line e r) count' fits = escaped_line e (answers_fit r count' fits)
answers_fit {tags = tags} (blank_line {answer = answer} e b r) count' fits =
    blank_line e b (answers_fit r (count' + length (boards_of tags)) (fits_later count' (boards_of tags) answer fits))
answers_fit {answer = answer} (whole_line {tags' = tags'} e b q r) count' fits =
    whole_line e b (scans_room count' (fits_room count' tags' answer fits (answers_has r)) q) (answers_fit r count' fits)
answers_fit {answer = answer} (opening_line {tags' = tags'} e b q r) count' fits =
    opening_line e b (scans_room count' (fits_room count' tags' answer fits (answers_has r)) q) (answers_fit r count' fits)
answers_fit (faulty_line e b q) count' fits = absurd fits
answers_fit (inner_line l r) count' fits = inner_line l (answers_fit r count' fits)
answers_fit {answer = answer} (closing_line {tags' = tags'} text e l q r) count' fits =
    closing_line text e l (scans_room count' (fits_room count' tags' answer fits (answers_has r)) q) (answers_fit r count' fits)
answers_fit {answer = answer} (reopening_line {tags' = tags'} text e l q r) count' fits =
    reopening_line text e l (scans_room count' (fits_room count' tags' answer fits (answers_has r)) q) (answers_fit r count' fits)
answers_fit (faulty_closing_line text e l q) count' fits = absurd fits
