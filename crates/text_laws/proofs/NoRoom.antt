-- What a text's answer becomes where other boards stand before it: the same, or one board too many.
use Rattle.std.proofs.Common.{ℕ, ◌+◌, ◌≤◌, Bool, List, ◌∷◌, length, Option, Result, Err, arith, inl, inr}
use Rattle.std.proofs.lemmas.Bool.{cases_lt}
use Rattle.pbn_deals.specs.declared.boards.Board.{Board}
use Rattle.pbn_deals.specs.declared.faults.PbnFault.{PbnFault}
use Rattle.pbn_deals.specs.declared.faults.PbnFault.TheVariants.{TooManyBoards}
use Rattle.pbn_deals.specs.Games.{Tags, boards_of, greatest_count, TakesDeal, second_deal, faulty_deal, deal_too_many, only_deal, TakesTag, board_tag, deal_tag, other_tag}
use Rattle.pbn_deals.specs.Reading.{LineEnd, Stops, Scans, at_end, at_blank, at_line_comment, at_comment, at_open_comment, at_tag, at_faulty_tag, at_no_tag, at_quoted, at_unended, at_plain, at_bracket, Answers, no_line, unclosed, escaped_line, blank_line, whole_line, opening_line, faulty_line, inner_line, closing_line, reopening_line, faulty_closing_line}

-- a fact of a value, or of one board too many at some line
pub data OrTooMany {A : Type 0} (stop : PbnFault → A) (P : A → Type 0) (value : A) : Type 0 where
  same : P value → OrTooMany stop P value
  too_many : (line : ℕ) → P (stop (TooManyBoards line)) → OrTooMany stop P value

goes_on : {A B : Type 0} {stop : PbnFault → A} {stop' : PbnFault → B} {P : A → Type 0} {Q : B → Type 0} {one : A} {other : B} → (P one → Q other) → ((line : ℕ) → P (stop (TooManyBoards line)) → Q (stop' (TooManyBoards line))) → OrTooMany stop P one → OrTooMany stop' Q other
goes_on f g (same p) = same (f p)
goes_on f g (too_many line p) = too_many line (g line p)

takes_deal_full : {line count count' : ℕ} {tags : Tags} {value : List ℕ} {taken : Result Tags PbnFault} → count ≤ count' → TakesDeal line count tags value taken → OrTooMany Err (TakesDeal line count' tags value) taken
takes_deal_full le (second_deal e) = same (second_deal e)
takes_deal_full le (faulty_deal e s) = same (faulty_deal e s)
takes_deal_full le (deal_too_many e s many) = same (deal_too_many e s (omega (arith, le, many)))
takes_deal_full {line} {count' = count'} le (only_deal e s few) =
    elim (cases_lt count' greatest_count) [ inl room ↦ same (only_deal e s room) | inr many ↦ too_many line (deal_too_many e s many) ]

takes_full : {line count count' : ℕ} {tags : Tags} {name value : List ℕ} {taken : Result Tags PbnFault} → count ≤ count' → TakesTag line count tags name value taken → OrTooMany Err (TakesTag line count' tags name value) taken
takes_full le (board_tag b t) = same (board_tag b t)
takes_full {taken = taken} le (deal_tag b d t) = goes_on (λ x. deal_tag b d x) (λ line x. deal_tag b d x) (takes_deal_full le t)
takes_full le (other_tag b d) = same (other_tag b d)

module _ (number count count' : ℕ) (le : count ≤ count') where
  abbrev Full : Bool → Tags → List ℕ → LineEnd → Type 0
  Full in_data tags line last = OrTooMany Stops (Scans number count' in_data tags line) last

  step : {flag in_data : Bool} {tags tags' : Tags} {rest line : List ℕ} (last : LineEnd) → ((end : LineEnd) → Scans number count' flag tags' rest end → Scans number count' in_data tags line end) → Full flag tags' rest last → Full in_data tags line last
  step last f h = goes_on (f last) (λ line. f (Stops (TooManyBoards line))) h

  scans_full : {in_data : Bool} {tags : Tags} {line : List ℕ} {last : LineEnd} → Scans number count in_data tags line last → Full in_data tags line last
  scans_full at_end = same at_end
  scans_full {last = last} (at_blank m r) = step last (λ end x. at_blank m x) (scans_full r)
  scans_full (at_line_comment m) = same (at_line_comment m)
  scans_full {last = last} (at_comment text m e l r) = step last (λ end x. at_comment text m e l x) (scans_full r)
  scans_full (at_open_comment m l) = same (at_open_comment m l)
  scans_full {last = last} (at_tag m e t r) =
      elim (takes_full le t) [
        | same taken ↦ step last (λ end x. at_tag m e taken x) (scans_full r)
        | too_many line many ↦ too_many line (at_faulty_tag m e many)
      ]
  scans_full (at_faulty_tag m e t) =
      elim (takes_full le t) [
        | same taken ↦ same (at_faulty_tag m e taken)
        | too_many line many ↦ too_many line (at_faulty_tag m e many)
      ]
  scans_full (at_no_tag m e) = same (at_no_tag m e)
  scans_full {last = last} (at_quoted text m e l r) = step last (λ end x. at_quoted text m e l x) (scans_full r)
  scans_full (at_unended m l) = same (at_unended m l)
  scans_full {last = last} (at_plain m r) = step last (λ end x. at_plain m x) (scans_full r)
  scans_full {last = last} (at_bracket m r) = step last (λ end x. at_bracket m x) (scans_full r)

abbrev FullAnswers : ℕ → Option ℕ → Tags → ℕ → List (List ℕ) → Result (List Board) PbnFault → Type 0
FullAnswers number opened tags count lines answer = OrTooMany Err (Answers number opened tags count lines) answer

-- a line whose own reading may have one board too many
at_line : {number count' : ℕ} {opened opened' : Option ℕ} {in_data : Bool} {tags tags' : Tags} {line rest : List ℕ} {lines : List (List ℕ)} (last : LineEnd) (answer : Result (List Board) PbnFault) → (Scans number count' in_data tags rest last → (result : Result (List Board) PbnFault) → Answers (number + 1) opened' tags' count' lines result → Answers number opened tags count' (line ∷ lines) result) → ((fault : PbnFault) → Scans number count' in_data tags rest (Stops fault) → Answers number opened tags count' (line ∷ lines) (Err fault)) → OrTooMany Stops (Scans number count' in_data tags rest) last → FullAnswers (number + 1) opened' tags' count' lines answer → FullAnswers number opened tags count' (line ∷ lines) answer
at_line last answer whole stopped scan later =
    elim scan [
      | same read ↦ goes_on (whole read answer) (λ line. whole read (Err (TooManyBoards line))) later
      | too_many line many ↦ too_many line (stopped (TooManyBoards line) many)
    ]

fault_line : {number count' : ℕ} {opened : Option ℕ} {in_data : Bool} {tags : Tags} {line rest : List ℕ} {lines : List (List ℕ)} (fault : PbnFault) → ((fault : PbnFault) → Scans number count' in_data tags rest (Stops fault) → Answers number opened tags count' (line ∷ lines) (Err fault)) → OrTooMany Stops (Scans number count' in_data tags rest) (Stops fault) → FullAnswers number opened tags count' (line ∷ lines) (Err fault)
fault_line fault stopped scan = elim scan [ same read ↦ same (stopped fault read) | too_many line many ↦ too_many line (stopped (TooManyBoards line) many) ]

pub answers_full : {number count : ℕ} {opened : Option ℕ} {tags : Tags} {lines : List (List ℕ)} {answer : Result (List Board) PbnFault} → Answers number opened tags count lines answer → (count' : ℕ) → count ≤ count' → FullAnswers number opened tags count' lines answer
answers_full no_line count' le = same no_line
answers_full unclosed count' le = same unclosed
answers_full {answer = answer} (escaped_line e r) count' le =
    goes_on (λ x. escaped_line e x) (λ line x. escaped_line e x) (answers_full r count' le)
answers_full {answer = answer} (blank_line {tags = tags} {answer = later} e b r) count' le =
    goes_on (λ x. blank_line e b x) (λ line x. blank_line e b x) (answers_full r (count' + length (boards_of tags)) (omega (arith, le)))
answers_full {number} {count} {answer = answer} (whole_line e b q r) count' le =
    at_line _ answer (λ read result x. whole_line e b read x) (λ fault read. faulty_line e b read) (scans_full number count count' le q) (answers_full r count' le)
answers_full {number} {count} {answer = answer} (opening_line e b q r) count' le =
    at_line _ answer (λ read result x. opening_line e b read x) (λ fault read. faulty_line e b read) (scans_full number count count' le q) (answers_full r count' le)
answers_full {number} {count} (faulty_line {fault = fault} e b q) count' le =
    fault_line fault (λ fault read. faulty_line e b read) (scans_full number count count' le q)
answers_full {answer = answer} (inner_line l r) count' le =
    goes_on (λ x. inner_line l x) (λ line x. inner_line l x) (answers_full r count' le)
answers_full {number} {count} {answer = answer} (closing_line text e l q r) count' le =
    at_line _ answer (λ read result x. closing_line text e l read x) (λ fault read. faulty_closing_line text e l read) (scans_full number count count' le q) (answers_full r count' le)
answers_full {number} {count} {answer = answer} (reopening_line text e l q r) count' le =
    at_line _ answer (λ read result x. reopening_line text e l read x) (λ fault read. faulty_closing_line text e l read) (scans_full number count count' le q) (answers_full r count' le)
answers_full {number} {count} (faulty_closing_line text {fault = fault} e l q) count' le =
    fault_line fault (λ fault read. faulty_closing_line text e l read) (scans_full number count count' le q)
