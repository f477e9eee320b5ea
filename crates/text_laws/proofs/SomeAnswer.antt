-- A text has an answer, and that memory runs out is none.
use Rattle.std.proofs.Common.{◌≡◌, ◌≢◌, ℕ, zero, suc, ◌+◌, ◌≤◌, Bool, true, false, List, [], ◌∷◌, ◌++◌, length, Option, Some, None, Result, Ok, Err, refl, ap, arith, length-append}
use Rattle.pbn_deals.specs.declared.boards.Board.{Board}
use Rattle.pbn_deals.specs.declared.faults.PbnFault.{PbnFault}
use Rattle.pbn_deals.specs.declared.faults.PbnFault.TheVariants.{TagForm, OpenComment, OutOfMemory}
use Rattle.pbn_deals.specs.Tags.{Tag, tag_of}
use Rattle.pbn_deals.specs.Games.{Tags, TakesTag, boards_of, no_tags}
use Rattle.pbn_deals.specs.Lines.{is_escaped, is_blank_line, lines_of, without_mark}
use Rattle.pbn_deals.specs.Reading.{Lacks, Meaning, EndsLine, OpensComment, OpensText, OpensTag, IsSpace, IsData, meaning_of, LineEnd, Ends, Stops, Scans, at_end, at_blank, at_line_comment, at_comment, at_open_comment, at_tag, at_faulty_tag, at_no_tag, at_quoted, at_unended, at_plain, at_bracket, TextAnswers, Answers, no_line, unclosed, escaped_line, blank_line, whole_line, opening_line, faulty_line, inner_line, closing_line, reopening_line, faulty_closing_line, put_boards}
use Rattle.pbn_deals.proofs.TagParts.{Split, split, split_nowhere, split_at, tag_shorter}
use Rattle.text_laws.proofs.SomeTag.{Given, good, some_taking}

-- ---- a line
module _ (number count : ℕ) where
  -- how the reading of a line ends, from one of its places on
  pub record Scanned (in_data : Bool) (tags : Tags) (line : List ℕ) : Type 0 where
    pub last : LineEnd
    pub no_want : last ≢ Stops OutOfMemory
    pub scans : Scans number count in_data tags line last

  -- a place whose reading goes on after it
  goes_on : {flag in_data : Bool} {tags tags' : Tags} {line rest : List ℕ} → Scanned flag tags' rest → ((last : LineEnd) → Scans number count flag tags' rest last → Scans number count in_data tags line last) → Scanned in_data tags line
  goes_on rest step = record { last = rest.last; no_want = rest.no_want; scans = step rest.last rest.scans }

  ends : {in_data : Bool} {tags : Tags} {line : List ℕ} (is_open : Bool) → Scans number count in_data tags line (Ends tags is_open) → Scanned in_data tags line
  ends {tags = tags} is_open h = record { last = Ends tags is_open; no_want = λ e. cc; scans = h }

  module _ (most : ℕ) (shorter : (in_data : Bool) (tags : Tags) (line : List ℕ) → length line ≤ most → Scanned in_data tags line) (in_data : Bool) (tags : Tags) (byte : ℕ) (rest : List ℕ) (within : length rest ≤ most) where
    after_within : (byte' : ℕ) (front after : List ℕ) → rest ≡ front ++ byte' ∷ after → length after ≤ most
    after_within byte' front after e = omega (arith, ap length e, length-append front (byte' ∷ after))

    at_brace : meaning_of byte ≡ OpensComment → Split 125 rest → Scanned in_data tags (byte ∷ rest)
    at_brace m (split_nowhere lacks) = ends true (at_open_comment m lacks)
    at_brace m (split_at front after e lacks) = goes_on (shorter in_data tags after (after_within 125 front after e)) (λ last h. at_comment front m e lacks h)

    at_quote : meaning_of byte ≡ OpensText → Split 34 rest → Scanned in_data tags (byte ∷ rest)
    at_quote m (split_nowhere lacks) = ends false (at_unended m lacks)
    at_quote m (split_at front after e lacks) = goes_on (shorter true tags after (after_within 34 front after e)) (λ last h. at_quoted front m e lacks h)

    at_pair : meaning_of byte ≡ OpensTag → (tag : Tag) → tag_of rest ≡ Some tag → (taken : Result Tags PbnFault) → taken ≢ Err OutOfMemory → TakesTag number count tags tag.name tag.value taken → Scanned false tags (byte ∷ rest)
    at_pair m tag e (Ok tags') n takes = goes_on (shorter false tags' tag.rest (omega (arith, tag_shorter rest tag e))) (λ last h. at_tag m e takes h)
    at_pair m tag e (Err fault) n takes = record { last = Stops fault; no_want = λ f. n (ap Err (let same : fault ≡ OutOfMemory = cc in same)); scans = at_faulty_tag m e takes }

    at_opening : meaning_of byte ≡ OpensTag → (flag : Bool) (found : Option Tag) → tag_of rest ≡ found → Scanned flag tags (byte ∷ rest)
    at_opening m true found e = goes_on (shorter true tags rest within) (λ last h. at_bracket m h)
    at_opening m false None e = record { last = Stops (TagForm number); no_want = λ f. cc; scans = at_no_tag m e }
    at_opening m false (Some tag) e = let taken = some_taking number count tags tag.name tag.value in at_pair m tag e taken.what taken.no_want taken.is_given

    at_byte : (meaning : Meaning) → meaning_of byte ≡ meaning → Scanned in_data tags (byte ∷ rest)
    at_byte EndsLine m = ends false (at_line_comment m)
    at_byte OpensComment m = at_brace m (split 125 rest)
    at_byte OpensText m = at_quote m (split 34 rest)
    at_byte OpensTag m = at_opening m in_data (tag_of rest) refl
    at_byte IsSpace m = goes_on (shorter in_data tags rest within) (λ last h. at_blank m h)
    at_byte IsData m = goes_on (shorter true tags rest within) (λ last h. at_plain m h)

  scanned_within : (most : ℕ) (in_data : Bool) (tags : Tags) (line : List ℕ) → length line ≤ most → Scanned in_data tags line
  scanned_within most in_data tags [] h = ends false at_end
  scanned_within zero in_data tags (byte ∷ rest) h = absurd (omega arith)
  scanned_within (suc most) in_data tags (byte ∷ rest) h = at_byte most (scanned_within most) in_data tags byte rest (omega arith) (meaning_of byte) refl

  pub scanned : (in_data : Bool) (tags : Tags) (line : List ℕ) → Scanned in_data tags line
  scanned in_data tags line = scanned_within (length line) in_data tags line (omega arith)

-- ---- a text
abbrev pub Answered : ℕ → Option ℕ → Tags → ℕ → List (List ℕ) → Type 0
Answered number opened tags count lines = Given (Answers number opened tags count lines)

put_boards-no_want : (boards : List Board) (answer : Result (List Board) PbnFault) → answer ≢ Err OutOfMemory → put_boards boards answer ≢ Err OutOfMemory
put_boards-no_want boards (Ok others) n = λ e. cc
put_boards-no_want boards (Err fault) n = n

stops-no_want : (fault : PbnFault) → Stops fault ≢ Stops OutOfMemory → ◌≢◌ {A = Result (List Board) PbnFault} (Err fault) (Err OutOfMemory)
stops-no_want fault n = λ e. n (ap Stops (let same : fault ≡ OutOfMemory = cc in same))

module _ (line : List ℕ) (lines : List (List ℕ)) (later : (number : ℕ) (opened : Option ℕ) (tags : Tags) (count : ℕ) → Answered number opened tags count lines) (number : ℕ) (tags : Tags) (count : ℕ) where
  after_line : {opened opened' : Option ℕ} {tags' : Tags} → ((answer : Result (List Board) PbnFault) → Answers (number + 1) opened' tags' count lines answer → Answers number opened tags count (line ∷ lines) answer) → Answered number opened tags count (line ∷ lines)
  after_line {opened' = opened'} {tags' = tags'} step =
      let rest = later (number + 1) opened' tags' count in
      record { what = rest.what; no_want = rest.no_want; is_given = step rest.what rest.is_given }

  outside : is_escaped line ≡ false → is_blank_line line ≡ false → (last : LineEnd) → last ≢ Stops OutOfMemory → Scans number count false tags line last → Answered number None tags count (line ∷ lines)
  outside e b (Ends tags' false) n h = after_line (λ answer r. whole_line e b h r)
  outside e b (Ends tags' true) n h = after_line (λ answer r. opening_line e b h r)
  outside e b (Stops fault) n h = record { what = Err fault; no_want = stops-no_want fault n; is_given = faulty_line e b h }

  after_comment : (opened : ℕ) (text rest : List ℕ) → line ≡ text ++ 125 ∷ rest → Lacks 125 text → (last : LineEnd) → last ≢ Stops OutOfMemory → Scans number count false tags rest last → Answered number (Some opened) tags count (line ∷ lines)
  after_comment opened text rest e l (Ends tags' false) n h = after_line (λ answer r. closing_line text e l h r)
  after_comment opened text rest e l (Ends tags' true) n h = after_line (λ answer r. reopening_line text e l h r)
  after_comment opened text rest e l (Stops fault) n h = record { what = Err fault; no_want = stops-no_want fault n; is_given = faulty_closing_line text e l h }

  in_comment : (opened : ℕ) → Split 125 line → Answered number (Some opened) tags count (line ∷ lines)
  in_comment opened (split_nowhere lacks) = after_line (λ answer r. inner_line lacks r)
  in_comment opened (split_at text rest e l) = let scan = scanned number count false tags rest in after_comment opened text rest e l scan.last scan.no_want scan.scans

  at_line : (opened : Option ℕ) (escaped : Bool) → is_escaped line ≡ escaped → (blank : Bool) → is_blank_line line ≡ blank → Answered number opened tags count (line ∷ lines)
  at_line (Some opened) escaped e blank b = in_comment opened (split 125 line)
  at_line None true e blank b = after_line (λ answer r. escaped_line e r)
  at_line None false e true b =
      let rest = later (number + 1) None no_tags (count + length (boards_of tags)) in
      record { what = put_boards (boards_of tags) rest.what; no_want = put_boards-no_want (boards_of tags) rest.what rest.no_want; is_given = blank_line e b rest.is_given }
  at_line None false e false b = let scan = scanned number count false tags line in outside e b scan.last scan.no_want scan.scans

pub answered : (lines : List (List ℕ)) (number : ℕ) (opened : Option ℕ) (tags : Tags) (count : ℕ) → Answered number opened tags count lines
answered [] number None tags count = good (Answers number None tags count []) (boards_of tags) no_line
answered [] number (Some opened) tags count = record { what = Err (OpenComment opened); no_want = λ e. cc; is_given = unclosed }
answered (line ∷ lines) number opened tags count = at_line line lines (answered lines) number tags count opened (is_escaped line) refl (is_blank_line line) refl

pub some_answer : (text : List ℕ) → (answer : Result (List Board) PbnFault) × (answer ≢ Err OutOfMemory) × TextAnswers text answer
some_answer text = let found = answered (lines_of (without_mark text)) 1 None no_tags 0 in (found.what, found.no_want, found.is_given)
