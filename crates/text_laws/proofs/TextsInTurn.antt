-- Two texts, one after another, are read in turn.
use Rattle.std.proofs.Common.{◌≡◌, ◌≢◌, ℕ, ◌+◌, ◌<◌, Bool, true, false, cond, eqb, ◌&&◌, List, [], ◌∷◌, ◌++◌, length, Option, None, Result, Ok, Err, refl, sym, ◌∙◌, ap, subst, arith, append_assoc, length-append, zero-add, inl, inr}
use Rattle.std.proofs.lemmas.List.Elements.{All-nil}
use Rattle.pbn_deals.specs.declared.boards.Board.{Board}
use Rattle.pbn_deals.specs.declared.faults.PbnFault.{PbnFault}
use Rattle.pbn_deals.specs.declared.faults.PbnFault.TheVariants.{OpenComment, TooManyBoards}
use Rattle.pbn_deals.specs.Games.{Tags, no_tags, boards_of}
use Rattle.pbn_deals.specs.Lines.{without_mark, without_return, lines_of}
use Rattle.pbn_deals.specs.Reading.{Answers, no_line, unclosed, escaped_line, blank_line, whole_line, opening_line, faulty_line, inner_line, closing_line, reopening_line, faulty_closing_line, put_boards, TextAnswers}
use Rattle.text_laws.specs.TwoTexts.{EndsOutside, joined, lines_before, counted_on, AnswersAfter, AreReadInTurn, TextsAreReadInTurn}
use Rattle.pbn_deals.proofs.CutLemmas.{lines_of-cut, lines_of-last}
use Rattle.pbn_deals.proofs.StepLemmas.{put_boards-twice}
use Rattle.pbn_deals.proofs.LineParts.{Lined, lined, last_line, more_lines}
use Rattle.text_laws.proofs.CountedOn.{answers_on, answers_fit}
use Rattle.text_laws.proofs.NoRoom.{same, too_many, answers_full}
use Rattle.text_laws.proofs.TrailingReturn.{last_ended, answers_ended}

-- ---- the lines of both texts
without_mark-before : (text after : List ℕ) → without_mark (text ++ 10 ∷ 10 ∷ after) ≡ without_mark text ++ 10 ∷ 10 ∷ after
without_mark-before [] [] = refl
without_mark-before [] (byte ∷ bytes) = refl
without_mark-before (a ∷ []) after = go (eqb a 239) where
  whole : List ℕ
  whole = a ∷ 10 ∷ 10 ∷ after

  go : (one : Bool) → cond (one && false) after whole ≡ whole
  go true = refl
  go false = refl
without_mark-before (a ∷ b ∷ []) after = go (eqb a 239) (eqb b 187) where
  whole : List ℕ
  whole = a ∷ b ∷ 10 ∷ 10 ∷ after

  go : (one two : Bool) → cond (one && (two && false)) (10 ∷ after) whole ≡ whole
  go true true = refl
  go true false = refl
  go false two = refl
without_mark-before (a ∷ b ∷ c ∷ text) after = go (eqb a 239 && (eqb b 187 && eqb c 191)) where
  go : (marked : Bool) → cond marked (text ++ 10 ∷ 10 ∷ after) (a ∷ b ∷ c ∷ text ++ 10 ∷ 10 ∷ after) ≡ cond marked text (a ∷ b ∷ c ∷ text) ++ 10 ∷ 10 ∷ after
  go true = refl
  go false = refl

some_line : (text : List ℕ) → Lined text → 0 < length (lines_of text)
some_line text (last_line lacks) = omega (arith, ap length (lines_of-last text lacks))
some_line text (more_lines line after e lacks rest) = omega (arith, ap length (lines_of-cut text line after e lacks))

last_ended-more : (line : List ℕ) (lines : List (List ℕ)) → 0 < length lines → last_ended (line ∷ lines) ≡ line ∷ last_ended lines
last_ended-more line [] h = absurd (omega arith)
last_ended-more line (next ∷ lines) h = refl

length-last_ended : (lines : List (List ℕ)) → length (last_ended lines) ≡ length lines
length-last_ended [] = refl
length-last_ended (line ∷ []) = refl
length-last_ended (line ∷ next ∷ lines) = omega (arith, length-last_ended (next ∷ lines))

lines_of-before : (text after : List ℕ) → Lined text → lines_of (text ++ 10 ∷ after) ≡ last_ended (lines_of text) ++ lines_of after
lines_of-before text after (last_line lacks) =
    lines_of-cut (text ++ 10 ∷ after) text after refl lacks
    ∙ ap (λ lines. last_ended lines ++ lines_of after) (sym (lines_of-last text lacks))
lines_of-before text after (more_lines line rest e lacks more) =
    lines_of-cut (text ++ 10 ∷ after) line (rest ++ 10 ∷ after) (ap (λ t. t ++ 10 ∷ after) e ∙ append_assoc line (10 ∷ rest) (10 ∷ after)) lacks
    ∙ (ap (λ lines. without_return line ∷ lines) (lines_of-before rest after more)
    ∙ (ap (λ lines. lines ++ lines_of after) (sym (last_ended-more (without_return line) (lines_of rest) (some_line rest more)))
    ∙ ap (λ lines. last_ended lines ++ lines_of after) (sym (lines_of-cut text line rest e lacks))))

lines_of-joined : (first second : List ℕ) → lines_of (without_mark (joined first second)) ≡ last_ended (lines_of (without_mark first)) ++ [] ∷ lines_of (without_mark second)
lines_of-joined first second =
    let text = without_mark first in
    let after = without_mark second in
    ap lines_of (without_mark-before first after)
    ∙ (lines_of-before text (10 ∷ after) (lined text)
    ∙ ap (λ lines. last_ended (lines_of text) ++ lines) (lines_of-cut (10 ∷ after) [] after refl (All-nil (λ other. other ≢ 10))))

-- ---- the answer for lines before a blank one, and then that for those after it
abbrev then_answer : Result (List Board) PbnFault → Result (List Board) PbnFault → Result (List Board) PbnFault
then_answer (Ok boards) other = put_boards boards other
then_answer (Err fault) other = Err fault

abbrev IsClosed : Result (List Board) PbnFault → Type 0
IsClosed (Err (OpenComment line)) = ⊥
IsClosed answer = Unit {0}

abbrev Follows : ℕ → ℕ → Result (List Board) PbnFault → List (List ℕ) → Result (List Board) PbnFault → Type 0
Follows next count (Ok boards) more other = Answers next None no_tags (count + length boards) more other
Follows next count (Err fault) more other = Unit {0}

closed_later : (boards : List Board) (answer : Result (List Board) PbnFault) → IsClosed (put_boards boards answer) → IsClosed answer
closed_later boards (Ok others) h = tt
closed_later boards (Err fault) h = h

follows_later : (next count : ℕ) (boards : List Board) (answer : Result (List Board) PbnFault) (more : List (List ℕ)) (other : Result (List Board) PbnFault) → Follows next count (put_boards boards answer) more other → Follows next (count + length boards) answer more other
follows_later next count boards (Ok others) more other h =
    let sum : count + length (boards ++ others) ≡ count + length boards + length others = omega (arith, length-append boards others) in
    subst (λ n. Answers next None no_tags n more other) sum h
follows_later next count boards (Err fault) more other h = tt

then_later : (boards : List Board) (answer other : Result (List Board) PbnFault) → put_boards boards (then_answer answer other) ≡ then_answer (put_boards boards answer) other
then_later boards (Ok others) other = put_boards-twice boards others other
then_later boards (Err fault) other = refl

module _ (more : List (List ℕ)) (other : Result (List Board) PbnFault) where
  answers_then : {number count : ℕ} {opened : Option ℕ} {tags : Tags} {lines : List (List ℕ)} {one : Result (List Board) PbnFault} → Answers number opened tags count lines one → IsClosed one → (next : ℕ) → next ≡ number + (length lines + 1) → Follows next count one more other → Answers number opened tags count (lines ++ [] ∷ more) (then_answer one other)
  answers_then {count = count} (no_line {tags = tags}) closed next e h =
      blank_line refl refl (subst (λ n. Answers n None no_tags (count + length (boards_of tags)) more other) e h)
  answers_then unclosed closed next e h = absurd closed
  answers_then (escaped_line x r) closed next e h = escaped_line x (answers_then r closed next (omega arith) h)
  answers_then {number} {count} {tags = tags} (blank_line {line = line} {lines} {answer} x b r) closed next e h =
      let boards = boards_of tags in
      let rest = answers_then r (closed_later boards answer closed) next (omega arith) (follows_later next count boards answer more other h) in
      subst (λ a. Answers number None tags count (line ∷ (lines ++ [] ∷ more)) a) (then_later boards answer other) (blank_line x b rest)
  answers_then (whole_line x b q r) closed next e h = whole_line x b q (answers_then r closed next (omega arith) h)
  answers_then (opening_line x b q r) closed next e h = opening_line x b q (answers_then r closed next (omega arith) h)
  answers_then (faulty_line x b q) closed next e h = faulty_line x b q
  answers_then (inner_line l r) closed next e h = inner_line l (answers_then r closed next (omega arith) h)
  answers_then (closing_line text x l q r) closed next e h = closing_line text x l q (answers_then r closed next (omega arith) h)
  answers_then (reopening_line text x l q r) closed next e h = reopening_line text x l q (answers_then r closed next (omega arith) h)
  answers_then (faulty_closing_line text x l q) closed next e h = faulty_closing_line text x l q

-- ---- both texts
closed_outside : (text : List ℕ) → EndsOutside text → (one : Result (List Board) PbnFault) → TextAnswers text one → IsClosed one
closed_outside text outside (Ok boards) h = tt
closed_outside text outside (Err (OpenComment line)) h = absurd (outside line h)
closed_outside text outside (Err fault) h = tt

module _ (first second : List ℕ) (outside : EndsOutside first) where
  in_turn : (one other : Result (List Board) PbnFault) → TextAnswers first one → Follows (1 + lines_before first) 0 one (lines_of (without_mark second)) other → TextAnswers (joined first second) (then_answer one other)
  in_turn one other h follows =
      let lines = lines_of (without_mark first) in
      let e : 1 + lines_before first ≡ 1 + (length (last_ended lines) + 1) = omega (arith, length-last_ended lines) in
      subst (λ l. Answers 1 None no_tags 0 l (then_answer one other)) (sym (lines_of-joined first second))
      (answers_then (lines_of (without_mark second)) other (answers_ended lines h) (closed_outside first outside one h) (1 + lines_before first) e follows)

  -- the second text's answer, after the boards and the lines of the first
  follows_boards : (boards : List Board) (other : Result (List Board) PbnFault) → Answers (lines_before first + 1) None no_tags (length boards) (lines_of (without_mark second)) other → Follows (1 + lines_before first) 0 (Ok boards) (lines_of (without_mark second)) other
  follows_boards boards other h =
      let n : lines_before first + 1 ≡ 1 + lines_before first = omega arith in
      subst (λ c. Answers (1 + lines_before first) None no_tags c (lines_of (without_mark second)) other) (sym (zero-add (length boards)))
      (subst (λ m. Answers m None no_tags (length boards) (lines_of (without_mark second)) other) n h)

  after_boards : (boards : List Board) (fault : PbnFault) → TextAnswers first (Ok boards) → AnswersAfter (length boards) second (Err fault) → TextAnswers (joined first second) (Err (counted_on (lines_before first) fault))
  after_boards boards fault h g =
      in_turn (Ok boards) (Err (counted_on (lines_before first) fault)) h
      (follows_boards boards (Err (counted_on (lines_before first) fault)) (answers_on (lines_before first) g))

  read_in_turn : AreReadInTurn first second
  read_in_turn = record {
    both_read = λ boards others h g few.
        in_turn (Ok boards) (Ok others) h (follows_boards boards (Ok others) (answers_on (lines_before first) (answers_fit g (length boards) few)));
    first_refused = λ fault h. in_turn (Err fault) (Err fault) h tt;
    second_refused = λ boards fault h g.
        elim (answers_full g (length boards) (omega arith)) [
          | same r ↦ inl (after_boards boards fault h r)
          | too_many line r ↦ inr (lines_before first + line, after_boards boards (TooManyBoards line) h r)
        ];
    second_after = after_boards;
  }

pub texts_are_read_in_turn : TextsAreReadInTurn
texts_are_read_in_turn first second outside = read_in_turn first second outside
