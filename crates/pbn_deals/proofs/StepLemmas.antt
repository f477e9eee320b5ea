-- One line after another.
use Rattle.std.proofs.Common.{◌≡◌, ℕ, ◌+◌, Bool, true, false, List, [], ◌∷◌, ◌++◌, length, Option, Some, None, Result, Ok, Err, refl, sym, ◌∙◌, ap, subst, append_assoc, append-nil, length-append}
use Rattle.pbn_deals.specs.declared.boards.Board.{Board}
use Rattle.pbn_deals.specs.declared.readers.Reader.{Reader}
use Rattle.pbn_deals.specs.declared.faults.PbnFault.{PbnFault}
use Rattle.pbn_deals.specs.Games.{Tags, no_tags, boards_of}
use Rattle.pbn_deals.specs.Lines.{is_escaped, is_blank_line, lines_of}
use Rattle.pbn_deals.specs.Reading.{Lacks, Scans, Ends, Stops, Answers, no_line, unclosed, escaped_line, blank_line, whole_line, opening_line, faulty_line, inner_line, closing_line, reopening_line, faulty_closing_line, put_boards, TextAnswers, SaysBoards}
use Rattle.std.specs.Borrow.{Bor}
use Rattle.pbn_deals.specs.declared.faults.PbnFault.TheVariants.{TagForm, OpenComment, SecondDeal, DealForm, CardTwice, HandSize, Inherited, TooManyBoards, OutOfMemory}
use Rattle.pbn_deals.specs.Views.{tags_seen, UnlessMemory, CutsLine}
use Rattle.pbn_deals.specs.Steps.{AnswersFrom, EndsGame, opened_at, TakesRest, ReadsWhole, TakesLine}
use Rattle.pbn_deals.proofs.GameLemmas.{unless_memory-weaker}

pub Answers-same : (number : ℕ) (opened opened' : Option ℕ) (tags tags' : Tags) (count count' : ℕ) (lines : List (List ℕ)) (answer : Result (List Board) PbnFault) → opened ≡ opened' → tags ≡ tags' → count ≡ count' → Answers number opened tags count lines answer → Answers number opened' tags' count' lines answer
Answers-same number opened opened' tags tags' count count' lines answer o t c h =
    subst (λ x. Answers number opened' tags' x lines answer) c
    (subst (λ x. Answers number opened' x count lines answer) t
    (subst (λ x. Answers number x tags count lines answer) o h))

pub put_boards-none : (answer : Result (List Board) PbnFault) → put_boards [] answer ≡ answer
put_boards-none (Ok boards) = refl
put_boards-none (Err fault) = refl

pub put_boards-twice : (boards others : List Board) (answer : Result (List Board) PbnFault) → put_boards boards (put_boards others answer) ≡ put_boards (boards ++ others) answer
put_boards-twice boards others (Ok more) = ap Ok (sym (append_assoc boards others more))
put_boards-twice boards others (Err fault) = refl

-- how the part of a line that stands outside a comment of an earlier line begins
pub data Begins (line : List ℕ) : List ℕ → Option ℕ → Type 0 where
  outside : is_escaped line ≡ false → is_blank_line line ≡ false → Begins line line None
  after_comment : {opened : ℕ} (text : List ℕ) {rest : List ℕ} → line ≡ text ++ 125 ∷ rest → Lacks 125 text → Begins line rest (Some opened)

goes_rest : (number count : ℕ) (opened : Option ℕ) (tags tags' : Tags) (line rest : List ℕ) (is_open : Bool) (lines : List (List ℕ)) (answer : Result (List Board) PbnFault) → Begins line rest opened → Scans number count false tags rest (Ends tags' is_open) → Answers (number + 1) (opened_at is_open number) tags' count lines answer → Answers number opened tags count (line ∷ lines) answer
goes_rest number count _ tags tags' line _ false lines answer (outside e b) reads h = whole_line e b reads h
goes_rest number count _ tags tags' line _ true lines answer (outside e b) reads h = opening_line e b reads h
goes_rest number count _ tags tags' line _ false lines answer (after_comment text e l) reads h = closing_line text e l reads h
goes_rest number count _ tags tags' line _ true lines answer (after_comment text e l) reads h = reopening_line text e l reads h

stops_rest : (number count : ℕ) (opened : Option ℕ) (tags : Tags) (line rest : List ℕ) (fault : PbnFault) (lines : List (List ℕ)) → Begins line rest opened → Scans number count false tags rest (Stops fault) → Answers number opened tags count (line ∷ lines) (Err fault)
stops_rest number count _ tags line _ fault lines (outside e b) reads = faulty_line e b reads
stops_rest number count _ tags line _ fault lines (after_comment text e l) reads = faulty_closing_line text e l reads

pub takes_rest : {X : Type 0} (r : Result X PbnFault) (number : ℕ) (line rest : List ℕ) (old new : Reader) → Begins line rest old.opened → TakesRest r number rest old new → TakesLine r number line old new
takes_rest (Ok done) number line rest old new begins reads = record {
  added = [];
  boards = reads.boards ∙ sym (append-nil old.boards.items);
  goes = λ lines answer h.
      let h' = Answers-same (number + 1) new.opened (opened_at reads.is_open number) (tags_seen new.tags) (tags_seen new.tags) (length new.boards.items) (length old.boards.items) lines answer reads.opened refl (ap length reads.boards) h in
      subst (λ a. AnswersFrom number old (line ∷ lines) a) (sym (put_boards-none answer))
      (goes_rest number (length old.boards.items) old.opened (tags_seen old.tags) (tags_seen new.tags) line rest reads.is_open lines answer begins reads.reads h');
}
takes_rest (Err fault) number line rest old new begins reads =
    unless_memory-weaker fault (Scans number (length old.boards.items) false (tags_seen old.tags) rest (Stops fault)) ((lines : List (List ℕ)) → AnswersFrom number old (line ∷ lines) (Err fault))
    (λ h lines. stops_rest number (length old.boards.items) old.opened (tags_seen old.tags) line rest fault lines begins h) reads

-- a line that leaves all as it is
pub leaves_all : (number : ℕ) (line : List ℕ) (reader : Reader) → ((lines : List (List ℕ)) (answer : Result (List Board) PbnFault) → AnswersFrom (number + 1) reader lines answer → AnswersFrom number reader (line ∷ lines) answer) → ReadsWhole number line reader reader
leaves_all number line reader goes = record {
  added = [];
  boards = sym (append-nil reader.boards.items);
  goes = λ lines answer h. subst (λ a. AnswersFrom number reader (line ∷ lines) a) (sym (put_boards-none answer)) (goes lines answer h);
}

pub inner : (number opened : ℕ) (line : List ℕ) (reader : Reader) → reader.opened ≡ Some opened → Lacks 125 line → ReadsWhole number line reader reader
inner number opened line reader o lacks = leaves_all number line reader (λ lines answer h.
    let tags = tags_seen reader.tags in
    let count = length reader.boards.items in
    Answers-same number (Some opened) reader.opened tags tags count count (line ∷ lines) answer (sym o) refl refl
    (inner_line lacks (Answers-same (number + 1) reader.opened (Some opened) tags tags count count lines answer o refl refl h)))

pub escaped : (number : ℕ) (line : List ℕ) (reader : Reader) → reader.opened ≡ None → is_escaped line ≡ true → ReadsWhole number line reader reader
escaped number line reader o is = leaves_all number line reader (λ lines answer h.
    let tags = tags_seen reader.tags in
    let count = length reader.boards.items in
    Answers-same number None reader.opened tags tags count count (line ∷ lines) answer (sym o) refl refl
    (escaped_line is (Answers-same (number + 1) reader.opened None tags tags count count lines answer o refl refl h)))

-- a blank line ends the game
pub ends_game : {X : Type 0} (r : Result X PbnFault) (number : ℕ) (line : List ℕ) (old new : Reader) → old.opened ≡ None → is_escaped line ≡ false → is_blank_line line ≡ true → EndsGame r old new → TakesLine r number line old new
ends_game (Ok done) number line old new o e b adds = record {
  added = boards_of (tags_seen old.tags);
  boards = adds.boards;
  goes = λ lines answer h.
      let count = length old.boards.items in
      let more : length new.boards.items ≡ count + length (boards_of (tags_seen old.tags)) = ap length adds.boards ∙ length-append old.boards.items (boards_of (tags_seen old.tags)) in
      Answers-same number None old.opened (tags_seen old.tags) (tags_seen old.tags) count count (line ∷ lines) (put_boards (boards_of (tags_seen old.tags)) answer) (sym o) refl refl
      (blank_line e b (Answers-same (number + 1) new.opened None (tags_seen new.tags) no_tags (length new.boards.items) (count + length (boards_of (tags_seen old.tags))) lines answer (adds.opened ∙ o) adds.tags more h));
}
ends_game (Err fault) number line old new o e b adds =
    unless_memory-weaker fault ⊥ ((lines : List (List ℕ)) → AnswersFrom number old (line ∷ lines) (Err fault)) (λ none. absurd none) adds

-- ---- a whole text
pub cut_more : (text : List ℕ) (line : Bor (List ℕ)) (after : Option (Bor (List ℕ))) → CutsLine text (line, after) → (more : List (List ℕ)) × (lines_of text ≡ line.now ∷ more)
cut_more text line (Some after) cuts = (lines_of after.now, cuts.0)
cut_more text line None cuts = ([], cuts)

pub cut_last : (text : List ℕ) (line : Bor (List ℕ)) (after : Option (Bor (List ℕ))) → CutsLine text (line, after) → after ≡ None → lines_of text ≡ line.now ∷ []
cut_last text line (Some after) cuts e = absurd (cc)
cut_last text line None cuts e = cuts

pub says_unless_memory : (text : List ℕ) (fault : PbnFault) → UnlessMemory fault (TextAnswers text (Err fault)) → SaysBoards text (Err fault)
says_unless_memory text (TagForm line) h = h
says_unless_memory text (OpenComment line) h = h
says_unless_memory text (SecondDeal line) h = h
says_unless_memory text (DealForm line) h = h
says_unless_memory text (CardTwice line) h = h
says_unless_memory text (HandSize line) h = h
says_unless_memory text (Inherited line) h = h
says_unless_memory text (TooManyBoards line) h = h
says_unless_memory text OutOfMemory h = tt

module _ (text : List ℕ) (number : ℕ) (rest : List ℕ) (old : Reader) (goes : (answer : Result (List Board) PbnFault) → AnswersFrom number old (lines_of rest) answer → TextAnswers text (put_boards old.boards.items answer)) where
  answers_here : (line : List ℕ) (more : List (List ℕ)) (answer : Result (List Board) PbnFault) → lines_of rest ≡ line ∷ more → AnswersFrom number old (line ∷ more) answer → TextAnswers text (put_boards old.boards.items answer)
  answers_here line more answer e h = goes answer (subst (λ lines. AnswersFrom number old lines answer) (sym e) h)

  pub fault_here : (line : Bor (List ℕ)) (after : Option (Bor (List ℕ))) (fault : PbnFault) → CutsLine rest (line, after) → UnlessMemory fault ((lines : List (List ℕ)) → AnswersFrom number old (line.now ∷ lines) (Err fault)) → SaysBoards text (Err fault)
  fault_here line after fault cuts h =
      let found = cut_more rest line after cuts in
      says_unless_memory text fault
      (unless_memory-weaker fault ((lines : List (List ℕ)) → AnswersFrom number old (line.now ∷ lines) (Err fault)) (TextAnswers text (Err fault))
      (λ at_line. answers_here line.now found.0 (Err fault) found.1 (at_line found.0)) h)

  module _ (line : Bor (List ℕ)) (after : Option (Bor (List ℕ))) (cuts : CutsLine rest (line, after)) (is_last : after ≡ None) (new : Reader) (reads : ReadsWhole number line.now old new) where
    pub open_at_end : (opened : ℕ) → new.opened ≡ Some opened → TextAnswers text (Err (OpenComment opened))
    open_at_end opened o =
        let tags = tags_seen new.tags in
        let count = length new.boards.items in
        answers_here line.now [] (Err (OpenComment opened)) (cut_last rest line after cuts is_last)
        (reads.goes [] (Err (OpenComment opened)) (Answers-same (number + 1) (Some opened) new.opened tags tags count count [] (Err (OpenComment opened)) (sym o) refl refl unclosed))

    pub whole_at_end : (final : List Board) → new.opened ≡ None → final ≡ new.boards.items ++ boards_of (tags_seen new.tags) → TextAnswers text (Ok final)
    whole_at_end final o e =
        let tags = tags_seen new.tags in
        let count = length new.boards.items in
        let whole = answers_here line.now [] (Ok (reads.added ++ boards_of tags)) (cut_last rest line after cuts is_last)
        (reads.goes [] (Ok (boards_of tags)) (Answers-same (number + 1) None new.opened tags tags count count [] (Ok (boards_of tags)) (sym o) refl refl no_line)) in
        let same : old.boards.items ++ (reads.added ++ boards_of tags) ≡ final =
        sym (append_assoc old.boards.items reads.added (boards_of tags)) ∙ (ap (λ b. b ++ boards_of tags) (sym reads.boards) ∙ sym e) in
        subst (λ b. TextAnswers text (Ok b)) same whole
