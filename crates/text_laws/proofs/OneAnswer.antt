-- A text has one answer at most.
use Rattle.std.proofs.Common.{◌≡◌, ℕ, Bool, false, List, ◌∷◌, ◌++◌, Option, Some, Result, Ok, Err, refl, sym, ◌∙◌, ap, subst}
use Rattle.pbn_deals.specs.declared.boards.Board.{Board}
use Rattle.pbn_deals.specs.declared.faults.PbnFault.{PbnFault}
use Rattle.pbn_deals.specs.Tags.{Tag}
use Rattle.pbn_deals.specs.Games.{Tags, TakesTag}
use Rattle.pbn_deals.specs.Reading.{Lacks, LineEnd, Ends, Stops, Scans, at_end, at_blank, at_line_comment, at_comment, at_open_comment, at_tag, at_faulty_tag, at_no_tag, at_quoted, at_unended, at_plain, at_bracket, Answers, no_line, unclosed, escaped_line, blank_line, whole_line, opening_line, faulty_line, inner_line, closing_line, reopening_line, faulty_closing_line, put_boards}
use Rattle.text_laws.proofs.OneTag.{one_taking}
use Rattle.pbn_deals.proofs.OneCut.{one_cut, no_cut}

-- ---- a line
ok_inj : {A E : Type 0} {x y : A} → ◌≡◌ {A = Result A E} (Ok x) (Ok y) → x ≡ y
ok_inj e = cc

err_inj : {A E : Type 0} {x y : E} → ◌≡◌ {A = Result A E} (Err x) (Err y) → x ≡ y
err_inj e = cc

ok_or_err : {A E : Type 0} {x : A} {y : E} → ◌≡◌ {A = Result A E} (Ok x) (Err y) → ⊥
ok_or_err e = cc

some_inj : {A : Type 0} {x y : A} → Some x ≡ Some y → x ≡ y
some_inj e = cc

module _ (number count : ℕ) where
  moved : (in_data : Bool) (tags : Tags) (rest rest' : List ℕ) (last : LineEnd) → rest ≡ rest' → Scans number count in_data tags rest last → Scans number count in_data tags rest' last
  moved in_data tags rest rest' last e h = subst (λ t. Scans number count in_data tags t last) e h

  taking_at : {tags : Tags} {tag tag' : Tag} {taken : Result Tags PbnFault} → tag' ≡ tag → TakesTag number count tags tag'.name tag'.value taken → TakesTag number count tags tag.name tag.value taken
  taking_at {tags} {taken = taken} e k = subst (λ (t : Tag). TakesTag number count tags t.name t.value taken) e k

  same_taking : {tags one other : Tags} {tag tag' : Tag} → tag' ≡ tag → TakesTag number count tags tag.name tag.value (Ok one) → TakesTag number count tags tag'.name tag'.value (Ok other) → other ≡ one
  same_taking e k k' = ok_inj (one_taking (taking_at e k') k)

  same_fault : {tags : Tags} {tag tag' : Tag} {one other : PbnFault} → tag' ≡ tag → TakesTag number count tags tag.name tag.value (Err one) → TakesTag number count tags tag'.name tag'.value (Err other) → Stops one ≡ Stops other
  same_fault e k k' = ap Stops (err_inj (one_taking k (taking_at e k')))

  tag_or_fault : {tags one : Tags} {tag tag' : Tag} {fault : PbnFault} → tag' ≡ tag → TakesTag number count tags tag.name tag.value (Ok one) → TakesTag number count tags tag'.name tag'.value (Err fault) → ⊥
  tag_or_fault e k k' = ok_or_err (one_taking k (taking_at e k'))

  moved_after : {tags tags' : Tags} {tag tag' : Tag} {last : LineEnd} → tag' ≡ tag → tags' ≡ tags → Scans number count false tags' tag'.rest last → Scans number count false tags tag.rest last
  moved_after {tags} {tags'} {tag} {tag'} {last} e t r = subst (λ x. Scans number count false x tag.rest last) t (subst (λ (x : Tag). Scans number count false tags' x.rest last) e r)

  pub one_line : {in_data : Bool} {tags : Tags} {line : List ℕ} {last last' : LineEnd} → Scans number count in_data tags line last → Scans number count in_data tags line last' → last ≡ last'
  one_line at_end at_end = refl
  one_line (at_blank p r) (at_blank p' r') = one_line r r'
  one_line (at_blank p r) (at_line_comment p') = absurd (cc)
  one_line (at_blank p r) (at_comment t' p' e' l' r') = absurd (cc)
  one_line (at_blank p r) (at_open_comment p' l') = absurd (cc)
  one_line (at_blank p r) (at_tag p' g' k' r') = absurd (cc)
  one_line (at_blank p r) (at_faulty_tag p' g' k') = absurd (cc)
  one_line (at_blank p r) (at_no_tag p' g') = absurd (cc)
  one_line (at_blank p r) (at_quoted t' p' e' l' r') = absurd (cc)
  one_line (at_blank p r) (at_unended p' l') = absurd (cc)
  one_line (at_blank p r) (at_plain p' r') = absurd (cc)
  one_line (at_blank p r) (at_bracket p' r') = absurd (cc)
  one_line (at_line_comment p) (at_blank p' r') = absurd (cc)
  one_line (at_line_comment p) (at_line_comment p') = refl
  one_line (at_line_comment p) (at_comment t' p' e' l' r') = absurd (cc)
  one_line (at_line_comment p) (at_open_comment p' l') = absurd (cc)
  one_line (at_line_comment p) (at_tag p' g' k' r') = absurd (cc)
  one_line (at_line_comment p) (at_faulty_tag p' g' k') = absurd (cc)
  one_line (at_line_comment p) (at_no_tag p' g') = absurd (cc)
  one_line (at_line_comment p) (at_quoted t' p' e' l' r') = absurd (cc)
  one_line (at_line_comment p) (at_unended p' l') = absurd (cc)
  one_line (at_line_comment p) (at_plain p' r') = absurd (cc)
  one_line (at_line_comment p) (at_bracket p' r') = absurd (cc)
  one_line (at_comment t p e l r) (at_blank p' r') = absurd (cc)
  one_line (at_comment t p e l r) (at_line_comment p') = absurd (cc)
  one_line (at_comment t p e l r) (at_comment t' p' e' l' r') = one_line r (moved _ _ _ _ _ (one_cut 125 t' t _ _ (sym e' ∙ e) l' l) r')
  one_line (at_comment t p e l r) (at_open_comment p' l') = absurd (no_cut 125 _ t _ e l')
  one_line (at_comment t p e l r) (at_tag p' g' k' r') = absurd (cc)
  one_line (at_comment t p e l r) (at_faulty_tag p' g' k') = absurd (cc)
  one_line (at_comment t p e l r) (at_no_tag p' g') = absurd (cc)
  one_line (at_comment t p e l r) (at_quoted t' p' e' l' r') = absurd (cc)
  one_line (at_comment t p e l r) (at_unended p' l') = absurd (cc)
  one_line (at_comment t p e l r) (at_plain p' r') = absurd (cc)
  one_line (at_comment t p e l r) (at_bracket p' r') = absurd (cc)
  one_line (at_open_comment p l) (at_blank p' r') = absurd (cc)
  one_line (at_open_comment p l) (at_line_comment p') = absurd (cc)
  one_line (at_open_comment p l) (at_comment t' p' e' l' r') = absurd (no_cut 125 _ t' _ e' l)
  one_line (at_open_comment p l) (at_open_comment p' l') = refl
  one_line (at_open_comment p l) (at_tag p' g' k' r') = absurd (cc)
  one_line (at_open_comment p l) (at_faulty_tag p' g' k') = absurd (cc)
  one_line (at_open_comment p l) (at_no_tag p' g') = absurd (cc)
  one_line (at_open_comment p l) (at_quoted t' p' e' l' r') = absurd (cc)
  one_line (at_open_comment p l) (at_unended p' l') = absurd (cc)
  one_line (at_open_comment p l) (at_plain p' r') = absurd (cc)
  one_line (at_open_comment p l) (at_bracket p' r') = absurd (cc)
  one_line (at_tag p g k r) (at_blank p' r') = absurd (cc)
  one_line (at_tag p g k r) (at_line_comment p') = absurd (cc)
  one_line (at_tag p g k r) (at_comment t' p' e' l' r') = absurd (cc)
  one_line (at_tag p g k r) (at_open_comment p' l') = absurd (cc)
  one_line (at_tag p g k r) (at_tag p' g' k' r') = let same = some_inj (sym g' ∙ g) in one_line r (moved_after same (same_taking same k k') r')
  one_line (at_tag p g k r) (at_faulty_tag p' g' k') = absurd (tag_or_fault (some_inj (sym g' ∙ g)) k k')
  one_line (at_tag p g k r) (at_no_tag p' g') = absurd (cc)
  one_line (at_tag p g k r) (at_quoted t' p' e' l' r') = absurd (cc)
  one_line (at_tag p g k r) (at_unended p' l') = absurd (cc)
  one_line (at_tag p g k r) (at_plain p' r') = absurd (cc)
  one_line (at_faulty_tag p g k) (at_blank p' r') = absurd (cc)
  one_line (at_faulty_tag p g k) (at_line_comment p') = absurd (cc)
  one_line (at_faulty_tag p g k) (at_comment t' p' e' l' r') = absurd (cc)
  one_line (at_faulty_tag p g k) (at_open_comment p' l') = absurd (cc)
  one_line (at_faulty_tag p g k) (at_tag p' g' k' r') = absurd (tag_or_fault (some_inj (sym g ∙ g')) k' k)
  one_line (at_faulty_tag p g k) (at_faulty_tag p' g' k') = same_fault (some_inj (sym g' ∙ g)) k k'
  one_line (at_faulty_tag p g k) (at_no_tag p' g') = absurd (cc)
  one_line (at_faulty_tag p g k) (at_quoted t' p' e' l' r') = absurd (cc)
  one_line (at_faulty_tag p g k) (at_unended p' l') = absurd (cc)
  one_line (at_faulty_tag p g k) (at_plain p' r') = absurd (cc)
  one_line (at_no_tag p g) (at_blank p' r') = absurd (cc)
  one_line (at_no_tag p g) (at_line_comment p') = absurd (cc)
  one_line (at_no_tag p g) (at_comment t' p' e' l' r') = absurd (cc)
  one_line (at_no_tag p g) (at_open_comment p' l') = absurd (cc)
  one_line (at_no_tag p g) (at_tag p' g' k' r') = absurd (cc)
  one_line (at_no_tag p g) (at_faulty_tag p' g' k') = absurd (cc)
  one_line (at_no_tag p g) (at_no_tag p' g') = refl
  one_line (at_no_tag p g) (at_quoted t' p' e' l' r') = absurd (cc)
  one_line (at_no_tag p g) (at_unended p' l') = absurd (cc)
  one_line (at_no_tag p g) (at_plain p' r') = absurd (cc)
  one_line (at_quoted t p e l r) (at_blank p' r') = absurd (cc)
  one_line (at_quoted t p e l r) (at_line_comment p') = absurd (cc)
  one_line (at_quoted t p e l r) (at_comment t' p' e' l' r') = absurd (cc)
  one_line (at_quoted t p e l r) (at_open_comment p' l') = absurd (cc)
  one_line (at_quoted t p e l r) (at_tag p' g' k' r') = absurd (cc)
  one_line (at_quoted t p e l r) (at_faulty_tag p' g' k') = absurd (cc)
  one_line (at_quoted t p e l r) (at_no_tag p' g') = absurd (cc)
  one_line (at_quoted t p e l r) (at_quoted t' p' e' l' r') = one_line r (moved _ _ _ _ _ (one_cut 34 t' t _ _ (sym e' ∙ e) l' l) r')
  one_line (at_quoted t p e l r) (at_unended p' l') = absurd (no_cut 34 _ t _ e l')
  one_line (at_quoted t p e l r) (at_plain p' r') = absurd (cc)
  one_line (at_quoted t p e l r) (at_bracket p' r') = absurd (cc)
  one_line (at_unended p l) (at_blank p' r') = absurd (cc)
  one_line (at_unended p l) (at_line_comment p') = absurd (cc)
  one_line (at_unended p l) (at_comment t' p' e' l' r') = absurd (cc)
  one_line (at_unended p l) (at_open_comment p' l') = absurd (cc)
  one_line (at_unended p l) (at_tag p' g' k' r') = absurd (cc)
  one_line (at_unended p l) (at_faulty_tag p' g' k') = absurd (cc)
  one_line (at_unended p l) (at_no_tag p' g') = absurd (cc)
  one_line (at_unended p l) (at_quoted t' p' e' l' r') = absurd (no_cut 34 _ t' _ e' l)
  one_line (at_unended p l) (at_unended p' l') = refl
  one_line (at_unended p l) (at_plain p' r') = absurd (cc)
  one_line (at_unended p l) (at_bracket p' r') = absurd (cc)
  one_line (at_plain p r) (at_blank p' r') = absurd (cc)
  one_line (at_plain p r) (at_line_comment p') = absurd (cc)
  one_line (at_plain p r) (at_comment t' p' e' l' r') = absurd (cc)
  one_line (at_plain p r) (at_open_comment p' l') = absurd (cc)
  one_line (at_plain p r) (at_tag p' g' k' r') = absurd (cc)
  one_line (at_plain p r) (at_faulty_tag p' g' k') = absurd (cc)
  one_line (at_plain p r) (at_no_tag p' g') = absurd (cc)
  one_line (at_plain p r) (at_quoted t' p' e' l' r') = absurd (cc)
  one_line (at_plain p r) (at_unended p' l') = absurd (cc)
  one_line (at_plain p r) (at_plain p' r') = one_line r r'
  one_line (at_plain p r) (at_bracket p' r') = absurd (cc)
  one_line (at_bracket p r) (at_blank p' r') = absurd (cc)
  one_line (at_bracket p r) (at_line_comment p') = absurd (cc)
  one_line (at_bracket p r) (at_comment t' p' e' l' r') = absurd (cc)
  one_line (at_bracket p r) (at_open_comment p' l') = absurd (cc)
  one_line (at_bracket p r) (at_quoted t' p' e' l' r') = absurd (cc)
  one_line (at_bracket p r) (at_unended p' l') = absurd (cc)
  one_line (at_bracket p r) (at_plain p' r') = absurd (cc)
  one_line (at_bracket p r) (at_bracket p' r') = one_line r r'

-- ---- a text
ends_inj : {tags tags' : Tags} {is_open is_open' : Bool} → Ends tags is_open ≡ Ends tags' is_open' → tags ≡ tags'
ends_inj e = cc

stops_inj : {fault fault' : PbnFault} → Stops fault ≡ Stops fault' → fault ≡ fault'
stops_inj e = cc

tags_moved : {number count : ℕ} {opened : Option ℕ} {tags tags' : Tags} {lines : List (List ℕ)} {answer : Result (List Board) PbnFault} → tags ≡ tags' → Answers number opened tags count lines answer → Answers number opened tags' count lines answer
tags_moved {number} {count} {opened} {lines = lines} {answer = answer} e h = subst (λ t. Answers number opened t count lines answer) e h

after_moved : {number count : ℕ} {tags : Tags} (text text' : List ℕ) {line rest rest' : List ℕ} {last : LineEnd} → line ≡ text ++ 125 ∷ rest → Lacks 125 text → line ≡ text' ++ 125 ∷ rest' → Lacks 125 text' → Scans number count false tags rest' last → Scans number count false tags rest last
after_moved {number} {count} {tags} text text' {rest = rest} {rest' = rest'} {last = last} e l e' l' q = moved number count false tags rest' rest last (one_cut 125 text' text rest' rest (sym e' ∙ e) l' l) q

pub one_answer : {number count : ℕ} {opened : Option ℕ} {tags : Tags} {lines : List (List ℕ)} {one other : Result (List Board) PbnFault} → Answers number opened tags count lines one → Answers number opened tags count lines other → one ≡ other
one_answer no_line no_line = refl
one_answer unclosed unclosed = refl
one_answer (escaped_line e r) (escaped_line e' r') = one_answer r r'
one_answer (escaped_line e r) (blank_line e' b' r') = absurd (cc)
one_answer (escaped_line e r) (whole_line e' b' q' r') = absurd (cc)
one_answer (escaped_line e r) (opening_line e' b' q' r') = absurd (cc)
one_answer (escaped_line e r) (faulty_line e' b' q') = absurd (cc)
one_answer (blank_line e b r) (escaped_line e' r') = absurd (cc)
one_answer (blank_line e b r) (blank_line e' b' r') = ap (put_boards _) (one_answer r r')
one_answer (blank_line e b r) (whole_line e' b' q' r') = absurd (cc)
one_answer (blank_line e b r) (opening_line e' b' q' r') = absurd (cc)
one_answer (blank_line e b r) (faulty_line e' b' q') = absurd (cc)
one_answer (whole_line e b q r) (escaped_line e' r') = absurd (cc)
one_answer (whole_line e b q r) (blank_line e' b' r') = absurd (cc)
one_answer (whole_line e b q r) (whole_line e' b' q' r') = one_answer r (tags_moved (ends_inj (one_line _ _ q' q)) r')
one_answer (whole_line e b q r) (opening_line e' b' q' r') = absurd (let same = one_line _ _ q q' in cc)
one_answer (whole_line e b q r) (faulty_line e' b' q') = absurd (let same = one_line _ _ q q' in cc)
one_answer (opening_line e b q r) (escaped_line e' r') = absurd (cc)
one_answer (opening_line e b q r) (blank_line e' b' r') = absurd (cc)
one_answer (opening_line e b q r) (whole_line e' b' q' r') = absurd (let same = one_line _ _ q q' in cc)
one_answer (opening_line e b q r) (opening_line e' b' q' r') = one_answer r (tags_moved (ends_inj (one_line _ _ q' q)) r')
one_answer (opening_line e b q r) (faulty_line e' b' q') = absurd (let same = one_line _ _ q q' in cc)
one_answer (faulty_line e b q) (escaped_line e' r') = absurd (cc)
one_answer (faulty_line e b q) (blank_line e' b' r') = absurd (cc)
one_answer (faulty_line e b q) (whole_line e' b' q' r') = absurd (let same = one_line _ _ q q' in cc)
one_answer (faulty_line e b q) (opening_line e' b' q' r') = absurd (let same = one_line _ _ q q' in cc)
one_answer (faulty_line e b q) (faulty_line e' b' q') = ap Err (stops_inj (one_line _ _ q q'))
one_answer (inner_line l r) (inner_line l' r') = one_answer r r'
one_answer (inner_line l r) (closing_line t' e' l' q' r') = absurd (no_cut 125 _ t' _ e' l)
one_answer (inner_line l r) (reopening_line t' e' l' q' r') = absurd (no_cut 125 _ t' _ e' l)
one_answer (inner_line l r) (faulty_closing_line t' e' l' q') = absurd (no_cut 125 _ t' _ e' l)
one_answer (closing_line t e l q r) (inner_line l' r') = absurd (no_cut 125 _ t _ e l')
one_answer (closing_line t e l q r) (closing_line t' e' l' q' r') = one_answer r (tags_moved (ends_inj (one_line _ _ (after_moved t t' e l e' l' q') q)) r')
one_answer (closing_line t e l q r) (reopening_line t' e' l' q' r') = absurd (let same = one_line _ _ q (after_moved t t' e l e' l' q') in cc)
one_answer (closing_line t e l q r) (faulty_closing_line t' e' l' q') = absurd (let same = one_line _ _ q (after_moved t t' e l e' l' q') in cc)
one_answer (reopening_line t e l q r) (inner_line l' r') = absurd (no_cut 125 _ t _ e l')
one_answer (reopening_line t e l q r) (closing_line t' e' l' q' r') = absurd (let same = one_line _ _ q (after_moved t t' e l e' l' q') in cc)
one_answer (reopening_line t e l q r) (reopening_line t' e' l' q' r') = one_answer r (tags_moved (ends_inj (one_line _ _ (after_moved t t' e l e' l' q') q)) r')
one_answer (reopening_line t e l q r) (faulty_closing_line t' e' l' q') = absurd (let same = one_line _ _ q (after_moved t t' e l e' l' q') in cc)
one_answer (faulty_closing_line t e l q) (inner_line l' r') = absurd (no_cut 125 _ t _ e l')
one_answer (faulty_closing_line t e l q) (closing_line t' e' l' q' r') = absurd (let same = one_line _ _ q (after_moved t t' e l e' l' q') in cc)
one_answer (faulty_closing_line t e l q) (reopening_line t' e' l' q' r') = absurd (let same = one_line _ _ q (after_moved t t' e l e' l' q') in cc)
one_answer (faulty_closing_line t e l q) (faulty_closing_line t' e' l' q') = ap Err (stops_inj (one_line _ _ q (after_moved t t' e l e' l' q')))
