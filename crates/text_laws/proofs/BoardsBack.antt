-- Each board's lines are read as that board.
use Rattle.std.proofs.Common.{◌≡◌, ◌≢◌, ℕ, ◌+◌, ◌<◌, ◌≤◌, Bool, true, false, cond, not, ◌&&◌, eqb, List, [], ◌∷◌, ◌++◌, length, Option, None, Some, Ok, refl, sym, ◌∙◌, ap, subst, arith, inl, inr, append_assoc}
use Rattle.std.specs.Prelude.{Result, codes, IfSome, is_some}
use Rattle.std.specs.List.{AllByRecursion, flat_map, enumerate_from}
use Rattle.std.specs.Fmt.{decimal}
use Rattle.std.proofs.lemmas.List.Elements.{recursion_from_All, All-from_recursion}
use Rattle.std.proofs.lemmas.Bool.{cases_Bool, ne_eqb, and_parts, eqb-false, not-true}
use Rattle.std.proofs.lemmas.List.Sums.{count_by-le-length}
use Rattle.cards.specs.declared.seats.Seat.{Seat}
use Rattle.cards.specs.declared.seats.Seat.TheVariants.{North, East, South, West}
use Rattle.cards.specs.declared.suits.Trump.{Trump}
use Rattle.cards.specs.Pack.{trump_letters}
use Rattle.cards.specs.Seats.{seat_letter}
use Rattle.cards.specs.Deal.{Deal}
use Rattle.pbn_deals.specs.declared.boards.Board.{Board}
use Rattle.pbn_deals.specs.declared.faults.PbnFault.{PbnFault}
use Rattle.pbn_deals.specs.Tags.{Tag, tag_of, value_front, after_value, is_inherited}
use Rattle.pbn_deals.specs.Games.{Tags, no_tags, boards_of, SaysDeal, board_tag, deal_tag, other_tag, first_board, only_deal, greatest_count, says_nothing}
use Rattle.pbn_deals.specs.Lines.{is_line_feed, without_return, lines_of, is_escaped, is_blank_line}
use Rattle.pbn_deals.specs.Reading.{Ends, Scans, at_end, at_tag, at_line_comment, Answers, no_line, escaped_line, blank_line, whole_line, put_boards}
use Rattle.pbn_deals.specs.DealText.{deal_text}
use Rattle.tables.specs.declared.pars.BoardPar.{BoardPar}
use Rattle.tables.specs.declared.pars.BoardPar.TheVariants.{Known, NoDealer, NoVulnerability}
use Rattle.par.specs.declared.vulnerable_sides.VulnerableSides.{VulnerableSides}
use Rattle.par.specs.declared.vulnerable_sides.VulnerableSides.TheVariants.{Neither, NorthSouth, EastWest, Both}
use Rattle.par.specs.Texts.{score_text, contracts_text}
use Rattle.tables.specs.ConditionTags.{sides_shown, condition_bodies, conditions_text}
use Rattle.tables.specs.ParText.{tag_text, body_line, IsSmallPar, par_bodies, par_text}
use Rattle.tables.specs.TablesText.{Results, Printed, section_text, line_feed, tag_line, deal_value, row_text, result_row, entry_row, rows_text, entries, right_in_two, is_complete, published_count, table_tag, incomplete_text, table_text, board_text, numbered_text, tables_text}
use Rattle.pbn_deals.specs.Printable.{IsBoardDeal, IsPrintable}
use Rattle.text_laws.specs.ReadBack.{AreTricks, AreReadBack}
use Rattle.text_laws.proofs.DealsBack.{reads_back}
use Rattle.text_laws.proofs.LinesBack.{IsLine, lines_of-line, IsTame, IsLine-from_tame, IsTame-append, Scans-quiet}
use Rattle.text_laws.proofs.ParTexts.{score-calm, contracts-calm}
use Rattle.text_laws.proofs.CalmTexts.{is_calm, IsTame-from_calm, IsQuiet-from_calm, is_calm-append, NoQuote, calm-no_quote, calm-no_feed, seat_letter-calm, denomination-calm, right_in_two-calm, decimal-calm}

-- the answer for the lines of a text, whatever the number of its first line
abbrev AnswersText : Tags → ℕ → List ℕ → Result (List Board) PbnFault → Type 0
AnswersText tags count text answer = (number : ℕ) → Answers number None tags count (lines_of text) answer

-- a line that says nothing of the boards
pub record IsIdle (line : List ℕ) : Type 0 where
  pub as_line : IsLine line
  pub not_escaped : is_escaped line ≡ false
  pub not_blank : is_blank_line line ≡ false
  pub read : (number count : ℕ) (tags : Tags) → Scans number count false tags line (Ends tags false)

idle_step : (line rest : List ℕ) (tags : Tags) (count : ℕ) (answer : Result (List Board) PbnFault) → IsIdle line → AnswersText tags count rest answer → AnswersText tags count (line ++ 10 ∷ rest) answer
idle_step line rest tags count answer idle more = λ number.
    subst (λ (lines : List (List ℕ)). Answers number None tags count lines answer) (sym (lines_of-line line rest idle.as_line))
    (whole_line idle.not_escaped idle.not_blank (idle.read number count tags) (more (number + 1)))

-- ---- rows
pub row_text-calm : (declarer : Seat) (denomination : Trump) (tricks : ℕ) → tricks ≤ 13 → is_calm (row_text declarer denomination tricks) ≡ true
unfolding row_text
row_text-calm declarer denomination tricks h =
    is_calm-append (seat_letter declarer ++ (32 ∷ [])) _ (is_calm-append (seat_letter declarer) (32 ∷ []) (seat_letter-calm declarer) refl)
    (is_calm-append (right_in_two (trump_letters denomination)) (32 ∷ right_in_two (decimal tricks)) (denomination-calm denomination)
    (right_in_two-calm (decimal tricks) (decimal-calm tricks (omega arith))))

row_text-not_escaped : (declarer : Seat) (denomination : Trump) (tricks : ℕ) → is_escaped (row_text declarer denomination tricks) ≡ false
unfolding row_text
row_text-not_escaped North denomination tricks = refl
row_text-not_escaped East denomination tricks = refl
row_text-not_escaped South denomination tricks = refl
row_text-not_escaped West denomination tricks = refl

row_text-not_blank : (declarer : Seat) (denomination : Trump) (tricks : ℕ) → is_blank_line (row_text declarer denomination tricks) ≡ false
unfolding row_text
row_text-not_blank North denomination tricks = refl
row_text-not_blank East denomination tricks = refl
row_text-not_blank South denomination tricks = refl
row_text-not_blank West denomination tricks = refl

pub row-idle : (declarer : Seat) (denomination : Trump) (tricks : ℕ) → tricks ≤ 13 → IsIdle (row_text declarer denomination tricks)
row-idle declarer denomination tricks h =
    let calm = row_text-calm declarer denomination tricks h in
    record {
      as_line = IsLine-from_tame _ (IsTame-from_calm _ calm);
      not_escaped = row_text-not_escaped declarer denomination tricks;
      not_blank = row_text-not_blank declarer denomination tricks;
      read = λ number count tags. Scans-quiet number count false tags _ (IsQuiet-from_calm _ calm);
    }

-- a line, its line feed, and what stands behind them
pub line_more : (line rows rest : List ℕ) → ((line ++ line_feed) ++ rows) ++ rest ≡ line ++ 10 ∷ (rows ++ rest)
line_more line rows rest = append_assoc (line ++ line_feed) rows rest ∙ append_assoc line line_feed (rows ++ rest)

rows_step : (results : Results) (some : List (Seat × Trump)) (rest : List ℕ) (tags : Tags) (count : ℕ) (answer : Result (List Board) PbnFault) → ((declarer : Seat) (denomination : Trump) → IfSome (results declarer denomination) (λ tricks. tricks ≤ 13)) → AnswersText tags count rest answer → AnswersText tags count (flat_map (entry_row line_feed results) some ++ rest) answer
rows_step results [] rest tags count answer small more = more
rows_step results (entry ∷ some) rest tags count answer small more =
    let after = rows_step results some rest tags count answer small more in
    go (results entry.0 entry.1) (small entry.0 entry.1) after
  where
    go : (result : Option ℕ) → IfSome result (λ tricks. tricks ≤ 13) → AnswersText tags count (flat_map (entry_row line_feed results) some ++ rest) answer → AnswersText tags count ((result_row line_feed entry.0 entry.1 result ++ flat_map (entry_row line_feed results) some) ++ rest) answer
    go None h after = after
    go (Some tricks) h after =
        subst (λ (text : List ℕ). AnswersText tags count text answer)
        (sym (line_more (row_text entry.0 entry.1 tricks) (flat_map (entry_row line_feed results) some) rest))
        (idle_step (row_text entry.0 entry.1 tricks) (flat_map (entry_row line_feed results) some ++ rest) tags count answer (row-idle entry.0 entry.1 tricks h) after)

-- ---- the table of a board
table_tag_tag : Tag
table_tag_tag = record { name = codes "OptimumResultTable"; value = codes "Declarer;Denomination" ++ (92 ∷ codes "2R;Result") ++ (92 ∷ codes "2R"); rest = [] }

table_tag-read : (number count : ℕ) (tags : Tags) → Scans number count false tags table_tag (Ends tags false)
unfolding table_tag table_tag_tag
table_tag-read number count tags = at_tag {tag = table_tag_tag} refl refl (other_tag refl refl) at_end

-- no line feed and no carriage return
abbrev is_tame : List ℕ → Bool
is_tame [] = true
is_tame (byte ∷ bytes) = not (eqb byte 10) && (not (eqb byte 13) && is_tame bytes)

IsTame-from_test : (text : List ℕ) → is_tame text ≡ true → IsTame text
IsTame-from_test [] h = tt
IsTame-from_test (byte ∷ bytes) h =
    let one = and_parts (not (eqb byte 10)) _ h in
    let two = and_parts (not (eqb byte 13)) _ one.1 in
    (eqb-false byte 10 (not-true _ one.0), eqb-false byte 13 (not-true _ two.0), IsTame-from_test bytes two.1)

pub table_tag-idle : IsIdle table_tag
unfolding table_tag
table_tag-idle = record {
  as_line = IsLine-from_tame table_tag (IsTame-from_test table_tag refl);
  not_escaped = refl;
  not_blank = refl;
  read = table_tag-read;
}

pub incomplete-idle : (published : ℕ) → published ≤ 20 → IsIdle (incomplete_text published)
unfolding incomplete_text
incomplete-idle published h = record {
  as_line = IsLine-from_tame _ (IsTame-append (codes "; table incomplete: ") _ (IsTame-from_test (codes "; table incomplete: ") refl) (IsTame-append (decimal published) (codes " of 20") (IsTame-from_calm _ (decimal-calm published h)) (IsTame-from_test (codes " of 20") refl)));
  not_escaped = refl;
  not_blank = refl;
  read = λ number count tags. at_line_comment refl;
}

pub published_count-le : (results : Results) → published_count results ≤ 20
unfolding published_count
published_count-le results = count_by-le-length (λ (entry : Seat × Trump). is_some (results entry.0 entry.1)) entries

table_step : (results : Results) (rest : List ℕ) (tags : Tags) (count : ℕ) (answer : Result (List Board) PbnFault) → ((declarer : Seat) (denomination : Trump) → IfSome (results declarer denomination) (λ tricks. tricks ≤ 13)) → AnswersText tags count rest answer → AnswersText tags count (table_text line_feed results ++ rest) answer
unfolding table_text rows_text
table_step results rest tags count answer small more =
    elim (cases_Bool (is_complete results)) [
      | inl t ↦
          let rows = rows_step results entries rest tags count answer small more in
          subst (λ (b : Bool). AnswersText tags count ((cond b ((table_tag ++ line_feed) ++ rows_text line_feed results) (incomplete_text (published_count results) ++ line_feed)) ++ rest) answer) (sym t)
          (subst (λ (l : List ℕ). AnswersText tags count l answer) (sym (line_more table_tag (rows_text line_feed results) rest)) (idle_step table_tag (rows_text line_feed results ++ rest) tags count answer table_tag-idle rows))
      | inr f ↦
          subst (λ (b : Bool). AnswersText tags count ((cond b ((table_tag ++ line_feed) ++ rows_text line_feed results) (incomplete_text (published_count results) ++ line_feed)) ++ rest) answer) (sym f)
          (subst (λ (l : List ℕ). AnswersText tags count l answer) (sym (append_assoc (incomplete_text (published_count results)) line_feed rest))
          (idle_step (incomplete_text (published_count results)) rest tags count answer (incomplete-idle (published_count results) (published_count-le results)) more))
    ]

-- ---- tag pairs with a value
pub tag_line-is : (name value rest : List ℕ) → tag_line name value ++ rest ≡ tag_text name value ++ 10 ∷ rest
unfolding tag_text
tag_line-is name value rest = simp append_assoc

value_front-is : (value rest : List ℕ) → NoQuote value → value_front (value ++ 34 ∷ rest) ≡ value
value_front-is [] rest h = refl
value_front-is (byte ∷ bytes) rest h = rw (ne_eqb byte 34 h.0) (ap (λ (l : List ℕ). byte ∷ l) (value_front-is bytes rest h.1))

after_value-is : (value rest : List ℕ) → NoQuote value → after_value (value ++ 34 ∷ rest) ≡ Some rest
after_value-is [] rest h = refl
after_value-is (byte ∷ bytes) rest h = rw (ne_eqb byte 34 h.0) (after_value-is bytes rest h.1)

pub board_tag_of : (value : List ℕ) → NoQuote value → tag_of (codes "Board" ++ (32 ∷ 34 ∷ (value ++ (34 ∷ 93 ∷ [])))) ≡ Some (record { name = codes "Board"; value = value; rest = [] })
board_tag_of value h = rw (value_front-is value (93 ∷ []) h, after_value-is value (93 ∷ []) h) refl

pub deal_tag_of : (value : List ℕ) → NoQuote value → tag_of (codes "Deal" ++ (32 ∷ 34 ∷ (value ++ (34 ∷ 93 ∷ [])))) ≡ Some (record { name = codes "Deal"; value = value; rest = [] })
deal_tag_of value h = rw (value_front-is value (93 ∷ []) h, after_value-is value (93 ∷ []) h) refl

-- a tag pair's line
bracket-return : (text : List ℕ) → without_return (text ++ (34 ∷ 93 ∷ [])) ≡ text ++ (34 ∷ 93 ∷ [])
bracket-return [] = refl
bracket-return (byte ∷ []) = refl
bracket-return (byte ∷ other ∷ bytes) = ap (λ (l : List ℕ). byte ∷ l) (bracket-return (other ∷ bytes))

pub feedless : (text : List ℕ) → AllByRecursion (λ byte. byte ≢ 10) text → AllByRecursion (λ byte. is_line_feed byte ≡ false) text
feedless [] h = tt
feedless (byte ∷ bytes) h = (ne_eqb byte 10 h.0, feedless bytes h.1)

feedless-append : (one other : List ℕ) → AllByRecursion (λ byte. is_line_feed byte ≡ false) one → AllByRecursion (λ byte. is_line_feed byte ≡ false) other → AllByRecursion (λ byte. is_line_feed byte ≡ false) (one ++ other)
feedless-append [] other a b = b
feedless-append (byte ∷ bytes) other a b = (a.0, feedless-append bytes other a.1 b)

-- the line of a tag pair whose name and value have no line feed
pub tag-line : (name value : List ℕ) → AllByRecursion (λ byte. is_line_feed byte ≡ false) name → AllByRecursion (λ byte. is_line_feed byte ≡ false) value → IsLine (tag_text name value)
unfolding tag_text
tag-line name value a b = record {
  no_feed = All-from_recursion _ (91 ∷ (name ++ (32 ∷ 34 ∷ (value ++ (34 ∷ 93 ∷ []))))) (refl, feedless-append name (32 ∷ 34 ∷ (value ++ (34 ∷ 93 ∷ []))) a (refl, (refl, feedless-append value (34 ∷ 93 ∷ []) b (refl, (refl, tt)))));
  no_return = subst (λ (l : List ℕ). without_return l ≡ l) (append_assoc (91 ∷ (name ++ (32 ∷ 34 ∷ []))) value (34 ∷ 93 ∷ []) ∙ ap (λ (l : List ℕ). 91 ∷ l) (append_assoc name (32 ∷ 34 ∷ []) (value ++ (34 ∷ 93 ∷ [])))) (bracket-return ((91 ∷ (name ++ (32 ∷ 34 ∷ []))) ++ value));
}

pub no_quote : (text : List ℕ) → AllByRecursion (λ byte. byte ≢ 34) text → NoQuote text
no_quote [] h = tt
no_quote (byte ∷ bytes) h = (h.0, no_quote bytes h.1)

-- the line of the Board tag gives the name
name_tags : List ℕ → Tags
name_tags name = record { name = Some name; deal = None }

board_line-read : (number count : ℕ) (name : List ℕ) → NoQuote name → is_inherited name ≡ false → Scans number count false no_tags (tag_text (codes "Board") name) (Ends (name_tags name) false)
unfolding tag_text name_tags
board_line-read number count name h own = at_tag refl (board_tag_of name h) (board_tag refl (first_board own refl)) at_end

-- the line of the Deal tag gives the deal
both_tags : List ℕ → Option Deal → Tags
both_tags name deal = record { name = Some name; deal = Some deal }

deal_line-read : (number count : ℕ) (name value : List ℕ) (deal : Option Deal) → NoQuote value → ((line : ℕ) → SaysDeal line value (Ok deal)) → count < greatest_count → Scans number count false (name_tags name) (tag_text (codes "Deal") value) (Ends (both_tags name deal) false)
unfolding tag_text name_tags both_tags
deal_line-read number count name value deal h says room = at_tag refl (deal_tag_of value h) (deal_tag refl refl (only_deal refl (says number) room)) at_end

tag_text-not_escaped : (name value : List ℕ) → is_escaped (tag_text name value) ≡ false
unfolding tag_text
tag_text-not_escaped name value = refl

tag_text-not_blank : (name value : List ℕ) → is_blank_line (tag_text name value) ≡ false
unfolding tag_text
tag_text-not_blank name value = refl

-- ---- the lines of par
pub score_tag_of : (value : List ℕ) → NoQuote value → tag_of (codes "OptimumScore" ++ (32 ∷ 34 ∷ (value ++ (34 ∷ 93 ∷ [])))) ≡ Some (record { name = codes "OptimumScore"; value = value; rest = [] })
score_tag_of value h = rw (value_front-is value (93 ∷ []) h, after_value-is value (93 ∷ []) h) refl

pub contracts_tag_of : (value : List ℕ) → NoQuote value → tag_of (codes "ParContract" ++ (32 ∷ 34 ∷ (value ++ (34 ∷ 93 ∷ [])))) ≡ Some (record { name = codes "ParContract"; value = value; rest = [] })
contracts_tag_of value h = rw (value_front-is value (93 ∷ []) h, after_value-is value (93 ∷ []) h) refl

score-read : (value : List ℕ) → NoQuote value → (number count : ℕ) (tags : Tags) → Scans number count false tags (tag_text (codes "OptimumScore") value) (Ends tags false)
unfolding tag_text
score-read value h number count tags = at_tag refl (score_tag_of value h) (other_tag refl refl) at_end

contracts-read : (value : List ℕ) → NoQuote value → (number count : ℕ) (tags : Tags) → Scans number count false tags (tag_text (codes "ParContract") value) (Ends tags false)
unfolding tag_text
contracts-read value h number count tags = at_tag refl (contracts_tag_of value h) (other_tag refl refl) at_end

score-idle : (value : List ℕ) → is_calm value ≡ true → IsIdle (tag_text (codes "OptimumScore") value)
score-idle value calm = record {
  as_line = tag-line (codes "OptimumScore") value (calm-no_feed (codes "OptimumScore") refl) (calm-no_feed value calm);
  not_escaped = tag_text-not_escaped (codes "OptimumScore") value;
  not_blank = tag_text-not_blank (codes "OptimumScore") value;
  read = score-read value (calm-no_quote value calm);
}

contracts-idle : (value : List ℕ) → is_calm value ≡ true → IsIdle (tag_text (codes "ParContract") value)
contracts-idle value calm = record {
  as_line = tag-line (codes "ParContract") value (calm-no_feed (codes "ParContract") refl) (calm-no_feed value calm);
  not_escaped = tag_text-not_escaped (codes "ParContract") value;
  not_blank = tag_text-not_blank (codes "ParContract") value;
  read = contracts-read value (calm-no_quote value calm);
}

no_dealer-idle : IsIdle (codes "; par unknown: no dealer")
no_dealer-idle = record {
  as_line = IsLine-from_tame _ (IsTame-from_test (codes "; par unknown: no dealer") refl);
  not_escaped = refl;
  not_blank = refl;
  read = λ number count tags. at_line_comment refl;
}

no_vulnerability-idle : IsIdle (codes "; par unknown: no vulnerability")
no_vulnerability-idle = record {
  as_line = IsLine-from_tame _ (IsTame-from_test (codes "; par unknown: no vulnerability") refl);
  not_escaped = refl;
  not_blank = refl;
  read = λ number count tags. at_line_comment refl;
}

pub par-idle : (par : Option BoardPar) → IfSome par IsSmallPar → AllByRecursion IsIdle (par_bodies par)
par-idle None small = tt
par-idle (Some (Known dealer vulnerable score contracts)) small = (score-idle (score_text score) (score-calm score small.0), (contracts-idle (contracts_text contracts.items) (contracts-calm contracts.items small.1), tt))
par-idle (Some NoDealer) small = (no_dealer-idle, tt)
par-idle (Some NoVulnerability) small = (no_vulnerability-idle, tt)

-- ---- the lines of par's conditions
pub dealer_tag_of : (value : List ℕ) → NoQuote value → tag_of (codes "Dealer" ++ (32 ∷ 34 ∷ (value ++ (34 ∷ 93 ∷ [])))) ≡ Some (record { name = codes "Dealer"; value = value; rest = [] })
dealer_tag_of value h = rw (value_front-is value (93 ∷ []) h, after_value-is value (93 ∷ []) h) refl

pub vulnerable_tag_of : (value : List ℕ) → NoQuote value → tag_of (codes "Vulnerable" ++ (32 ∷ 34 ∷ (value ++ (34 ∷ 93 ∷ [])))) ≡ Some (record { name = codes "Vulnerable"; value = value; rest = [] })
vulnerable_tag_of value h = rw (value_front-is value (93 ∷ []) h, after_value-is value (93 ∷ []) h) refl

dealer-read : (value : List ℕ) → NoQuote value → (number count : ℕ) (tags : Tags) → Scans number count false tags (tag_text (codes "Dealer") value) (Ends tags false)
unfolding tag_text
dealer-read value h number count tags = at_tag refl (dealer_tag_of value h) (other_tag refl refl) at_end

vulnerable-read : (value : List ℕ) → NoQuote value → (number count : ℕ) (tags : Tags) → Scans number count false tags (tag_text (codes "Vulnerable") value) (Ends tags false)
unfolding tag_text
vulnerable-read value h number count tags = at_tag refl (vulnerable_tag_of value h) (other_tag refl refl) at_end

pub sides-calm : (sides : VulnerableSides) → is_calm (sides_shown sides) ≡ true
sides-calm Neither = refl
sides-calm NorthSouth = refl
sides-calm EastWest = refl
sides-calm Both = refl

dealer-idle : (value : List ℕ) → is_calm value ≡ true → IsIdle (tag_text (codes "Dealer") value)
dealer-idle value calm = record {
  as_line = tag-line (codes "Dealer") value (calm-no_feed (codes "Dealer") refl) (calm-no_feed value calm);
  not_escaped = tag_text-not_escaped (codes "Dealer") value;
  not_blank = tag_text-not_blank (codes "Dealer") value;
  read = dealer-read value (calm-no_quote value calm);
}

vulnerable-idle : (value : List ℕ) → is_calm value ≡ true → IsIdle (tag_text (codes "Vulnerable") value)
vulnerable-idle value calm = record {
  as_line = tag-line (codes "Vulnerable") value (calm-no_feed (codes "Vulnerable") refl) (calm-no_feed value calm);
  not_escaped = tag_text-not_escaped (codes "Vulnerable") value;
  not_blank = tag_text-not_blank (codes "Vulnerable") value;
  read = vulnerable-read value (calm-no_quote value calm);
}

pub conditions-idle : (par : Option BoardPar) → AllByRecursion IsIdle (condition_bodies par)
conditions-idle None = tt
conditions-idle (Some (Known dealer vulnerable score contracts)) = (dealer-idle (seat_letter dealer) (seat_letter-calm dealer), (vulnerable-idle (sides_shown vulnerable) (sides-calm vulnerable), tt))
conditions-idle (Some NoDealer) = tt
conditions-idle (Some NoVulnerability) = tt

bodies_step : (bodies : List (List ℕ)) (rest : List ℕ) (tags : Tags) (count : ℕ) (answer : Result (List Board) PbnFault) → AllByRecursion IsIdle bodies → AnswersText tags count rest answer → AnswersText tags count (flat_map (body_line line_feed) bodies ++ rest) answer
bodies_step [] rest tags count answer idle more = more
bodies_step (body ∷ bodies) rest tags count answer idle more =
    subst (λ (text : List ℕ). AnswersText tags count text answer) (sym (line_more body (flat_map (body_line line_feed) bodies) rest))
    (idle_step body (flat_map (body_line line_feed) bodies ++ rest) tags count answer idle.0 (bodies_step bodies rest tags count answer idle.1 more))

pub section_text-is : (printed : Printed) (rest : List ℕ) → section_text line_feed printed ++ rest ≡ flat_map (body_line line_feed) (par_bodies printed.par) ++ (table_text line_feed printed.results ++ rest)
unfolding section_text par_text
section_text-is printed rest = append_assoc (flat_map (body_line line_feed) (par_bodies printed.par)) (table_text line_feed printed.results) rest

conditions_step : (par : Option BoardPar) (rest : List ℕ) (tags : Tags) (count : ℕ) (answer : Result (List Board) PbnFault) → AnswersText tags count rest answer → AnswersText tags count (conditions_text par ++ rest) answer
unfolding conditions_text
conditions_step par rest tags count answer more = bodies_step (condition_bodies par) rest tags count answer (conditions-idle par) more

section_step : (printed : Printed) (rest : List ℕ) (tags : Tags) (count : ℕ) (answer : Result (List Board) PbnFault) → ((declarer : Seat) (denomination : Trump) → IfSome (printed.results declarer denomination) (λ tricks. tricks ≤ 13)) → IfSome printed.par IsSmallPar → AnswersText tags count rest answer → AnswersText tags count (section_text line_feed printed ++ rest) answer
section_step printed rest tags count answer small pars more =
    subst (λ (text : List ℕ). AnswersText tags count text answer) (sym (section_text-is printed rest))
    (bodies_step (par_bodies printed.par) (table_text line_feed printed.results ++ rest) tags count answer (par-idle printed.par pars) (table_step printed.results rest tags count answer small more))

-- what is known of the printed deal
pub record IsReadable (deal : Option Deal) : Type 0 where
  pub one_line : AllByRecursion (λ byte. is_line_feed byte ≡ false) (deal_value deal)
  pub quoteless : NoQuote (deal_value deal)
  pub says : (line : ℕ) → SaysDeal line (deal_value deal) (Ok deal)

blank_step : (rest : List ℕ) (tags : Tags) (count : ℕ) (answer : Result (List Board) PbnFault) → AnswersText no_tags (count + length (boards_of tags)) rest answer → AnswersText tags count (10 ∷ rest) (put_boards (boards_of tags) answer)
blank_step rest tags count answer more = λ number.
    subst (λ (lines : List (List ℕ)). Answers number None tags count lines (put_boards (boards_of tags) answer)) (sym (lines_of-line [] rest (record { no_feed = All-from_recursion _ [] tt; no_return = refl })))
    (blank_line refl refl (more (number + 1)))

pub board_text-is : (board : Board) (printed : Printed) (rest : List ℕ) → board_text board printed ++ rest ≡ tag_text (codes "Board") board.name ++ 10 ∷ (tag_text (codes "Deal") (deal_value board.deal) ++ 10 ∷ (conditions_text printed.par ++ (section_text line_feed printed ++ 10 ∷ rest)))
unfolding board_text
board_text-is board printed rest =
    let table = section_text line_feed printed ++ (10 ∷ []) in
    let lower = conditions_text printed.par ++ table in
    let deal = tag_line (codes "Deal") (deal_value board.deal) in
    append_assoc (tag_line (codes "Board") board.name) (deal ++ lower) rest
    ∙ (tag_line-is (codes "Board") board.name ((deal ++ lower) ++ rest)
    ∙ ap (λ (l : List ℕ). tag_text (codes "Board") board.name ++ 10 ∷ l)
    (append_assoc deal lower rest
    ∙ (tag_line-is (codes "Deal") (deal_value board.deal) (lower ++ rest)
    ∙ ap (λ (l : List ℕ). tag_text (codes "Deal") (deal_value board.deal) ++ 10 ∷ l)
    (append_assoc (conditions_text printed.par) table rest
    ∙ ap (λ (l : List ℕ). conditions_text printed.par ++ l) (append_assoc (section_text line_feed printed) (10 ∷ []) rest)))))

board_step : (board : Board) (printed : Printed) (rest : List ℕ) (count : ℕ) (boards : List Board) → IsPrintable board → IsReadable board.deal → ((declarer : Seat) (denomination : Trump) → IfSome (printed.results declarer denomination) (λ tricks. tricks ≤ 13)) → IfSome printed.par IsSmallPar → count < greatest_count → AnswersText no_tags (count + 1) rest (Ok boards) → AnswersText no_tags count (board_text board printed ++ rest) (Ok (board ∷ boards))
unfolding board_text both_tags
board_step board printed rest count boards printable readable small pars room more = λ number.
    let name = board.name in
    let value = deal_value board.deal in
    let tags = both_tags name board.deal in
    let quoteless = no_quote name (recursion_from_All _ name printable.no_quote) in
    let feed = feedless name (recursion_from_All _ name printable.one_line) in
    let ending : AnswersText tags count (10 ∷ rest) (Ok (board ∷ boards)) = blank_step rest tags count (Ok boards) more in
    let table : AnswersText tags count (section_text line_feed printed ++ 10 ∷ rest) (Ok (board ∷ boards)) = section_step printed (10 ∷ rest) tags count (Ok (board ∷ boards)) small pars ending in
    let below = conditions_text printed.par ++ (section_text line_feed printed ++ 10 ∷ rest) in
    let lower : AnswersText tags count below (Ok (board ∷ boards)) = conditions_step printed.par (section_text line_feed printed ++ 10 ∷ rest) tags count (Ok (board ∷ boards)) table in
    let deal_line = tag_text (codes "Deal") value in
    let deal : AnswersText (name_tags name) count (deal_line ++ 10 ∷ below) (Ok (board ∷ boards)) =
    λ number. subst (λ (lines : List (List ℕ)). Answers number None (name_tags name) count lines (Ok (board ∷ boards))) (sym (lines_of-line deal_line below (tag-line (codes "Deal") value (refl, (refl, (refl, (refl, tt)))) readable.one_line)))
    (whole_line (tag_text-not_escaped (codes "Deal") value) (tag_text-not_blank (codes "Deal") value) (deal_line-read number count name value board.deal readable.quoteless readable.says room) (lower (number + 1))) in
    let board_line = tag_text (codes "Board") name in
    let first : AnswersText no_tags count (board_line ++ 10 ∷ (deal_line ++ 10 ∷ below)) (Ok (board ∷ boards)) =
    λ number. subst (λ (lines : List (List ℕ)). Answers number None no_tags count lines (Ok (board ∷ boards))) (sym (lines_of-line board_line (deal_line ++ 10 ∷ below) (tag-line (codes "Board") name (refl, (refl, (refl, (refl, (refl, tt))))) feed)))
    (whole_line (tag_text-not_escaped (codes "Board") name) (tag_text-not_blank (codes "Board") name) (board_line-read number count name quoteless printable.own_name) (deal (number + 1))) in
    subst (λ (l : List ℕ). Answers number None no_tags count (lines_of l) (Ok (board ∷ boards))) (sym (board_text-is board printed rest)) (first number)

pub readable_deal : (deal : Option Deal) → IsBoardDeal deal → IsReadable deal
readable_deal None h = record {
  one_line = (refl, tt);
  quoteless = no_quote (63 ∷ []) (eqb-false 63 34 refl, tt);
  says = λ line. says_nothing refl (inr refl);
}
readable_deal (Some deal) h =
    let back = reads_back deal h in
    record {
      one_line = feedless (deal_text deal) (recursion_from_All _ (deal_text deal) back.one_line);
      quoteless = no_quote (deal_text deal) (recursion_from_All _ (deal_text deal) back.no_quote);
      says = back.says;
    }

-- the boards from one place on
boards_step : (boards : List Board) (printed : ℕ → Printed) (place count : ℕ) → AllByRecursion IsPrintable boards → ((deal : Option Deal) → IsBoardDeal deal → IsReadable deal) → AreTricks printed → count + length boards ≤ greatest_count → AnswersText no_tags count (flat_map (numbered_text printed) (enumerate_from place boards)) (Ok boards)
boards_step [] printed place count printable readable small room = λ number. blank_line refl refl no_line
boards_step (board ∷ boards) printed place count printable readable small room =
    let rest = flat_map (numbered_text printed) (enumerate_from (place + 1) boards) in
    let more : AnswersText no_tags (count + 1) rest (Ok boards) = boards_step boards printed (place + 1) (count + 1) printable.1 readable small (omega arith) in
    board_step board (printed place) rest count boards printable.0 (readable board.deal printable.0.deal) (small.at_most place) (small.pars place) (omega arith) more

unfoldable pub first_line : List ℕ
first_line = codes "% PBN 2.1"

pub first_line-is : IsLine first_line
unfolding first_line
first_line-is = IsLine-from_tame first_line (IsTame-from_test first_line refl)

pub are_read_back : AreReadBack
unfolding tables_text first_line
are_read_back boards printed printable small room =
    let rest = flat_map (numbered_text printed) (enumerate_from 0 boards) in
    let more = boards_step boards printed 0 0 (recursion_from_All _ boards printable) readable_deal small (omega arith) in
    subst (λ (lines : List (List ℕ)). Answers 1 None no_tags 0 lines (Ok boards)) (sym (lines_of-line first_line rest first_line-is)) (escaped_line refl (more 2))
