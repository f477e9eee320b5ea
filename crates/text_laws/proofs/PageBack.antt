-- The lines of a page are read as its boards and their results.
use Rattle.std.proofs.Common.{◌≡◌, ℕ, ◌+◌, ◌<◌, ◌≤◌, true, false, List, [], ◌∷◌, ◌++◌, map, Option, None, Some, refl, sym, ◌∙◌, ap, subst, arith, inl, inr, append_assoc}
use Rattle.std.specs.Prelude.{codes, IfSome, is_some, filter, unwrap_or}
use Rattle.std.specs.List.{AllByRecursion, flat_map, enumerate_from}
use Rattle.std.specs.Fmt.{decimal}
use Rattle.std.proofs.lemmas.Bool.{cases_Bool}
use Rattle.std.proofs.lemmas.List.Elements.{recursion_from_All, All-from_recursion}
use Rattle.std.proofs.lemmas.List.Splits.{slice_split_at}
use Rattle.cards.specs.declared.seats.Seat.{Seat}
use Rattle.cards.specs.declared.seats.Seat.TheVariants.{North, East, South, West}
use Rattle.cards.specs.declared.suits.Suit.TheVariants.{Spades, Hearts, Diamonds, Clubs}
use Rattle.cards.specs.declared.suits.Trump.{Trump}
use Rattle.cards.specs.declared.suits.Trump.TheVariants as trump
use Rattle.cards.specs.Pack.{trump_letters}
use Rattle.cards.specs.Seats.{seat_letter}
use Rattle.pbn_deals.specs.declared.boards.Board.{Board}
use Rattle.pbn_deals.specs.DealValue.{words_of}
use Rattle.pbn_deals.specs.Lines.{lines_of}
use Rattle.pbn_deals.specs.Printable.{IsPrintable}
use Rattle.par.specs.Texts.{score_text, contracts_text}
use Rattle.par.specs.declared.vulnerable_sides.VulnerableSides.{VulnerableSides}
use Rattle.tables.specs.ConditionTags.{sides_shown, condition_bodies}
use Rattle.tables.specs.declared.pars.BoardPar.{BoardPar}
use Rattle.tables.specs.declared.pars.BoardPar.TheVariants.{Known, NoDealer, NoVulnerability}
use Rattle.tables.specs.ParText.{tag_text, IsSmallPar, par_bodies}
use Rattle.tables.specs.TablesText.{Results, Printed, section_text, line_feed, deal_value, row_text, right_in_two, entries, is_complete, published_count, table_tag, incomplete_text, table_text, board_text, numbered_text}
use Rattle.text_laws.specs.ReadBack.{AreTricks}
use Rattle.text_laws.specs.PageReading.{all_items, Row, seat_named, denomination_named, number_named, row_of_words, row_in, Table, Rows, Incomplete, rows_table, count_of_words, value_of_tag, value_in, table_in, Section, section_in, section_of, section_of_values, section_of_score, Nothing, Values, DealerUnknown, VulnerabilityUnknown, Unsaid, Said, lower_of, lower_of_values, lower_of_dealer, lower_in, Block, block_in, is_empty_line, has_lines, blocks_of, page_in}
use Rattle.text_laws.specs.WrittenOnce.{numbers_in, SaysResults, par_said, conditions_said, SaysSection, SaysBoard, SayBoards, TableTextsAreRead}
use Rattle.text_laws.proofs.SmallNumbers.{for_small}
use Rattle.text_laws.proofs.CalmTexts.{NoQuote, calm-no_quote, seat_letter-calm}
use Rattle.text_laws.proofs.ParTexts.{score-calm, contracts-calm}
use Rattle.text_laws.proofs.BoardsBack.{published_count-le, par-idle, board_tag_of, deal_tag_of, score_tag_of, contracts_tag_of, dealer_tag_of, vulnerable_tag_of, sides-calm, no_quote, IsReadable, readable_deal}
use Rattle.text_laws.proofs.PageLines.{AreSmall, result_lines, entry_lines, complete-lines, incomplete-lines, section-lines, empty-line, board-lines, page-lines}
use Rattle.tables.proofs.PageBack.{all_known, is_known, known-at}

-- ---- a row
number-word : (n : ℕ) → n ≤ 20 → words_of (right_in_two (decimal n)) ≡ decimal n ∷ []
number-word = for_small (λ n text. words_of (right_in_two text) ≡ text ∷ []) refl refl refl refl refl refl refl refl refl refl refl refl refl refl refl refl refl refl refl refl refl

number-named : (n : ℕ) → n ≤ 20 → number_named (decimal n) ≡ Some n
number-named = for_small (λ n text. number_named text ≡ Some n) refl refl refl refl refl refl refl refl refl refl refl refl refl refl refl refl refl refl refl refl refl

row-words : (declarer : Seat) (denomination : Trump) (tricks : ℕ) → words_of (row_text declarer denomination tricks) ≡ seat_letter declarer ∷ trump_letters denomination ∷ words_of (right_in_two (decimal tricks))
unfolding row_text
row-words North trump.Nt tricks = refl
row-words North (trump.Suit Spades) tricks = refl
row-words North (trump.Suit Hearts) tricks = refl
row-words North (trump.Suit Diamonds) tricks = refl
row-words North (trump.Suit Clubs) tricks = refl
row-words East trump.Nt tricks = refl
row-words East (trump.Suit Spades) tricks = refl
row-words East (trump.Suit Hearts) tricks = refl
row-words East (trump.Suit Diamonds) tricks = refl
row-words East (trump.Suit Clubs) tricks = refl
row-words South trump.Nt tricks = refl
row-words South (trump.Suit Spades) tricks = refl
row-words South (trump.Suit Hearts) tricks = refl
row-words South (trump.Suit Diamonds) tricks = refl
row-words South (trump.Suit Clubs) tricks = refl
row-words West trump.Nt tricks = refl
row-words West (trump.Suit Spades) tricks = refl
row-words West (trump.Suit Hearts) tricks = refl
row-words West (trump.Suit Diamonds) tricks = refl
row-words West (trump.Suit Clubs) tricks = refl

seat-named : (declarer : Seat) → seat_named (seat_letter declarer) ≡ Some declarer
seat-named North = refl
seat-named East = refl
seat-named South = refl
seat-named West = refl

denomination-named : (denomination : Trump) → denomination_named (trump_letters denomination) ≡ Some denomination
denomination-named trump.Nt = refl
denomination-named (trump.Suit Spades) = refl
denomination-named (trump.Suit Hearts) = refl
denomination-named (trump.Suit Diamonds) = refl
denomination-named (trump.Suit Clubs) = refl

row-read : (declarer : Seat) (denomination : Trump) (tricks : ℕ) → tricks ≤ 13 → row_in (row_text declarer denomination tricks) ≡ Some (record { declarer = declarer; denomination = denomination; tricks = tricks })
row-read declarer denomination tricks h =
    let words : words_of (row_text declarer denomination tricks) ≡ seat_letter declarer ∷ trump_letters denomination ∷ decimal tricks ∷ [] =
    row-words declarer denomination tricks ∙ ap (λ (words : List (List ℕ)). seat_letter declarer ∷ trump_letters denomination ∷ words) (number-word tricks (omega arith)) in
    ap row_of_words words ∙ rw (seat-named declarer, denomination-named denomination, number-named tricks (omega arith)) refl

-- ---- the rows of a complete table
abbrev row_at : Results → Seat × Trump → Row
row_at results entry = record { declarer = entry.0; denomination = entry.1; tricks = unwrap_or (results entry.0 entry.1) 0 }

rows-read : (results : Results) (some : List (Seat × Trump)) → AreSmall results → AllByRecursion (λ entry. is_known results entry ≡ true) some → all_items (map row_in (flat_map (entry_lines results) some)) ≡ Some (map (row_at results) some)
rows-read results [] small known = refl
rows-read results (entry ∷ some) small known = go (results entry.0 entry.1) (small entry.0 entry.1) known.0 (rows-read results some small known.1)
  where
    go : (result : Option ℕ) → IfSome result (λ tricks. tricks ≤ 13) → is_some result ≡ true → all_items (map row_in (flat_map (entry_lines results) some)) ≡ Some (map (row_at results) some) → all_items (map row_in (result_lines entry.0 entry.1 result ++ flat_map (entry_lines results) some)) ≡ Some (record { declarer = entry.0; denomination = entry.1; tricks = unwrap_or result 0 } ∷ map (row_at results) some)
    go None h e more = absurd (cc)
    go (Some tricks) h e more = rw (row-read entry.0 entry.1 tricks h, more) refl

known_result : (result : Option ℕ) → is_some result ≡ true → result ≡ Some (unwrap_or result 0)
known_result None e = absurd (cc)
known_result (Some tricks) e = refl

once-at : (results : Results) (declarer : Seat) (denomination : Trump) → numbers_in (map (row_at results) entries) declarer denomination ≡ unwrap_or (results declarer denomination) 0 ∷ []
once-at results North trump.Nt = refl
once-at results North (trump.Suit Spades) = refl
once-at results North (trump.Suit Hearts) = refl
once-at results North (trump.Suit Diamonds) = refl
once-at results North (trump.Suit Clubs) = refl
once-at results South trump.Nt = refl
once-at results South (trump.Suit Spades) = refl
once-at results South (trump.Suit Hearts) = refl
once-at results South (trump.Suit Diamonds) = refl
once-at results South (trump.Suit Clubs) = refl
once-at results East trump.Nt = refl
once-at results East (trump.Suit Spades) = refl
once-at results East (trump.Suit Hearts) = refl
once-at results East (trump.Suit Diamonds) = refl
once-at results East (trump.Suit Clubs) = refl
once-at results West trump.Nt = refl
once-at results West (trump.Suit Spades) = refl
once-at results West (trump.Suit Hearts) = refl
once-at results West (trump.Suit Diamonds) = refl
once-at results West (trump.Suit Clubs) = refl

rows-say : (results : Results) → is_complete results ≡ true → SaysResults results (Rows (map (row_at results) entries))
rows-say results e =
    let known = known-at results (all_known results e) in (
      refl,
      λ declarer denomination. record {
        tricks = unwrap_or (results declarer denomination) 0;
        result = known_result (results declarer denomination) (known declarer denomination);
        once = once-at results declarer denomination;
      },
    )

-- ---- a table
record ReadsTable (results : Results) : Type 0 where
  line : List ℕ
  below : List (List ℕ)
  table : Table
  lines : (rest : List ℕ) → lines_of (table_text line_feed results ++ rest) ≡ line ∷ (below ++ lines_of rest)
  some_bytes : AllByRecursion (λ line. is_empty_line line ≡ false) (line ∷ below)
  plain : value_in (codes "Dealer") line ≡ None
  begins : section_in (line ∷ below) ≡ section_of Nothing (table_in line below)
  read : table_in line below ≡ Some table
  says : SaysResults results table

row-some_bytes : (declarer : Seat) (denomination : Trump) (tricks : ℕ) → is_empty_line (row_text declarer denomination tricks) ≡ false
unfolding row_text
row-some_bytes North denomination tricks = refl
row-some_bytes East denomination tricks = refl
row-some_bytes South denomination tricks = refl
row-some_bytes West denomination tricks = refl

rows-some_bytes : (results : Results) (some : List (Seat × Trump)) → AllByRecursion (λ line. is_empty_line line ≡ false) (flat_map (entry_lines results) some)
rows-some_bytes results [] = tt
rows-some_bytes results (entry ∷ some) = go (results entry.0 entry.1) (rows-some_bytes results some)
  where
    go : (result : Option ℕ) → AllByRecursion (λ line. is_empty_line line ≡ false) (flat_map (entry_lines results) some) → AllByRecursion (λ line. is_empty_line line ≡ false) (result_lines entry.0 entry.1 result ++ flat_map (entry_lines results) some)
    go None more = more
    go (Some tricks) more = (row-some_bytes entry.0 entry.1 tricks, more)

table_tag-some_bytes : is_empty_line table_tag ≡ false
unfolding table_tag
table_tag-some_bytes = refl

-- a table begins with no dealer
table_tag-plain : value_in (codes "Dealer") table_tag ≡ None
unfolding table_tag
table_tag-plain = refl

incomplete-plain : (count : ℕ) → value_in (codes "Dealer") (incomplete_text count) ≡ None
unfolding incomplete_text
incomplete-plain count = refl

rows_below : (lines : List (List ℕ)) → table_in table_tag lines ≡ rows_table (all_items (map row_in lines))
unfolding table_tag
rows_below lines = refl

incomplete-some_bytes : (count : ℕ) → is_empty_line (incomplete_text count) ≡ false
unfolding incomplete_text
incomplete-some_bytes count = refl

incomplete-alone : (count : ℕ) → table_in (incomplete_text count) [] ≡ count_of_words (words_of (incomplete_text count))
unfolding incomplete_text
incomplete-alone count = refl

incomplete-words : (count : ℕ) → count ≤ 20 → count_of_words (words_of (incomplete_text count)) ≡ Some (Incomplete count)
unfolding incomplete_text
incomplete-words = for_small (λ n text. count_of_words (words_of (codes "; table incomplete: " ++ (text ++ codes " of 20"))) ≡ Some (Incomplete n)) refl refl refl refl refl refl refl refl refl refl refl refl refl refl refl refl refl refl refl refl refl

is_complete-from : (results : Results) → published_count results ≡ 20 → is_complete results ≡ true
unfolding is_complete
is_complete-from results e = rw e refl

pub fewer : (results : Results) → is_complete results ≡ false → published_count results < 20
fewer results e =
    let other : published_count results ≡ 20 → ⊥ = λ same. absurd (let t = is_complete-from results same in cc) in
    let most = published_count-le results in
    omega (arith, most, other)

-- how a table is read that is complete, and one that is not
pub complete_read : (results : Results) → AreSmall results → is_complete results ≡ true → (table : Table) × (table_in table_tag (flat_map (entry_lines results) entries) ≡ Some table) × SaysResults results table
complete_read results small t = (
  Rows (map (row_at results) entries),
  rows_below (flat_map (entry_lines results) entries) ∙ ap rows_table (rows-read results entries small (all_known results t)),
  rows-say results t,
)

pub incomplete_read : (results : Results) → is_complete results ≡ false → (table : Table) × (table_in (incomplete_text (published_count results)) [] ≡ Some table) × SaysResults results table
incomplete_read results f = (
  Incomplete (published_count results),
  incomplete-alone (published_count results) ∙ incomplete-words (published_count results) (published_count-le results),
  (refl, fewer results f),
)

-- ---- a block
board-value : (name : List ℕ) → NoQuote name → value_in (codes "Board") (tag_text (codes "Board") name) ≡ Some name
unfolding tag_text
board-value name h = ap (value_of_tag (codes "Board")) (board_tag_of name h)

deal-value : (value : List ℕ) → NoQuote value → value_in (codes "Deal") (tag_text (codes "Deal") value) ≡ Some value
unfolding tag_text
deal-value value h = ap (value_of_tag (codes "Deal")) (deal_tag_of value h)

tag-some_bytes : (name value : List ℕ) → is_empty_line (tag_text name value) ≡ false
unfolding tag_text
tag-some_bytes name value = refl

score-value : (value : List ℕ) → NoQuote value → value_in (codes "OptimumScore") (tag_text (codes "OptimumScore") value) ≡ Some value
unfolding tag_text
score-value value h = ap (value_of_tag (codes "OptimumScore")) (score_tag_of value h)

contracts-value : (value : List ℕ) → NoQuote value → value_in (codes "ParContract") (tag_text (codes "ParContract") value) ≡ Some value
unfolding tag_text
contracts-value value h = ap (value_of_tag (codes "ParContract")) (contracts_tag_of value h)

-- ---- a section
-- how the lines of a table are read that begin a section
pub table_tag-begins : (below : List (List ℕ)) → section_in (table_tag ∷ below) ≡ section_of Nothing (table_in table_tag below)
unfolding table_tag
table_tag-begins below = refl

pub incomplete-begins : (count : ℕ) (below : List (List ℕ)) → section_in (incomplete_text count ∷ below) ≡ section_of Nothing (table_in (incomplete_text count) below)
unfolding incomplete_text
incomplete-begins count below = refl

score-begins : (score : List ℕ) (below : List (List ℕ)) → section_in (tag_text (codes "OptimumScore") score ∷ below) ≡ section_of_score (value_in (codes "OptimumScore") (tag_text (codes "OptimumScore") score)) (tag_text (codes "OptimumScore") score ∷ below)
unfolding tag_text
score-begins score below = refl

reads_table : (results : Results) → AreSmall results → ReadsTable results
reads_table results small =
    elim (cases_Bool (is_complete results)) [
      | inl t ↦
          let it = complete_read results small t in
          record {
            line = table_tag;
            below = flat_map (entry_lines results) entries;
            table = it.0;
            lines = λ rest. complete-lines results rest small t;
            some_bytes = (table_tag-some_bytes, rows-some_bytes results entries);
            plain = table_tag-plain;
            begins = table_tag-begins (flat_map (entry_lines results) entries);
            read = it.1;
            says = it.2;
          }
      | inr f ↦
          let it = incomplete_read results f in
          record {
            line = incomplete_text (published_count results);
            below = [];
            table = it.0;
            lines = λ rest. incomplete-lines results rest f;
            some_bytes = (incomplete-some_bytes (published_count results), tt);
            plain = incomplete-plain (published_count results);
            begins = incomplete-begins (published_count results) [];
            read = it.1;
            says = it.2;
          }
    ]

pub reads_below : (par : Option BoardPar) (line : List ℕ) (below : List (List ℕ)) (table : Table) → IfSome par IsSmallPar → section_in (line ∷ below) ≡ section_of Nothing (table_in line below) → table_in line below ≡ Some table → section_in (par_bodies par ++ line ∷ below) ≡ Some (record { par = par_said par; table = table })
reads_below None line below table small begins read = begins ∙ ap (section_of Nothing) read
reads_below (Some NoDealer) line below table small begins read = ap (section_of DealerUnknown) read
reads_below (Some NoVulnerability) line below table small begins read = ap (section_of VulnerabilityUnknown) read
reads_below (Some (Known dealer vulnerable score contracts)) line below table small begins read =
    let first = tag_text (codes "OptimumScore") (score_text score) in
    let second = tag_text (codes "ParContract") (contracts_text contracts.items) in
    score-begins (score_text score) (second ∷ line ∷ below)
    ∙ (ap (λ (value : Option (List ℕ)). section_of_score value (first ∷ second ∷ line ∷ below)) (score-value (score_text score) (calm-no_quote (score_text score) (score-calm score small.0)))
    ∙ (ap (λ (value : Option (List ℕ)). section_of_values (score_text score) value (line ∷ below)) (contracts-value (contracts_text contracts.items) (calm-no_quote (contracts_text contracts.items) (contracts-calm contracts.items small.1)))
    ∙ ap (section_of (Values (score_text score) (contracts_text contracts.items))) read))

par-some_bytes : (par : Option BoardPar) (more : List (List ℕ)) → AllByRecursion (λ line. is_empty_line line ≡ false) more → AllByRecursion (λ line. is_empty_line line ≡ false) (par_bodies par ++ more)
par-some_bytes None more h = h
par-some_bytes (Some NoDealer) more h = (refl, h)
par-some_bytes (Some NoVulnerability) more h = (refl, h)
par-some_bytes (Some (Known dealer vulnerable score contracts)) more h = (tag-some_bytes (codes "OptimumScore") (score_text score), (tag-some_bytes (codes "ParContract") (contracts_text contracts.items), h))

-- the dealer in the first of these lines
abbrev first_dealer : List (List ℕ) → Option (List ℕ)
first_dealer [] = None
first_dealer (line ∷ lines) = value_in (codes "Dealer") line

-- a section begins with no dealer
score-plain : (score : List ℕ) → NoQuote score → value_in (codes "Dealer") (tag_text (codes "OptimumScore") score) ≡ None
unfolding tag_text
score-plain score h = ap (value_of_tag (codes "Dealer")) (score_tag_of score h)

par-plain : (par : Option BoardPar) (line : List ℕ) (below : List (List ℕ)) → IfSome par IsSmallPar → value_in (codes "Dealer") line ≡ None → first_dealer (par_bodies par ++ line ∷ below) ≡ None
par-plain None line below small plain = plain
par-plain (Some NoDealer) line below small plain = refl
par-plain (Some NoVulnerability) line below small plain = refl
par-plain (Some (Known dealer vulnerable score contracts)) line below small plain = score-plain (score_text score) (calm-no_quote (score_text score) (score-calm score small.0))

record ReadsSection (printed : Printed) : Type 0 where
  line : List ℕ
  below : List (List ℕ)
  section : Section
  lines : (rest : List ℕ) → lines_of (section_text line_feed printed ++ rest) ≡ line ∷ (below ++ lines_of rest)
  some_bytes : AllByRecursion (λ line. is_empty_line line ≡ false) (line ∷ below)
  plain : value_in (codes "Dealer") line ≡ None
  read : section_in (line ∷ below) ≡ Some section
  says : SaysSection printed section

-- the lines of par and of a table, of which at least one is there
reads_lines : (printed : Printed) (section : Section) (lines : List (List ℕ)) (first : List ℕ) (more : List (List ℕ)) → lines ≡ first ∷ more → ((rest : List ℕ) → lines_of (section_text line_feed printed ++ rest) ≡ lines ++ lines_of rest) → AllByRecursion (λ line. is_empty_line line ≡ false) lines → first_dealer lines ≡ None → section_in lines ≡ Some section → SaysSection printed section → ReadsSection printed
reads_lines printed section lines first more is all some_bytes plain read says = record {
  line = first;
  below = more;
  section = section;
  lines = λ rest. all rest ∙ ap (λ (l : List (List ℕ)). l ++ lines_of rest) is;
  some_bytes = subst (λ (l : List (List ℕ)). AllByRecursion (λ line. is_empty_line line ≡ false) l) is some_bytes;
  plain = subst (λ (l : List (List ℕ)). first_dealer l ≡ None) is plain;
  read = subst (λ (l : List (List ℕ)). section_in l ≡ Some section) is read;
  says = says;
}

some_first : (par : Option BoardPar) (line : List ℕ) (below : List (List ℕ)) → (first : List ℕ) × (more : List (List ℕ)) × (par_bodies par ++ line ∷ below ≡ first ∷ more)
some_first None line below = (line, below, refl)
some_first (Some NoDealer) line below = (_, _, refl)
some_first (Some NoVulnerability) line below = (_, _, refl)
some_first (Some (Known dealer vulnerable score contracts)) line below = (_, _, refl)

reads_section : (printed : Printed) → AreSmall printed.results → IfSome printed.par IsSmallPar → ReadsSection printed
reads_section printed small pars =
    let t = reads_table printed.results small in
    let section : Section = record { par = par_said printed.par; table = t.table } in
    let some = some_first printed.par t.line t.below in
    let lines : (rest : List ℕ) → lines_of (section_text line_feed printed ++ rest) ≡ (par_bodies printed.par ++ t.line ∷ t.below) ++ lines_of rest =
    λ rest. section-lines printed rest (par-idle printed.par pars)
    ∙ (ap (λ (l : List (List ℕ)). par_bodies printed.par ++ l) (t.lines rest) ∙ sym (append_assoc (par_bodies printed.par) (t.line ∷ t.below) (lines_of rest))) in
    reads_lines printed section (par_bodies printed.par ++ t.line ∷ t.below) some.0 some.1 some.2 lines (par-some_bytes printed.par (t.line ∷ t.below) t.some_bytes)
    (par-plain printed.par t.line t.below pars t.plain)
    (reads_below printed.par t.line t.below t.table pars t.begins t.read)
    (record { par = refl; table = t.says })

-- ---- what is below the Deal tag
dealer-value : (dealer : Seat) → value_in (codes "Dealer") (tag_text (codes "Dealer") (seat_letter dealer)) ≡ Some (seat_letter dealer)
unfolding tag_text
dealer-value dealer = ap (value_of_tag (codes "Dealer")) (dealer_tag_of (seat_letter dealer) (calm-no_quote (seat_letter dealer) (seat_letter-calm dealer)))

vulnerable-value : (sides : VulnerableSides) → value_in (codes "Vulnerable") (tag_text (codes "Vulnerable") (sides_shown sides)) ≡ Some (sides_shown sides)
unfolding tag_text
vulnerable-value sides = ap (value_of_tag (codes "Vulnerable")) (vulnerable_tag_of (sides_shown sides) (calm-no_quote (sides_shown sides) (sides-calm sides)))

lower-read : (par : Option BoardPar) (line : List ℕ) (below : List (List ℕ)) (section : Section) → value_in (codes "Dealer") line ≡ None → section_in (line ∷ below) ≡ Some section → lower_in (condition_bodies par ++ line ∷ below) ≡ Some (record { conditions = conditions_said par; section = section })
lower-read None line below section plain read = ap (λ (value : Option (List ℕ)). lower_of_dealer value (line ∷ below)) plain ∙ ap (lower_of Unsaid) read
lower-read (Some NoDealer) line below section plain read = ap (λ (value : Option (List ℕ)). lower_of_dealer value (line ∷ below)) plain ∙ ap (lower_of Unsaid) read
lower-read (Some NoVulnerability) line below section plain read = ap (λ (value : Option (List ℕ)). lower_of_dealer value (line ∷ below)) plain ∙ ap (lower_of Unsaid) read
lower-read (Some (Known dealer vulnerable score contracts)) line below section plain read =
    let first = tag_text (codes "Dealer") (seat_letter dealer) in
    let second = tag_text (codes "Vulnerable") (sides_shown vulnerable) in
    ap (λ (value : Option (List ℕ)). lower_of_dealer value (first ∷ second ∷ line ∷ below)) (dealer-value dealer)
    ∙ (ap (λ (value : Option (List ℕ)). lower_of_values (seat_letter dealer) value (line ∷ below)) (vulnerable-value vulnerable)
    ∙ ap (lower_of (Said (seat_letter dealer) (sides_shown vulnerable))) read)

conditions-some_bytes : (par : Option BoardPar) (more : List (List ℕ)) → AllByRecursion (λ line. is_empty_line line ≡ false) more → AllByRecursion (λ line. is_empty_line line ≡ false) (condition_bodies par ++ more)
conditions-some_bytes None more h = h
conditions-some_bytes (Some NoDealer) more h = h
conditions-some_bytes (Some NoVulnerability) more h = h
conditions-some_bytes (Some (Known dealer vulnerable score contracts)) more h = (tag-some_bytes (codes "Dealer") (seat_letter dealer), (tag-some_bytes (codes "Vulnerable") (sides_shown vulnerable), h))

cut_block : (line : List ℕ) (lines more : List (List ℕ)) → AllByRecursion (λ line. is_empty_line line ≡ false) (line ∷ lines) → blocks_of ((line ∷ lines) ++ [] ∷ more) ≡ (line ∷ lines) ∷ blocks_of more
cut_block line lines more h = ap (filter has_lines) (slice_split_at is_empty_line (line ∷ lines) [] more (All-from_recursion _ (line ∷ lines) h) refl)

-- what is read of the lines of a text
abbrev blocks_in : List ℕ → Option (List Block)
blocks_in text = all_items (map block_in (blocks_of (lines_of text)))

record ReadsBoard (board : Board) (printed : Printed) : Type 0 where
  block : Block
  read : (rest : List ℕ) (blocks : List Block) → blocks_in rest ≡ Some blocks → blocks_in (board_text board printed ++ rest) ≡ Some (block ∷ blocks)
  says : SaysBoard board printed block

reads_board : (board : Board) (printed : Printed) → IsPrintable board → IsReadable board.deal → AreSmall printed.results → IfSome printed.par IsSmallPar → ReadsBoard board printed
reads_board board printed printable readable small pars =
    let name = board.name in
    let value = deal_value board.deal in
    let board_line = tag_text (codes "Board") name in
    let deal_line = tag_text (codes "Deal") value in
    let t = reads_section printed small pars in
    let shown = condition_bodies printed.par ++ t.line ∷ t.below in
    let block : Block = record { name = name; deal = value; conditions = conditions_said printed.par; section = t.section } in
    let quoteless = no_quote name (recursion_from_All _ name printable.no_quote) in
    let read_one : block_in (board_line ∷ deal_line ∷ shown) ≡ Some block = rw (board-value name quoteless, deal-value value readable.quoteless, lower-read printed.par t.line t.below t.section t.plain t.read) refl in
    record {
      block = block;
      read = λ rest blocks more.
          let below : lines_of (section_text line_feed printed ++ 10 ∷ rest) ≡ (t.line ∷ t.below) ++ [] ∷ lines_of rest = t.lines (10 ∷ rest) ∙ ap (λ (lines : List (List ℕ)). t.line ∷ (t.below ++ lines)) (empty-line rest) in
          let lower : condition_bodies printed.par ++ lines_of (section_text line_feed printed ++ 10 ∷ rest) ≡ shown ++ [] ∷ lines_of rest = ap (λ (lines : List (List ℕ)). condition_bodies printed.par ++ lines) below ∙ sym (append_assoc (condition_bodies printed.par) (t.line ∷ t.below) ([] ∷ lines_of rest)) in
          let lines : lines_of (board_text board printed ++ rest) ≡ (board_line ∷ deal_line ∷ shown) ++ [] ∷ lines_of rest = board-lines board printed rest printable readable ∙ ap (λ (lines : List (List ℕ)). board_line ∷ deal_line ∷ lines) lower in
          let cut = cut_block board_line (deal_line ∷ shown) (lines_of rest) (tag-some_bytes (codes "Board") name, (tag-some_bytes (codes "Deal") value, conditions-some_bytes printed.par (t.line ∷ t.below) t.some_bytes)) in
          ap (λ (lines : List (List ℕ)). all_items (map block_in (blocks_of lines))) lines
          ∙ (ap (λ (parts : List (List (List ℕ))). all_items (map block_in parts)) cut
          ∙ rw (read_one, more) refl);
      says = record { name = refl; deal = readable.says; conditions = refl; section = t.says };
    }

-- ---- the page
record ReadsBoards (boards : List Board) (printed : ℕ → Printed) (place : ℕ) : Type 0 where
  blocks : List Block
  read : blocks_in (flat_map (numbered_text printed) (enumerate_from place boards)) ≡ Some blocks
  says : SayBoards printed (enumerate_from place boards) blocks

reads_boards : (boards : List Board) (printed : ℕ → Printed) (place : ℕ) → AllByRecursion IsPrintable boards → AreTricks printed → ReadsBoards boards printed place
reads_boards [] printed place printable small = record { blocks = []; read = refl; says = tt }
reads_boards (board ∷ boards) printed place printable small =
    let more = reads_boards boards printed (place + 1) printable.1 small in
    let one = reads_board board (printed place) printable.0 (readable_deal board.deal printable.0.deal) (small.at_most place) (small.pars place) in
    record {
      blocks = one.block ∷ more.blocks;
      read = one.read (flat_map (numbered_text printed) (enumerate_from (place + 1) boards)) more.blocks more.read;
      says = (one.says, more.says);
    }

pub table_texts_are_read : TableTextsAreRead
table_texts_are_read boards printed printable small =
    let page = reads_boards boards printed 0 (recursion_from_All _ boards printable) small in
    (page.blocks, ap page_in (page-lines boards printed) ∙ page.read, page.says)
