-- One page says one list of boards, and one set of results of each.
use Rattle.std.proofs.Common.{◌≡◌, ℕ, zero, suc, ◌+◌, ◌<◌, Bool, true, List, [], ◌∷◌, length, Option, None, Some, Result, refl, sym, ◌∙◌, ap, subst, arith}
use Rattle.std.specs.Prelude.{codes, is_some, filter, Ok}
use Rattle.std.specs.List.{enumerate_from}
use Rattle.std.proofs.lemmas.Bool.{eqb-true}
use Rattle.std.proofs.lemmas.List.Sums.{length-filter}
use Rattle.cards.specs.declared.seats.Seat.{Seat}
use Rattle.cards.specs.declared.suits.Trump.{Trump}
use Rattle.cards.specs.Deal.{Deal}
use Rattle.pbn_deals.specs.declared.boards.Board.{Board}
use Rattle.pbn_deals.specs.Games.{Tags, no_tags, SaysDeal, TakesTag, deal_tag, only_deal}
use Rattle.pbn_deals.specs.Lines.{lines_of}
use Rattle.text_laws.proofs.OneTag.{one_taking}
use Rattle.tables.specs.TablesText.{Results, Printed, entries, published_count, is_complete}
use Rattle.text_laws.specs.PageReading.{Row, Table, Rows, Incomplete, Section, Block, page_in}
use Rattle.text_laws.specs.WrittenOnce.{IsWrittenOnce, SaysResults, SaysSection, SayBoards, SaySame, SaySameBlock, PagesSayOneThing}
use Rattle.text_laws.proofs.PageBack.{table_texts_are_read}

-- ---- a board
deal_tags : Option Deal → Tags
deal_tags deal = record { name = None; deal = Some deal }

takes_deal : (value : List ℕ) (deal : Option Deal) → SaysDeal 1 value (Ok deal) → TakesTag 1 0 no_tags (codes "Deal") value (Ok (deal_tags deal))
unfolding deal_tags
takes_deal value deal says = deal_tag refl refl (only_deal refl says (omega arith))

ok_inj : {A E : Type 0} {x y : A} → ◌≡◌ {A = Result A E} (Ok x) (Ok y) → x ≡ y
ok_inj e = cc

some_inj : {A : Type 0} {x y : A} → Some x ≡ Some y → x ≡ y
some_inj e = cc

one_deal : (value : List ℕ) (one other : Option Deal) → SaysDeal 1 value (Ok one) → SaysDeal 1 value (Ok other) → one ≡ other
unfolding deal_tags
one_deal value one other says says' =
    let tags : deal_tags one ≡ deal_tags other = ok_inj (one_taking (takes_deal value one says) (takes_deal value other says')) in
    some_inj (ap (λ (tags : Tags). tags.deal) tags)

one_board : (one other : Board) → one.name ≡ other.name → one.deal ≡ other.deal → one ≡ other
one_board one other name deal =
    ap (λ (n : List ℕ). record { name = n; deal = one.deal }) name ∙ ap (λ (d : Option Deal). record { name = other.name; deal = d }) deal

-- ---- its results
kept_all : {X : Type 0} (p : X → Bool) → ((x : X) → p x ≡ true) → (xs : List X) → length (filter p xs) ≡ length xs
kept_all p each [] = refl
kept_all p each (x ∷ xs) = rw (each x) (ap (λ n. suc n) (kept_all p each xs))

all_published : (results : Results) → ((declarer : Seat) (denomination : Trump) → is_some (results declarer denomination) ≡ true) → published_count results ≡ 20
unfolding published_count
all_published results each =
    let p = λ (entry : Seat × Trump). is_some (results entry.0 entry.1) in
    sym (length-filter p entries) ∙ kept_all p (λ entry. each entry.0 entry.1) entries

rows_published : (results : Results) (rows : List Row) → ((declarer : Seat) (denomination : Trump) → IsWrittenOnce results rows declarer denomination) → published_count results ≡ 20
rows_published results rows once = all_published results (λ declarer denomination. ap is_some (once declarer denomination).result)

head_inj : {x y : ℕ} → x ∷ [] ≡ y ∷ [] → x ≡ y
head_inj e = cc

complete_count : (results : Results) → is_complete results ≡ true → published_count results ≡ 20
unfolding is_complete
complete_count results e = eqb-true (published_count results) 20 e

record SameResults (one other : Results) : Type 0 where
  counts : published_count one ≡ published_count other
  numbers : is_complete one ≡ true → (declarer : Seat) (denomination : Trump) → one declarer denomination ≡ other declarer denomination

same_results : (one other : Results) (table : Table) → SaysResults one table → SaysResults other table → SameResults one other
same_results one other (Rows rows) h h' = record {
  counts = rows_published one rows h.1 ∙ sym (rows_published other rows h'.1);
  numbers = λ _ declarer denomination.
      let w = h.1 declarer denomination in
      let w' = h'.1 declarer denomination in
      w.result ∙ (ap Some (head_inj (sym w.once ∙ w'.once)) ∙ sym w'.result);
}
same_results one other (Incomplete count) h h' = record {
  counts = sym h.0 ∙ h'.0;
  numbers = λ complete declarer denomination. absurd (let all = complete_count one complete in let is = h.0 in let few = h.1 in omega (arith, all, is, few));
}

same_section : (one other : Printed) (section : Section) → SaysSection one section → SaysSection other section → SaySame one other
same_section one other section h h' =
    let same = same_results one.results other.results section.table h.table h'.table in
    record { pars = sym h.par ∙ h'.par; counts = same.counts; numbers = same.numbers }

-- ---- the boards
abbrev SaysSameFrom : (ℕ → Printed) → (ℕ → Printed) → ℕ → List Board → Type 0
SaysSameFrom results results' place boards = (i : ℕ) → i < length boards → SaySameBlock (results (place + i)) (results' (place + i))

same_boards : (boards others : List Board) (results results' : ℕ → Printed) (place : ℕ) (blocks : List Block) → SayBoards results (enumerate_from place boards) blocks → SayBoards results' (enumerate_from place others) blocks → (boards ≡ others) × SaysSameFrom results results' place boards
same_boards [] [] results results' place [] h h' = (refl, λ i within. absurd (omega (arith, within)))
same_boards [] [] results results' place (block ∷ blocks) h h' = absurd h
same_boards [] (other ∷ others) results results' place [] h h' = absurd h'
same_boards [] (other ∷ others) results results' place (block ∷ blocks) h h' = absurd h
same_boards (board ∷ boards) [] results results' place [] h h' = absurd h
same_boards (board ∷ boards) [] results results' place (block ∷ blocks) h h' = absurd h'
same_boards (board ∷ boards) (other ∷ others) results results' place [] h h' = absurd h
same_boards (board ∷ boards) (other ∷ others) results results' place (block ∷ blocks) h h' =
    let says = h.0 in
    let says' = h'.0 in
    let first = one_board board other (sym says.name ∙ says'.name) (one_deal block.deal board.deal other.deal (says.deal 1) (says'.deal 1)) in
    let more = same_boards boards others results results' (place + 1) blocks h.1 h'.1 in
    (ap (λ (b : Board). b ∷ boards) first ∙ ap (λ (l : List Board). other ∷ l) more.0, at (record { conditions = sym says.conditions ∙ says'.conditions; section = same_section (results place) (results' place) block.section says.section says'.section }) more.1)
  where
    at : SaySameBlock (results place) (results' place) → SaysSameFrom results results' (place + 1) boards → (i : ℕ) → i < length (board ∷ boards) → SaySameBlock (results (place + i)) (results' (place + i))
    at one more zero within = let e : place ≡ place + 0 = omega arith in subst (λ n. SaySameBlock (results n) (results' n)) e one
    at one more (suc i) within = let e : (place + 1) + i ≡ place + suc i = omega arith in subst (λ n. SaySameBlock (results n) (results' n)) e (more i (omega (arith, within)))

pub pages_say_one_thing : PagesSayOneThing
pages_say_one_thing boards others results results' printable printable' small small' e =
    let one = table_texts_are_read boards results printable small in
    let other = table_texts_are_read others results' printable' small' in
    let blocks : one.0 ≡ other.0 = some_inj (sym one.1 ∙ (ap (λ (text : List ℕ). page_in (lines_of text)) e ∙ other.1)) in
    let same = same_boards boards others results results' 0 other.0 (subst (λ (b : List Block). SayBoards results (enumerate_from 0 boards) b) blocks one.2) other.2 in
    (same.0, λ place within. from_zero (same.1 place within))
  where
    from_zero : {place : ℕ} → SaySameBlock (results (0 + place)) (results' (0 + place)) → SaySameBlock (results place) (results' place)
    from_zero {place} h = let e : 0 + place ≡ place = omega arith in subst (λ n. SaySameBlock (results n) (results' n)) e h
