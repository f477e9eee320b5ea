-- The chairs of a closed desk have the receipts for its history, each once.
use Rattle.std.proofs.Common.{◌≡◌, ◌≢◌, ℕ, ◌+◌, ◌<◌, ◌≤◌, Bool, true, false, cond, eqb, List, [], ◌∷◌, ◌++◌, length, map, All, count_by, get_or, take, drop, Some, refl, sym, ap, ◌∙◌, subst, arith, append-nil, length-append}
use Rattle.std.specs.Prelude.{sum_by, nat_eq, if◌then◌else◌}
use Rattle.std.proofs.lemmas.Bool.{eqb-true, eq-eqb, ne_eqb}
use Rattle.std.proofs.lemmas.List.{length-map, take_all, drop_all}
use Rattle.std.proofs.lemmas.List.Elements.{All-nil, All-head, All-tail}
use Rattle.std.proofs.lemmas.List.Sums.{sum_by-cons}
use Rattle.lease_book.specs.declared.events.Event.{Event}
use Rattle.lease_desk.specs.declared.chairs.Chair.{Chair}
use Rattle.lease_desk.specs.declared.receipts.Receipt.{Receipt}
use Rattle.lease_desk.specs.declared.views.SeenMessage.{SeenMessage}
use Rattle.lease_desk.specs.Receipts.{receipt, keep, receipts_from, Stands, is_for}
use Rattle.lease_desk.specs.Views.{receipts_on, history_on}
use Rattle.lease_desk.specs.Rule.{AreBelow}
use Rattle.lease_desk.proofs.ReceiptLaws.{stand_from}
use Rattle.lease_desk.specs.Desks.{AreAll, number_of, receipts_in, shown_of, IsClosed}
use Rattle.lease_desk.specs.Closing.{IsCompared, IsCollected}
use Rattle.lease_book.specs.Histories.{Terms}
use Rattle.lease_book.specs.Books.{Ledger}
use Rattle.lease_book.specs.Replies.{IsLegal}

-- each receipt stands at its place

pub all_stand : (page : SeenMessage) (chairs : List Chair) → All (IsCompared page) chairs → All (λ chair. All (Stands (history_on page)) (receipts_in chair)) chairs
all_stand page chairs compared k d within =
    let chair : Chair = get_or chairs k d in
    subst (λ (l : List Receipt). All (Stands (history_on page)) l) (sym (compared k d within)) (stand_from (history_on page) (number_of chair) page.before page.makers page.book.events refl)

-- sums over the numbers of the chairs

sum_same : {X : Type 0} (f g : X → ℕ) (xs : List X) → ((x : X) → f x ≡ g x) → sum_by f xs ≡ sum_by g xs
sum_same {X = X} f g xs same = ap (λ (h : X → ℕ). sum_by h xs) (λ i x. same x i)

sum_add : {X : Type 0} (f g : X → ℕ) (xs : List X) → sum_by (λ x. f x + g x) xs ≡ sum_by f xs + sum_by g xs
sum_add f g [] = refl
sum_add f g (x ∷ xs) =
    let both = sum_by-cons (λ y. f y + g y) x xs in
    let one = sum_by-cons f x xs in
    let other = sum_by-cons g x xs in
    let rest = sum_add f g xs in
    omega arith

sum_zero : {X : Type 0} (f : X → ℕ) (xs : List X) → ((x : X) → f x ≡ 0) → sum_by f xs ≡ 0
sum_zero f [] none = refl
sum_zero f (x ∷ xs) none =
    let cut = sum_by-cons f x xs in
    let rest = sum_zero f xs none in
    let first = none x in
    omega arith

-- what is measured of a list of receipts adds up over them, 1 for each that counts
pub record IsMeasure (measure : List Receipt → ℕ) (counts : Receipt → Bool) : Type 0 where
  pub none : measure [] ≡ 0
  pub more : (b : Bool) (first : Receipt) (rest : List Receipt) → measure (keep b first rest) ≡ cond b (cond (counts first) 1 0) 0 + measure rest

-- the chairs of these numbers, by what is measured of their receipts
over : (measure : List Receipt → ℕ) (place : ℕ) (makers : List ℕ) (events : List Event) (numbers : List ℕ) → ℕ
over measure place makers events numbers = sum_by (λ number. measure (receipts_from number place makers events)) numbers

no_count : (b : Bool) → ◌≡◌ {A = ℕ} (cond b 0 0) 0
no_count true = refl
no_count false = refl

listed_once : (count maker : ℕ) (numbers : List ℕ) (b : Bool) → AreAll count numbers → maker < count → sum_by (λ number. cond (eqb maker number) (cond b 1 0) 0) numbers ≡ cond b 1 0
listed_once count maker numbers true all within = all.once maker within
listed_once count maker numbers false all within = sum_zero (λ number. cond (eqb maker number) 0 0) numbers (λ number. no_count (eqb maker number))

module _ (measure : List Receipt → ℕ) (counts : Receipt → Bool) (is : IsMeasure measure counts) (count : ℕ) (numbers : List ℕ) (all : AreAll count numbers) where
  over_more : (place maker : ℕ) (makers : List ℕ) (event : Event) (events : List Event) → maker < count → over measure place (maker ∷ makers) (event ∷ events) numbers ≡ cond (counts (receipt place event)) 1 0 + over measure (place + 1) makers events numbers
  unfolding over
  over_more place maker makers event events within =
      let own : ℕ → ℕ = λ number. cond (eqb maker number) (cond (counts (receipt place event)) 1 0) 0 in
      let rest : ℕ → ℕ = λ number. measure (receipts_from number (place + 1) makers events) in
      sum_same (λ number. measure (receipts_from number place (maker ∷ makers) (event ∷ events))) (λ number. own number + rest number) numbers
      (λ number. is.more (eqb maker number) (receipt place event) (receipts_from number (place + 1) makers events))
      ∙ sum_add own rest numbers
      ∙ ap (λ n. n + sum_by rest numbers) (listed_once count maker numbers (counts (receipt place event)) all within)

  over_none : (place : ℕ) → over measure place [] [] numbers ≡ 0
  unfolding over
  over_none place = sum_zero (λ number. measure (receipts_from number place [] [])) numbers (λ number. is.none)

-- all receipts are counted
length_is : IsMeasure (λ (l : List Receipt). length l) (λ told. true)
length_is = record { none = refl; more = more }
  where
    more : (b : Bool) (first : Receipt) (rest : List Receipt) → length (keep b first rest) ≡ cond b 1 0 + length rest
    more true first rest = omega arith
    more false first rest = omega arith

count_from : (count : ℕ) (numbers : List ℕ) → AreAll count numbers → (place : ℕ) (makers : List ℕ) (events : List Event) → length makers ≡ length events → AreBelow count makers → over (λ l. length l) place makers events numbers ≡ length events
count_from count numbers all place [] [] even listed = over_none (λ l. length l) (λ told. true) length_is count numbers all place
count_from count numbers all place [] (event ∷ events) even listed = absurd (omega arith)
count_from count numbers all place (maker ∷ makers) [] even listed = absurd (omega arith)
count_from count numbers all place (maker ∷ makers) (event ∷ events) even listed =
    let step = over_more (λ l. length l) (λ told. true) length_is count numbers all place maker makers event events listed.0 in
    let rest = count_from count numbers all (place + 1) makers events (omega arith) listed.1 in
    omega (arith, step, rest)

-- those for a place are counted
count_is : (place : ℕ) → IsMeasure (λ (l : List Receipt). count_by (is_for place) l) (is_for place)
count_is place = record { none = refl; more = more }
  where
    more : (b : Bool) (first : Receipt) (rest : List Receipt) → count_by (is_for place) (keep b first rest) ≡ cond b (cond (is_for place first) 1 0) 0 + count_by (is_for place) rest
    more true first rest = sum_by-cons (λ (told : Receipt). cond (is_for place told) 1 0) first rest
    more false first rest = omega arith

-- none is for a place before the first
none_earlier : (place : ℕ) (count : ℕ) (numbers : List ℕ) → AreAll count numbers → (from : ℕ) (makers : List ℕ) (events : List Event) → place < from → length makers ≡ length events → AreBelow count makers → over (λ l. count_by (is_for place) l) from makers events numbers ≡ 0
none_earlier place count numbers all from [] [] early even listed = over_none (λ l. count_by (is_for place) l) (is_for place) (count_is place) count numbers all from
none_earlier place count numbers all from [] (event ∷ events) early even listed = absurd (omega arith)
none_earlier place count numbers all from (maker ∷ makers) [] early even listed = absurd (omega arith)
none_earlier place count numbers all from (maker ∷ makers) (event ∷ events) early even listed =
    over_more (λ l. count_by (is_for place) l) (is_for place) (count_is place) count numbers all from maker makers event events listed.0
    ∙ ap (λ b. cond b 1 0 + over (λ l. count_by (is_for place) l) (from + 1) makers events numbers) (ne_eqb from place (λ e. omega arith))
    ∙ (let rest = none_earlier place count numbers all (from + 1) makers events (omega arith) (omega arith) listed.1 in omega (arith, rest))

later_than : (m n : ℕ) → m ≤ n → m ≢ n → m + 1 ≤ n
later_than m n le apart = omega arith

once_here : (b : Bool) (from place rest : ℕ) → eqb from place ≡ b → from ≤ place → (place < from + 1 → rest ≡ 0) → (from + 1 ≤ place → rest ≡ 1) → cond (eqb from place) 1 0 + rest ≡ 1
once_here true from place rest e late none one =
    let same = eqb-true from place e in
    let zero_rest = none (omega arith) in
    ap (λ b. cond b 1 0 + rest) e ∙ omega arith
once_here false from place rest e late none one =
    let apart : from ≢ place = λ same. let is : true ≡ false = sym (eq-eqb from place same) ∙ e in cc in
    let one_rest = one (later_than from place late apart) in
    ap (λ b. cond b 1 0 + rest) e ∙ omega arith

once_from : (place : ℕ) (count : ℕ) (numbers : List ℕ) → AreAll count numbers → (from : ℕ) (makers : List ℕ) (events : List Event) → from ≤ place → place < from + length events → length makers ≡ length events → AreBelow count makers → over (λ l. count_by (is_for place) l) from makers events numbers ≡ 1
once_from place count numbers all from [] [] late within even listed = absurd (omega arith)
once_from place count numbers all from [] (event ∷ events) late within even listed = absurd (omega arith)
once_from place count numbers all from (maker ∷ makers) [] late within even listed = absurd (omega arith)
once_from place count numbers all from (maker ∷ makers) (event ∷ events) late within even listed =
    over_more (λ l. count_by (is_for place) l) (is_for place) (count_is place) count numbers all from maker makers event events listed.0
    ∙ once_here (eqb from place) from place (over (λ l. count_by (is_for place) l) (from + 1) makers events numbers) refl late
    (λ early. none_earlier place count numbers all (from + 1) makers events early (omega arith) listed.1)
    (λ later. once_from place count numbers all (from + 1) makers events later (omega arith) (omega arith) listed.1)

-- the chairs' own receipts, where they were compared with the last page
by_number : (measure : List Receipt → ℕ) (page : SeenMessage) (chairs : List Chair) → All (IsCompared page) chairs → sum_by (λ chair. measure (receipts_in chair)) chairs ≡ over measure (length page.before) page.makers page.book.events (map number_of chairs)
unfolding over
by_number measure page [] compared = refl
by_number measure page (chair ∷ chairs) compared =
    let of_number : ℕ → ℕ = λ number. measure (receipts_on page number) in
    sum_by-cons (λ (c : Chair). measure (receipts_in c)) chair chairs
    ∙ (λ i. measure (All-head (IsCompared page) chair chairs compared i) + by_number measure page chairs (All-tail (IsCompared page) chair chairs compared) i)
    ∙ sym (sum_by-cons of_number (number_of chair) (map number_of chairs))

numbers_shown : (chairs : List Chair) → map (λ (s : ℕ × List Receipt). s.0) (map shown_of chairs) ≡ map number_of chairs
numbers_shown [] = refl
numbers_shown (chair ∷ chairs) = ap (λ (l : List ℕ). number_of chair ∷ l) (numbers_shown chairs)

pub closed_desk : (terms : Terms) (start : List Event) (count : ℕ) (chairs closed : List Chair) (book : Ledger) (opening : SeenMessage) → opening.book.terms ≡ terms → opening.before ≡ start → opening.chairs ≡ count → AreAll count (map number_of chairs) → IsCollected (Some opening) chairs closed book → IsLegal book.terms book.events
    → IsClosed terms start chairs book closed
closed_desk terms start count chairs closed book opening terms_are start_is count_are all collected legal =
    let page : SeenMessage = collected.page in
    let of = collected.of opening refl in
    let events_are : book.events ≡ history_on page = collected.events_are in
    let own_terms : book.terms ≡ terms = collected.terms_are ∙ sym of.terms ∙ terms_are in
    let before_is : page.before ≡ start = sym of.before ∙ start_is in
    let early = ap (λ (l : List Event). length l) before_is in
    let long = ap (λ (l : List Event). length l) events_are in
    let both = length-append page.before page.book.events in
    let numbers : map number_of closed ≡ map number_of chairs =
    sym (numbers_shown closed) ∙ ap (map (λ (s : ℕ × List Receipt). s.0)) collected.same ∙ numbers_shown chairs in
    let all_closed : AreAll count (map number_of closed) = subst (AreAll count) (sym numbers) all in
    let listed : AreBelow count page.makers = subst (λ n. AreBelow n page.makers) (sym of.chairs ∙ count_are) collected.listed in
    record {
      terms_are = own_terms;
      later = page.book.events;
      events_are = events_are ∙ ap (λ (l : List Event). l ++ page.book.events) before_is;
      legal = subst (λ (t : Terms). IsLegal t book.events) own_terms legal;
      same = collected.same;
      stand = subst (λ (events : List Event). All (λ chair. All (Stands events) (receipts_in chair)) closed) (sym events_are) (all_stand page closed collected.compared);
      none = λ place soon.
          by_number (λ l. count_by (is_for place) l) page closed collected.compared
          ∙ none_earlier place count (map number_of closed) all_closed (length page.before) page.makers page.book.events (omega arith) collected.even listed;
      once = λ place late within.
          by_number (λ l. count_by (is_for place) l) page closed collected.compared
          ∙ once_from place count (map number_of closed) all_closed (length page.before) page.makers page.book.events (omega arith) (omega arith) collected.even listed;
      counted =
          by_number (λ l. length l) page closed collected.compared
          ∙ count_from count (map number_of closed) all_closed (length page.before) page.makers page.book.events collected.even listed;
    }

-- the book of a desk of no chairs
idle_as : (b : Bool) (opened book : Ledger) (rest : List Ledger) → (if b then opened ∷ [] else []) ≡ rest ++ book ∷ [] → (b ≡ true) × (book ≡ opened)
idle_as true opened book [] is = (refl, sym (ap (λ (l : List Ledger). get_or l 0 book) is))
idle_as true opened book (x ∷ rest) is =
    let long : 1 ≡ length (x ∷ rest ++ book ∷ []) = ap (λ (l : List Ledger). length l) is in
    let cut = length-append rest (book ∷ []) in
    absurd (omega arith)
idle_as false opened book rest is =
    let long : 0 ≡ length (rest ++ book ∷ []) = ap (λ (l : List Ledger). length l) is in
    let cut = length-append rest (book ∷ []) in
    absurd (omega arith)

pub idle_is : (count : ℕ) (opened book : Ledger) (all rest : List Ledger) → all ≡ (if nat_eq count 0 then opened ∷ [] else []) → all ≡ rest ++ book ∷ [] → (count ≡ 0) × (book ≡ opened)
idle_is count opened book all rest is last =
    let known = idle_as (nat_eq count 0) opened book rest (sym is ∙ last) in
    (eqb-true count 0 known.0, known.1)

pub closed_idle : (terms : Terms) (start : List Event) (chairs : List Chair) (book : Ledger) → book ≡ record { terms = terms; events = start } → AreAll 0 (map number_of chairs) → IsLegal book.terms book.events → IsClosed terms start chairs book chairs
closed_idle terms start [] book is all legal =
    let same : book.events ≡ start = ap (λ (b : Ledger). b.events) is in
    record {
      terms_are = ap (λ (b : Ledger). b.terms) is;
      later = [];
      events_are = same ∙ sym (append-nil start);
      legal = subst (λ (t : Terms). IsLegal t book.events) (ap (λ (b : Ledger). b.terms) is) legal;
      same = refl;
      stand = All-nil (λ chair. All (Stands book.events) (receipts_in chair));
      none = λ place soon. refl;
      once = λ place late within. absurd (let long = ap (λ (l : List Event). length l) same in omega arith);
      counted = refl;
    }
closed_idle terms start (chair ∷ chairs) book is all legal = absurd (let long = all.count_is in omega arith)

-- what is left in the list of chairs once its slice is written
pub written_back : (chairs after : List Chair) (len : ℕ) → length chairs ≡ len → map shown_of after ≡ map shown_of chairs → take len (after ++ drop (length after) chairs) ≡ after
written_back chairs after len is same =
    let long : length after ≡ length chairs = sym (length-map after shown_of) ∙ ap (λ (l : List (ℕ × List Receipt)). length l) same ∙ length-map chairs shown_of in
    ap (λ l. take len (after ++ l)) (drop_all (length after) chairs (omega arith)) ∙ ap (take len) (append-nil after) ∙ take_all len after (omega arith)
