-- A text has one answer at most.
use Rattle.std.proofs.Common.{◌≡◌, ◌≢◌, ℕ, suc, ◌+◌, ◌^◌, ◌<◌, ◌≤◌, List, [], ◌∷◌, ◌++◌, length, All, Option, None, Some, Result, Ok, Err, refl, sym, ◌∙◌, ap, subst, arith, inl, inr, ◌⊎◌, lit≤, Bool, cond}
use Rattle.std.specs.Prelude.{count_by}
use Rattle.std.specs.List.{AllByRecursion}
use Rattle.std.proofs.lemmas.List.Sums.{sum_by-cons}
use Rattle.std.specs.Fmt.{decimal}
use Rattle.std.specs.Str.Parse.{digits_value}
use Rattle.cards.specs.declared.seats.Seat.{Seat}
use Rattle.cards.specs.declared.seats.Seat.TheVariants.{North, East, South, West}
use Rattle.cards.specs.declared.seats.Side.{Side}
use Rattle.cards.specs.declared.seats.Side.TheVariants.{NorthSouth, EastWest}
use Rattle.cards.specs.declared.suits.Trump.{Trump}
use Rattle.cards.specs.declared.suits.Trump.TheVariants as trump
use Rattle.cards.specs.declared.suits.Suit.TheVariants.{Spades, Hearts, Diamonds, Clubs}
use Rattle.cards.specs.Seats.{seat_letter, side_letters, is_same_seat}
use Rattle.cards.specs.Pack.{trump_letters}
use Rattle.patterns.specs.Shapes.{Shape, suit_of, IsPattern}
use Rattle.certificate_graph.specs.declared.children.Child.{Child}
use Rattle.certificate_graph.specs.declared.nodes.Node.{Node}
use Rattle.certificate_graph.specs.declared.versions.Version.{Version}
use Rattle.certificate_graph.specs.declared.versions.Version.TheVariants.{One, Two}
use Rattle.certificate_graph.specs.declared.faults.TextFault.{TextFault}
use Rattle.certificate_graph.specs.declared.faults.TextFault.TheVariants.{Head, NodeForm, BadPattern, ChildNumber, Count, TooLarge, OutOfMemory}
use Rattle.certificate_graph.specs.Trees.{TrickTree, Own, Reply, Leaf, Branches, NoBranch, Branch}
use Rattle.certificate_graph.specs.Graphs.{GraphShape, IsGraph, IsNode, NamesBelow, NameBelow, greatest_count}
use Rattle.certificate_graph.specs.LineForms.{IsPatternForm, IsNodeForm}
use Rattle.certificate_graph.specs.Texts.{version_digit, title_text, trump_text, side_text, count_text, node_text, nodes_text, graph_text}
use Rattle.certificate_graph.specs.TextFaults.{IsNumber, BeginsNode, IsLineFault, IsEndFault, StopsAt, IsCountFault, IsSideFault, IsTrumpFault, IsTextFault, TextAnswers}
use Rattle.certificate_graph.proofs.OneSpelling.{heads, tails, one_suit, one_digits}
use Rattle.certificate_graph.proofs.OneNode.{one_node}
use Rattle.certificate_graph.proofs.NumberLemmas.{decimal_is_number, value_of_decimal}

-- ---- a node of a graph is of the form of a line
-- each owner is one of four
count-cons : (p : Seat → Bool) (x : Seat) (xs : List Seat) → count_by p (x ∷ xs) ≡ cond (p x) 1 0 + count_by p xs
count-cons p x xs = sum_by-cons (λ s. cond (p s) 1 0) x xs

four_owners : (owners : List Seat) → count_by (is_same_seat North) owners + count_by (is_same_seat East) owners + count_by (is_same_seat South) owners + count_by (is_same_seat West) owners ≡ length owners
four_owners [] = refl
four_owners (owner ∷ rest) = one_owner owner (four_owners rest)
  where
    one_owner : (owner : Seat) → count_by (is_same_seat North) rest + count_by (is_same_seat East) rest + count_by (is_same_seat South) rest + count_by (is_same_seat West) rest ≡ length rest
        → count_by (is_same_seat North) (owner ∷ rest) + count_by (is_same_seat East) (owner ∷ rest) + count_by (is_same_seat South) (owner ∷ rest) + count_by (is_same_seat West) (owner ∷ rest) ≡ length (owner ∷ rest)
    one_owner North e = omega (arith, count-cons (is_same_seat North) North rest, count-cons (is_same_seat East) North rest, count-cons (is_same_seat South) North rest, count-cons (is_same_seat West) North rest)
    one_owner East e = omega (arith, count-cons (is_same_seat North) East rest, count-cons (is_same_seat East) East rest, count-cons (is_same_seat South) East rest, count-cons (is_same_seat West) East rest)
    one_owner South e = omega (arith, count-cons (is_same_seat North) South rest, count-cons (is_same_seat East) South rest, count-cons (is_same_seat South) South rest, count-cons (is_same_seat West) South rest)
    one_owner West e = omega (arith, count-cons (is_same_seat North) West rest, count-cons (is_same_seat East) West rest, count-cons (is_same_seat South) West rest, count-cons (is_same_seat West) West rest)

pattern_form : (shape : Shape) → IsPattern shape → IsPatternForm shape
pattern_form shape pattern = λ suit.
    let size = pattern.suits suit in
    record {
      four = pattern.four_seats suit;
      lens = elim [ North ↦ omega arith | East ↦ omega arith | South ↦ omega arith | West ↦ omega arith ];
      owners = omega (arith, four_owners (suit_of shape suit).owners, pattern.owners suit North, pattern.owners suit East, pattern.owners suit South, pattern.owners suit West);
    }

few_children : (count : ℕ) (children : List Child) → count ≤ 10 ^ 7 → AllByRecursion (λ child. child.number < count) children → AllByRecursion (λ child. child.number < 10 ^ 7) children
few_children count [] few all = tt
few_children count (child ∷ rest) few all = ((let low = all.0 in omega arith), few_children count rest few all.1)

mutual
  few_names : (count : ℕ) (tree : TrickTree) → count ≤ 10 ^ 7 → NamesBelow count tree → NamesBelow (10 ^ 7) tree
  few_names count (Own card tree) few names = few_names count tree few names
  few_names count (Reply branches) few names = few_branch_names count branches few names
  few_names count (Leaf children) few names = few_children count children few names

  few_branch_names : (count : ℕ) (branches : Branches) → count ≤ 10 ^ 7 → NameBelow count branches → NameBelow (10 ^ 7) branches
  few_branch_names count NoBranch few names = tt
  few_branch_names count (Branch card tree rest) few names = (few_names count tree few names.0, few_branch_names count rest few names.1)

pub node_form : (count : ℕ) (node : Node) → count ≤ 10 ^ 7 → IsNode count node → IsNodeForm node
node_form count node few is = record {
  pattern = pattern_form node.pattern is.pattern;
  need = is.need;
  tree = record { form = is.form; numbers = few_names count node.tree few is.children };
}

-- ---- how a text of nodes ends
-- a line is not empty
line_is_some : (node : Node) (rest : List ℕ) → node_text node rest ≢ []
line_is_some node rest e = seat_is_some node.lead _ e
  where
    seat_is_some : (seat : Seat) (t : List ℕ) → seat_letter seat ++ t ≢ []
    seat_is_some North t e = cc
    seat_is_some East t e = cc
    seat_is_some South t e = cc
    seat_is_some West t e = cc

-- so many nodes were read; the text ends rightly there, or there is this fault
abbrev Ends : ℕ → ℕ → List ℕ → Option TextFault → Type 0
Ends count seen text None = (seen ≡ count) × (text ≡ [])
Ends count seen text (Some fault) =
    ((seen < count) × IsLineFault count (5 + seen) text fault) ⊎ ((seen ≡ count) × IsEndFault (5 + count) text fault)

same_node : (text : List ℕ) (x y : Node) (a b : List ℕ) → BeginsNode text x a → BeginsNode text y b → x ≡ y
same_node text x y a b p q = (one_node x y a b p.form q.form (sym p.is ∙ q.is)).0

one_line_fault : (count line : ℕ) (text : List ℕ) (f g : TextFault) → IsLineFault count line text f → IsLineFault count line text g → f ≡ g
one_line_fault count line text (NodeForm i) (NodeForm j) p q = ap NodeForm (p.0 ∙ sym q.0)
one_line_fault count line text (NodeForm i) (BadPattern j) p q = absurd (p.2 q.1.0 q.1.1 q.1.2)
one_line_fault count line text (NodeForm i) (ChildNumber j) p q = absurd (p.2 q.1.0 q.1.1 q.1.2)
one_line_fault count line text (NodeForm i) (Count j) p q = absurd (p.1 q.1)
one_line_fault count line text (BadPattern i) (NodeForm j) p q = absurd (q.2 p.1.0 p.1.1 p.1.2)
one_line_fault count line text (BadPattern i) (BadPattern j) p q = ap BadPattern (p.0 ∙ sym q.0)
one_line_fault count line text (BadPattern i) (ChildNumber j) p q =
    absurd (p.1.3 (subst (λ (n : Node). IsPattern n.pattern) (same_node text q.1.0 p.1.0 _ _ q.1.2 p.1.2) q.1.3.0))
one_line_fault count line text (BadPattern i) (Count j) p q = absurd (line_is_some p.1.0 p.1.1 (sym p.1.2.is ∙ q.1))
one_line_fault count line text (ChildNumber i) (NodeForm j) p q = absurd (q.2 p.1.0 p.1.1 p.1.2)
one_line_fault count line text (ChildNumber i) (BadPattern j) p q =
    absurd (q.1.3 (subst (λ (n : Node). IsPattern n.pattern) (same_node text p.1.0 q.1.0 _ _ p.1.2 q.1.2) p.1.3.0))
one_line_fault count line text (ChildNumber i) (ChildNumber j) p q = ap ChildNumber (p.0 ∙ sym q.0)
one_line_fault count line text (ChildNumber i) (Count j) p q = absurd (line_is_some p.1.0 p.1.1 (sym p.1.2.is ∙ q.1))
one_line_fault count line text (Count i) (NodeForm j) p q = absurd (q.1 p.1)
one_line_fault count line text (Count i) (BadPattern j) p q = absurd (line_is_some q.1.0 q.1.1 (sym q.1.2.is ∙ p.1))
one_line_fault count line text (Count i) (ChildNumber j) p q = absurd (line_is_some q.1.0 q.1.1 (sym q.1.2.is ∙ p.1))
one_line_fault count line text (Count i) (Count j) p q = ap Count (p.0 ∙ sym q.0)
one_line_fault count line text (Head i) g p q = absurd p
one_line_fault count line text (TooLarge i) g p q = absurd p
one_line_fault count line text OutOfMemory g p q = absurd p
one_line_fault count line text f (Head i) p q = absurd q
one_line_fault count line text f (TooLarge i) p q = absurd q
one_line_fault count line text f OutOfMemory p q = absurd q

end_is_count : (line : ℕ) (text : List ℕ) (f : TextFault) → IsEndFault line text f → (f ≡ Count line) × (text ≢ [])
end_is_count line text (Count i) p = (ap Count p.0, p.1)
end_is_count line text (Head i) p = absurd p
end_is_count line text (NodeForm i) p = absurd p
end_is_count line text (BadPattern i) p = absurd p
end_is_count line text (ChildNumber i) p = absurd p
end_is_count line text (TooLarge i) p = absurd p
end_is_count line text OutOfMemory p = absurd p

one_end : (count seen : ℕ) (text : List ℕ) (o p : Option TextFault) → Ends count seen text o → Ends count seen text p → o ≡ p
one_end count seen text None None a b = refl
one_end count seen text None (Some g) a (inl b) = let e = a.0 in let l = b.0 in absurd (omega arith)
one_end count seen text None (Some g) a (inr b) = absurd ((end_is_count _ text g b.1).1 a.1)
one_end count seen text (Some f) None (inl a) b = let e = b.0 in let l = a.0 in absurd (omega arith)
one_end count seen text (Some f) None (inr a) b = absurd ((end_is_count _ text f a.1).1 b.1)
one_end count seen text (Some f) (Some g) (inl a) (inl b) = ap Some (one_line_fault count (5 + seen) text f g a.1 b.1)
one_end count seen text (Some f) (Some g) (inl a) (inr b) = let e = b.0 in let l = a.0 in absurd (omega arith)
one_end count seen text (Some f) (Some g) (inr a) (inl b) = let e = a.0 in let l = b.0 in absurd (omega arith)
one_end count seen text (Some f) (Some g) (inr a) (inr b) =
    ap Some ((end_is_count _ text f a.1).0 ∙ sym (end_is_count _ text g b.1).0)

-- a text whose next line is that of a node of the graph does not end there
pub no_line_fault : (count line : ℕ) (node : Node) (rest : List ℕ) (f : TextFault) → count ≤ 10 ^ 7 → IsNode count node → IsLineFault count line (node_text node rest) f → ⊥
no_line_fault count line node rest (NodeForm i) few is p = p.2 node rest (record { form = node_form count node few is; is = refl })
no_line_fault count line node rest (BadPattern i) few is p =
    let same = one_node p.1.0 node p.1.1 rest p.1.2.form (node_form count node few is) (sym p.1.2.is) in
    p.1.3 (subst (λ (n : Node). IsPattern n.pattern) (sym same.0) is.pattern)
no_line_fault count line node rest (ChildNumber i) few is p =
    let same = one_node p.1.0 node p.1.1 rest p.1.2.form (node_form count node few is) (sym p.1.2.is) in
    p.1.3.1 (subst (λ (n : Node). NamesBelow count n.tree) (sym same.0) is.children)
no_line_fault count line node rest (Count i) few is p = line_is_some node rest p.1
no_line_fault count line node rest (Head i) few is p = p
no_line_fault count line node rest (TooLarge i) few is p = p
no_line_fault count line node rest OutOfMemory few is p = p

not_there : (count seen : ℕ) (node : Node) (rest : List ℕ) (o : Option TextFault) → count ≤ 10 ^ 7 → IsNode count node → seen < count → Ends count seen (node_text node rest) o → ⊥
not_there count seen node rest None few is more end = let e = end.0 in omega arith
not_there count seen node rest (Some f) few is more (inl end) = no_line_fault count (5 + seen) node rest f few is end.1
not_there count seen node rest (Some f) few is more (inr end) = let e = end.0 in omega arith

-- where it ends, so many nodes at most were read
within : (count seen : ℕ) (text : List ℕ) (o : Option TextFault) → Ends count seen text o → seen ≤ count
within count seen text None end = let e = end.0 in omega arith
within count seen text (Some f) (inl end) = let l = end.0 in omega arith
within count seen text (Some f) (inr end) = let e = end.0 in omega arith

all_tail : (count : ℕ) (x : Node) (xs : List Node) → All (IsNode count) (x ∷ xs) → All (IsNode count) xs
all_tail count x xs all = λ k d h. all (suc k) d (omega arith)

all_head : (count : ℕ) (x : Node) (xs : List Node) → All (IsNode count) (x ∷ xs) → IsNode count x
all_head count x xs all = all 0 x (omega arith)

-- two readings of one text have the same nodes, and end alike
pub one_ending : (count seen : ℕ) (xs ys : List Node) (a b : List ℕ) (o p : Option TextFault) → count ≤ 10 ^ 7 → All (IsNode count) xs → All (IsNode count) ys → nodes_text xs a ≡ nodes_text ys b → Ends count (seen + length xs) a o → Ends count (seen + length ys) b p → (xs ≡ ys) × (o ≡ p)
one_ending count seen [] [] a b o p few all also e x y = (refl, one_end count (seen + 0) a o p x (subst (λ t. Ends count (seen + 0) t p) (sym e) y))
one_ending count seen [] (n ∷ ns) a b o p few all also e x y =
    let most = within count (seen + length (n ∷ ns)) b p y in
    absurd (not_there count (seen + 0) n (nodes_text ns b) o few (all_head count n ns also) (omega arith) (subst (λ t. Ends count (seen + 0) t o) e x))
one_ending count seen (m ∷ ms) [] a b o p few all also e x y =
    let most = within count (seen + length (m ∷ ms)) a o x in
    absurd (not_there count (seen + 0) m (nodes_text ms a) p few (all_head count m ms all) (omega arith) (subst (λ t. Ends count (seen + 0) t p) (sym e) y))
one_ending count seen (m ∷ ms) (n ∷ ns) a b o p few all also e x y =
    let first = one_node m n _ _ (node_form count m few (all_head count m ms all)) (node_form count n few (all_head count n ns also)) e in
    let xs : Ends count (seen + 1 + length ms) a o = subst (λ k. Ends count k a o) (omega arith) x in
    let ys : Ends count (seen + 1 + length ns) b p = subst (λ k. Ends count k b p) (omega arith) y in
    let more = one_ending count (seen + 1) ms ns a b o p few (all_tail count m ms all) (all_tail count n ns also) first.1 xs ys in
    (ap (λ (k : Node). k ∷ ms) first.0 ∙ ap (λ (ks : List Node). n ∷ ks) more.0, more.1)

-- ---- the first four lines
one_digit : (v w : Version) (a b : List ℕ) → version_digit v ++ (10 ∷ a) ≡ version_digit w ++ (10 ∷ b) → (v ≡ w) × (a ≡ b)
one_digit One One a b h = (refl, cc)
one_digit Two Two a b h = (refl, cc)
one_digit One Two a b h = let e = heads _ _ _ _ h in absurd (omega arith)
one_digit Two One a b h = let e = heads _ _ _ _ h in absurd (omega arith)

one_title : (v w : Version) (a b : List ℕ) → title_text v a ≡ title_text w b → (v ≡ w) × (a ≡ b)
one_title v w a b h =
    let digit : version_digit v ++ (10 ∷ a) ≡ version_digit w ++ (10 ∷ b) = cc in
    one_digit v w a b digit

one_trump_letters : (t u : Trump) (a b : List ℕ) → trump_letters t ++ (10 ∷ a) ≡ trump_letters u ++ (10 ∷ b) → (t ≡ u) × (a ≡ b)
one_trump_letters trump.Nt trump.Nt a b h = (refl, cc)
one_trump_letters (trump.Suit s) (trump.Suit t) a b h = let suit = one_suit s t _ _ h in (ap trump.Suit suit.0, tails _ _ a b suit.1)
one_trump_letters trump.Nt (trump.Suit Spades) a b h = let e = heads _ _ _ _ h in absurd (omega arith)
one_trump_letters trump.Nt (trump.Suit Hearts) a b h = let e = heads _ _ _ _ h in absurd (omega arith)
one_trump_letters trump.Nt (trump.Suit Diamonds) a b h = let e = heads _ _ _ _ h in absurd (omega arith)
one_trump_letters trump.Nt (trump.Suit Clubs) a b h = let e = heads _ _ _ _ h in absurd (omega arith)
one_trump_letters (trump.Suit Spades) trump.Nt a b h = let e = heads _ _ _ _ h in absurd (omega arith)
one_trump_letters (trump.Suit Hearts) trump.Nt a b h = let e = heads _ _ _ _ h in absurd (omega arith)
one_trump_letters (trump.Suit Diamonds) trump.Nt a b h = let e = heads _ _ _ _ h in absurd (omega arith)
one_trump_letters (trump.Suit Clubs) trump.Nt a b h = let e = heads _ _ _ _ h in absurd (omega arith)

one_trump : (t u : Trump) (a b : List ℕ) → trump_text t a ≡ trump_text u b → (t ≡ u) × (a ≡ b)
one_trump t u a b h =
    let letters : trump_letters t ++ (10 ∷ a) ≡ trump_letters u ++ (10 ∷ b) = cc in
    one_trump_letters t u a b letters

one_side_letters : (s t : Side) (a b : List ℕ) → side_letters s ++ (10 ∷ a) ≡ side_letters t ++ (10 ∷ b) → (s ≡ t) × (a ≡ b)
one_side_letters NorthSouth NorthSouth a b h = (refl, cc)
one_side_letters EastWest EastWest a b h = (refl, cc)
one_side_letters NorthSouth EastWest a b h = let e = heads _ _ _ _ h in absurd (omega arith)
one_side_letters EastWest NorthSouth a b h = let e = heads _ _ _ _ h in absurd (omega arith)

one_side : (s t : Side) (a b : List ℕ) → side_text s a ≡ side_text t b → (s ≡ t) × (a ≡ b)
one_side s t a b h =
    let letters : side_letters s ++ (10 ∷ a) ≡ side_letters t ++ (10 ∷ b) = cc in
    one_side_letters s t a b letters

one_count : (d e a b : List ℕ) → IsNumber d → IsNumber e → count_text d a ≡ count_text e b → (d ≡ e) × (a ≡ b)
one_count d e a b p q h =
    let digits : d ++ (10 ∷ a) ≡ e ++ (10 ∷ b) = cc in
    let same = one_digits d e (10 ∷ a) (10 ∷ b) p.numeral.1 q.numeral.1 (lit≤ tt) (lit≤ tt) digits in
    (same.0, tails _ _ a b same.1)

-- ---- whole texts
small_count : (n : ℕ) → n ≤ greatest_count → n ≤ 10 ^ 7
small_count n h = omega arith

-- two endings after one number
one_stop : (count : ℕ) (text : List ℕ) (f g : TextFault) → count ≤ greatest_count → StopsAt count text f → StopsAt count text g → f ≡ g
one_stop count text f g few p q =
    let same = one_ending count 0 p.nodes q.nodes p.rest q.rest (Some f) (Some g) (small_count count few) p.each q.each (sym p.is ∙ q.is)
    (subst (λ k. Ends count k p.rest (Some f)) (omega arith) (p.wrong)) (subst (λ k. Ends count k q.rest (Some g)) (omega arith) (q.wrong)) in
    cc

no_stop : (nodes : List Node) (f : TextFault) → length nodes ≤ greatest_count → All (IsNode (length nodes)) nodes → StopsAt (length nodes) (nodes_text nodes []) f → ⊥
no_stop nodes f few all q =
    let whole : Ends (length nodes) (0 + length nodes) [] None = (omega arith, refl) in
    let same = one_ending (length nodes) 0 nodes q.nodes [] q.rest None (Some f) (small_count _ few) all q.each q.is whole
    (subst (λ k. Ends (length nodes) k q.rest (Some f)) (omega arith) q.wrong) in
    cc

one_nodes : (xs ys : List Node) → length xs ≤ greatest_count → All (IsNode (length xs)) xs → All (IsNode (length ys)) ys → length xs ≡ length ys → nodes_text xs [] ≡ nodes_text ys [] → xs ≡ ys
one_nodes xs ys few all also same e =
    let whole : Ends (length xs) (0 + length xs) [] None = (omega arith, refl) in
    let other : Ends (length xs) (0 + length ys) [] None = (omega arith, refl) in
    (one_ending (length xs) 0 xs ys [] [] None None (small_count _ few) all (subst (λ n. All (IsNode n) ys) (sym same) also) e whole other).0

one_count_fault : (text : List ℕ) (f g : TextFault) → IsCountFault text f → IsCountFault text g → f ≡ g
one_count_fault text f g (inl p) (inl q) = p.0 ∙ sym q.0
one_count_fault text f g (inl p) (inr q) = absurd (p.1 q.0 q.1 q.2 q.3)
one_count_fault text f g (inr p) (inl q) = absurd (q.1 p.0 p.1 p.2 p.3)
one_count_fault text f g (inr p) (inr q) =
    let same = one_count p.0 q.0 p.1 q.1 p.2 q.2 (sym p.3 ∙ q.3) in
    let value : digits_value 10 p.0 ≡ digits_value 10 q.0 = ap (digits_value 10) same.0 in
    behind_count (digits_value 10 p.0) (digits_value 10 q.0) p.1 q.1 f g value same.1 p.4 q.4
  where
    behind_count : (m n : ℕ) (a b : List ℕ) (x y : TextFault) → m ≡ n → a ≡ b
        → ((x ≡ TooLarge 4) × (greatest_count < m)) ⊎ ((m ≤ greatest_count) × StopsAt m a x)
        → ((y ≡ TooLarge 4) × (greatest_count < n)) ⊎ ((n ≤ greatest_count) × StopsAt n b y) → x ≡ y
    behind_count m n a b x y e t (inl p) (inl q) = p.0 ∙ sym q.0
    behind_count m n a b x y e t (inl p) (inr q) = let high = p.1 in let low = q.0 in absurd (omega arith)
    behind_count m n a b x y e t (inr p) (inl q) = let low = p.0 in let high = q.1 in absurd (omega arith)
    behind_count m n a b x y e t (inr p) (inr q) =
        one_stop m a x y p.0 p.1 (subst (λ k. StopsAt k a y) (sym e) (subst (λ u. StopsAt n u y) (sym t) q.1))

one_side_fault : (text : List ℕ) (f g : TextFault) → IsSideFault text f → IsSideFault text g → f ≡ g
one_side_fault text f g (inl p) (inl q) = p.0 ∙ sym q.0
one_side_fault text f g (inl p) (inr q) = absurd (p.1 q.0 q.1 q.2)
one_side_fault text f g (inr p) (inl q) = absurd (q.1 p.0 p.1 p.2)
one_side_fault text f g (inr p) (inr q) =
    let same = one_side p.0 q.0 p.1 q.1 (sym p.2 ∙ q.2) in
    one_count_fault p.1 f g p.3 (subst (λ t. IsCountFault t g) (sym same.1) q.3)

one_trump_fault : (text : List ℕ) (f g : TextFault) → IsTrumpFault text f → IsTrumpFault text g → f ≡ g
one_trump_fault text f g (inl p) (inl q) = p.0 ∙ sym q.0
one_trump_fault text f g (inl p) (inr q) = absurd (p.1 q.0 q.1 q.2)
one_trump_fault text f g (inr p) (inl q) = absurd (q.1 p.0 p.1 p.2)
one_trump_fault text f g (inr p) (inr q) =
    let same = one_trump p.0 q.0 p.1 q.1 (sym p.2 ∙ q.2) in
    one_side_fault p.1 f g p.3 (subst (λ t. IsSideFault t g) (sym same.1) q.3)

one_text_fault : (text : List ℕ) (f g : TextFault) → IsTextFault text f → IsTextFault text g → f ≡ g
one_text_fault text f g (inl p) (inl q) = p.0 ∙ sym q.0
one_text_fault text f g (inl p) (inr q) = absurd (p.1 q.0 q.1 q.2)
one_text_fault text f g (inr p) (inl q) = absurd (q.1 p.0 p.1 p.2)
one_text_fault text f g (inr p) (inr q) =
    let same = one_title p.0 q.0 p.1 q.1 (sym p.2 ∙ q.2) in
    one_trump_fault p.1 f g p.3 (subst (λ t. IsTrumpFault t g) (sym same.1) q.3)

-- ---- the text of a graph has no fault
small_number : (n : ℕ) → n ≤ greatest_count → n < 2 ^ 64
small_number n h = omega arith

no_count_fault : (nodes : List Node) (f : TextFault) → length nodes ≤ greatest_count → All (IsNode (length nodes)) nodes → IsCountFault (count_text (decimal (length nodes)) (nodes_text nodes [])) f → ⊥
no_count_fault nodes f few all (inl p) = p.1 _ _ (decimal_is_number (length nodes) (small_number _ few)) refl
no_count_fault nodes f few all (inr p) =
    let fits = small_number (length nodes) few in
    let same = one_count (decimal (length nodes)) p.0 (nodes_text nodes []) p.1 (decimal_is_number _ fits) p.2 p.3 in
    let value : length nodes ≡ digits_value 10 p.0 = sym (value_of_decimal (length nodes) fits) ∙ ap (digits_value 10) same.0 in
    behind_count (digits_value 10 p.0) p.1 value same.1 p.4
  where
    behind_count : (m : ℕ) (a : List ℕ) → length nodes ≡ m → nodes_text nodes [] ≡ a
        → ((f ≡ TooLarge 4) × (greatest_count < m)) ⊎ ((m ≤ greatest_count) × StopsAt m a f) → ⊥
    behind_count m a e t (inl q) = let high = q.1 in omega arith
    behind_count m a e t (inr q) = no_stop nodes f few all (subst (λ k. StopsAt k (nodes_text nodes []) f) (sym e) (subst (λ u. StopsAt m u f) (sym t) q.1))

no_side_fault : (side : Side) (nodes : List Node) (f : TextFault) → length nodes ≤ greatest_count → All (IsNode (length nodes)) nodes → IsSideFault (side_text side (count_text (decimal (length nodes)) (nodes_text nodes []))) f → ⊥
no_side_fault side nodes f few all (inl p) = p.1 side _ refl
no_side_fault side nodes f few all (inr p) =
    no_count_fault nodes f few all (subst (λ t. IsCountFault t f) (sym (one_side side p.0 _ p.1 p.2).1) p.3)

no_trump_fault : (t : Trump) (side : Side) (nodes : List Node) (f : TextFault) → length nodes ≤ greatest_count → All (IsNode (length nodes)) nodes → IsTrumpFault (trump_text t (side_text side (count_text (decimal (length nodes)) (nodes_text nodes [])))) f → ⊥
no_trump_fault t side nodes f few all (inl p) = p.1 t _ refl
no_trump_fault t side nodes f few all (inr p) =
    no_side_fault side nodes f few all (subst (λ u. IsSideFault u f) (sym (one_trump t p.0 _ p.1 p.2).1) p.3)

no_text_fault : (graph : GraphShape) (f : TextFault) → IsGraph graph → IsTextFault (graph_text graph) f → ⊥
no_text_fault graph f is (inl p) = p.1 graph.version _ refl
no_text_fault graph f is (inr p) =
    no_trump_fault graph.trump graph.side graph.nodes f is.size is.each (subst (λ u. IsTrumpFault u f) (sym (one_title graph.version p.0 _ p.1 p.2).1) p.3)

-- ---- the laws
pub one_graph_of : (text : List ℕ) (one other : GraphShape) → IsGraph one × (text ≡ graph_text one) → IsGraph other × (text ≡ graph_text other) → one ≡ other
one_graph_of text one other p q =
    let title = one_title one.version other.version _ _ (sym p.1 ∙ q.1) in
    let of_trump = one_trump one.trump other.trump _ _ title.1 in
    let of_side = one_side one.side other.side _ _ of_trump.1 in
    let fits = small_number (length one.nodes) p.0.size in
    let fits' = small_number (length other.nodes) q.0.size in
    let count = one_count _ _ _ _ (decimal_is_number (length one.nodes) fits) (decimal_is_number (length other.nodes) fits') of_side.1 in
    let len : length one.nodes ≡ length other.nodes =
    sym (value_of_decimal (length one.nodes) fits) ∙ (ap (digits_value 10) count.0 ∙ value_of_decimal (length other.nodes) fits') in
    let nodes = one_nodes one.nodes other.nodes p.0.size p.0.each q.0.each len count.1 in
    ap (λ (v : Version). record { version = v; trump = one.trump; side = one.side; nodes = one.nodes }) title.0
    ∙ (ap (λ (t : Trump). record { version = other.version; trump = t; side = one.side; nodes = one.nodes }) of_trump.0
    ∙ (ap (λ (s : Side). record { version = other.version; trump = other.trump; side = s; nodes = one.nodes }) of_side.0
    ∙ ap (λ (list : List Node). record { version = other.version; trump = other.trump; side = other.side; nodes = list }) nodes))

pub one_answer_of : (text : List ℕ) (one other : Result GraphShape TextFault) → TextAnswers text one → TextAnswers text other → one ≡ other
one_answer_of text (Ok g) (Ok h) p q = ap Ok (one_graph_of text g h p q)
one_answer_of text (Ok g) (Err f) p q = absurd (no_text_fault g f p.0 (subst (λ t. IsTextFault t f) p.1 q))
one_answer_of text (Err f) (Ok g) p q = absurd (no_text_fault g f q.0 (subst (λ t. IsTextFault t f) q.1 p))
one_answer_of text (Err f) (Err h) p q = ap Err (one_text_fault text f h p q)
