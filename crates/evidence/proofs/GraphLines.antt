-- The text of a graph is made of lines, none of them empty: so the text of another that stands behind it and an empty
-- line begins at the first place where a line is empty.
use Rattle.std.proofs.Common.{◌≡◌, ◌≢◌, ℕ, zero, suc, ◌+◌, ◌-◌, ◌%◌, ◌^◌, ◌<◌, ◌≤◌, List, [], ◌∷◌, ◌++◌, length, take, drop, get_or, codes, inl, inr, ◌⊎◌, refl, sym, ◌∙◌, ap, subst, arith, append_assoc, All, rules, Result, Ok, Err}
use Rattle.std.specs.List.{AllByRecursion}
use Rattle.std.specs.Fmt.{decimal}
use Rattle.std.proofs.lemmas.Fmt.{decimal_by_steps}
use Rattle.std.proofs.lemmas.List.{length-append, get_or_append_left, get_or-append-add, take_at, drop_at, drop_more, take-append-drop, append_cancel_left}
use Rattle.std.proofs.lemmas.List.Elements.{All-head, All-tail}
use Rattle.std.proofs.lemmas.Bool.{cases_lt}
use Rattle.memchr.specs.Find.{OccursAt, NoneBefore, Nowhere}
use Rattle.cards.specs.declared.seats.Seat.{Seat}
use Rattle.cards.specs.declared.seats.Seat.TheVariants.{North, East, South, West}
use Rattle.cards.specs.declared.seats.Side.{Side}
use Rattle.cards.specs.declared.seats.Side.TheVariants.{NorthSouth, EastWest}
use Rattle.cards.specs.declared.suits.Suit.{Suit}
use Rattle.cards.specs.declared.suits.Suit.TheVariants.{Spades, Hearts, Diamonds, Clubs}
use Rattle.cards.specs.declared.suits.Trump.{Trump}
use Rattle.cards.specs.declared.suits.Trump.TheVariants as trump
use Rattle.cards.specs.Seats.{seat_letter, side_letters}
use Rattle.cards.specs.Pack.{suit_letter, trump_letters}
use Rattle.patterns.specs.Shapes.{SuitShape, Shape, len_of}
use Rattle.pattern_step.specs.declared.pat_cards.PatCard.{PatCard}
use Rattle.pattern_step.specs.declared.pat_cards.PatCard.TheVariants.{Top, Low}
use Rattle.certificate_graph.specs.declared.children.Child.{Child}
use Rattle.certificate_graph.specs.declared.nodes.Node.{Node}
use Rattle.certificate_graph.specs.declared.versions.Version.{Version}
use Rattle.certificate_graph.specs.declared.versions.Version.TheVariants.{One, Two}
use Rattle.certificate_graph.specs.Trees.{TrickTree, Own, Reply, Leaf, Branches, NoBranch, Branch}
use Rattle.certificate_graph.specs.Graphs.{GraphShape, IsGraph, IsNode, NamesBelow, NameBelow}
use Rattle.certificate_graph.specs.LineForms.{IsSuitForm, IsPatternForm, IsNodeForm}
use Rattle.certificate_graph.specs.Texts.{card_text, child_text, more_children_text, children_text, tree_text, branches_text, owners_text, suit_text, pattern_text, claim_text, node_text, nodes_text, version_digit, graph_text}
use Rattle.certificate_graph.proofs.TextParts.{tree-cut, pattern-cut, claim-cut}
use Rattle.certificate_graph.specs.declared.faults.TextFault.{TextFault}
use Rattle.certificate_graph.specs.declared.faults.TextFault.TheVariants.{OutOfMemory}
use Rattle.certificate_graph.specs.TextFaults.{TextAnswers}
use Rattle.certificate_graph.proofs.OneAnswer.{node_form, one_graph_of, one_answer_of}
use Rattle.certificate_graph.proofs.OneSpelling.{tails}
use Rattle.evidence.specs.SectionTexts.{graphs_text}

-- ---- bytes without a line's end
abbrev pub Plain : List ℕ → Type 0
Plain [] = Unit {0}
Plain (byte ∷ rest) = (byte ≢ 10) × Plain rest

plain-append : (front rest : List ℕ) → Plain front → Plain rest → Plain (front ++ rest)
plain-append [] rest a b = b
plain-append (byte ∷ more) rest a b = (a.0, plain-append more rest a.1 b)

plain_number : (n : ℕ) → n < 2 ^ 64 → Plain (decimal n)
plain_number = decimal_by_steps (λ m digits. Plain digits) (λ m l. (omega arith, tt))
    (λ m digits l h. plain-append digits ((48 + m % 10) ∷ []) h (omega arith, tt))

-- ---- the forms before a plain text are plain
plain_seat : (seat : Seat) (rest : List ℕ) → Plain rest → Plain (seat_letter seat ++ rest)
plain_seat North rest a = (omega arith, a)
plain_seat East rest a = (omega arith, a)
plain_seat South rest a = (omega arith, a)
plain_seat West rest a = (omega arith, a)

plain_suit_letter : (suit : Suit) (rest : List ℕ) → Plain rest → Plain (suit_letter suit ++ rest)
plain_suit_letter Spades rest a = (omega arith, a)
plain_suit_letter Hearts rest a = (omega arith, a)
plain_suit_letter Diamonds rest a = (omega arith, a)
plain_suit_letter Clubs rest a = (omega arith, a)

plain_card : (card : PatCard) (rest : List ℕ) → Plain rest → Plain (card_text card rest)
plain_card (Top suit place) rest a = plain_suit_letter suit _ (omega arith, a)
plain_card (Low suit) rest a = plain_suit_letter suit _ (omega arith, a)

-- the number of a node has at most seven digits
seven : (n : ℕ) → n < 10 ^ 7 → n < 2 ^ 64
seven n h = omega arith

plain_child : (child : Child) (rest : List ℕ) → child.number < 10 ^ 7 → Plain rest → Plain (child_text child rest)
plain_child child rest few a =
    plain_seat child.winner _ (plain-append (decimal child.number) rest (plain_number child.number (seven child.number few)) a)

plain_more : (children : List Child) (rest : List ℕ) → AllByRecursion (λ child. child.number < 10 ^ 7) children → Plain rest → Plain (more_children_text children rest)
plain_more [] rest few a = (omega arith, a)
plain_more (child ∷ more) rest few a = (omega arith, plain_child child _ few.0 (plain_more more rest few.1 a))

plain_children : (children : List Child) (rest : List ℕ) → AllByRecursion (λ child. child.number < 10 ^ 7) children → Plain rest → Plain (children_text children rest)
plain_children [] rest few a = (omega arith, a)
plain_children (child ∷ more) rest few a = plain_child child _ few.0 (plain_more more rest few.1 a)

mutual
  plain_tree : (tree : TrickTree) (rest : List ℕ) → NamesBelow (10 ^ 7) tree → Plain rest → Plain (tree_text tree rest)
  plain_tree (Own card tree) rest few a = plain_card card _ (plain_tree tree rest few a)
  plain_tree (Reply branches) rest few a = (omega arith, plain_branches branches rest few a)
  plain_tree (Leaf children) rest few a = (omega arith, plain_children children rest few a)

  plain_branches : (branches : Branches) (rest : List ℕ) → NameBelow (10 ^ 7) branches → Plain rest → Plain (branches_text branches rest)
  plain_branches NoBranch rest few a = (omega arith, a)
  plain_branches (Branch card tree more) rest few a = plain_card card _ (plain_tree tree _ few.0 (plain_branches more rest few.1 a))

plain_owners : (owners : List Seat) (rest : List ℕ) → Plain rest → Plain (owners_text owners rest)
plain_owners [] rest a = a
plain_owners (owner ∷ more) rest a = plain_seat owner _ (plain_owners more rest a)

small : (n : ℕ) → n ≤ 13 → n < 2 ^ 64
small n h = omega arith

-- a length and the byte after it
plain_len : (n byte : ℕ) (rest : List ℕ) → n ≤ 13 → byte ≢ 10 → Plain rest → Plain (decimal n ++ (byte ∷ rest))
plain_len n byte rest few other a = plain-append (decimal n) (byte ∷ rest) (plain_number n (small n few)) (other, a)

plain_suit : (suit : SuitShape) (rest : List ℕ) → IsSuitForm suit → Plain rest → Plain (suit_text suit rest)
plain_suit suit rest form a =
    plain_len (len_of suit North) 46 _ (form.lens North) (omega arith) (plain_len (len_of suit East) 46 _ (form.lens East) (omega arith)
    (plain_len (len_of suit South) 46 _ (form.lens South) (omega arith) (plain_len (len_of suit West) 47 _ (form.lens West) (omega arith)
    (plain_owners suit.owners rest a))))

plain_pattern : (shape : Shape) (rest : List ℕ) → IsPatternForm shape → Plain rest → Plain (pattern_text shape rest)
plain_pattern shape rest form a =
    plain_suit shape.spades _ (form Spades) (
      omega arith,
      plain_suit shape.hearts _ (form Hearts) (
        omega arith,
        plain_suit shape.diamonds _ (form Diamonds) (omega arith, plain_suit shape.clubs rest (form Clubs) a),
      ),
    )

plain_claim : (lead : Seat) (need : ℕ) (rest : List ℕ) → need ≤ 13 → Plain rest → Plain (claim_text lead need rest)
plain_claim lead need rest few a = plain_seat lead _ (omega arith, plain_len need 32 rest few (omega arith) a)

-- ---- lines
-- a line of three bytes or more that isn't `DDE 1`: by its first byte or its third
pub record IsOther (bytes : List ℕ) : Type 0 where
  pub some : 3 ≤ length bytes
  pub other : (get_or bytes 0 0 ≢ 68) ⊎ (get_or bytes 2 0 ≢ 69)

has_first : (bytes : List ℕ) → IsOther bytes → 0 < length bytes
has_first bytes is = let some = is.some in omega arith

-- lines with their ends, none of them empty or the title of a section
pub data Lines : List ℕ → Type 0 where
  no_line : Lines []
  line : (bytes rest : List ℕ) → Plain bytes → IsOther bytes → Lines rest → Lines (bytes ++ (10 ∷ rest))

-- a form that is a line before the rest
as_line : (text bytes rest : List ℕ) → text ≡ bytes ++ (10 ∷ rest) → Plain bytes → IsOther bytes → Lines rest → Lines text
as_line text bytes rest e plain some more = subst Lines (sym e) (line bytes rest plain some more)

node_bytes : Node → List ℕ
node_bytes node = claim_text node.lead node.need (pattern_text node.pattern (32 ∷ tree_text node.tree []))

node_is_line : (node : Node) (rest : List ℕ) → node_text node rest ≡ node_bytes node ++ (10 ∷ rest)
unfolding node_bytes
node_is_line node rest =
    let tree = tree_text node.tree [] in
    ap (λ t. claim_text node.lead node.need (pattern_text node.pattern (32 ∷ t))) (tree-cut node.tree [] (10 ∷ rest))
    ∙ (ap (claim_text node.lead node.need) (pattern-cut node.pattern (32 ∷ tree) (10 ∷ rest))
    ∙ claim-cut node.lead node.need (pattern_text node.pattern (32 ∷ tree)) (10 ∷ rest))

pub other_seat : (seat : Seat) (rest : List ℕ) → 2 ≤ length rest → IsOther (seat_letter seat ++ rest)
other_seat North rest h = record { some = omega arith; other = inl (omega arith) }
other_seat East rest h = record { some = omega arith; other = inl (omega arith) }
other_seat South rest h = record { some = omega arith; other = inl (omega arith) }
other_seat West rest h = record { some = omega arith; other = inl (omega arith) }

node_line : (node : Node) (rest : List ℕ) → IsNodeForm node → Lines rest → Lines (node_text node rest)
unfolding node_bytes
node_line node rest form more =
    as_line (node_text node rest) (node_bytes node) rest (node_is_line node rest)
    (plain_claim node.lead node.need _ form.need.1 (plain_pattern node.pattern _ form.pattern (omega arith, plain_tree node.tree [] form.tree.numbers tt)))
    (other_seat node.lead _ (omega (arith, length-append (decimal node.need) (32 ∷ pattern_text node.pattern (32 ∷ tree_text node.tree []))))) more

nodes_lines : (count : ℕ) (nodes : List Node) (rest : List ℕ) → count ≤ 10 ^ 7 → All (IsNode count) nodes → Lines rest → Lines (nodes_text nodes rest)
nodes_lines count [] rest few all more = more
nodes_lines count (node ∷ others) rest few all more =
    node_line node _ (node_form count node few (All-head (IsNode count) node others all))
    (nodes_lines count others rest few (All-tail (IsNode count) node others all) more)

-- a piece of a line
plain_title : (version : Version) → Plain (codes "DDC " ++ version_digit version)
plain_title One = search rules
plain_title Two = search rules

plain_trump : (t : Trump) → Plain (codes "trump " ++ trump_letters t)
plain_trump trump.Nt = search rules
plain_trump (trump.Suit Spades) = search rules
plain_trump (trump.Suit Hearts) = search rules
plain_trump (trump.Suit Diamonds) = search rules
plain_trump (trump.Suit Clubs) = search rules

plain_side : (side : Side) → Plain (codes "side " ++ side_letters side)
plain_side NorthSouth = search rules
plain_side EastWest = search rules

pub graph_lines : (graph : GraphShape) → IsGraph graph → Lines (graph_text graph)
graph_lines graph is =
    let count = length graph.nodes in
    let few : count < 2 ^ 64 = omega (arith, is.size) in
    let nodes : Lines (nodes_text graph.nodes []) = nodes_lines count graph.nodes [] (omega (arith, is.size)) is.each no_line in
    as_line _ (codes "DDC " ++ version_digit graph.version) _ (sym (append_assoc (codes "DDC ") (version_digit graph.version) _)) (plain_title graph.version) (record { some = omega arith; other = inr (omega arith) })
    (as_line _ (codes "trump " ++ trump_letters graph.trump) _ (sym (append_assoc (codes "trump ") (trump_letters graph.trump) _)) (plain_trump graph.trump) (record { some = omega arith; other = inl (omega arith) })
    (as_line _ (codes "side " ++ side_letters graph.side) _ (sym (append_assoc (codes "side ") (side_letters graph.side) _)) (plain_side graph.side) (record { some = omega arith; other = inl (omega arith) })
    (as_line _ (codes "nodes " ++ decimal count) _ (sym (append_assoc (codes "nodes ") (decimal count) _))
    (plain-append (codes "nodes ") (decimal count) (search rules) (plain_number count few)) (record { some = omega arith; other = inl (omega arith) }) nodes)))

-- ---- two line feeds in a row
abbrev pub gap : List ℕ
gap = 10 ∷ 10 ∷ []

no_end : (bytes : List ℕ) (i : ℕ) → Plain bytes → i < length bytes → get_or bytes i 0 ≢ 10
no_end [] i plain h = absurd (omega arith)
no_end (byte ∷ rest) zero plain h = plain.0
no_end (byte ∷ rest) (suc i) plain h = no_end rest i plain.1 (omega arith)

first_byte : (text : List ℕ) → Lines text → 0 < length text → get_or text 0 0 ≢ 10
first_byte _ no_line h = absurd (omega arith)
first_byte _ (line bytes rest plain some more) h = λ e. no_end bytes 0 plain (has_first bytes some) (sym (get_or_append_left bytes (10 ∷ rest) 0 0 (has_first bytes some)) ∙ e)

-- the bytes behind a line
behind : (bytes rest : List ℕ) (n : ℕ) → get_or (bytes ++ (10 ∷ rest)) (length bytes + suc n) 0 ≡ get_or rest n 0
behind bytes rest n = get_or-append-add bytes (10 ∷ rest) (suc n) 0

-- both bytes of a gap, and that they are within
pub record IsGap (text : List ℕ) (place : ℕ) : Type 0 where
  pub one : get_or text place 0 ≡ 10
  pub other : get_or text (place + 1) 0 ≡ 10
  pub within : place + 1 < length text

gap_behind : (bytes rest : List ℕ) (n place : ℕ) → place ≡ length bytes + suc n → IsGap (bytes ++ (10 ∷ rest)) place → IsGap rest n
gap_behind bytes rest n place at g =
    let all = length-append bytes (10 ∷ rest) in
    let after : place + 1 ≡ length bytes + suc (n + 1) = omega arith in
    let inside = g.within in
    record {
      one = sym (behind bytes rest n) ∙ (ap (λ i. get_or (bytes ++ (10 ∷ rest)) i 0) (sym at) ∙ g.one);
      other = sym (behind bytes rest (n + 1)) ∙ (ap (λ i. get_or (bytes ++ (10 ∷ rest)) i 0) (sym after) ∙ g.other);
      within = omega (arith, all);
    }

none_from : (bytes rest : List ℕ) (n place : ℕ) → place ≡ length bytes + n → Lines rest → ((i : ℕ) → IsGap rest i → ⊥) → IsGap (bytes ++ (10 ∷ rest)) place → ⊥
none_from bytes rest zero place at lines none g =
    let all = length-append bytes (10 ∷ rest) in
    let after : place + 1 ≡ length bytes + suc 0 = omega arith in
    let inside = g.within in
    first_byte rest lines (omega (arith, all)) (sym (behind bytes rest 0) ∙ (ap (λ i. get_or (bytes ++ (10 ∷ rest)) i 0) (sym after) ∙ g.other))
none_from bytes rest (suc n) place at lines none g = none n (gap_behind bytes rest n place at g)

-- lines have none
pub no_gap : (text : List ℕ) → Lines text → (place : ℕ) → IsGap text place → ⊥
no_gap _ no_line place g = let h = g.within in absurd (omega arith)
no_gap _ (line bytes rest plain some more) place g = elim (cases_lt place (length bytes)) [
  | inl before ↦ no_end bytes place plain before (sym (get_or_append_left bytes (10 ∷ rest) 0 place before) ∙ g.one)
  | inr after ↦ none_from bytes rest (place - length bytes) place (omega arith) more (no_gap rest more) g
]

-- the last byte ends a line
pub ends_line : (text : List ℕ) → Lines text → 0 < length text → get_or text (length text - 1) 0 ≡ 10
ends_line _ no_line h = absurd (omega arith)
ends_line _ (line bytes rest plain some more) h = elim (cases_lt 0 (length rest)) [
  | inl longer ↦
      let all = length-append bytes (10 ∷ rest) in
      let last : length (bytes ++ (10 ∷ rest)) - 1 ≡ length bytes + suc (length rest - 1) = omega (arith, all) in
      ap (λ i. get_or (bytes ++ (10 ∷ rest)) i 0) last ∙ (behind bytes rest (length rest - 1) ∙ ends_line rest more longer)
  | inr none ↦
      let all = length-append bytes (10 ∷ rest) in
      let last : length (bytes ++ (10 ∷ rest)) - 1 ≡ length bytes + 0 = omega (arith, all) in
      ap (λ i. get_or (bytes ++ (10 ∷ rest)) i 0) last ∙ get_or-append-add bytes (10 ∷ rest) 0 0
]

-- ---- the first gap behind lines
some_title : (graph : GraphShape) → 0 < length (graph_text graph)
some_title graph = omega arith

is_gap : (text : List ℕ) (place : ℕ) → OccursAt text gap place → IsGap text place
is_gap text place occurs =
    let within = occurs.fits in
    let here : place ≡ place + 0 = omega arith in
    record {
      one = ap (λ i. get_or text i 0) here ∙ occurs.reads 0 (omega arith);
      other = occurs.reads 1 (omega arith);
      within = omega arith;
    }

occurs_gap : (text : List ℕ) (place : ℕ) → IsGap text place → OccursAt text gap place
occurs_gap text place g = record {
  fits = (let h = g.within in omega arith);
  reads = λ j h. both j h;
}
  where
    both : (j : ℕ) → j < 2 → get_or text (place + j) 0 ≡ get_or gap j 0
    both zero h = (let same : place + 0 ≡ place = omega arith in ap (λ i. get_or text i 0) same ∙ g.one)
    both (suc zero) h = g.other
    both (suc (suc j)) h = absurd (omega arith)

module _ (front rest : List ℕ) (lines : Lines front) (some : 0 < length front) where
  last_gap : IsGap (front ++ (10 ∷ rest)) (length front - 1)
  last_gap =
      let all = length-append front (10 ∷ rest) in
      let next : length front - 1 + 1 ≡ length front + 0 = omega arith in
      record {
        one = get_or_append_left front (10 ∷ rest) 0 (length front - 1) (omega arith) ∙ ends_line front lines some;
        other = ap (λ i. get_or (front ++ (10 ∷ rest)) i 0) next ∙ get_or-append-add front (10 ∷ rest) 0 0;
        within = omega (arith, all);
      }

  none_earlier : (place : ℕ) → place + 1 < length front → IsGap (front ++ (10 ∷ rest)) place → ⊥
  none_earlier place h g = no_gap front lines place (record {
    one = sym (get_or_append_left front (10 ∷ rest) 0 place (omega arith)) ∙ g.one;
    other = sym (get_or_append_left front (10 ∷ rest) 0 (place + 1) h) ∙ g.other;
    within = h;
  })

  -- a search finds it
  pub finds_gap : (place : ℕ) → NoneBefore (OccursAt (front ++ (10 ∷ rest)) gap) 0 (length (front ++ (10 ∷ rest)) + 1) place
      → OccursAt (front ++ (10 ∷ rest)) gap place → place + 1 ≡ length front
  finds_gap place first occurs = elim (cases_lt (place + 1) (length front)) [
    | inl before ↦ absurd (none_earlier place before (is_gap _ place occurs))
    | inr after ↦ elim (cases_lt (length front - 1) place) [
      | inl late ↦ absurd (first.before (length front - 1) (omega arith) late (occurs_gap _ _ last_gap))
      | inr same ↦ omega arith
    ]
  ]

  pub some_gap : Nowhere (OccursAt (front ++ (10 ∷ rest)) gap) 0 (length (front ++ (10 ∷ rest)) + 1) → ⊥
  some_gap none =
      let all = length-append front (10 ∷ rest) in
      none (length front - 1) (omega arith) (omega (arith, all)) (occurs_gap _ _ last_gap)

-- the text of a graph is lines
pub graph_front : (graph : GraphShape) → IsGraph graph → Lines (graph_text graph) × (0 < length (graph_text graph))
graph_front graph is = (graph_lines graph is, some_title graph)

-- ---- one cut
not_longer : (front other rest more : List ℕ) → Lines front → 0 < length front → Lines other → front ++ (10 ∷ rest) ≡ other ++ (10 ∷ more) → length front < length other → ⊥
not_longer front other rest more lines some others e h =
    none_earlier other more others (omega arith) (length front - 1) (omega arith)
    (subst (λ text. IsGap text (length front - 1)) e (last_gap front rest lines some))

pub same_front : (front other rest more : List ℕ) → Lines front → 0 < length front → Lines other → 0 < length other → front ++ (10 ∷ rest) ≡ other ++ (10 ∷ more) → (front ≡ other) × (rest ≡ more)
same_front front other rest more lines some others any e = elim (cases_lt (length front) (length other)) [
  | inl less ↦ absurd (not_longer front other rest more lines some others e less)
  | inr no_less ↦ elim (cases_lt (length other) (length front)) [
    | inl longer ↦ absurd (not_longer other front more rest others any lines (sym e) longer)
    | inr no_longer ↦
        let long : length other ≡ length front = omega arith in
        let same : front ≡ other = sym (take_at front (10 ∷ rest) (length front) refl) ∙ (ap (take (length front)) e ∙ take_at other (10 ∷ more) (length front) long) in
        let left : front ++ (10 ∷ rest) ≡ front ++ (10 ∷ more) = e ∙ ap (λ t. t ++ (10 ∷ more)) (sym same) in
        (same, tails 10 10 rest more (append_cancel_left front _ _ left))
  ]
]

pub one_graphs : (a b c d : GraphShape) → IsGraph a → IsGraph b → IsGraph c → IsGraph d → graphs_text a b ≡ graphs_text c d → (a ≡ c) × (b ≡ d)
one_graphs a b c d p q r s e =
    let same = same_front (graph_text a) (graph_text c) (graph_text b) (graph_text d) (graph_lines a p) (some_title a) (graph_lines c r) (some_title c) e in (
      one_graph_of (graph_text a) a c (p, refl) (r, same.0),
      one_graph_of (graph_text b) b d (q, refl) (s, same.1),
    )

-- ---- what is read
pub no_graph : (text : List ℕ) (fault : TextFault) → fault ≢ OutOfMemory → (◌≡◌ {A = Result GraphShape TextFault} (Err fault) (Err OutOfMemory)) ⊎ TextAnswers text (Err fault)
    → (graph : GraphShape) → IsGraph graph → text ≡ graph_text graph → ⊥
no_graph text fault other (inl none) graph is e = other (err_same none)
  where
    err_same : ◌≡◌ {A = Result GraphShape TextFault} (Err fault) (Err OutOfMemory) → fault ≡ OutOfMemory
    err_same h = cc
no_graph text fault other (inr answers) graph is e = apart (one_answer_of text (Err fault) (Ok graph) answers (is, e))
  where
    apart : ◌≡◌ {A = Result GraphShape TextFault} (Err fault) (Ok graph) → ⊥
    apart h = cc

-- both texts, around the first gap
module _ (text : List ℕ) (place : ℕ) (first : NoneBefore (OccursAt text gap) 0 (length text + 1) place) (occurs : OccursAt text gap place) where
  pub gap_parts : text ≡ take (place + 1) text ++ (10 ∷ drop (place + 2) text)
  gap_parts =
      let g = is_gap text place occurs in
      let next : place + 1 + 1 ≡ place + 2 = omega arith in
      sym (take-append-drop (place + 1) text)
      ∙ ap (λ t. take (place + 1) text ++ t)
      (drop_more text (place + 1) 0 g.within
      ∙ (ap (λ b. b ∷ drop (place + 1 + 1) text) g.other ∙ ap (λ n. 10 ∷ drop n text) next))

  module _ (ns ew : GraphShape) (p : IsGraph ns) (e : text ≡ graphs_text ns ew) where
    long : place + 1 ≡ length (graph_text ns)
    long = finds_gap (graph_text ns) (graph_text ew) (graph_lines ns p) (some_title ns) place
        (subst (λ t. NoneBefore (OccursAt t gap) 0 (length t + 1) place) e first) (subst (λ t. OccursAt t gap place) e occurs)

    pub front_is : take (place + 1) text ≡ graph_text ns
    front_is = ap (take (place + 1)) e ∙ take_at (graph_text ns) (10 ∷ graph_text ew) (place + 1) (sym long)

    pub back_is : drop (place + 2) text ≡ graph_text ew
    back_is =
        let all : length (graph_text ns ++ (10 ∷ [])) ≡ place + 2 = length-append (graph_text ns) (10 ∷ []) ∙ (let h = long in omega arith) in
        ap (drop (place + 2)) (e ∙ sym (append_assoc (graph_text ns) (10 ∷ []) (graph_text ew)))
        ∙ drop_at (graph_text ns ++ (10 ∷ [])) (graph_text ew) (place + 2) all

pub no_gap_found : (text : List ℕ) → Nowhere (OccursAt text gap) 0 (length text + 1) → (ns ew : GraphShape) → IsGraph ns → text ≡ graphs_text ns ew → ⊥
no_gap_found text none ns ew p e = some_gap (graph_text ns) (graph_text ew) (graph_lines ns p) (some_title ns) (subst (λ t. Nowhere (OccursAt t gap) 0 (length t + 1)) e none)
