-- Each text has an answer.
use Rattle.std.proofs.Common.{◌≡◌, ◌≢◌, ℕ, zero, suc, ◌+◌, ◌<◌, ◌≤◌, List, [], ◌∷◌, ◌++◌, length, All, Result, Ok, Err, refl, ◌∙◌, ap, arith, inl, inr, ◌⊎◌, length-append}
use Rattle.std.specs.List.{AllByRecursion}
use Rattle.std.specs.Str.Parse.{digits_value}
use Rattle.std.proofs.lemmas.Bool.{cases_lt}
use Rattle.std.proofs.lemmas.List.Elements.{All-push, All-nil}
use Rattle.cards.specs.declared.seats.Seat.{Seat}
use Rattle.cards.specs.declared.seats.Seat.TheVariants.{North, East, South, West}
use Rattle.cards.specs.declared.seats.Side.{Side}
use Rattle.cards.specs.declared.seats.Side.TheVariants.{NorthSouth, EastWest}
use Rattle.cards.specs.declared.suits.Suit.{Suit}
use Rattle.cards.specs.declared.suits.Suit.TheVariants.{Spades, Hearts, Diamonds, Clubs}
use Rattle.cards.specs.declared.suits.Trump.{Trump}
use Rattle.cards.specs.declared.suits.Trump.TheVariants as trump
use Rattle.patterns.specs.Shapes.{Shape, suit_of, len_of, tops_of, suit_size, hand_size, IsPattern}
use Rattle.certificate_graph.specs.declared.children.Child.{Child}
use Rattle.certificate_graph.specs.declared.nodes.Node.{Node}
use Rattle.certificate_graph.specs.declared.versions.Version.{Version}
use Rattle.certificate_graph.specs.declared.versions.Version.TheVariants.{One, Two}
use Rattle.certificate_graph.specs.declared.faults.TextFault.{TextFault}
use Rattle.certificate_graph.specs.declared.faults.TextFault.TheVariants.{Head, NodeForm, BadPattern, ChildNumber, Count, TooLarge}
use Rattle.certificate_graph.specs.Trees.{TrickTree, Own, Reply, Leaf, Branches, NoBranch, Branch}
use Rattle.certificate_graph.specs.Graphs.{GraphShape, IsNode, NamesBelow, NameBelow, greatest_count}
use Rattle.certificate_graph.specs.LineForms.{IsPatternForm}
use Rattle.certificate_graph.specs.Texts.{title_text, trump_text, side_text, node_text, nodes_text}
use Rattle.certificate_graph.specs.TextFaults.{IsLineFault, StopsAt, IsCountFault, TextAnswers}
use Rattle.certificate_graph.specs.Readings.{AreAllNodes, ReadsCount, BeginsDigits, LacksDigits}
use Rattle.certificate_graph.proofs.TextParts.{nodes-more}
use Rattle.certificate_graph.proofs.HeadLemmas.{no_title, trump_line-cut, no_side, digits_by_end, digits_by_number}
use Rattle.certificate_graph.proofs.ReadLemmas.{heads_are, fault_after, nodes_fault, graph_read}
use Rattle.check_laws.proofs.SomeForm.{same_or_not, some_byte, split, number_or_not}
use Rattle.check_laws.proofs.SomeTree.{some_node}

-- ---- what decides a quantifier
seat_or_not : {P : Seat → Type 0} → ((seat : Seat) → P seat ⊎ (P seat → ⊥)) → ((seat : Seat) → P seat) ⊎ (((seat : Seat) → P seat) → ⊥)
seat_or_not {P} d = elim (d North) [
  | inr n ↦ inr (λ all. n (all North))
  | inl n ↦ elim (d East) [
    | inr e ↦ inr (λ all. e (all East))
    | inl e ↦ elim (d South) [
      | inr s ↦ inr (λ all. s (all South))
      | inl s ↦ elim (d West) [
        | inr w ↦ inr (λ all. w (all West))
        | inl w ↦ inl (elim [ North ↦ n | East ↦ e | South ↦ s | West ↦ w ])
      ]
    ]
  ]
]

suit_or_not : {P : Suit → Type 0} → ((suit : Suit) → P suit ⊎ (P suit → ⊥)) → ((suit : Suit) → P suit) ⊎ (((suit : Suit) → P suit) → ⊥)
suit_or_not {P} d = elim (d Spades) [
  | inr s ↦ inr (λ all. s (all Spades))
  | inl s ↦ elim (d Hearts) [
    | inr h ↦ inr (λ all. h (all Hearts))
    | inl h ↦ elim (d Diamonds) [
      | inr x ↦ inr (λ all. x (all Diamonds))
      | inl x ↦ elim (d Clubs) [
        | inr c ↦ inr (λ all. c (all Clubs))
        | inl c ↦ inl (elim [ Spades ↦ s | Hearts ↦ h | Diamonds ↦ x | Clubs ↦ c ])
      ]
    ]
  ]
]

le_or_not : (m n : ℕ) → (m ≤ n) ⊎ (m ≤ n → ⊥)
le_or_not m n = elim (cases_lt n m) [ inl low ↦ inr (λ h. omega arith) | inr high ↦ inl high ]

-- ---- patterns and names
pattern_or_not : (shape : Shape) → IsPatternForm shape → IsPattern shape ⊎ (IsPattern shape → ⊥)
pattern_or_not shape form =
    elim (suit_or_not {P = λ suit. suit_size (suit_of shape suit) ≤ 13} (λ suit. le_or_not (suit_size (suit_of shape suit)) 13)) [
      | inr not ↦ inr (λ is. not is.suits)
      | inl suits ↦ elim (seat_or_not {P = λ seat. hand_size shape seat ≡ hand_size shape North} (λ seat. same_or_not (hand_size shape seat) (hand_size shape North))) [
        | inr not ↦ inr (λ is. not is.hands)
        | inl hands ↦ elim (le_or_not 1 (hand_size shape North)) [
          | inr not ↦ inr (λ is. not is.some_cards)
          | inl some ↦ elim (le_or_not (hand_size shape North) 13) [
            | inr not ↦ inr (λ is. not is.not_over)
            | inl most ↦ elim (suit_or_not {P = λ suit. (seat : Seat) → tops_of (suit_of shape suit) seat ≤ len_of (suit_of shape suit) seat}
                (λ suit. seat_or_not {P = λ seat. tops_of (suit_of shape suit) seat ≤ len_of (suit_of shape suit) seat} (λ seat. le_or_not (tops_of (suit_of shape suit) seat) (len_of (suit_of shape suit) seat)))) [
                  | inr not ↦ inr (λ is. not is.owners)
                  | inl owners ↦ inl (record { four_seats = λ suit. (form suit).four; suits = suits; hands = hands; some_cards = some; not_over = most; owners = owners })
                ]
          ]
        ]
      ]
    ]

children_or_not : (count : ℕ) (children : List Child) → AllByRecursion (λ child. child.number < count) children ⊎ (AllByRecursion (λ child. child.number < count) children → ⊥)
children_or_not count [] = inl tt
children_or_not count (child ∷ rest) = elim (cases_lt child.number count) [
  | inr high ↦ inr (λ all. let low = all.0 in omega arith)
  | inl low ↦ elim (children_or_not count rest) [ inl more ↦ inl (low, more) | inr not ↦ inr (λ all. not all.1) ]
]

mutual
  names_or_not : (count : ℕ) (tree : TrickTree) → NamesBelow count tree ⊎ (NamesBelow count tree → ⊥)
  names_or_not count (Own card tree) = names_or_not count tree
  names_or_not count (Reply branches) = branch_names_or_not count branches
  names_or_not count (Leaf children) = children_or_not count children

  branch_names_or_not : (count : ℕ) (branches : Branches) → NameBelow count branches ⊎ (NameBelow count branches → ⊥)
  branch_names_or_not count NoBranch = inl tt
  branch_names_or_not count (Branch card tree rest) = elim (names_or_not count tree) [
    | inr not ↦ inr (λ names. not names.0)
    | inl first ↦ elim (branch_names_or_not count rest) [ inl more ↦ inl (first, more) | inr not ↦ inr (λ names. not names.1) ]
  ]

-- ---- the nodes
-- the node of a line, or the fault of the line
some_line : (count line : ℕ) (text : List ℕ) → ((fault : TextFault) × IsLineFault count line text fault) ⊎ ((node : Node) × (rest : List ℕ) × IsNode count node × (text ≡ node_text node rest))
some_line count line [] = inl (Count line, (refl, refl))
some_line count line (x ∷ xs) = elim (some_node (x ∷ xs)) [
  | inl lacks ↦ inl (NodeForm line, (refl, (λ e. cc), lacks))
  | inr found ↦ elim (pattern_or_not found.0.pattern found.2.form.pattern) [
    | inr not ↦ inl (BadPattern line, (refl, (found.0, found.1, found.2, not)))
    | inl pattern ↦ elim (names_or_not count found.0.tree) [
      | inr not ↦ inl (ChildNumber line, (refl, (found.0, found.1, found.2, (pattern, not))))
      | inl names ↦ inr (found.0, found.1, record { pattern = pattern; need = found.2.form.need; form = found.2.form.tree.form; children = names }, found.2.is)
    ]
  ]
]

some_nodes : (left count : ℕ) (text rest : List ℕ) (nodes : List Node) → length nodes + left ≡ count → All (IsNode count) nodes → text ≡ nodes_text nodes rest
    → ((fault : TextFault) × StopsAt count text fault) ⊎ ((all : List Node) × AreAllNodes count text all)
some_nodes zero count text [] nodes e each is = inr (nodes, record { all = omega arith; each = each; is = is })
some_nodes zero count text (x ∷ xs) nodes e each is =
    inl (Count (5 + count), record { nodes = nodes; rest = x ∷ xs; is = is; each = each; wrong = inr (omega arith, (refl, (λ h. cc))) })
some_nodes (suc left) count text rest nodes e each is = elim (some_line count (5 + length nodes) rest) [
  | inl wrong ↦ inl (wrong.0, record { nodes = nodes; rest = rest; is = is; each = each; wrong = inl (omega arith, wrong.1) })
  | inr found ↦ some_nodes left count text found.1 (nodes ++ (found.0 ∷ [])) (omega (arith, length-append nodes (found.0 ∷ [])))
      (All-push (IsNode count) nodes found.0 each found.2) (is ∙ (ap (nodes_text nodes) found.3 ∙ nodes-more nodes found.0 found.1))
]

-- ---- the first four lines
some_front : (front text : List ℕ) → ((rest : List ℕ) → text ≢ front ++ rest) ⊎ ((rest : List ℕ) × (text ≡ front ++ rest))
some_front [] text = inr (text, refl)
some_front (byte ∷ front) text = elim (some_byte byte text) [
  | inl lacks ↦ inl (λ rest e. lacks (front ++ rest) e)
  | inr found ↦ elim (some_front front found.0) [
    | inl lacks ↦ inl (λ rest e. lacks rest (let h = found.1 in cc))
    | inr more ↦ inr (more.0, found.1 ∙ ap (λ t. byte ∷ t) more.1)
  ]
]

some_title : (text : List ℕ) → ((v : Version) (rest : List ℕ) → text ≢ title_text v rest) ⊎ ((v : Version) × (rest : List ℕ) × (text ≡ title_text v rest))
some_title text = elim (some_front (title_text One []) text) [
  | inr f ↦ inr (One, f.0, f.1)
  | inl a ↦ elim (some_front (title_text Two []) text) [ inr f ↦ inr (Two, f.0, f.1) | inl b ↦ inl (no_title text a b) ]
]

no_trump : (text : List ℕ) → ((rest : List ℕ) → text ≢ trump_text trump.Nt [] ++ rest) → ((rest : List ℕ) → text ≢ trump_text (trump.Suit Spades) [] ++ rest)
    → ((rest : List ℕ) → text ≢ trump_text (trump.Suit Hearts) [] ++ rest) → ((rest : List ℕ) → text ≢ trump_text (trump.Suit Diamonds) [] ++ rest)
    → ((rest : List ℕ) → text ≢ trump_text (trump.Suit Clubs) [] ++ rest) → (t : Trump) (rest : List ℕ) → text ≢ trump_text t rest
no_trump text n s h d c trump.Nt rest e = n rest (e ∙ trump_line-cut trump.Nt rest)
no_trump text n s h d c (trump.Suit Spades) rest e = s rest (e ∙ trump_line-cut (trump.Suit Spades) rest)
no_trump text n s h d c (trump.Suit Hearts) rest e = h rest (e ∙ trump_line-cut (trump.Suit Hearts) rest)
no_trump text n s h d c (trump.Suit Diamonds) rest e = d rest (e ∙ trump_line-cut (trump.Suit Diamonds) rest)
no_trump text n s h d c (trump.Suit Clubs) rest e = c rest (e ∙ trump_line-cut (trump.Suit Clubs) rest)

some_trump : (text : List ℕ) → ((t : Trump) (rest : List ℕ) → text ≢ trump_text t rest) ⊎ ((t : Trump) × (rest : List ℕ) × (text ≡ trump_text t rest))
some_trump text = elim (some_front (trump_text trump.Nt []) text) [
  | inr f ↦ inr (trump.Nt, f.0, f.1)
  | inl n ↦ elim (some_front (trump_text (trump.Suit Spades) []) text) [
    | inr f ↦ inr (trump.Suit Spades, f.0, f.1)
    | inl s ↦ elim (some_front (trump_text (trump.Suit Hearts) []) text) [
      | inr f ↦ inr (trump.Suit Hearts, f.0, f.1)
      | inl h ↦ elim (some_front (trump_text (trump.Suit Diamonds) []) text) [
        | inr f ↦ inr (trump.Suit Diamonds, f.0, f.1)
        | inl d ↦ elim (some_front (trump_text (trump.Suit Clubs) []) text) [
          | inr f ↦ inr (trump.Suit Clubs, f.0, f.1)
          | inl c ↦ inl (no_trump text n s h d c)
        ]
      ]
    ]
  ]
]

some_side : (text : List ℕ) → ((s : Side) (rest : List ℕ) → text ≢ side_text s rest) ⊎ ((s : Side) × (rest : List ℕ) × (text ≡ side_text s rest))
some_side text = elim (some_front (side_text NorthSouth []) text) [
  | inr f ↦ inr (NorthSouth, f.0, f.1)
  | inl a ↦ elim (some_front (side_text EastWest []) text) [ inr f ↦ inr (EastWest, f.0, f.1) | inl b ↦ inl (no_side text a b) ]
]

some_digits : (text : List ℕ) → LacksDigits text ⊎ ((digits : List ℕ) × (rest : List ℕ) × BeginsDigits text digits rest)
some_digits text = elim (some_front (110 ∷ 111 ∷ 100 ∷ 101 ∷ 115 ∷ 32 ∷ []) text) [
  | inl lacks ↦ inl (λ digits rest begins. lacks (digits ++ (10 ∷ rest)) begins.is)
  | inr found ↦
      let parts = split found.0 in
      elim (number_or_not parts.digits parts.all) [
        | inl not ↦ inl (digits_by_number text found.0 parts.digits parts.rest found.1 parts.is parts.all parts.stops not)
        | inr number ↦ elim (some_byte 10 parts.rest) [
          | inl lacks ↦ inl (digits_by_end text found.0 parts.digits parts.rest found.1 parts.is parts.all parts.stops lacks)
          | inr end ↦ inr (
            parts.digits,
            end.0,
            record {
              number = number;
              is = found.1 ∙ ap (λ t. 110 ∷ 111 ∷ 100 ∷ 101 ∷ 115 ∷ 32 ∷ t) (parts.is ∙ ap (λ t. parts.digits ++ t) end.1);
            },
          )
        ]
      ]
]

-- what stands from the line of the number on
some_end : (text : List ℕ) → ((fault : TextFault) × IsCountFault text fault) ⊎ ((count : ℕ) × (rest : List ℕ) × (nodes : List Node) × ReadsCount text count rest × AreAllNodes count rest nodes)
some_end text = elim (some_digits text) [
  | inl lacks ↦ inl (Head 4, inl (refl, λ digits rest number e. lacks digits rest (record { number = number; is = e })))
  | inr found ↦ elim (cases_lt greatest_count (digits_value 10 found.0)) [
    | inl large ↦ inl (TooLarge 4, inr (found.0, found.1, found.2.number, found.2.is, inl (refl, large)))
    | inr few ↦
        let count = digits_value 10 found.0 in
        let read : ReadsCount text count found.1 = record { digits = found.0; begins = found.2; value = refl; within = few } in
        elim (some_nodes count count found.1 found.1 [] (omega arith) (All-nil (IsNode count)) refl) [
          | inl stops ↦ inl (stops.0, nodes_fault text count found.1 stops.0 read stops.1)
          | inr all ↦ inr (count, found.1, all.0, read, all.1)
        ]
  ]
]

pub some_answer : (text : List ℕ) → (answer : Result GraphShape TextFault) × TextAnswers text answer
some_answer text = elim (some_title text) [
  | inl lacks ↦ (Err (Head 1), inl (refl, lacks))
  | inr title ↦ elim (some_trump title.1) [
    | inl lacks ↦ (Err (Head 2), inr (title.0, title.1, title.2, inl (refl, lacks)))
    | inr of_trump ↦ elim (some_side of_trump.1) [
      | inl lacks ↦ (Err (Head 3), inr (title.0, title.1, title.2, inr (of_trump.0, of_trump.1, of_trump.2, inl (refl, lacks))))
      | inr of_side ↦
          let heads = heads_are text title.1 of_trump.1 title.0 of_trump.0 of_side.0 of_side.1 title.2 of_trump.2 of_side.2 in
          elim (some_end of_side.1) [
            | inl wrong ↦ (Err wrong.0, fault_after text title.0 of_trump.0 of_side.0 of_side.1 wrong.0 heads wrong.1)
            | inr all ↦ (Ok (record { version = title.0; trump = of_trump.0; side = of_side.0; nodes = all.2 }), graph_read text title.0 of_trump.0 of_side.0 of_side.1 all.0 all.1 all.2 heads all.3 all.4)
          ]
    ]
  ]
]
