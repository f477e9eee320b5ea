-- A text begins with a tree or the line of a node, or with none: which of them is decided.
use Rattle.std.proofs.Common.{ℕ, zero, suc, ◌+◌, ◌-◌, ◌*◌, ◌<◌, ◌≤◌, List, [], ◌∷◌, sym, ◌∙◌, ap, arith, inl, inr, ◌⊎◌}
use Rattle.std.proofs.lemmas.Bool.{cases_lt}
use Rattle.cards.specs.declared.seats.Seat.{Seat}
use Rattle.cards.specs.declared.seats.Seat.TheVariants.{North, East, South, West}
use Rattle.cards.specs.Seats.{seat_number}
use Rattle.cards.specs.declared.suits.Suit.TheVariants.{Spades, Hearts, Diamonds, Clubs}
use Rattle.pattern_step.specs.declared.pat_cards.PatCard.{PatCard}
use Rattle.pattern_step.specs.declared.pat_cards.PatCard.TheVariants.{Top, Low}
use Rattle.certificate_graph.specs.declared.children.Child.{Child}
use Rattle.certificate_graph.specs.declared.nodes.Node.{Node}
use Rattle.certificate_graph.specs.Trees.{TrickTree, Own, Reply, Leaf, Branches, NoBranch, Branch}
use Rattle.certificate_graph.specs.Graphs.{IsCard, card_place}
use Rattle.certificate_graph.specs.TextFaults.{BeginsNode, LacksNode}
use Rattle.certificate_graph.specs.Readings.{seat_text, BeginsChild, LacksChild, BeginsMore, LacksMore, BeginsChildren, LacksChildren, BeginsBranch, LacksBranch, BeginsBranches, LacksBranches, BeginsTree, LacksTree}
use Rattle.certificate_graph.proofs.OneSpelling.{one_seat}
use Rattle.certificate_graph.proofs.LeafLemmas.{LacksByte, lacks_by_blank, lacks_by_child, lacks_by_seat, lacks_by_more, more_read, lacks_children_by_child, lacks_children_by_more, children_read}
use Rattle.certificate_graph.proofs.TreeLemmas.{no_leaf, no_reply, no_own, no_branch_card, no_branch_tree, branch_begun, leaf_tree, lacks_leaf, no_room, reply_tree, lacks_reply, own_tree, lacks_own, lacks_by_first, lacks_by_place, lacks_by_rest, branches_read}
use Rattle.certificate_graph.proofs.LineLemmas.{node_by_suits, node_by_tree, node_by_end, node_begun}
use Rattle.check_laws.proofs.SomeForm.{same_or_not, some_byte, some_seat, some_card, some_number, some_pattern, some_claim}

-- ---- leaves
some_child : (text : List ℕ) → LacksChild text ⊎ ((child : Child) × (rest : List ℕ) × BeginsChild text child rest)
some_child text = elim (some_seat text) [
  | inl lacks ↦ inl (λ child rest begins. lacks child.winner _ tt begins.is)
  | inr seat ↦ elim (some_number seat.1) [
    | inl lacks ↦ inl (λ child rest begins.
        lacks child.number rest (record { short = begins.short; stops = begins.stops; is = (one_seat seat.0 child.winner seat.1 _ (sym seat.2 ∙ begins.is)).1 }))
    | inr n ↦
        let child : Child = record { winner = seat.0; number = n.0 } in
        inr (child, n.1, record { short = n.2.short; stops = n.2.stops; is = seat.2 ∙ ap (seat_text seat.0) n.2.is })
  ]
]

seat_number-lt : (seat : Seat) → seat_number seat < 4
seat_number-lt North = omega arith
seat_number-lt East = omega arith
seat_number-lt South = omega arith
seat_number-lt West = omega arith

no_seats_left : (least : ℕ) (text : List ℕ) → 4 ≤ least → LacksByte 125 text → LacksMore least text
no_seats_left least text high closing [] rest begins = closing rest begins.is
no_seats_left least text high closing (child ∷ more) rest begins = let low = seat_number-lt child.winner in omega (arith, begins.rise.0)

some_more : (fuel least : ℕ) (text : List ℕ) → 4 ≤ least + fuel → LacksMore least text ⊎ ((more : List Child) × (rest : List ℕ) × BeginsMore least text more rest)
some_more zero least text enough = elim (some_byte 125 text) [
  | inr end ↦ inr ([], end.0, record { rise = tt; short = tt; is = end.1 })
  | inl closing ↦ inl (no_seats_left least text (omega arith) closing)
]
some_more (suc fuel) least text enough = elim (some_byte 125 text) [
  | inr end ↦ inr ([], end.0, record { rise = tt; short = tt; is = end.1 })
  | inl closing ↦ elim (some_byte 32 text) [
    | inl blank ↦ inl (lacks_by_blank least text closing blank)
    | inr blank ↦ elim (some_child blank.0) [
      | inl lacks ↦ inl (lacks_by_child least text blank.0 closing blank.1 lacks)
      | inr first ↦ elim (cases_lt (seat_number first.0.winner) least) [
        | inl low ↦ inl (lacks_by_seat least text blank.0 first.0 first.1 closing blank.1 first.2 low)
        | inr high ↦ elim (some_more fuel (seat_number first.0.winner + 1) first.1 (omega arith)) [
          | inl lacks ↦ inl (lacks_by_more least text blank.0 first.0 first.1 closing blank.1 first.2 lacks)
          | inr more ↦ inr (first.0 ∷ more.0, more.1, more_read least text blank.0 first.0 first.1 more.0 more.1 blank.1 first.2 high more.2)
        ]
      ]
    ]
  ]
]

some_children : (text : List ℕ) → LacksChildren text ⊎ ((children : List Child) × (rest : List ℕ) × BeginsChildren text children rest)
some_children text = elim (some_byte 125 text) [
  | inr end ↦ inr ([], end.0, record { rise = tt; short = tt; is = end.1 })
  | inl closing ↦ elim (some_child text) [
    | inl lacks ↦ inl (lacks_children_by_child text closing lacks)
    | inr first ↦ elim (some_more 4 (seat_number first.0.winner + 1) first.1 (omega arith)) [
      | inl lacks ↦ inl (lacks_children_by_more text first.0 first.1 closing first.2 lacks)
      | inr more ↦ inr (first.0 ∷ more.0, more.1, children_read text first.0 first.1 more.0 more.1 first.2 more.2)
    ]
  ]
]

-- ---- trees
card_place-lt : (card : PatCard) → IsCard card → card_place card < 56
card_place-lt (Top Spades place) h = omega arith
card_place-lt (Top Hearts place) h = omega arith
card_place-lt (Top Diamonds place) h = omega arith
card_place-lt (Top Clubs place) h = omega arith
card_place-lt (Low Spades) h = omega arith
card_place-lt (Low Hearts) h = omega arith
card_place-lt (Low Diamonds) h = omega arith
card_place-lt (Low Clubs) h = omega arith

no_branches_left : (room least : ℕ) (text : List ℕ) → 56 ≤ least → LacksByte 41 text → LacksBranches room least text
no_branches_left room least text high closing NoBranch rest begins = closing rest begins.is
no_branches_left room least text high closing (Branch card below more) rest begins =
    let low = card_place-lt card begins.form.0 in omega (arith, begins.form.1)

mutual
  some_tree : (fuel room : ℕ) (text : List ℕ) → 100 * room < fuel → LacksTree room text ⊎ ((tree : TrickTree) × (rest : List ℕ) × BeginsTree room text tree rest)
  some_tree zero room text enough = absurd (omega arith)
  some_tree (suc fuel) room text enough = elim (some_byte 123 text) [
    | inr brace ↦ elim (some_children brace.0) [
      | inl lacks ↦ inl (lacks_leaf room text brace.0 brace.1 (λ tree rest begins. no_leaf brace.0 lacks tree rest begins))
      | inr found ↦ inr (Leaf found.0, found.1, leaf_tree room text brace.0 (Leaf found.0) found.1 brace.1 found.2)
    ]
    | inl brace ↦ elim (same_or_not room 0) [
      | inl none ↦ inl (no_room room text brace none)
      | inr some ↦ elim (some_byte 40 text) [
        | inr bracket ↦ elim (some_branches fuel (room - 1) 0 bracket.0 (omega (arith, some))) [
          | inl lacks ↦ inl (lacks_reply room text bracket.0 bracket.1 (λ tree rest begins. no_reply (room - 1) bracket.0 lacks tree rest begins))
          | inr found ↦ inr (Reply found.0, found.1, reply_tree room text bracket.0 (Reply found.0) found.1 (omega (arith, some)) bracket.1 found.2)
        ]
        | inl bracket ↦ elim (some_branch fuel (room - 1) text (omega (arith, some))) [
          | inl lacks ↦ inl (lacks_own room text brace bracket (λ tree rest begins. no_own (room - 1) text lacks tree rest begins))
          | inr found ↦ inr (Own found.0 found.1, found.2, own_tree room text (Own found.0 found.1) found.2 (omega (arith, some)) found.3)
        ]
      ]
    ]
  ]

  some_branch : (fuel room : ℕ) (text : List ℕ) → 100 * room + 1 < fuel → LacksBranch room text ⊎ ((card : PatCard) × (below : TrickTree) × (rest : List ℕ) × BeginsBranch room text card below rest)
  some_branch zero room text enough = absurd (omega arith)
  some_branch (suc fuel) room text enough = elim (some_card text) [
    | inl lacks ↦ inl (no_branch_card room text lacks)
    | inr card ↦ elim (some_tree fuel room card.1 (omega arith)) [
      | inl lacks ↦ inl (no_branch_tree room text card.0 card.1 card.2 lacks)
      | inr tree ↦ inr (
        card.0,
        tree.0,
        tree.1,
        branch_begun room text card.0 card.1 tree.0 tree.1 card.2 tree.2,
      )
    ]
  ]

  some_branches : (fuel room least : ℕ) (text : List ℕ) → 100 * room + 2 + (60 - least) < fuel → LacksBranches room least text ⊎ ((branches : Branches) × (rest : List ℕ) × BeginsBranches room least text branches rest)
  some_branches zero room least text enough = absurd (omega arith)
  some_branches (suc fuel) room least text enough = elim (some_byte 41 text) [
    | inr end ↦ inr (NoBranch, end.0, record { form = tt; numbers = tt; is = end.1 })
    | inl closing ↦ elim (cases_lt least 56) [
      | inr high ↦ inl (no_branches_left room least text high closing)
      | inl more ↦ elim (some_branch fuel room text (omega arith)) [
        | inl lacks ↦ inl (lacks_by_first room least text closing lacks)
        | inr first ↦ elim (cases_lt (card_place first.0) least) [
          | inl low ↦ inl (lacks_by_place room least text first.0 first.1 first.2 closing first.3 low)
          | inr high ↦ elim (some_branches fuel room (card_place first.0 + 1) first.2 (omega arith)) [
            | inl lacks ↦ inl (lacks_by_rest room least text first.0 first.1 first.2 closing first.3 lacks)
            | inr rest ↦ inr (Branch first.0 first.1 rest.0, rest.1, branches_read room least text first.0 first.1 first.2 rest.0 rest.1 first.3 high rest.2)
          ]
        ]
      ]
    ]
  ]

-- ---- the line of a node
pub some_node : (text : List ℕ) → LacksNode text ⊎ ((node : Node) × (rest : List ℕ) × BeginsNode text node rest)
some_node text = elim (some_claim text) [
  | inl lacks ↦ inl (λ node rest begins. lacks node.lead node.need _ (record { is_need = begins.form.need; is = begins.is }))
  | inr claim ↦ elim (some_pattern claim.2) [
    | inl lacks ↦ inl (node_by_suits text claim.0 claim.1 claim.2 claim.3 lacks)
    | inr shape ↦ elim (some_tree 500 4 shape.1 (omega arith)) [
      | inl lacks ↦ inl (node_by_tree text claim.0 claim.1 claim.2 shape.0 shape.1 claim.3 shape.2 lacks)
      | inr tree ↦ elim (some_byte 10 tree.1) [
        | inl lacks ↦ inl (node_by_end text claim.0 claim.1 claim.2 shape.0 shape.1 tree.0 tree.1 claim.3 shape.2 tree.2 lacks)
        | inr end ↦
            let node : Node = record { pattern = shape.0; lead = claim.0; need = claim.1; tree = tree.0 } in
            inr (
              node,
              end.0,
              node_begun text claim.0 claim.1 claim.2 shape.0 shape.1 tree.0 tree.1 end.0 claim.3 shape.2 tree.2 end.1,
            )
      ]
    ]
  ]
]
