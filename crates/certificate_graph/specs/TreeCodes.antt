-- A tree as a list of plain tokens, and back: the token of a place stands before those of its parts.
use Rattle.std.specs.Prelude.{◌≡◌, ℕ, zero, suc, List, [], ◌∷◌, refl}
use Rattle.std.proofs.Common.{ap, ◌∙◌}
use Rattle.std.specs.Coded.{Coded, code_by, coded×, coded_ℕ, coded_list}
use Rattle.cards.specs.declared.seats.Seat.{Seat}
use Rattle.cards.specs.declared.seats.Seat.TheVariants.{North, East, South, West}
use Rattle.cards.specs.Seats.{seat_number, seat_in_place}
use Rattle.cards.specs.declared.suits.Suit.TheVariants.{Spades, Hearts, Diamonds, Clubs}
use Rattle.cards.specs.Pack.{suit_number, suit_at}
use Rattle.pattern_step.specs.declared.pat_cards.PatCard.{PatCard}
use Rattle.pattern_step.specs.declared.pat_cards.PatCard.TheVariants.{Top, Low}
use Rattle.certificate_graph.specs.declared.children.Child.{Child}
use Rattle.certificate_graph.specs.Trees.{TrickTree, Own, Reply, Leaf, Branches, NoBranch, Branch}

-- a kind, a card or zeroes, and children
abbrev pub Token : Type 0
Token = ℕ × (ℕ × (ℕ × List (ℕ × ℕ)))

abbrev pub card_token : ℕ → PatCard → Token
card_token kind (Top suit place) = (kind, (suit_number suit, (suc place, [])))
card_token kind (Low suit) = (kind, (suit_number suit, (zero, [])))

abbrev pub card_from : ℕ → ℕ → PatCard
card_from suit zero = Low (suit_at suit)
card_from suit (suc place) = Top (suit_at suit) place

abbrev pub child_numbers : List Child → List (ℕ × ℕ)
child_numbers [] = []
child_numbers (child ∷ rest) = (seat_number child.winner, child.number) ∷ child_numbers rest

abbrev pub children_from : List (ℕ × ℕ) → List Child
children_from [] = []
children_from (pair ∷ rest) = record { winner = seat_in_place North pair.0; number = pair.1 } ∷ children_from rest

-- the tokens of a tree before others
abbrev mutual
  pub tokens : TrickTree → List Token → List Token
  tokens (Own card tree) more = card_token 0 card ∷ tokens tree more
  tokens (Reply branches) more = (1, (0, (0, []))) ∷ branch_tokens branches more
  tokens (Leaf children) more = (2, (0, (0, child_numbers children))) ∷ more

  pub branch_tokens : Branches → List Token → List Token
  branch_tokens NoBranch more = (3, (0, (0, []))) ∷ more
  branch_tokens (Branch card tree rest) more = card_token 4 card ∷ tokens tree (branch_tokens rest more)

-- what a list of tokens says, its beginning last
pub data Parts : Type 0 where
  Nothing : Parts
  Tree : TrickTree → Parts → Parts
  Rest : Branches → Parts → Parts

abbrev pub step_own : PatCard → Parts → Parts
step_own card (Tree tree parts) = Tree (Own card tree) parts
step_own card _ = Nothing

abbrev pub step_reply : Parts → Parts
step_reply (Rest branches parts) = Tree (Reply branches) parts
step_reply _ = Nothing

abbrev pub step_rest : PatCard → TrickTree → Parts → Parts
step_rest card tree (Rest branches parts) = Rest (Branch card tree branches) parts
step_rest card tree _ = Nothing

abbrev pub step_branch : PatCard → Parts → Parts
step_branch card (Tree tree parts) = step_rest card tree parts
step_branch card _ = Nothing

abbrev pub step : ℕ → ℕ → ℕ → List (ℕ × ℕ) → Parts → Parts
step zero suit place children parts = step_own (card_from suit place) parts
step (suc zero) suit place children parts = step_reply parts
step (suc (suc zero)) suit place children parts = Tree (Leaf (children_from children)) parts
step (suc (suc (suc zero))) suit place children parts = Rest NoBranch parts
step _ suit place children parts = step_branch (card_from suit place) parts

abbrev pub parts_of : List Token → Parts
parts_of [] = Nothing
parts_of (token ∷ more) = step token.0 token.1.0 token.1.1.0 token.1.1.1 (parts_of more)

abbrev pub first_tree : Parts → TrickTree
first_tree (Tree tree parts) = tree
first_tree _ = Leaf []

pub card-back : (card : PatCard) (kind : ℕ) → card_from (card_token kind card).1.0 (card_token kind card).1.1.0 ≡ card
card-back (Top Spades place) kind = refl
card-back (Top Hearts place) kind = refl
card-back (Top Diamonds place) kind = refl
card-back (Top Clubs place) kind = refl
card-back (Low Spades) kind = refl
card-back (Low Hearts) kind = refl
card-back (Low Diamonds) kind = refl
card-back (Low Clubs) kind = refl

pub seat-back : (seat : Seat) → seat_in_place North (seat_number seat) ≡ seat
seat-back North = refl
seat-back East = refl
seat-back South = refl
seat-back West = refl

pub children-back : (children : List Child) → children_from (child_numbers children) ≡ children
children-back [] = refl
children-back (child ∷ rest) =
    ap (λ (seat : Seat). record { winner = seat; number = child.number } ∷ children_from (child_numbers rest))
    (seat-back child.winner)
    ∙ ap (λ (more : List Child). child ∷ more) (children-back rest)

pub own-step : (card : PatCard) (more : List Token) → parts_of (card_token 0 card ∷ more) ≡ step_own card
    (parts_of more)
own-step (Top suit place) more = ap (λ (c : PatCard). step_own c (parts_of more)) (card-back (Top suit place) 0)
own-step (Low suit) more = ap (λ (c : PatCard). step_own c (parts_of more)) (card-back (Low suit) 0)

pub branch-step : (card : PatCard) (more : List Token) → parts_of (card_token 4 card ∷ more) ≡ step_branch card
    (parts_of more)
branch-step (Top suit place) more = ap (λ (c : PatCard). step_branch c (parts_of more)) (card-back (Top suit place) 4)
branch-step (Low suit) more = ap (λ (c : PatCard). step_branch c (parts_of more)) (card-back (Low suit) 4)

mutual
  pub tree-back : (tree : TrickTree) (more : List Token) → parts_of (tokens tree more) ≡ Tree tree (parts_of more)
  tree-back (Own card tree) more = own-step card (tokens tree more) ∙ ap (step_own card) (tree-back tree more)
  tree-back (Reply branches) more = ap step_reply (branches-back branches more)
  tree-back (Leaf children) more = ap (λ (list : List Child). Tree (Leaf list) (parts_of more)) (children-back children)

  pub branches-back : (branches : Branches) (more : List Token) → parts_of (branch_tokens branches more) ≡ Rest branches
      (parts_of more)
  branches-back NoBranch more = refl
  branches-back (Branch card tree rest) more =
      branch-step card (tokens tree (branch_tokens rest more))
      ∙ (ap (step_branch card) (tree-back tree (branch_tokens rest more))
      ∙ ap (step_rest card tree) (branches-back rest more))

abbrev pub tree_code : Coded TrickTree
tree_code =
    code_by (List Token) (coded_list
    (coded× coded_ℕ (coded× coded_ℕ (coded× coded_ℕ (coded_list (coded× coded_ℕ coded_ℕ))))))
    (λ tree. tokens tree []) (λ list. first_tree (parts_of list)) (λ tree. ap first_tree (tree-back tree []))

abbrev pub first_branches : Parts → Branches
first_branches (Rest branches parts) = branches
first_branches _ = NoBranch

abbrev pub branches_code : Coded Branches
branches_code =
    code_by (List Token) (coded_list
    (coded× coded_ℕ (coded× coded_ℕ (coded× coded_ℕ (coded_list (coded× coded_ℕ coded_ℕ))))))
    (λ branches. branch_tokens branches []) (λ list. first_branches (parts_of list))
    (λ branches. ap first_branches (branches-back branches []))
