-- A text that begins with a tree, a pattern or a node begins with one alone.
use Rattle.std.proofs.Common.{◌≡◌, ℕ, ◌-◌, ◌^◌, ◌<◌, ◌≤◌, List, [], ◌∷◌, ◌++◌, length, refl, sym, ◌∙◌, ap, arith, lit≤}
use Rattle.std.specs.Prelude.{slice_index}
use Rattle.std.specs.Char.{digit_value}
use Rattle.std.specs.Fmt.{decimal}
use Rattle.cards.specs.declared.seats.Seat.{Seat}
use Rattle.cards.specs.declared.seats.Seat.TheVariants.{North, East, South, West}
use Rattle.cards.specs.declared.suits.Suit.TheVariants.{Spades, Hearts, Diamonds, Clubs}
use Rattle.cards.specs.Seats.{seat_letter}
use Rattle.patterns.specs.Shapes.{SuitShape, Shape}
use Rattle.pattern_step.specs.declared.pat_cards.PatCard.{PatCard}
use Rattle.pattern_step.specs.declared.pat_cards.PatCard.TheVariants.{Top, Low}
use Rattle.certificate_graph.specs.declared.children.Child.{Child}
use Rattle.certificate_graph.specs.declared.nodes.Node.{Node}
use Rattle.certificate_graph.specs.Trees.{TrickTree, Own, Reply, Leaf, Branches, NoBranch, Branch}
use Rattle.certificate_graph.specs.Graphs.{HasForm, HaveForm, NamesBelow, NameBelow}
use Rattle.certificate_graph.specs.LineForms.{IsSuitForm, IsPatternForm, IsNodeForm}
use Rattle.certificate_graph.specs.Texts.{card_text, child_text, more_children_text, children_text, tree_text, branches_text, owners_text, suit_text, pattern_text, claim_text, node_text}
use Rattle.certificate_graph.specs.Readings.{StopsDigits, IsShort, AreShort}
use Rattle.certificate_graph.proofs.OneSpelling.{heads, tails, one_seat, one_card, one_number}

-- ---- first bytes
-- a card begins with a letter
pub card_first : (card : PatCard) (byte : ℕ) (a b : List ℕ) → card_text card a ≡ byte ∷ b → (60 < byte) × (byte < 90)
card_first (Top Spades place) byte a b h = let e = heads _ _ _ _ h in (omega arith, omega arith)
card_first (Top Hearts place) byte a b h = let e = heads _ _ _ _ h in (omega arith, omega arith)
card_first (Top Diamonds place) byte a b h = let e = heads _ _ _ _ h in (omega arith, omega arith)
card_first (Top Clubs place) byte a b h = let e = heads _ _ _ _ h in (omega arith, omega arith)
card_first (Low Spades) byte a b h = let e = heads _ _ _ _ h in (omega arith, omega arith)
card_first (Low Hearts) byte a b h = let e = heads _ _ _ _ h in (omega arith, omega arith)
card_first (Low Diamonds) byte a b h = let e = heads _ _ _ _ h in (omega arith, omega arith)
card_first (Low Clubs) byte a b h = let e = heads _ _ _ _ h in (omega arith, omega arith)

-- and so does a seat
pub seat_first : (seat : Seat) (byte : ℕ) (a b : List ℕ) → seat_letter seat ++ a ≡ byte ∷ b → (60 < byte) × (byte < 90)
seat_first North byte a b h = let e = heads _ _ _ _ h in (omega arith, omega arith)
seat_first East byte a b h = let e = heads _ _ _ _ h in (omega arith, omega arith)
seat_first South byte a b h = let e = heads _ _ _ _ h in (omega arith, omega arith)
seat_first West byte a b h = let e = heads _ _ _ _ h in (omega arith, omega arith)

-- ---- children
short_is_small : (n : ℕ) → IsShort n → n < 2 ^ 64
short_is_small n h = omega arith

pub one_child : (c d : Child) (a b : List ℕ) → IsShort c.number → IsShort d.number → StopsDigits a → StopsDigits b → child_text c a ≡ child_text d b → (c ≡ d) × (a ≡ b)
one_child c d a b x y s t h =
    let seat = one_seat c.winner d.winner _ _ h in
    let number = one_number c.number d.number a b (short_is_small _ x) (short_is_small _ y) s t seat.1 in
    (ap (λ (w : Seat). record { winner = w; number = c.number }) seat.0 ∙ ap (λ (n : ℕ). record { winner = d.winner; number = n }) number.0, number.1)

pub more-stops : (children : List Child) (rest : List ℕ) → StopsDigits (more_children_text children rest)
more-stops [] rest = lit≤ tt
more-stops (child ∷ more) rest = lit≤ tt

pub one_more : (cs ds : List Child) (a b : List ℕ) → AreShort cs → AreShort ds → more_children_text cs a ≡ more_children_text ds b → (cs ≡ ds) × (a ≡ b)
one_more [] [] a b x y h = (refl, tails _ _ a b h)
one_more [] (d ∷ ds) a b x y h = let e = heads _ _ _ _ h in absurd (omega arith)
one_more (c ∷ cs) [] a b x y h = let e = heads _ _ _ _ h in absurd (omega arith)
one_more (c ∷ cs) (d ∷ ds) a b x y h =
    let first = one_child c d _ _ x.0 y.0 (more-stops cs a) (more-stops ds b) (tails _ _ _ _ h) in
    let more = one_more cs ds a b x.1 y.1 first.1 in
    (ap (λ (k : Child). k ∷ cs) first.0 ∙ ap (λ (ks : List Child). d ∷ ks) more.0, more.1)

pub one_children : (cs ds : List Child) (a b : List ℕ) → AreShort cs → AreShort ds → children_text cs a ≡ children_text ds b → (cs ≡ ds) × (a ≡ b)
one_children [] [] a b x y h = (refl, tails _ _ a b h)
one_children [] (d ∷ ds) a b x y h = let e = seat_first d.winner _ _ _ (sym h) in absurd (omega arith)
one_children (c ∷ cs) [] a b x y h = let e = seat_first c.winner _ _ _ h in absurd (omega arith)
one_children (c ∷ cs) (d ∷ ds) a b x y h =
    let first = one_child c d _ _ x.0 y.0 (more-stops cs a) (more-stops ds b) h in
    let more = one_more cs ds a b x.1 y.1 first.1 in
    (ap (λ (k : Child). k ∷ cs) first.0 ∙ ap (λ (ks : List Child). d ∷ ks) more.0, more.1)

-- ---- trees
mutual
  pub one_tree : (t u : TrickTree) (m n : ℕ) (a b : List ℕ) → HasForm m t → HasForm n u → NamesBelow (10 ^ 7) t → NamesBelow (10 ^ 7) u → tree_text t a ≡ tree_text u b → (t ≡ u) × (a ≡ b)
  one_tree (Own c t) (Own d u) m n a b x y p q h =
      let card = one_card c d _ _ x.1 y.1 h in
      let below = one_tree t u (m - 1) (n - 1) a b x.2 y.2 p q card.1 in
      (ap (λ (k : PatCard). Own k t) card.0 ∙ ap (Own d) below.0, below.1)
  one_tree (Own c t) (Reply u) m n a b x y p q h = let e = card_first c _ _ _ h in absurd (omega arith)
  one_tree (Own c t) (Leaf u) m n a b x y p q h = let e = card_first c _ _ _ h in absurd (omega arith)
  one_tree (Reply t) (Own d u) m n a b x y p q h = let e = card_first d _ _ _ (sym h) in absurd (omega arith)
  one_tree (Reply t) (Reply u) m n a b x y p q h =
      let below = one_branches t u (m - 1) (n - 1) 0 0 a b x.1 y.1 p q (tails _ _ _ _ h) in
      (ap Reply below.0, below.1)
  one_tree (Reply t) (Leaf u) m n a b x y p q h = let e = heads _ _ _ _ h in absurd (omega arith)
  one_tree (Leaf t) (Own d u) m n a b x y p q h = let e = card_first d _ _ _ (sym h) in absurd (omega arith)
  one_tree (Leaf t) (Reply u) m n a b x y p q h = let e = heads _ _ _ _ h in absurd (omega arith)
  one_tree (Leaf t) (Leaf u) m n a b x y p q h =
      let below = one_children t u a b p q (tails _ _ _ _ h) in
      (ap Leaf below.0, below.1)

  pub one_branches : (t u : Branches) (m n i j : ℕ) (a b : List ℕ) → HaveForm m i t → HaveForm n j u → NameBelow (10 ^ 7) t → NameBelow (10 ^ 7) u → branches_text t a ≡ branches_text u b → (t ≡ u) × (a ≡ b)
  one_branches NoBranch NoBranch m n i j a b x y p q h = (refl, tails _ _ a b h)
  one_branches NoBranch (Branch d u us) m n i j a b x y p q h = let e = card_first d _ _ _ (sym h) in absurd (omega arith)
  one_branches (Branch c t ts) NoBranch m n i j a b x y p q h = let e = card_first c _ _ _ h in absurd (omega arith)
  one_branches (Branch c t ts) (Branch d u us) m n i j a b x y p q h =
      let card = one_card c d _ _ x.0 y.0 h in
      let below = one_tree t u m n _ _ x.2 y.2 p.0 q.0 card.1 in
      let more = one_branches ts us m n _ _ a b x.3 y.3 p.1 q.1 below.1 in
      (ap (λ (k : PatCard). Branch k t ts) card.0 ∙ (ap (λ (k : TrickTree). Branch d k ts) below.0 ∙ ap (Branch d u) more.0), more.1)

-- ---- patterns
-- owners, and the blank after them
pub one_owners : (os ps : List Seat) (a b : List ℕ) → owners_text os (32 ∷ a) ≡ owners_text ps (32 ∷ b) → (os ≡ ps) × (a ≡ b)
one_owners [] [] a b h = (refl, tails _ _ a b h)
one_owners [] (p ∷ ps) a b h = let e = seat_first p _ _ _ (sym h) in absurd (omega arith)
one_owners (o ∷ os) [] a b h = let e = seat_first o _ _ _ h in absurd (omega arith)
one_owners (o ∷ os) (p ∷ ps) a b h =
    let first = one_seat o p _ _ h in
    let more = one_owners os ps a b first.1 in
    (ap (λ (s : Seat). s ∷ os) first.0 ∙ ap (λ (list : List Seat). p ∷ list) more.0, more.1)

-- four numbers are told by their places
four_same : (xs ys : List ℕ) → length xs ≡ 4 → length ys ≡ 4 → slice_index xs 0 ≡ slice_index ys 0 → slice_index xs 1 ≡ slice_index ys 1 → slice_index xs 2 ≡ slice_index ys 2 → slice_index xs 3 ≡ slice_index ys 3 → xs ≡ ys
four_same (a ∷ b ∷ c ∷ d ∷ []) (e ∷ f ∷ g ∷ h ∷ []) m n p q r s = cc
four_same _ _ m n p q r s = absurd (omega arith)

small_len : (n : ℕ) → n ≤ 13 → n < 2 ^ 64
small_len n h = omega arith

-- a length and a byte that is no digit
pub one_len : (m n byte : ℕ) (a b : List ℕ) → m ≤ 13 → n ≤ 13 → 10 ≤ digit_value byte → decimal m ++ (byte ∷ a) ≡ decimal n ++ (byte ∷ b) → (m ≡ n) × (a ≡ b)
one_len m n byte a b p q s h =
    let same = one_number m n (byte ∷ a) (byte ∷ b) (small_len m p) (small_len n q) s s h in
    (same.0, tails byte byte a b same.1)

pub one_suit_form : (s t : SuitShape) (a b : List ℕ) → IsSuitForm s → IsSuitForm t → suit_text s (32 ∷ a) ≡ suit_text t (32 ∷ b) → (s ≡ t) × (a ≡ b)
one_suit_form s t a b p q h =
    let north = one_len _ _ 46 _ _ (p.lens North) (q.lens North) (lit≤ tt) h in
    let east = one_len _ _ 46 _ _ (p.lens East) (q.lens East) (lit≤ tt) north.1 in
    let south = one_len _ _ 46 _ _ (p.lens South) (q.lens South) (lit≤ tt) east.1 in
    let west = one_len _ _ 47 _ _ (p.lens West) (q.lens West) (lit≤ tt) south.1 in
    let owners = one_owners s.owners t.owners a b west.1 in
    let lens = four_same s.lens t.lens p.four q.four north.0 east.0 south.0 west.0 in
    (ap (λ (list : List ℕ). record { lens = list; owners = s.owners }) lens ∙ ap (λ (list : List Seat). record { lens = t.lens; owners = list }) owners.0, owners.1)

pub one_pattern : (s t : Shape) (a b : List ℕ) → IsPatternForm s → IsPatternForm t → pattern_text s (32 ∷ a) ≡ pattern_text t (32 ∷ b) → (s ≡ t) × (a ≡ b)
one_pattern s t a b p q h =
    let spades = one_suit_form s.spades t.spades _ _ (p Spades) (q Spades) h in
    let hearts = one_suit_form s.hearts t.hearts _ _ (p Hearts) (q Hearts) spades.1 in
    let diamonds = one_suit_form s.diamonds t.diamonds _ _ (p Diamonds) (q Diamonds) hearts.1 in
    let clubs = one_suit_form s.clubs t.clubs a b (p Clubs) (q Clubs) diamonds.1 in (
      ap (λ (x : SuitShape). record { spades = x; hearts = s.hearts; diamonds = s.diamonds; clubs = s.clubs }) spades.0
          ∙ (ap (λ (x : SuitShape). record { spades = t.spades; hearts = x; diamonds = s.diamonds; clubs = s.clubs }) hearts.0
          ∙ (ap (λ (x : SuitShape). record { spades = t.spades; hearts = t.hearts; diamonds = x; clubs = s.clubs }) diamonds.0
          ∙ ap (λ (x : SuitShape). record { spades = t.spades; hearts = t.hearts; diamonds = t.diamonds; clubs = x }) clubs.0)),
      clubs.1,
    )

-- ---- nodes
pub one_claim : (s t : Seat) (m n : ℕ) (a b : List ℕ) → m ≤ 13 → n ≤ 13 → claim_text s m a ≡ claim_text t n b → (s ≡ t) × (m ≡ n) × (a ≡ b)
one_claim s t m n a b p q h =
    let seat = one_seat s t _ _ h in
    let need = one_len m n 32 a b p q (lit≤ tt) (tails _ _ _ _ seat.1) in
    (seat.0, need.0, need.1)

pub one_node : (x y : Node) (a b : List ℕ) → IsNodeForm x → IsNodeForm y → node_text x a ≡ node_text y b → (x ≡ y) × (a ≡ b)
one_node x y a b p q h =
    let claim = one_claim x.lead y.lead x.need y.need _ _ p.need.1 q.need.1 h in
    let pattern = one_pattern x.pattern y.pattern _ _ p.pattern q.pattern claim.2 in
    let tree = one_tree x.tree y.tree 4 4 _ _ p.tree.form q.tree.form p.tree.numbers q.tree.numbers pattern.1 in (
      ap (λ (s : Seat). record { pattern = x.pattern; lead = s; need = x.need; tree = x.tree }) claim.0
          ∙ (ap (λ (n : ℕ). record { pattern = x.pattern; lead = y.lead; need = n; tree = x.tree }) claim.1
          ∙ (ap (λ (s : Shape). record { pattern = s; lead = y.lead; need = y.need; tree = x.tree }) pattern.0
          ∙ ap (λ (t : TrickTree). record { pattern = y.pattern; lead = y.lead; need = y.need; tree = t }) tree.0)),
      tails _ _ a b tree.1,
    )
