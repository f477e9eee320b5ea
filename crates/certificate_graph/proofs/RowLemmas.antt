-- What the first token of a row tells of a tree.
use Rattle.std.proofs.Common.{◌≡◌, ◌↔◌, Bool, IsTrue, ℕ, ◌+◌, ◌-◌, ◌<◌, ◌≤◌, List, [], ◌∷◌, ◌++◌, length, take, drop, set, get_or, refl, sym, ◌∙◌, ap, ap₂, subst, arith, length-append, append-nil, append_assoc}
use Rattle.std.proofs.lemmas.List.{length-take-le, take-append-drop, take_more}
use Rattle.std.proofs.Math.Seq.{set-append_seam, take-append_seam, drop-append_seam}
use Rattle.pattern_step.specs.declared.pat_cards.PatCard.{PatCard}
use Rattle.certificate_graph.specs.declared.children.Child.{Child}
use Rattle.certificate_graph.specs.declared.rows.Token.{Token}
use Rattle.certificate_graph.specs.declared.rows.Token.TheVariants as token
use Rattle.certificate_graph.specs.Trees.{TrickTree, Own, Reply, Leaf, Branches, NoBranch, Branch, branches_of}
use Rattle.certificate_graph.specs.Rows.{tree_row, branches_row, one_branch_row, children_row, IsTreeRow, AreBranchesRow, AreChildrenRow}
use Rattle.certificate_graph.specs.OneTree.{heads, tails, parted, one_child}

pub own_first : (t : TrickTree) (card : PatCard) (rest : List Token) → token.Own card ∷ rest ≡ tree_row t → (below : TrickTree) × (rest ≡ tree_row below)
own_first (Own c t) card rest e = (t, tails (token.Own card) (token.Own c) rest (tree_row t) e)
own_first (Reply bs) card rest e = let apart : token.Own card ≡ token.Reply = heads _ _ rest (branches_row bs) e in cc
own_first (Leaf []) card rest e = cc
own_first (Leaf (c ∷ cs)) card rest e = let apart : token.Own card ≡ token.Child c.winner c.number = heads _ _ rest (children_row cs) e in cc

pub reply_first : (t : TrickTree) (rest : List Token) → token.Reply ∷ rest ≡ tree_row t → (branches : Branches) × (rest ≡ branches_row branches)
reply_first (Own c t) rest e = let apart : token.Reply ≡ token.Own c = heads _ _ rest (tree_row t) e in cc
reply_first (Reply bs) rest e = (bs, tails token.Reply token.Reply rest (branches_row bs) e)
reply_first (Leaf []) rest e = cc
reply_first (Leaf (c ∷ cs)) rest e = let apart : token.Reply ≡ token.Child c.winner c.number = heads _ _ rest (children_row cs) e in cc

pub child_first : (t : TrickTree) (child : Child) (rest : List Token) → token.Child child.winner child.number ∷ rest ≡ tree_row t → (children : List Child) × (token.Child child.winner child.number ∷ rest ≡ children_row children)
child_first (Own c t) child rest e = let apart : token.Child child.winner child.number ≡ token.Own c = heads _ _ rest (tree_row t) e in cc
child_first (Reply bs) child rest e = let apart : token.Child child.winner child.number ≡ token.Reply = heads _ _ rest (branches_row bs) e in cc
child_first (Leaf cs) child rest e = (cs, e)

pub no_branch_first : (t : TrickTree) (card : PatCard) (count : ℕ) (rest : List Token) → token.Branch card count ∷ rest ≡ tree_row t → ⊥
no_branch_first (Own c t) card count rest e = let apart : token.Branch card count ≡ token.Own c = heads _ _ rest (tree_row t) e in cc
no_branch_first (Reply bs) card count rest e = let apart : token.Branch card count ≡ token.Reply = heads _ _ rest (branches_row bs) e in cc
no_branch_first (Leaf []) card count rest e = cc
no_branch_first (Leaf (c ∷ cs)) card count rest e = let apart : token.Branch card count ≡ token.Child c.winner c.number = heads _ _ rest (children_row cs) e in cc

-- the row that was split begins with this token
pub begun : (row rest : List Token) (first token : Token) → row ≡ first ∷ rest → first ≡ token → token ∷ rest ≡ row
begun row rest first token e f = ap (λ t. t ∷ rest) (sym f) ∙ sym e

-- ---- branches and children
pub branch_first : (bs : Branches) (card : PatCard) (count : ℕ) (rest : List Token) → token.Branch card count ∷ rest ≡ branches_row bs →
    (below : TrickTree) × (others : Branches) × (Branch card below others ≡ bs) × (length (tree_row below) ≡ count) × (tree_row below ++ branches_row others ≡ rest)
branch_first NoBranch card count rest e = cc
branch_first (Branch c t others) card count rest e =
    let first : token.Branch card count ≡ token.Branch c (length (tree_row t)) = heads _ _ rest (tree_row t ++ branches_row others) e in
    let card-is : card ≡ c = cc in
    let many : length (tree_row t) ≡ count = cc in
    (t, others, ap (λ k. Branch k t others) card-is, many, sym (tails _ _ rest (tree_row t ++ branches_row others) e))

-- nothing but a branch begins branches
pub no_other_first : (bs : Branches) (first : Token) (rest : List Token) → ((card : PatCard) (count : ℕ) → first ≡ token.Branch card count → ⊥) → first ∷ rest ≡ branches_row bs → ⊥
no_other_first NoBranch first rest apart e = cc
no_other_first (Branch c t others) first rest apart e = apart c (length (tree_row t)) (heads first (token.Branch c (length (tree_row t))) rest (tree_row t ++ branches_row others) e)

pub no_branch_left : (bs : Branches) → length (branches_row bs) ≡ 0 → bs ≡ NoBranch
no_branch_left NoBranch e = refl
no_branch_left (Branch c t others) e = absurd (omega (arith, e))

-- a row is cut where its first part ends
pub cut : (front back row : List Token) (count : ℕ) → length front ≡ count → front ++ back ≡ row → (count ≤ length row) × (take count row ≡ front) × (drop count row ≡ back)
cut front back row count long is = (
  omega (arith, long, ap length is, length-append front back),
  ap₂ (λ n l. take n l) (sym long) (sym is) ∙ take-append_seam front back,
  ap₂ (λ n l. drop n l) (sym long) (sym is) ∙ drop-append_seam front back,
)

pub next_child : (cs : List Child) (child : Child) (rest : List Token) → token.Child child.winner child.number ∷ rest ≡ children_row cs →
    (others : List Child) × (child ∷ others ≡ cs) × (children_row others ≡ rest)
next_child [] child rest e = cc
next_child (c ∷ others) child rest e =
    let first : token.Child child.winner child.number ≡ token.Child c.winner c.number = heads _ _ rest (children_row others) e in
    let child-is : child ≡ c = one_child child c first in
    (others, ap (λ k. k ∷ others) child-is, sym (tails _ _ rest (children_row others) e))

pub no_child_first : (cs : List Child) (first : Token) (rest : List Token) → ((child : Child) → first ≡ token.Child child.winner child.number → ⊥) → first ∷ rest ≡ children_row cs → ⊥
no_child_first [] first rest apart e = cc
no_child_first (c ∷ others) first rest apart e = apart c (heads first (token.Child c.winner c.number) rest (children_row others) e)

-- ---- which rows are trees
pub own_row : (card : PatCard) (rest : List Token) → IsTreeRow rest ↔ IsTreeRow (token.Own card ∷ rest)
own_row card rest = (
  λ t. (Own card t.0, ap (λ l. token.Own card ∷ l) t.1),
  λ t. own_first t.0 card rest t.1,
)

pub reply_row : (rest : List Token) → AreBranchesRow rest ↔ IsTreeRow (token.Reply ∷ rest)
reply_row rest = (
  λ b. (Reply b.0, ap (λ l. token.Reply ∷ l) b.1),
  λ t. reply_first t.0 rest t.1,
)

pub leaf_row : (child : Child) (rest : List Token) → AreChildrenRow rest ↔ IsTreeRow (token.Child child.winner child.number ∷ rest)
leaf_row child rest = (
  λ cs. (Leaf (child ∷ cs.0), ap (λ l. token.Child child.winner child.number ∷ l) cs.1),
  λ t.
      let leaf = child_first t.0 child rest t.1 in
      let next = next_child leaf.0 child rest leaf.1 in
      (next.0, sym next.2),
)

pub children_more : (child : Child) (rest : List Token) → AreChildrenRow rest ↔ AreChildrenRow (token.Child child.winner child.number ∷ rest)
children_more child rest = (
  λ cs. (child ∷ cs.0, ap (λ l. token.Child child.winner child.number ∷ l) cs.1),
  λ cs. let next = next_child cs.0 child rest cs.1 in (next.0, sym next.2),
)

-- a branch, what follows it, and the branches after it
pub branch_more : (card : PatCard) (below others : List Token) → (IsTreeRow below × AreBranchesRow others) ↔ AreBranchesRow (token.Branch card (length below) ∷ (below ++ others))
branch_more card below others = (
  λ both. (
    Branch card both.0.0 both.1.0,
    ap₂ (λ b o. token.Branch card (length b) ∷ (b ++ o)) both.0.1 both.1.1,
  ),
  λ bs.
      let found = branch_first bs.0 card (length below) (below ++ others) bs.1 in
      let rest = parted (tree_row found.0) below (branches_row found.1) others found.3 found.4 in
      ((found.0, sym rest.0), (found.1, sym rest.1)),
)

-- ---- rows that grow
-- a branch whose count is written when what follows it stands
pub branch_ended : (before below row : List Token) (card : PatCard) (place : ℕ) → place ≡ length before → row ≡ before ++ token.Branch card 0 ∷ below →
    set row place (token.Branch card (length row - (place + 1))) ≡ before ++ token.Branch card (length below) ∷ below
branch_ended before below row card place at is =
    let count : length row - (place + 1) ≡ length below = omega (arith, at, ap length is, length-append before (token.Branch card 0 ∷ below)) in
    ap₂ (λ l n. set l place (token.Branch card n)) is count
    ∙ (ap (λ p. set (before ++ token.Branch card 0 ∷ below) p (token.Branch card (length below))) at
    ∙ set-append_seam before (token.Branch card 0) below (token.Branch card (length below)))

-- ---- tests
-- what a test tells of the rest it tells of the row
pub told_row : {P : Type 0} {answer : Bool} (Q : List Token → Type 0) (whole row : List Token) → (IsTrue answer ↔ P) → (P ↔ Q whole) → whole ≡ row → IsTrue answer ↔ Q row
told_row Q whole row test alike is =
    (λ yes. subst Q is (alike.0 (test.0 yes)), λ holds. test.1 (alike.1 (subst Q (sym is) holds)))

pub no_rest : (row : List Token) → length row ≡ 0 → row ≡ []
no_rest [] e = refl
no_rest (first ∷ rest) e = absurd (omega (arith, e))

-- a row that begins with a branch
pub branch_row : (row rest below others : List Token) (first : Token) (card : PatCard) (count : ℕ) → row ≡ first ∷ rest → first ≡ token.Branch card count →
    count ≤ length rest → below ≡ take count rest → others ≡ drop count rest → (IsTreeRow below × AreBranchesRow others) ↔ AreBranchesRow row
branch_row row rest below others first card count is of_branch within front back =
    let long : length below ≡ count = ap length front ∙ length-take-le count rest within in
    let parts : below ++ others ≡ rest = ap₂ (λ x y. x ++ y) front back ∙ take-append-drop count rest in
    let whole : token.Branch card (length below) ∷ (below ++ others) ≡ row =
    ap₂ (λ n l. token.Branch card n ∷ l) long parts ∙ begun row rest first (token.Branch card count) is of_branch in
    subst (λ l. (IsTreeRow below × AreBranchesRow others) ↔ AreBranchesRow l) whole (branch_more card below others)

-- ---- branches that are given as a list
-- one more branch
pub branches_more : (branches : List (PatCard × TrickTree)) (card : PatCard) (below : TrickTree) →
    branches_row (branches_of (branches ++ (card, below) ∷ [])) ≡ branches_row (branches_of branches) ++ one_branch_row card below
branches_more [] card below = ap (λ l. token.Branch card (length (tree_row below)) ∷ l) (append-nil (tree_row below))
branches_more (first ∷ rest) card below =
    ap (λ l. token.Branch first.0 (length (tree_row first.1)) ∷ l)
    (ap (λ l. tree_row first.1 ++ l) (branches_more rest card below)
    ∙ sym (append_assoc (tree_row first.1) (branches_row (branches_of rest)) (one_branch_row card below)))

-- a row that has grown by the first branches grows by the next one
pub branch_pushed : (before row grown : List Token) (branches : List (PatCard × TrickTree)) (i : ℕ) (branch : PatCard × TrickTree) →
    i < length branches → branch ≡ get_or branches i branch → row ≡ before ++ branches_row (branches_of (take i branches)) →
    grown ≡ row ++ one_branch_row branch.0 branch.1 → grown ≡ before ++ branches_row (branches_of (take (i + 1) branches))
branch_pushed before row grown branches i branch within is so_far more =
    let last = one_branch_row branch.0 branch.1 in
    let first = branches_row (branches_of (take i branches)) in
    let taken : take (i + 1) branches ≡ take i branches ++ branch ∷ [] =
    take_more branches i branch within ∙ ap (λ b. take i branches ++ b ∷ []) (sym is) in
    let rows : branches_row (branches_of (take (i + 1) branches)) ≡ first ++ last =
    ap (λ l. branches_row (branches_of l)) taken ∙ branches_more (take i branches) branch.0 branch.1 in
    more ∙ (ap (λ l. l ++ last) so_far ∙ (append_assoc before first last ∙ ap (λ l. before ++ l) (sym rows)))

-- a row that was empty, and then got a token and others
pub begun_with : (empty one row others added : List Token) (first : Token) → empty ≡ [] → one ≡ empty ++ first ∷ [] →
    others ≡ added → row ≡ one ++ others → row ≡ first ∷ added
begun_with empty one row others added first none is are all =
    all ∙ ap₂ (λ x y. x ++ y) (is ∙ ap (λ l. l ++ first ∷ []) none) are
