-- Nodes are found again from themselves without their trees, and the rows of those.
use Rattle.std.proofs.Common.{◌≡◌, ◌↔◌, ℕ, ◌+◌, ◌≤◌, List, [], ◌∷◌, ◌++◌, map, take, drop, length, All, Result, Ok, Err, refl, sym, ◌∙◌, ap, ap₂, subst, arith, append-nil, append_assoc, length-append}
use Rattle.std.proofs.lemmas.List.{map-append, take-take}
use Rattle.std.proofs.lemmas.List.Elements.{All-push}
use Rattle.std.proofs.Math.Seq.{drop-append_seam, take-append_seam}
use Rattle.std.specs.Prelude.{OnOk}
use Rattle.certificate_graph.specs.declared.nodes.Node.{Node}
use Rattle.certificate_graph.specs.declared.bare_nodes.BareNode.{BareNode}
use Rattle.certificate_graph.specs.declared.rows.Token.{Token}
use Rattle.certificate_graph.specs.BareNodes.{bare, trees_row, IsWithRow, AreOf, SomeAreOf, Gets, Holds, ReadsNode}
use Rattle.certificate_graph.specs.Graphs.{IsNode, NamesBelow}
use Rattle.certificate_graph.specs.RowNames.{NamesLess}
use Rattle.certificate_graph.specs.Texts.{nodes_text}
use Rattle.certificate_graph.specs.OneTree.{parted, same_tree}
use Rattle.certificate_graph.specs.Rows.{tree_row}
use Rattle.certificate_graph.specs.Trees.{TrickTree}
use Rattle.certificate_graph.proofs.NameLemmas.{names_by_row}
use Rattle.certificate_graph.proofs.RowLemmas.{cut}
use Rattle.certificate_graph.proofs.TextParts.{nodes-more}

same_parts : (x y : Node) → x.pattern ≡ y.pattern → x.lead ≡ y.lead → x.need ≡ y.need → x.tree ≡ y.tree → x ≡ y
same_parts x y pattern lead need tree =
    ap₂ (λ p l. record { pattern = p; lead = l; need = x.need; tree = x.tree }) pattern lead
    ∙ ap₂ (λ n t. record { pattern = y.pattern; lead = y.lead; need = n; tree = t }) need tree

same_node : (x y : Node) → bare x ≡ bare y → x.tree ≡ y.tree → x ≡ y
same_node x y e tree = same_parts x y (ap (λ b. b.pattern) e) (ap (λ b. b.lead) e) (ap (λ b. b.need) e) tree

-- a node that was made of this one without its tree, and of the row of its tree
pub made_again : (said : BareNode) (made node : Node) (row : List Token) → IsWithRow said row made → said ≡ bare node → row ≡ tree_row node.tree → made ≡ node
made_again said made node row with is of_tree =
    same_parts made node (with.pattern ∙ ap (λ b. b.pattern) is) (with.lead ∙ ap (λ b. b.lead) is) (with.need ∙ ap (λ b. b.need) is)
    (same_tree made.tree node.tree (with.tree ∙ of_tree))

pub same_nodes : (m n : List Node) → map bare m ≡ map bare n → trees_row m ≡ trees_row n → m ≡ n
same_nodes [] [] e r = refl
same_nodes [] (y ∷ ys) e r = cc
same_nodes (x ∷ xs) [] e r = cc
same_nodes (x ∷ xs) (y ∷ ys) e r =
    let first : bare x ≡ bare y = cc in
    let rest : map bare xs ≡ map bare ys = cc in
    let long : length (tree_row x.tree) ≡ length (tree_row y.tree) = ap (λ b. b.count) first in
    let parts = parted (tree_row x.tree) (tree_row y.tree) (trees_row xs) (trees_row ys) long r in
    ap₂ (λ z zs. z ∷ zs) (same_node x y first (same_tree x.tree y.tree parts.0)) (same_nodes xs ys rest parts.1)

trees_more : (nodes : List Node) (node : Node) → trees_row (nodes ++ node ∷ []) ≡ trees_row nodes ++ tree_row node.tree
trees_more [] node = append-nil (tree_row node.tree)
trees_more (first ∷ rest) node =
    ap (λ l. tree_row first.tree ++ l) (trees_more rest node) ∙ sym (append_assoc (tree_row first.tree) (trees_row rest) (tree_row node.tree))

-- ---- the first of them
-- the row begins with the tree of the first
pub record FirstApart (first : BareNode) (others : List BareNode) (row : List Token) : Type 0 where
  pub node : Node
  pub rest : List Node
  pub said : first ≡ bare node
  pub others_are : others ≡ map bare rest
  pub parts : tree_row node.tree ++ trees_row rest ≡ row
  pub within : first.count ≤ length row
  pub front : take first.count row ≡ tree_row node.tree
  pub back : drop first.count row ≡ trees_row rest

apart_of : (bares : List BareNode) (first : BareNode) (others : List BareNode) (row : List Token) (nodes : List Node) →
    bares ≡ first ∷ others → AreOf bares row nodes → FirstApart first others row
apart_of bares first others row [] is of = let none : first ∷ others ≡ [] = sym is ∙ of.bare in cc
apart_of bares first others row (node ∷ rest) is of =
    let both : first ∷ others ≡ bare node ∷ map bare rest = sym is ∙ of.bare in
    let said : first ≡ bare node = cc in
    let others_are : others ≡ map bare rest = cc in
    let parted = cut (tree_row node.tree) (trees_row rest) row first.count (sym (ap (λ b. b.count) said)) (sym of.trees) in
    record {
      node = node;
      rest = rest;
      said = said;
      others_are = others_are;
      parts = sym of.trees;
      within = parted.0;
      front = parted.1;
      back = parted.2;
    }

pub first_apart : (bares : List BareNode) (first : BareNode) (others : List BareNode) (row : List Token) →
    bares ≡ first ∷ others → SomeAreOf bares row → FirstApart first others row
first_apart bares first others row is some = apart_of bares first others row some.0 is some.1

-- the node that this is without its tree
abbrev pub with_tree : BareNode → TrickTree → Node
with_tree said tree = record { pattern = said.pattern; lead = said.lead; need = said.need; tree = tree }

pub said_of : (said : BareNode) (tree : TrickTree) → said.count ≡ length (tree_row tree) → said ≡ bare (with_tree said tree)
said_of said tree many = ap (λ n. record { pattern = said.pattern; lead = said.lead; need = said.need; count = n }) many

-- a tree in front of others
pub joined : (bares : List BareNode) (first : BareNode) (others : List BareNode) (row front back : List Token) (tree : TrickTree) (rest : List Node) →
    bares ≡ first ∷ others → front ++ back ≡ row → length front ≡ first.count → front ≡ tree_row tree → AreOf others back rest →
    AreOf bares row (with_tree first tree ∷ rest)
joined bares first others row front back tree rest is parts long of_tree of = record {
  bare = is ∙ ap₂ (λ b l. b ∷ l) (said_of first tree (sym long ∙ ap length of_tree)) of.bare;
  trees = sym parts ∙ ap₂ (λ x y. x ++ y) of_tree of.trees;
}

-- what is so where all went well
pub on_ok : {A E : Type 0} (r : Result A E) (P Q : Type 0) → (P → Q) → OnOk r P → OnOk r Q
on_ok (Ok done) P Q so fact = so fact
on_ok (Err fault) P Q so fact = fact

-- what a longer list keeps at its beginning, a shorter one has there
pub kept_before : (nodes pushed grown : List Node) (node : Node) → pushed ≡ nodes ++ node ∷ [] → take (length pushed) grown ≡ pushed → take (length nodes) grown ≡ nodes
kept_before nodes pushed grown node is kept =
    let longer : length pushed ≡ length nodes + 1 = ap length is ∙ length-append nodes (node ∷ []) in
    sym (take-take (length nodes) (length pushed) grown (omega (arith, longer)))
    ∙ (ap (λ l. take (length nodes) l) (kept ∙ is) ∙ take-append_seam nodes (node ∷ []))

-- ---- nodes in work
pub gets_all : (bares : List BareNode) (row : List Token) (nodes grown all : List Node) → Gets bares row nodes grown → Holds nodes bares row all → grown ≡ all
gets_all bares row nodes grown all gets holds =
    let same : gets.0 ≡ holds.0 = same_nodes gets.0 holds.0 (sym gets.1.bare ∙ holds.1.bare) (sym gets.1.trees ∙ holds.1.trees) in
    gets.2 ∙ (ap (λ l. nodes ++ l) same ∙ sym holds.2)

-- where nothing waits for its tree
pub holds_these : (nodes all : List Node) (bares : List BareNode) (row : List Token) → bares ≡ [] → row ≡ [] → nodes ≡ all → Holds nodes bares row all
holds_these nodes all bares row no_bare no_row same = ([], record { bare = no_bare; trees = no_row }, sym same ∙ sym (append-nil nodes))

-- one more node without its tree
pub holds_more : (nodes : List Node) (bares : List BareNode) (row : List Token) (all : List Node) (said : BareNode) (node : Node) (grown : List Token) →
    said ≡ bare node → grown ≡ row ++ tree_row node.tree → Holds nodes bares row all → Holds nodes (bares ++ said ∷ []) grown (all ++ node ∷ [])
holds_more nodes bares row all said node grown is more holds = (
  holds.0 ++ node ∷ [],
  record {
    bare = ap₂ (λ l b. l ++ b ∷ []) holds.1.bare is ∙ sym (map-append bare holds.0 (node ∷ []));
    trees = more ∙ (ap (λ l. l ++ tree_row node.tree) holds.1.trees ∙ sym (trees_more holds.0 node));
  },
  ap (λ l. l ++ node ∷ []) holds.2 ∙ append_assoc nodes holds.0 (node ∷ []),
)

-- the nodes that are read so far, some of them without their trees
pub record ReadSoFar (count : ℕ) (text rest : List ℕ) (number : ℕ) (nodes : List Node) (bares : List BareNode) (row : List Token) : Type 0 where
  pub read : List Node
  pub holds : Holds nodes bares row read
  pub all : length read ≡ number
  pub each : All (IsNode count) read
  pub is : text ≡ nodes_text read rest

pub none_read : (count : ℕ) (text : List ℕ) (nodes : List Node) (bares : List BareNode) (row : List Token) → nodes ≡ [] → bares ≡ [] → row ≡ [] → ReadSoFar count text text 0 nodes bares row
none_read count text nodes bares row no_node no_bare no_row = record {
  read = [];
  holds = holds_these nodes [] bares row no_bare no_row no_node;
  all = refl;
  each = λ n node within. absurd (omega (arith, within));
  is = refl;
}

-- one more node is read, and then some may get their trees
pub one_read : (count : ℕ) (text rest after : List ℕ) (number : ℕ) (nodes later : List Node) (bares waiting : List BareNode) (row grown left : List Token) (said : BareNode) →
    ReadSoFar count text rest number nodes bares row → ReadsNode count rest row said after grown →
    ((all : List Node) → Holds nodes (bares ++ said ∷ []) grown all → Holds later waiting left all) →
    ReadSoFar count text after (number + 1) later waiting left
one_read count text rest after number nodes later bares waiting row grown left said so_far reads keeps =
    let node = reads.node in
    record {
      read = so_far.read ++ node ∷ [];
      holds = keeps (so_far.read ++ node ∷ []) (holds_more nodes bares row so_far.read said node grown reads.bare reads.tree so_far.holds);
      all = omega (arith, length-append so_far.read (node ∷ []), so_far.all);
      each = All-push (IsNode count) so_far.read node so_far.each reads.is_node;
      is = so_far.is ∙ (ap (nodes_text so_far.read) reads.is ∙ nodes-more so_far.read node after);
    }

-- those without their trees, one more among them, have trees in the row
pub some_wait : (count : ℕ) (text rest after : List ℕ) (number : ℕ) (nodes : List Node) (bares : List BareNode) (row grown : List Token) (said : BareNode) →
    ReadSoFar count text rest number nodes bares row → ReadsNode count rest row said after grown → SomeAreOf (bares ++ said ∷ []) grown
some_wait count text rest after number nodes bares row grown said so_far reads =
    let holds = holds_more nodes bares row so_far.read said reads.node grown reads.bare reads.tree so_far.holds in
    (holds.0, holds.1)

-- the last tokens name what the tree names
pub names_last : (count : ℕ) (row grown part : List Token) (tree : TrickTree) → grown ≡ row ++ tree_row tree → part ≡ drop (length row) grown →
    All (NamesLess count) part ↔ NamesBelow count tree
names_last count row grown part tree more is =
    let last : part ≡ tree_row tree = is ∙ (ap (λ l. drop (length row) l) more ∙ drop-append_seam row (tree_row tree)) in
    subst (λ l. All (NamesLess count) l ↔ NamesBelow count tree) (sym last) (names_by_row count tree)
