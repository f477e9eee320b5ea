-- Trees and branches at the beginning of a text.
use Rattle.std.proofs.Common.{◌≡◌, ℕ, ◌+◌, ◌-◌, ◌<◌, ◌≤◌, List, ◌∷◌, sym, ◌∙◌, ap, subst, arith}
use Rattle.pattern_step.specs.declared.pat_cards.PatCard.{PatCard}
use Rattle.certificate_graph.specs.Trees.{TrickTree, Own, Reply, Leaf, Branches, NoBranch, Branch}
use Rattle.certificate_graph.specs.Graphs.{card_place, IsCard, HaveForm}
use Rattle.certificate_graph.specs.Texts.{card_text, tree_text, branches_text}
use Rattle.certificate_graph.specs.Readings.{Begins, Lacks, LacksChildren, BeginsBranch, LacksBranch, BeginsBranches, LacksBranches, BeginsTree, LacksTree, BeginsLeaf, LacksLeaf, BeginsOwn, LacksOwn, BeginsReply, LacksReply}
use Rattle.certificate_graph.proofs.OneSpelling.{heads, tails, one_card}
use Rattle.certificate_graph.proofs.OneNode.{card_first, one_tree}
use Rattle.certificate_graph.proofs.LeafLemmas.{LacksByte}

-- ---- what a tree lacks that begins otherwise
pub no_leaf : (text : List ℕ) → LacksChildren text → LacksLeaf text
no_leaf text lacks (Own card below) rest begins = begins
no_leaf text lacks (Reply branches) rest begins = begins
no_leaf text lacks (Leaf children) rest begins = lacks children rest begins

pub no_reply : (room : ℕ) (text : List ℕ) → LacksBranches room 0 text → LacksReply room text
no_reply room text lacks (Own card below) rest begins = begins
no_reply room text lacks (Reply branches) rest begins = lacks branches rest begins
no_reply room text lacks (Leaf children) rest begins = begins

pub no_own : (room : ℕ) (text : List ℕ) → LacksBranch room text → LacksOwn room text
no_own room text lacks (Own card below) rest begins = lacks card below rest begins
no_own room text lacks (Reply branches) rest begins = begins
no_own room text lacks (Leaf children) rest begins = begins

-- ---- leaves
pub leaf_tree : (room : ℕ) (text after : List ℕ) (tree : TrickTree) (rest : List ℕ) → text ≡ 123 ∷ after → BeginsLeaf after tree rest → BeginsTree room text tree rest
leaf_tree room text after (Own card below) rest e begins = absurd begins
leaf_tree room text after (Reply branches) rest e begins = absurd begins
leaf_tree room text after (Leaf children) rest e begins = record {
  good = record { form = begins.rise; numbers = begins.short };
  is = e ∙ ap (λ t. 123 ∷ t) begins.is;
}

pub lacks_leaf : (room : ℕ) (text after : List ℕ) → text ≡ 123 ∷ after → LacksLeaf after → LacksTree room text
lacks_leaf room text after e lacks (Own card below) rest begins = let first = card_first card 123 _ after (sym begins.is ∙ e) in omega arith
lacks_leaf room text after e lacks (Reply branches) rest begins = let first = heads _ _ _ _ (sym begins.is ∙ e) in omega arith
lacks_leaf room text after e lacks (Leaf children) rest begins =
    lacks (Leaf children) rest (record { rise = begins.good.form; short = begins.good.numbers; is = tails _ _ _ _ (sym e ∙ begins.is) })

pub no_room : (room : ℕ) (text : List ℕ) → LacksByte 123 text → room ≡ 0 → LacksTree room text
no_room room text brace e (Own card below) rest begins = omega (arith, begins.good.form.0)
no_room room text brace e (Reply branches) rest begins = omega (arith, begins.good.form.0)
no_room room text brace e (Leaf children) rest begins = brace _ begins.is

-- ---- the opponents' cards
pub reply_tree : (room : ℕ) (text after : List ℕ) (tree : TrickTree) (rest : List ℕ) → 0 < room → text ≡ 40 ∷ after → BeginsReply (room - 1) after tree rest → BeginsTree room text tree rest
reply_tree room text after (Own card below) rest some e begins = absurd begins
reply_tree room text after (Reply branches) rest some e begins = record {
  good = record { form = (some, begins.form); numbers = begins.numbers };
  is = e ∙ ap (λ t. 40 ∷ t) begins.is;
}
reply_tree room text after (Leaf children) rest some e begins = absurd begins

pub lacks_reply : (room : ℕ) (text after : List ℕ) → text ≡ 40 ∷ after → LacksReply (room - 1) after → LacksTree room text
lacks_reply room text after e lacks (Own card below) rest begins = let first = card_first card 40 _ after (sym begins.is ∙ e) in omega arith
lacks_reply room text after e lacks (Reply branches) rest begins =
    lacks (Reply branches) rest (record { form = begins.good.form.1; numbers = begins.good.numbers; is = tails _ _ _ _ (sym e ∙ begins.is) })
lacks_reply room text after e lacks (Leaf children) rest begins = let first = heads _ _ _ _ (sym begins.is ∙ e) in omega arith

-- ---- a card and what follows it
pub no_branch_card : (room : ℕ) (text : List ℕ) → Lacks IsCard card_text text → LacksBranch room text
no_branch_card room text lacks card below rest begins = lacks card _ begins.of_pack begins.is

pub no_branch_tree : (room : ℕ) (text : List ℕ) (card : PatCard) (after : List ℕ) → Begins IsCard card_text text card after → LacksTree room after → LacksBranch room text
no_branch_tree room text card after first lacks other below rest begins =
    lacks below rest (record { good = begins.form; is = (one_card card other after _ first.good begins.of_pack (sym first.is ∙ begins.is)).1 })

pub branch_begun : (room : ℕ) (text : List ℕ) (card : PatCard) (after : List ℕ) (below : TrickTree) (rest : List ℕ) → Begins IsCard card_text text card after → BeginsTree room after below rest → BeginsBranch room text card below rest
branch_begun room text card after below rest first tree = record {
  of_pack = first.good;
  form = tree.good;
  is = first.is ∙ ap (card_text card) tree.is;
}

-- ---- a card of the side
pub own_tree : (room : ℕ) (text : List ℕ) (tree : TrickTree) (rest : List ℕ) → 0 < room → BeginsOwn (room - 1) text tree rest → BeginsTree room text tree rest
own_tree room text (Own card below) rest some begins = record {
  good = record { form = (some, begins.of_pack, begins.form.form); numbers = begins.form.numbers };
  is = begins.is;
}
own_tree room text (Reply branches) rest some begins = absurd begins
own_tree room text (Leaf children) rest some begins = absurd begins

pub lacks_own : (room : ℕ) (text : List ℕ) → LacksByte 123 text → LacksByte 40 text → LacksOwn (room - 1) text → LacksTree room text
lacks_own room text brace bracket lacks (Own card below) rest begins =
    lacks (Own card below) rest (record {
      of_pack = begins.good.form.1;
      form = record { form = begins.good.form.2; numbers = begins.good.numbers };
      is = begins.is;
    })
lacks_own room text brace bracket lacks (Reply branches) rest begins = bracket _ begins.is
lacks_own room text brace bracket lacks (Leaf children) rest begins = brace _ begins.is

-- ---- branches
first_branch : (room least : ℕ) (text : List ℕ) (c : PatCard) (t : TrickTree) (after : List ℕ) (d : PatCard) (u : TrickTree) (us : Branches) (rest : List ℕ)
    → BeginsBranch room text c t after → BeginsBranches room least text (Branch d u us) rest → (c ≡ d) × (after ≡ branches_text us rest)
first_branch room least text c t after d u us rest first begins =
    let card = one_card c d _ _ first.of_pack begins.form.0 (sym first.is ∙ begins.is) in
    let below = one_tree t u room room _ _ first.form.form begins.form.2 first.form.numbers begins.numbers.0 card.1 in
    (card.0, below.1)

pub lacks_by_first : (room least : ℕ) (text : List ℕ) → LacksByte 41 text → LacksBranch room text → LacksBranches room least text
lacks_by_first room least text closing lacks NoBranch rest begins = closing rest begins.is
lacks_by_first room least text closing lacks (Branch card below more) rest begins =
    lacks card below (branches_text more rest) (record {
      of_pack = begins.form.0;
      form = record { form = begins.form.2; numbers = begins.numbers.0 };
      is = begins.is;
    })

pub lacks_by_place : (room least : ℕ) (text : List ℕ) (card : PatCard) (below : TrickTree) (after : List ℕ) → LacksByte 41 text → BeginsBranch room text card below after → card_place card < least → LacksBranches room least text
lacks_by_place room least text card below after closing first low NoBranch rest begins = closing rest begins.is
lacks_by_place room least text card below after closing first low (Branch d u us) rest begins =
    let same = first_branch room least text card below after d u us rest first begins in
    let place : card_place card ≡ card_place d = ap (λ (k : PatCard). card_place k) same.0 in
    omega (arith, begins.form.1)

pub lacks_by_card : (room least : ℕ) (text : List ℕ) (card : PatCard) (after : List ℕ) → LacksByte 41 text → Begins IsCard card_text text card after → card_place card < least → LacksBranches room least text
lacks_by_card room least text card after closing first low NoBranch rest begins = closing rest begins.is
lacks_by_card room least text card after closing first low (Branch d u us) rest begins =
    let same = one_card card d after _ first.good begins.form.0 (sym first.is ∙ begins.is) in
    let place : card_place card ≡ card_place d = ap (λ (k : PatCard). card_place k) same.0 in
    omega (arith, begins.form.1)

pub lacks_by_rest : (room least : ℕ) (text : List ℕ) (card : PatCard) (below : TrickTree) (after : List ℕ) → LacksByte 41 text → BeginsBranch room text card below after → LacksBranches room (card_place card + 1) after → LacksBranches room least text
lacks_by_rest room least text card below after closing first lacks NoBranch rest begins = closing rest begins.is
lacks_by_rest room least text card below after closing first lacks (Branch d u us) rest begins =
    let same = first_branch room least text card below after d u us rest first begins in
    let place : card_place d + 1 ≡ card_place card + 1 = ap (λ (k : PatCard). card_place k + 1) (sym same.0) in
    lacks us rest (record {
      form = subst (λ (n : ℕ). HaveForm room n us) place begins.form.3;
      numbers = begins.numbers.1;
      is = same.1;
    })

pub branches_read : (room least : ℕ) (text : List ℕ) (card : PatCard) (below : TrickTree) (after : List ℕ) (more : Branches) (rest : List ℕ) → BeginsBranch room text card below after → least ≤ card_place card → BeginsBranches room (card_place card + 1) after more rest → BeginsBranches room least text (Branch card below more) rest
branches_read room least text card below after more rest first high begins = record {
  form = (first.of_pack, high, first.form.form, begins.form);
  numbers = (first.form.numbers, begins.numbers);
  is = first.is ∙ ap (λ t. card_text card (tree_text below t)) begins.is;
}
