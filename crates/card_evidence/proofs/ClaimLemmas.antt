-- The text of claims has one reading.
use Rattle.std.proofs.Common.{◌≡◌, ◌≢◌, ℕ, ◌<◌, ◌≤◌, List, [], ◌∷◌, ◌++◌, length, codes, Option, None, Some, Result, Ok, Err, Bor, refl, sym, ◌∙◌, ap, arith, append_assoc, ◌-◌}
use Rattle.std.specs.Prelude.{IfOk}
use Rattle.std.specs.List.{AllByRecursion}
use Rattle.std.specs.Fmt.{decimal}
use Rattle.std.proofs.lemmas.List.{append_cancel_left}
use Rattle.cards.specs.declared.pack.Card.{Card}
use Rattle.cards.specs.CardTexts.{card_text}
use Rattle.certificate_graph.specs.declared.nodes.Node.{Node}
use Rattle.certificate_graph.specs.declared.card_claims.CardClaim.{CardClaim}
use Rattle.certificate_graph.specs.Graphs.{greatest_count}
use Rattle.certificate_graph.specs.Texts.{node_text}
use Rattle.certificate_graph.proofs.OneNode.{one_node, seat_first}
use Rattle.certificate_graph.proofs.OneAnswer.{node_form}
use Rattle.card_evidence.specs.Sections.{IsBegun, IsKeptClaim, AreKeptClaims}
use Rattle.card_evidence.specs.SectionTexts.{line_text, begun_text, claim_text, claims_text, counted_text}
use Rattle.card_evidence.specs.Readings.{LacksClaims, AddsOrLacksClaims}
use Rattle.card_evidence.proofs.CardLemmas.{one_card}
use Rattle.card_evidence.proofs.LineLemmas.{one_number_line}

-- ---- begun nodes
no_seat : (node : Node) (a b : List ℕ) → codes "-\n" ++ a ≡ node_text node b → ⊥
no_seat node a b e = let first = seat_first node.lead 45 _ (10 ∷ a) (sym e) in let low = first.0 in omega arith

pub one_begun : (x y : Option Node) (a b : List ℕ) → IsBegun x → IsBegun y → begun_text x a ≡ begun_text y b → (x ≡ y) × (a ≡ b)
one_begun None None a b p q e = (refl, append_cancel_left (codes "-\n") a b e)
one_begun None (Some node) a b p q e = absurd (no_seat node a b e)
one_begun (Some node) None a b p q e = absurd (no_seat node b a (sym e))
one_begun (Some node) (Some other) a b p q e =
    let same = one_node node other a b (node_form greatest_count node (omega arith) p) (node_form greatest_count other (omega arith) q) e in
    (ap Some same.0, same.1)

-- ---- one claim
-- what follows each part of a claim's text
abbrev pub after_tricks : CardClaim → List ℕ → List ℕ
after_tricks claim rest = begun_text claim.player (begun_text claim.others rest)

abbrev pub after_card : CardClaim → List ℕ → List ℕ
after_card claim rest = line_text (codes " ") (decimal claim.tricks) (after_tricks claim rest)

module _ (claim : CardClaim) (rest text : List ℕ) (is : IsKeptClaim claim) (e : text ≡ claim_text claim rest) where
  pub card_part : (card : Card) (after : List ℕ) → text ≡ card_text card ++ after → (card ≡ claim.card) × (after ≡ after_card claim rest)
  card_part card after cut = one_card card claim.card after (after_card claim rest) (sym cut ∙ e)

  pub tricks_part : (card : Card) (after next : List ℕ) (n : ℕ) → text ≡ card_text card ++ after → (n ≤ 13) × (after ≡ line_text (codes " ") (decimal n) next) → (n ≡ claim.tricks) × (next ≡ after_tricks claim rest)
  tricks_part card after next n cut read =
      one_number_line (codes " ") n claim.tricks next (after_tricks claim rest) read.0 is.few (sym read.1 ∙ (card_part card after cut).1)

  pub player_part : (card : Card) (after next last : List ℕ) (n : ℕ) (begun : Option Node) → text ≡ card_text card ++ after → (n ≤ 13) × (after ≡ line_text (codes " ") (decimal n) next)
      → IsBegun begun × (next ≡ begun_text begun last) → (begun ≡ claim.player) × (last ≡ begun_text claim.others rest)
  player_part card after next last n begun cut read node =
      one_begun begun claim.player last (begun_text claim.others rest) node.0 is.player (sym node.1 ∙ (tricks_part card after next n cut read).1)

abbrev claim_of : Card → ℕ → Option Node → Option Node → CardClaim
claim_of card tricks player others = record { card = card; tricks = tricks; player = player; others = others }

pub one_claim : (c d : CardClaim) (a b : List ℕ) → IsKeptClaim c → IsKeptClaim d → claim_text c a ≡ claim_text d b → (c ≡ d) × (a ≡ b)
one_claim c d a b p q e =
    let card = card_part d b (claim_text c a) q e c.card (after_card c a) refl in
    let tricks = tricks_part d b (claim_text c a) q e c.card (after_card c a) (after_tricks c a) c.tricks refl (p.few, refl) in
    let player = player_part d b (claim_text c a) q e c.card (after_card c a) (after_tricks c a) (begun_text c.others a) c.tricks c.player refl (p.few, refl) (p.player, refl) in
    let others = one_begun c.others d.others a b p.others q.others player.1 in (
      ap (λ x. claim_of x c.tricks c.player c.others) card.0
          ∙ (ap (λ x. claim_of d.card x c.player c.others) tricks.0
          ∙ (ap (λ x. claim_of d.card d.tricks x c.others) player.0
          ∙ ap (λ x. claim_of d.card d.tricks d.player x) others.0)),
      others.1,
    )

-- ---- claims
pub one_claims : (cs ds : List CardClaim) (a b : List ℕ) → AllByRecursion IsKeptClaim cs → AllByRecursion IsKeptClaim ds → length cs ≡ length ds → claims_text cs a ≡ claims_text ds b → (cs ≡ ds) × (a ≡ b)
one_claims [] [] a b p q n e = (refl, e)
one_claims [] (d ∷ ds) a b p q n e = absurd (omega arith)
one_claims (c ∷ cs) [] a b p q n e = absurd (omega arith)
one_claims (c ∷ cs) (d ∷ ds) a b p q n e =
    let first = one_claim c d (claims_text cs a) (claims_text ds b) p.0 q.0 e in
    let next = one_claims cs ds a b p.1 q.1 (omega arith) first.1 in
    (ap (λ x. x ∷ cs) first.0 ∙ ap (λ xs. d ∷ xs) next.0, next.1)

pub one_counted : (cs ds : List CardClaim) (a b : List ℕ) → AreKeptClaims cs → AreKeptClaims ds → counted_text cs a ≡ counted_text ds b → (cs ≡ ds) × (a ≡ b)
one_counted cs ds a b p q e =
    let count = one_number_line (codes "claims ") (length cs) (length ds) (claims_text cs a) (claims_text ds b) p.few q.few e in
    one_claims cs ds a b p.each q.each count.0 count.1

-- ---- what is read of the texts of claims
-- no claim is at the beginning, and some are looked for
pub no_claims : (count : ℕ) (text : List ℕ) → 0 < count → ((claim : CardClaim) (rest : List ℕ) → IsKeptClaim claim → text ≢ claim_text claim rest) → LacksClaims count text
no_claims count text some none [] rest long each e = omega arith
no_claims count text some none (claim ∷ more) rest long each e = none claim (claims_text more rest) each.0 e

-- after the first of them was read
module _ (count : ℕ) (text after : List ℕ) (claim : CardClaim) (some : 0 < count) (read : IsKeptClaim claim × (text ≡ claim_text claim after)) where
  pub claims_read : (old pushed new : List CardClaim) (r : Option (Bor (List ℕ))) → pushed ≡ old ++ claim ∷ [] → AddsOrLacksClaims (count - 1) after pushed new r → AddsOrLacksClaims count text old new r
  claims_read old pushed new None push none = lacks none
    where
      lacks : LacksClaims (count - 1) after → LacksClaims count text
      lacks others [] rest long each e = omega arith
      lacks others (first ∷ more) rest long each e =
          others more rest (omega arith) each.1 (one_claim claim first after (claims_text more rest) read.0 each.0 (sym read.1 ∙ e)).1
  claims_read old pushed new (Some rest) push adds = record {
    more = claim ∷ adds.more;
    count_is = (let long = adds.count_is in omega arith);
    each = (read.0, adds.each);
    text_is = read.1 ∙ ap (claim_text claim) adds.text_is;
    added = adds.added ∙ (ap (λ (l : List CardClaim). l ++ adds.more) push ∙ append_assoc old (claim ∷ []) adds.more);
  }

-- the same, whether or not memory ran out
pub unless_err : {A E : Type 0} {P Q : A → Type 0} (r : Result A E) → ((a : A) → P a → Q a) → IfOk r P → IfOk r Q
unless_err (Ok a) more p = more a p
unless_err (Err fault) more p = p

pub some_claims : (claims : List CardClaim) → claims ≢ [] → 0 < length claims
some_claims [] some = absurd (some refl)
some_claims (claim ∷ more) some = omega arith
