-- Pattern cards that were played, and those that led to a place of the tree: the same, or higher ones in runs.
use Rattle.std.proofs.Common.{◌≡◌, ℕ, ◌<◌, List, [], ◌∷◌, ◌++◌, length, get_or, Option, Some, ◌⊎◌, inl, inr, refl, sym, ◌∙◌, ap, subst, arith}
use Rattle.std.proofs.lemmas.Bool.{cases_lt}
use Rattle.std.proofs.lemmas.List.{length-append}
use Rattle.std.proofs.Math.Seq.{get_or-append_seam}
use Rattle.std.proofs.Math.ListN.{get_or-append}
use Rattle.cards.specs.declared.suits.Suit.{Suit}
use Rattle.cards.specs.declared.suits.Suit.TheVariants.{Spades}
use Rattle.cards.specs.declared.seats.Seat.{Seat}
use Rattle.cards.specs.Seats.{seat_in_place}
use Rattle.patterns.specs.Shapes.{Shape}
use Rattle.pattern_step.specs.declared.pat_cards.PatCard.{PatCard}
use Rattle.pattern_step.specs.declared.pat_cards.PatCard.TheVariants.{Top}
use Rattle.pattern_step.specs.PatCards.{suit_of_card, IsLegal}
use Rattle.pattern_step.specs.Tricks.{suit_led_by}
use Rattle.pattern_step.specs.Runs.{IsLowerInRun, IsAlikeIn}
use Rattle.certificate_graph.specs.declared.nodes.Node.{Node}
use Rattle.certificate_graph.specs.declared.versions.Version.{Version}
use Rattle.certificate_graph.specs.declared.versions.Version.TheVariants.{One, Two}
use Rattle.certificate_graph.specs.Trees.{Branches}
use Rattle.checker.specs.Places.{HasBranchOf}
use Rattle.checker.specs.Steps.{player_after, MayComeNext, IsAnswered, BeginLine}
use Rattle.checker.proofs.Lines.{one_more_begins}

-- the cards played, and a line of the tree that stands for them
pub record StandsForLine (node : Node) (pats line : List PatCard) : Type 0 where
  pub as_long : length line ≡ length pats
  pub played : BeginLine node pats
  pub led : BeginLine node line
  pub alike : (place : ℕ) → place < length pats → IsAlikeIn node.pattern node.lead pats line place

-- cards that begin a line stand for themselves
pub stands_for_itself : (node : Node) (cards : List PatCard) → BeginLine node cards → StandsForLine node cards cards
stands_for_itself node cards begun = record { as_long = refl; played = begun; led = begun; alike = λ place less. inl refl }

-- the suits led are one
same_led : (node : Node) (pats line : List PatCard) → length line ≡ length pats → ((place : ℕ) → place < length pats → IsAlikeIn node.pattern node.lead pats line place) → suit_led_by pats ≡ suit_led_by line
same_led node [] [] as_long alike = refl
same_led node (pat ∷ pats) [] as_long alike = absurd (omega (arith, as_long))
same_led node [] (card ∷ line) as_long alike = absurd (omega (arith, as_long))
same_led node (pat ∷ pats) (card ∷ line) as_long alike = elim (alike 0 (omega arith)) [
  | inl same ↦ ap (λ (c : PatCard). Some (suit_of_card c)) same
  | inr run ↦ ap (λ (c : PatCard). Some (suit_of_card c)) run.is_last ∙ sym (ap (λ (c : PatCard). Some (suit_of_card c)) run.is_first)
]

-- so the same cards may come next
next_to_line : (node : Node) (pats line : List PatCard) (card : PatCard) → length line ≡ length pats → suit_led_by pats ≡ suit_led_by line → MayComeNext node pats card → MayComeNext node line card
next_to_line node pats line card as_long led may =
    subst (λ (n : ℕ). IsLegal node.pattern (seat_in_place node.lead n) (suit_led_by line) card) (sym as_long)
    (subst (λ (suit : Option Suit). IsLegal node.pattern (player_after node pats) suit card) led may)

pub comes_on_line : (node : Node) (pats line : List PatCard) (card : PatCard) → StandsForLine node pats line → MayComeNext node pats card → MayComeNext node line card
comes_on_line node pats line card lines may = next_to_line node pats line card lines.as_long (same_led node pats line lines.as_long lines.alike) may

pub comes_in_play : (node : Node) (pats line : List PatCard) (card : PatCard) → StandsForLine node pats line → MayComeNext node line card → MayComeNext node pats card
comes_in_play node pats line card lines may = next_to_line node line pats card (sym lines.as_long) (sym (same_led node pats line lines.as_long lines.alike)) may

-- the card of the line that answers a card
pub record AnsweredBy (shape : Shape) (seat : Seat) (branches : Branches) (card : PatCard) : Type 0 where
  pub higher : PatCard
  pub alike : (card ≡ higher) ⊎ IsLowerInRun shape seat card higher
  pub branch : HasBranchOf branches higher

pub answered_by : (version : Version) (shape : Shape) (seat : Seat) (branches : Branches) (card : PatCard) → IsAnswered version shape seat branches card → AnsweredBy shape seat branches card
answered_by One shape seat branches card has = record { higher = card; alike = inl refl; branch = has }
answered_by Two shape seat branches card (inl has) = record { higher = card; alike = inl refl; branch = has }
answered_by Two shape seat branches card (inr (higher, run, has)) = record { higher = higher; alike = inr run; branch = has }

-- one card more
pub one_more_stands : (node : Node) (pats line : List PatCard) (pat card : PatCard) → StandsForLine node pats line → MayComeNext node pats pat → MayComeNext node line card →
    (pat ≡ card) ⊎ IsLowerInRun node.pattern (player_after node line) pat card → StandsForLine node (pats ++ pat ∷ []) (line ++ card ∷ [])
one_more_stands node pats line pat card lines may may' same = record {
  as_long = omega (arith, lines.as_long, length-append pats (pat ∷ []), length-append line (card ∷ []));
  played = one_more_begins node pats pat lines.played may;
  led = one_more_begins node line card lines.led may';
  alike = λ place less. elim (cases_lt place (length pats)) [
    | inl before ↦ (let before' : place < length line = omega (arith, lines.as_long) in
        rw (get_or-append pats (pat ∷ []) (Top Spades 0) place before, get_or-append line (card ∷ []) (Top Spades 0) place before') (lines.alike place before))
    | inr last ↦ (let is : place ≡ length line = omega (arith, lines.as_long, length-append pats (pat ∷ [])) in
        let pat_is : get_or (pats ++ pat ∷ []) (length line) (Top Spades 0) ≡ pat = ap (λ n. get_or (pats ++ pat ∷ []) n (Top Spades 0)) lines.as_long ∙ get_or-append_seam pats pat [] (Top Spades 0) in
        rw (is, pat_is, get_or-append_seam line card [] (Top Spades 0)) same)
  ];
}
