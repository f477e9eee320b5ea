-- What a trick leaves of a layout and of the pattern that it matches.
use Rattle.std.proofs.Common.{◌≡◌, ◌+◌, ◌<◌, List, [], ◌++◌, length, get_or, Some, refl, sym, ◌∙◌, ap, append_assoc, arith}
use Rattle.std.proofs.lemmas.List.{get_or_default, append-nil}
use Rattle.std.proofs.lemmas.List.Elements.{Contains-get_or}
use Rattle.cards.specs.declared.pack.Card.{Card}
use Rattle.cards.specs.declared.pack.Rank.TheVariants.{Two}
use Rattle.cards.specs.declared.suits.Suit.TheVariants.{Spades}
use Rattle.cards.specs.declared.seats.Seat.{Seat}
use Rattle.cards.specs.declared.seats.Seat.TheVariants.{North}
use Rattle.cards.specs.Pack.{card_of}
use Rattle.cards.specs.Seats.{seat_in_place, seat_number, place_of}
use Rattle.cards.specs.Deal.{Deal, size_of, IsLayout}
use Rattle.patterns.specs.Shapes.{Shape, suit_of, hand_size, IsPattern, Covers}
use Rattle.patterns.specs.Holders.{Matches}
use Rattle.patterns.proofs.CompletionLaws.{Matches-completed}
use Rattle.pattern_step.specs.declared.pat_cards.PatCard.{PatCard}
use Rattle.pattern_step.specs.Tricks.{AreLegalInTurn, IsLeft}
use Rattle.pattern_step.specs.LayoutCards.{real_by, ArePlayed, IsWithout}
use Rattle.pattern_step.proofs.TurnLaws.{place_of-lt, seat_in_place-place_of, place_of-seat_in_place}
use Rattle.pattern_step.proofs.LayoutLaws.{hand_size-dealt, hand_size-covered}
use Rattle.pattern_step.proofs.LeftLaws.{Matches-left}
use Rattle.pattern_step.proofs.TrickLaws.{hand_size-left}
use Rattle.play_rules.specs.Left.{left_of}
use Rattle.play_rules.proofs.LeftLaws.{left_of-played, left_of-unplayed}
use Rattle.certificate_graph.specs.declared.nodes.Node.{Node}
use Rattle.certificate_graph.specs.declared.versions.Version.{Version}
use Rattle.certificate_graph.specs.declared.versions.Version.TheVariants as version
use Rattle.certificate_graph.specs.Graphs.{GraphShape}
use Rattle.checker.specs.Steps.{rest_read, CoversRest}
use Rattle.checker.proofs.TrickCards.{real_in_place, Mirrors}

-- each seat played a card of its own, for which its pattern card stands
are_played : (graph : GraphShape) (node : Node) (deal : Deal) (pats : List PatCard) (real : List Card) → length real ≡ 4 → Mirrors graph node deal pats real → ArePlayed node.pattern deal node.lead pats real
are_played graph node deal pats real four mirrors =
    let within : (seat : Seat) → place_of node.lead seat < length real = λ seat. omega (arith, four, place_of-lt node.lead seat) in
    record {
      held = λ seat. mirrors.dealt (place_of node.lead seat) (within seat) ∙ ap Some (seat_in_place-place_of node.lead seat);
      stands = λ seat. mirrors.stand (place_of node.lead seat) (within seat);
    }

-- the layout left is the one without these cards
is_without : (leader : Seat) (deal : Deal) (real : List Card) → length real ≡ 4 → IsWithout deal leader real (left_of deal real)
is_without leader deal real four =
    let two = card_of Spades Two in
    record {
      gone = λ seat. left_of-played deal real (real_by leader real seat) (Contains-get_or real (place_of leader seat) two (omega (arith, four, place_of-lt leader seat)));
      stays = λ card other. left_of-unplayed deal real card (λ (place, less, is).
          let seat = seat_in_place leader place in
          let here : real_by leader real seat ≡ real_in_place real place = ap (real_in_place real) (place_of-seat_in_place leader place (omega (arith, four, less))) in
          other seat (sym (here ∙ (get_or_default real place two card less ∙ is))));
    }

-- what is left covers itself, and a pattern that covers what a layout matches is matched too
covers_itself : (rest : Shape) → Covers rest rest
covers_itself rest suit = record { lens = refl; owners = ([], sym (append-nil (suit_of rest suit).owners)) }

covered_matches : (pattern rest : Shape) (deal : Deal) → Covers pattern rest → Matches rest deal → Matches pattern deal
covered_matches pattern rest deal covers matches = λ suit.
    let begins = (covers suit).owners in
    let more = (matches suit).owners in
    record {
      lens = λ seat. ap (λ lens. get_or lens (seat_number seat) 0) (covers suit).lens ∙ (matches suit).lens seat;
      owners = (begins.0 ++ more.0, more.1 ∙ (ap (λ xs. xs ++ more.0) begins.1 ∙ append_assoc (suit_of pattern suit).owners begins.0 more.0));
    }

-- what is left is matched, and has as many cards, however it is read
read_matches : (version : Version) (rest : Shape) (deal : Deal) → Matches rest deal → Matches (rest_read version rest) deal
read_matches version.One rest deal matches = matches
read_matches version.Two rest deal matches = Matches-completed rest deal matches

read_size : (version : Version) (rest : Shape) → hand_size (rest_read version rest) North ≡ hand_size rest North
read_size version.One rest = refl
read_size version.Two rest = refl

-- A pattern that covers what four cards leave matches the layout that is left after others, where those leave the same.
pub rest_matches : (graph : GraphShape) (node : Node) (deal : Deal) (pats line : List PatCard) (real : List Card) (version : Version) (pattern : Shape) → length pats ≡ 4 → length real ≡ 4 → Matches node.pattern deal →
    Mirrors graph node deal pats real → ((rest : Shape) → IsLeft node.pattern node.lead line rest → IsLeft node.pattern node.lead pats rest) → CoversRest version pattern node line → Matches pattern (left_of deal real)
rest_matches graph node deal pats line real version pattern four four' matches mirrors same (rest, left, covers) =
    covered_matches pattern (rest_read version rest) (left_of deal real) covers (read_matches version rest (left_of deal real)
    (Matches-left node.pattern deal node.lead pats real rest (left_of deal real) rest four matches (are_played graph node deal pats real four' mirrors) (is_without node.lead deal real four') (same rest left) (covers_itself rest)))

-- and has one card less in each hand
pub rest_is_smaller : (node : Node) (pats : List PatCard) (version : Version) (pattern : Shape) → IsPattern node.pattern → AreLegalInTurn node.pattern node.lead pats → CoversRest version pattern node pats →
    hand_size pattern North + 1 ≡ hand_size node.pattern North
rest_is_smaller node pats version pattern is legal (rest, left, covers) =
    omega (arith, hand_size-covered pattern (rest_read version rest) North covers, read_size version rest, hand_size-left node.pattern node.lead pats rest is legal left North)

-- a pattern has as many cards in a hand as a layout that matches
pub size_is : (node : Node) (deal : Deal) → IsLayout deal → Matches node.pattern deal → hand_size node.pattern North ≡ size_of deal
size_is node deal layout matches = hand_size-dealt node.pattern deal North layout.whole_pack matches
