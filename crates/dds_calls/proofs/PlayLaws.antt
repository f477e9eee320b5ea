-- Plays recorded from a board on, and their values.
use Rattle.std.proofs.Common.{◌≡◌, ℕ, ◌+◌, ◌*◌, ◌-◌, ◌<◌, List, [], ◌∷◌, ◌++◌, length, take, get_or}
use Rattle.std.proofs.Common.{Option, Some, Err, ℤ, pos, refl, sym, ap, ◌∙◌, subst, inl, inr, arith, append_assoc, length-append}
use Rattle.std.proofs.Math.ListN.{get_or-map, get_or-eq_default}
use Rattle.std.proofs.Common.{◌≢◌, zero-add, suc-add, replicate, set, get_or-set_same, get_or-set_other}
use Rattle.std.proofs.lemmas.Bool.{cases_lt}
use Rattle.std.proofs.lemmas.Int.{ints}
use Rattle.std.proofs.lemmas.List.{append-nil, length-take, get_or-replicate}
use Rattle.std.proofs.lemmas.Option.{none-some}
use Rattle.std.specs.Prelude.{IfSome}
use Rattle.cards.specs.declared.seats.Side.{Side}
use Rattle.cards.specs.declared.pack.Card.{Card}
use Rattle.cards.specs.Pack.{suit_number, rank_number}
use Rattle.cards.specs.Deal.{IsLayout, size_of}
use Rattle.cards.specs.Seats.{other_side, side_of}
use Rattle.cards.proofs.PackLaws.{same_from_numbers}
use Rattle.play_rules.specs.History.{Opening}
use Rattle.play_rules.specs.Legal.{CanPlay, IsLegalHistory, IsUnfinished}
use Rattle.play_rules.specs.Plays.{PlaysOrRefuses}
use Rattle.play_rules.specs.Position.{Position, IsReached, with_card}
use Rattle.play_rules.specs.declared.faults.PlayFault.{PlayFault}
use Rattle.play_rules.specs.declared.faults.PlayFault.TheVariants.{NotHeld, MustFollow, Over}
use Rattle.play_rules.proofs.PositionLaws.{IsLegalHistory-push}
use Rattle.play_values.specs.PlayValues.{Recorded, IsPlayValue, IsValueAt}
use Rattle.certified_plays.specs.Values.{ShownPlay, AreShownValues, known_in, value_at}
use Rattle.certified_plays.specs.declared.faults.ValueFault.TheVariants.{ClaimMissing}
use Rattle.certified_plays.specs.declared.faults.PlayEntry.TheVariants as entry
use Rattle.dds_calls.specs.declared.board_shapes.BoardDeal.{BoardDeal}
use Rattle.dds_calls.specs.declared.play_shapes.PlayTrace.{PlayTrace}
use Rattle.dds_calls.specs.declared.play_shapes.SolvedPlay.{SolvedPlay}
use Rattle.dds_calls.specs.declared.plays.TraceRead.{TraceRead}
use Rattle.dds_calls.specs.BoardPositions.{IsNumbered}
use Rattle.dds_calls.specs.Plays.{AreTraced, HasValues, IsBegunWith, IsPlayToldOf, IsStopped, IsTraceRead, IsTraced, any_ask, blank_play, count_told}
use Rattle.dds_calls.specs.Readings.{IsRead}
use Rattle.dds_calls.specs.Telling.{at_place}
use Rattle.dds_calls.proofs.Positions.{legal_at}
use Rattle.dds_calls.proofs.TrickCards.{slice_get_push}

-- a card that is refused may not be played
pub not_refused : (position : Position) (card : Card) (fault : PlayFault) → IsUnfinished position.opening position.history → CanPlay position.opening position.history card → PlaysOrRefuses position card (Err fault) → ⊥
not_refused position card NotHeld unfinished can met = met.1 can.held
not_refused position card MustFollow unfinished can met = met.1.other_suit (can.follows met.1.led met.1.is_led met.1.can_follow)
not_refused position card Over unfinished can met = absurd (omega (arith, met, unfinished))

-- ---- the cards of the trick
-- the trick's cards so far, played in turn
pub record AreBegunTo (trick : Position) (play : Recorded) (count : ℕ) : Type 0 where
  pub opening : play.position.opening ≡ trick.opening
  pub history : play.position.history ≡ take count trick.history
  pub declarers : play.declarers ≡ other_side (side_of trick.opening.leader)

pub never_refused : (trick : Position) (cards : List Card) (play : Recorded) (count : ℕ) (d : Card) (fault : PlayFault) → IsReached trick → cards ≡ trick.history → AreBegunTo trick play count → count < length cards → PlaysOrRefuses play.position (get_or cards count d) (Err fault) → ⊥
never_refused trick cards play count d fault reached same so_far less =
    let card = get_or cards count d in
    let history : play.position.history ≡ take count cards = so_far.history ∙ ap (take count) (sym same) in
    let legal : IsLegalHistory trick.opening cards = rw same reached.legal in
    let can : CanPlay trick.opening (take count cards) card = legal_at trick.opening [] cards count d less legal in
    let unfinished : IsUnfinished trick.opening play.position.history = omega (arith, ap length history, length-take count cards, less, ap length same, reached.within) in
    not_refused play.position card fault (rw so_far.opening unfinished) (rw history (rw so_far.opening can))

-- ---- the cards of the trace
-- the cards so far that count, played in turn after those of the trick
pub record AreTracedTo (trace : PlayTrace) (trick : Position) (play : Recorded) (count : ℕ) : Type 0 where
  pub cards : List Card
  pub traced : AreTraced trace trick cards
  pub size : length cards ≡ count
  pub opening : play.position.opening ≡ trick.opening
  pub history : play.position.history ≡ trick.history ++ cards
  pub declarers : play.declarers ≡ other_side (side_of trick.opening.leader)

pub none_traced : (trace : PlayTrace) (trick : Position) (play : Recorded) → IsLegalHistory trick.opening trick.history → IsBegunWith trick play → AreTracedTo trace trick play 0
none_traced trace trick play legal begun = record {
  cards = [];
  traced = record {
    each = λ place card at. absurd (none-some card at);
    legal = subst (λ (h : List Card). IsLegalHistory trick.opening h) (sym (append-nil trick.history)) legal;
  };
  size = refl;
  opening = ap (λ (p : Position). p.opening) begun.position_is;
  history = ap (λ (p : Position). p.history) begun.position_is ∙ sym (append-nil trick.history);
  declarers = begun.declarers_are;
}

pub one_more : (trace : PlayTrace) (trick : Position) (play next : Recorded) (count : ℕ) (card : Card) → AreTracedTo trace trick play count → IsTraced trace count card → CanPlay play.position.opening play.position.history card → next ≡ record play { position = with_card play.position card } → AreTracedTo trace trick next (count + 1)
one_more trace trick play next count card so_far traced can is =
    let P : Recorded → Type 0 = λ p. AreTracedTo trace trick p (count + 1) in
    let all : trick.history ++ (so_far.cards ++ card ∷ []) ≡ play.position.history ++ card ∷ [] = sym (append_assoc trick.history so_far.cards (card ∷ [])) ∙ ap (λ (h : List Card). h ++ card ∷ []) (sym so_far.history) in
    let may : CanPlay trick.opening (trick.history ++ so_far.cards) card = rw so_far.history at (rw so_far.opening at can) in
    let legal : IsLegalHistory trick.opening ((trick.history ++ so_far.cards) ++ card ∷ []) = IsLegalHistory-push trick.opening (trick.history ++ so_far.cards) card so_far.traced.legal may in
    subst P (sym is) (record {
      cards = so_far.cards ++ card ∷ [];
      traced = record {
        each = λ place one at. elim (slice_get_push so_far.cards card one place at) [
          | inl old ↦ so_far.traced.each place one old
          | inr new ↦ subst (λ (c : Card). IsTraced trace place c) new.1 (subst (λ (n : ℕ). IsTraced trace n card) (sym (new.0 ∙ so_far.size)) traced)
        ];
        legal = rw append_assoc at legal;
      };
      size = length-append so_far.cards (card ∷ []) ∙ omega (arith, so_far.size);
      opening = so_far.opening;
      history = sym all;
      declarers = so_far.declarers;
    })

-- the next place that counts has no card that may follow
pub stopped : (board : BoardDeal) (trace : PlayTrace) (trick : Position) (play : Recorded) (count : ℕ) → IsRead board any_ask trick → AreTracedTo trace trick play count → count < count_told trick trace → ((card : Card) → IsTraced trace count card → CanPlay play.position.opening play.position.history card → ⊥) → IsStopped board trace
stopped board trace trick play count read so_far less none = record {
  position = trick;
  read = read;
  cards = so_far.cards;
  traced = so_far.traced;
  counts = omega (arith, so_far.size, less);
  none = λ card traced can.
      none card (subst (λ (n : ℕ). IsTraced trace n card) so_far.size traced) (rw so_far.history (rw so_far.opening can));
}

same_numbers : (one other : Card) (suit rank : ℤ) → IsNumbered one suit rank → IsNumbered other suit rank → one ≡ other
same_numbers one other suit rank a b =
    let suits : suit_number one.suit ≡ suit_number other.suit = omega (arith, ints, a.0, b.0) in
    let ranks : rank_number one.rank ≡ rank_number other.rank = omega (arith, ints, a.1, b.1) in
    same_from_numbers one other (omega (arith, suits, ranks))

-- the card that the numbers stand for is refused
pub stopped_by : (board : BoardDeal) (trace : PlayTrace) (trick : Position) (play : Recorded) (count : ℕ) (card : Card) (fault : PlayFault) → IsLayout trick.opening.deal → IsRead board any_ask trick → AreTracedTo trace trick play count → count < count_told trick trace → IsTraced trace count card → PlaysOrRefuses play.position card (Err fault) → IsStopped board trace
stopped_by board trace trick play count card fault layout read so_far less traced met =
    let size : length play.position.history ≡ length trick.history + count = ap length so_far.history ∙ (length-append trick.history so_far.cards ∙ omega (arith, so_far.size)) in
    let most : length trick.history + count < 4 * size_of trick.opening.deal = omega (arith, less, layout.some_cards) in
    let unfinished : IsUnfinished play.position.opening play.position.history = rw so_far.opening (omega (arith, size, most)) in
    stopped board trace trick play count read so_far less
    (λ other is can. not_refused play.position card fault unfinished (subst (λ (c : Card). CanPlay play.position.opening play.position.history c) (same_numbers other card _ _ is traced) can) met)

pub trace_read : (board : BoardDeal) (trace : PlayTrace) (trick : Position) (read : TraceRead) (count : ℕ) → IsRead board any_ask trick → AreTracedTo trace trick read.play count → count ≡ count_told trick trace → read.given ≡ length trick.history → IsTraceRead board trace read
trace_read board trace trick read count is so_far told given = record {
  position = trick;
  cards = so_far.cards;
  played = record { read = is; traced = so_far.traced; count = so_far.size ∙ told };
  opening_is = so_far.opening;
  history_is = so_far.history;
  declarers_are = so_far.declarers;
  given_is = given;
}

-- ---- the values
pub zeros_at : (place : ℕ) → at_place blank_play.tricks place ≡ pos 0
zeros_at place =
    elim (cases_lt place 53) [
      | inl h ↦ get_or-replicate 53 place (pos 0) (pos 0) h
      | inr h ↦ get_or-eq_default (replicate 53 (pos 0)) (pos 0) h
    ]

pub set_here : (numbers : List ℤ) (place at : ℕ) (number : ℤ) → place < length numbers → at ≡ place → at_place (set numbers place number) at ≡ number
set_here numbers place at number room e = ap (at_place (set numbers place number)) e ∙ get_or-set_same numbers place number (pos 0) room

pub set_there : (numbers : List ℤ) (place at : ℕ) (number : ℤ) → at ≢ place → at_place (set numbers place number) at ≡ at_place numbers at
set_there numbers place at number ne = get_or-set_other numbers place at number (pos 0) ne

value_is : (shown : ShownPlay) (count tricks : ℕ) → AreShownValues shown.play shown.entries → value_at shown count ≡ Some tricks → IsValueAt shown.play count tricks
value_is shown count tricks are known =
    subst (λ (value : Option ℕ). IfSome value (IsValueAt shown.play count)) (get_or-map known_in shown.entries count (entry.Unknown ClaimMissing) ∙ known) (are.each count)

take_past : (xs ys : List Card) (count : ℕ) → take (length xs + count) (xs ++ ys) ≡ xs ++ take count ys
take_past [] ys count = ap (λ (n : ℕ). take n ys) (zero-add count)
take_past (x ∷ xs) ys count =
    ap (λ (n : ℕ). take n (x ∷ xs ++ ys)) (suc-add (length xs) count) ∙ ap (λ (r : List Card). x ∷ r) (take_past xs ys count)

same_value : {opening opening' : Opening} {side side' : Side} {history history' : List Card} {tricks : ℕ} → opening ≡ opening' → side ≡ side' → history ≡ history' → IsPlayValue opening side history tricks → IsPlayValue opening' side' history' tricks
same_value {opening} {opening'} {side} {side'} {history} {history'} {tricks} a b c value =
    subst (λ (h : List Card). IsPlayValue opening' side' h tricks) c
    (subst (λ (s : Side). IsPlayValue opening' s history tricks) b (subst (λ (o : Opening). IsPlayValue o side history tricks) a value))

pub told_values : (board : BoardDeal) (trace : PlayTrace) (read : TraceRead) (shown : ShownPlay) (told : SolvedPlay) → IsTraceRead board trace read → shown.play ≡ read.play → AreShownValues shown.play shown.entries → HasValues shown read.given told → IsPlayToldOf board trace told
told_values board trace read shown told is same are has =
    let position = is.position in
    let history : shown.play.position.history ≡ position.history ++ is.cards = ap (λ (p : Recorded). p.position.history) same ∙ is.history_is in
    let size : length shown.play.position.history ≡ length position.history + length is.cards = ap length history ∙ length-append position.history is.cards in
    record {
      position = position;
      cards = is.cards;
      played = is.played;
      number_is = omega (arith, ints, has.number_is, size, is.given_is);
      each = λ count few. (
          let place : ℕ = length position.history + count in
          let found = has.each place (omega (arith, is.given_is)) (omega (arith, size, few)) in
          let opening : shown.play.position.opening ≡ position.opening = ap (λ (p : Recorded). p.position.opening) same ∙ is.opening_is in
          let side : shown.play.declarers ≡ other_side (side_of position.opening.leader) = ap (λ (p : Recorded). p.declarers) same ∙ is.declarers_are in
          let first : take place shown.play.position.history ≡ position.history ++ take count is.cards = ap (take place) history ∙ take_past position.history is.cards count in
          let at : place - read.given ≡ count = omega (arith, is.given_is) in
          (found.0, ap (at_place told.tricks) (sym at) ∙ found.2, same_value opening side first (value_is shown place found.0 are found.1))
          );
      rest = λ place more. has.rest place (omega (arith, size, is.given_is, more));
    }
