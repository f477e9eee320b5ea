-- A dialogue on its way, and how it ends.
use Rattle.std.proofs.Common.{◌≡◌, ℕ, ◌+◌, ◌-◌, ◌^◌, ◌≤◌, ◌⊎◌, List, [], ◌∷◌, ◌++◌, length, true, false, Option, None, Some, is_some, Ok, Err, inl, inr, refl, sym, ◌∙◌, ap, subst, append_assoc, append-nil, length-append, arith}
use Rattle.cards.specs.declared.seats.Seat.{Seat}
use Rattle.cards.specs.Devices.{Device, StaysWhereTold, NoneIsLeft, Adds, AddsBeginning, one_more}
use Rattle.cards.proofs.DeviceLemmas.{Adds-twice}
use Rattle.cards.proofs.WriteLemmas.{Adds-none, AddsBeginning-stop, AddsBeginning-then}
use Rattle.play_rules.specs.Legal.{IsPlay}
use Rattle.play_rules.specs.Position.{IsReached, turn_of}
use Rattle.strategies.proofs.SearchProofs.{turn-unfinished, no_turn-over}
use Rattle.certificate_play.specs.Promises.{Promise}
use Rattle.play_dialogues.specs.declared.dialogues.End.{End}
use Rattle.play_dialogues.specs.declared.dialogues.End.TheVariants as end
use Rattle.play_dialogues.specs.declared.words.Typed.{Typed}
use Rattle.play_dialogues.specs.declared.words.Typed.TheVariants.{Quit}
use Rattle.play_dialogues.specs.Lines.{GivesLine, LosesLine}
use Rattle.cards.specs.declared.pack.Card.{Card}
use Rattle.play_dialogues.specs.Texts.{closing_text, promise_line, played_text, left_in, asks}
use Rattle.play_dialogues.specs.Trails.{Trail, IsAsked, AreReplies}
use Rattle.play_dialogues.specs.Dialogues.{IsTurn, AreTurns, AreTurnsFrom, IsOpening, AddsSome, AreRead, AreReadBefore, AreReadAlmost, EndsIn, IsDialogue}
use Rattle.play_dialogues.specs.Conversing.{IsSettled, Opens, TakesTurn, Closes, Converses}
use Rattle.play_dialogues.proofs.LineLaws.{lines_more, lines_none, lines_stay, end_told}
use Rattle.play_dialogues.proofs.TrailLaws.{replies_since, turns_more}

-- so many lines were answered so far, and nothing has failed
pub record IsUnderway (trail trail' : Trail) (input input' output output' : Device) (count : ℕ) : Type 0 where
  pub lines : List (List ℕ)
  pub turns : List ℕ
  pub turns_are : AreTurns trail lines trail' turns
  pub read : AreRead input input' lines
  pub adds : Adds output output' turns
  pub counted : length lines ≡ count

pub underway_first : (trail : Trail) (input output : Device) → IsUnderway trail trail input input output output 0
underway_first trail input output = record {
  lines = [];
  turns = [];
  turns_are = (refl, refl);
  read = record { lines_are = lines_none input.bytes; none_failed = refl };
  adds = Adds-none output;
  counted = refl;
}

-- one line more is read
pub read_more : (input input' input'' : Device) (lines : List (List ℕ)) (typed : Typed) → AreRead input input' lines →
    GivesLine input'.bytes input''.bytes typed → input''.failed ≡ input'.failed → AreReadBefore input input'' lines typed
read_more input input' input'' lines typed read gives failed = record {
  line = gives.line;
  says = gives.says;
  read = record {
    lines_are = lines_more input.bytes input'.bytes input''.bytes lines gives.line read.lines_are gives.next;
    none_failed = failed ∙ read.none_failed;
  };
}

-- nothing more is left
pub read_stays : (input input' input'' : Device) (lines : List (List ℕ)) → AreRead input input' lines →
    StaysWhereTold input'.bytes input''.bytes → input''.failed ≡ input'.failed → AreRead input input'' lines
read_stays input input' input'' lines read stays failed = record {
  lines_are = lines_stay input.bytes input'.bytes input''.bytes lines read.lines_are stays;
  none_failed = failed ∙ read.none_failed;
}

module _ (trail trail' : Trail) (input input' output output' : Device) (count : ℕ)
    (under : IsUnderway trail trail' input input' output output' count) where
  -- what was said so far is the whole
  stops : (input'' output'' : Device) (wanted result : End) → result ≡ wanted →
      EndsIn input input'' output output'' trail'.now under.lines under.turns wanted → Converses trail trail' input input'' output output'' result
  stops input'' output'' wanted result is ends = record {
    lines = under.lines;
    turns = under.turns;
    turns_are = under.turns_are;
    ends = subst (λ (e : End). EndsIn input input'' output output'' trail'.now under.lines under.turns e) (sym is) ends;
  }

  -- nothing more was written
  as_before : (output'' : Device) → output'' ≡ output' → AddsSome output output'' under.turns
  as_before output'' same = record {
    gone = under.turns;
    rest = [];
    whole = sym (append-nil under.turns);
    adds = subst (λ (d : Device). Adds output d under.turns) (sym same) under.adds;
  }

  -- the closing lines
  pub closes : (input'' output'' : Device) (wanted result : End) → Closes trail'.now output' output'' wanted result →
      AreReadAlmost input input'' under.lines →
      (Adds output output'' (under.turns ++ closing_text trail'.now) → EndsIn input input'' output output'' trail'.now under.lines under.turns wanted) →
      Converses trail trail' input input'' output output'' result
  closes input'' output'' wanted result (inl done) almost ends = stops input'' output'' wanted result done.0 (ends (Adds-twice under.adds done.1))
  closes input'' output'' wanted result (inr (inl failed)) almost ends =
      stops input'' output'' end.WriteFails result failed.0 (almost, AddsBeginning-then under.adds failed.1)
  closes input'' output'' wanted result (inr (inr full)) almost ends =
      stops input'' output'' end.OutOfMemory result full.0 (almost, as_before output'' full.1)

  -- a turn more
  module _ (input'' : Device) (typed : Typed) (asked : IsAsked trail'.now)
      (before : AreReadBefore input input'' under.lines typed) where
    pub underway_more : (trail'' : Trail) (output'' : Device) → TakesTurn trail' typed trail'' output' output'' (Ok tt) →
        IsUnderway trail trail'' input input'' output output'' (count + 1)
    underway_more trail'' output'' takes =
        let turn : IsTurn trail' before.line trail'' takes.0 = record { asked = asked; typed = typed; says = before.says; acts = takes.1 } in
        record {
          lines = under.lines ++ before.line ∷ [];
          turns = under.turns ++ takes.0;
          turns_are = turns_more trail under.lines before.line trail' trail'' under.turns takes.0 under.turns_are turn;
          read = before.read;
          adds = Adds-twice under.adds takes.2;
          counted = omega (arith, length-append under.lines (before.line ∷ []), under.counted);
        }

    pub turn_fails : (trail'' : Trail) (output'' : Device) (result : End) → TakesTurn trail' typed trail'' output' output'' (Err result) →
        Converses trail trail'' input input'' output output'' result
    turn_fails trail'' output'' result (inl failed) =
        let takes = failed.1 in
        let turn : IsTurn trail' before.line trail'' takes.0 = record { asked = asked; typed = typed; says = before.says; acts = takes.1 } in
        record {
          lines = under.lines ++ before.line ∷ [];
          turns = under.turns ++ takes.0;
          turns_are = turns_more trail under.lines before.line trail' trail'' under.turns takes.0 under.turns_are turn;
          ends = subst (λ (e : End). EndsIn input input'' output output'' trail''.now (under.lines ++ before.line ∷ []) (under.turns ++ takes.0) e) (sym failed.0)
              (inl before.read, AddsBeginning-stop (closing_text trail''.now) (AddsBeginning-then under.adds takes.2));
        }
    turn_fails trail'' output'' result (inr full) = subst (λ (t : Trail). Converses trail t input input'' output output'' result) (sym full.1)
        (stops input'' output'' end.OutOfMemory result full.0 (inr (typed, before), as_before output'' full.2))

  -- ---- the ends
  pub over : (output'' : Device) (result : End) → IsReached trail'.now.position → turn_of trail'.now.position ≡ None →
      Closes trail'.now output' output'' end.Played result → Converses trail trail' input input' output output'' result
  over output'' result reached none closed =
      let play : IsPlay trail'.now.position.opening trail'.now.position.history = record { legal = reached.legal; whole = no_turn-over trail'.now.position reached none } in
      closes input' output'' end.Played result closed (inl under.read)
      (λ adds. (play, under.read, adds))

  module _ (asked : IsAsked trail'.now) (input'' : Device) where
    pub input_ends : (output'' : Device) (result : End) →
        NoneIsLeft input'.bytes → StaysWhereTold input'.bytes input''.bytes → input''.failed ≡ input'.failed →
        Closes trail'.now output' output'' end.InputEnds result → Converses trail trail' input input'' output output'' result
    input_ends output'' result none stays failed closed =
        let read = read_stays input input' input'' under.lines under.read stays failed in
        closes input'' output'' end.InputEnds result closed (inl read)
        (λ adds. (asked, read, end_told input.bytes input'.bytes input''.bytes under.lines under.read.lines_are none stays, adds))

    pub quits : (output'' : Device) (result : End) →
        GivesLine input'.bytes input''.bytes Quit → input''.failed ≡ input'.failed →
        Closes trail'.now output' output'' end.Quit result → Converses trail trail' input input'' output output'' result
    quits output'' result gives failed closed =
        let before = read_more input input' input'' under.lines Quit under.read gives failed in
        closes input'' output'' end.Quit result closed (inr (Quit, before))
        (λ adds. (asked, before, adds))

    pub read_fails : LosesLine input' input'' → Converses trail trail' input input'' output output' end.ReadFails
    read_fails loses = stops input'' output' end.ReadFails end.ReadFails refl (
      inl (asked, record { read = input'.bytes; lines_are = under.read.lines_are; lost = loses.lost; lost_are = loses.first; why = why loses.why }),
      under.adds,
    )
      where
        why : (input''.failed ≡ one_more input'.failed) ⊎ ((input''.failed ≡ input'.failed) × (2 ^ 64 - 1 ≤ length loses.lost)) →
            (input''.failed ≡ one_more input.failed) ⊎ ((input''.failed ≡ input.failed) × (2 ^ 64 - 1 ≤ length loses.lost))
        why (inl failed) = inl (failed ∙ ap one_more under.read.none_failed)
        why (inr many) = inr (many.0 ∙ under.read.none_failed, many.1)

  pub gives_up : 2 ^ 64 - 1 ≤ count → Converses trail trail' input input' output output' end.ReadFails
  gives_up many = stops input' output' end.ReadFails end.ReadFails refl
      (inr (under.read, subst (λ (n : ℕ). 2 ^ 64 - 1 ≤ n) (sym under.counted) many), under.adds)

-- a card is asked for where it's a seat's turn
pub asked_at : (promise : Promise) (seat : Seat) → IsSettled promise → turn_of promise.position ≡ Some seat → IsAsked promise
asked_at promise seat settled turn =
    let goes_on = (turn-unfinished promise.position seat turn).0 in
    record { goes_on = goes_on; others = settled goes_on }

pub asked_some : (promise : Promise) (turn : Option Seat) → IsSettled promise → turn ≡ turn_of promise.position →
    is_some turn ≡ true → IsAsked promise
asked_some promise None settled is some = cc
asked_some promise (Some seat) settled is some = asked_at promise seat settled (sym is)

pub none_from : (turn : Option Seat) → is_some turn ≡ false → turn ≡ None
none_from None none = refl
none_from (Some seat) none = cc

-- ---- behind the opening text
pub ends_after : (input input' output middle output' : Device) (last : Promise) (lines : List (List ℕ)) (opening turns : List ℕ) (result : End) →
    Adds output middle opening → EndsIn input input' middle output' last lines turns result →
    EndsIn input input' output output' last lines (opening ++ turns) result
ends_after input input' output middle output' last lines opening turns end.Played opened ends =
    (ends.0, ends.1, subst (λ (t : List ℕ). Adds output output' t) (sym (append_assoc opening turns (closing_text last))) (Adds-twice opened ends.2))
ends_after input input' output middle output' last lines opening turns end.Quit opened ends =
    (ends.0, ends.1, subst (λ (t : List ℕ). Adds output output' t) (sym (append_assoc opening turns (closing_text last))) (Adds-twice opened ends.2))
ends_after input input' output middle output' last lines opening turns end.InputEnds opened ends =
    (ends.0, ends.1, ends.2, subst (λ (t : List ℕ). Adds output output' t) (sym (append_assoc opening turns (closing_text last))) (Adds-twice opened ends.3))
ends_after input input' output middle output' last lines opening turns end.ReadFails opened ends =
    (ends.0, Adds-twice opened ends.1)
ends_after input input' output middle output' last lines opening turns end.WriteFails opened ends =
    (ends.0, subst (λ (t : List ℕ). AddsBeginning output output' t) (sym (append_assoc opening turns (closing_text last))) (AddsBeginning-then opened ends.1))
ends_after input input' output middle output' last lines opening turns end.OutOfMemory opened ends = (
  ends.0,
  record {
    gone = opening ++ ends.1.gone;
    rest = ends.1.rest;
    whole = ap (λ (t : List ℕ). opening ++ t) ends.1.whole ∙ sym (append_assoc opening ends.1.gone ends.1.rest);
    adds = Adds-twice opened ends.1.adds;
  },
)

-- ---- the whole
turns_from : (promise first : Promise) (cards : List Card) (trail' : Trail) (lines : List (List ℕ)) (opening turns : List ℕ) →
    AreReplies promise cards first → IsOpening promise first opening → AreTurns (record { earlier = []; now = first }) lines trail' turns →
    AreTurnsFrom promise lines trail'.now (opening ++ turns)
turns_from promise first cards trail' lines opening turns replied is are = record {
  replies = cards;
  first = first;
  replied = replied;
  opening = opening;
  opening_is = is;
  trail = trail';
  turns = turns;
  turns_are = are;
  last_is = refl;
  text_is = refl;
}

-- a dialogue that was opened
pub is_dialogue : (promise first : Promise) (cards : List Card) (trail : Trail) (input input' output middle output' : Device)
    (opening : List ℕ) (trail' : Trail) (result : End) →
    AreReplies promise cards first → IsOpening promise first opening → Adds output middle opening →
    trail.earlier ≡ [] → trail.now ≡ first → Converses trail trail' input input' middle output' result →
    IsDialogue promise input input' output output' result trail'.now
is_dialogue promise first cards trail input input' output middle output' opening trail' result replied is opened new now turns =
    let start : trail ≡ record { earlier = []; now = first } =
    ap (λ (l : List Promise). let t : Trail = record { earlier = l; now = trail.now } in t) new
    ∙ ap (λ (p : Promise). let t : Trail = record { earlier = []; now = p } in t) now in
    record {
      lines = turns.lines;
      text = opening ++ turns.turns;
      turns = turns_from promise first cards trail' turns.lines opening turns.turns replied is
          (subst (λ (t : Trail). AreTurns t turns.lines trail' turns.turns) start turns.turns_are);
      ends = ends_after input input' output middle output' trail'.now turns.lines opening turns.turns result opened turns.ends;
    }

-- one that wasn't
pub not_opened : (promise : Promise) (cards : List Card) (trail : Trail) (input output output' : Device) (result : End) →
    AreReplies promise cards trail.now → trail.earlier ≡ [] → Opens promise trail.now output output' (Err result) →
    IsDialogue promise input input output output' result trail.now
not_opened promise cards trail input output output' result replied new (inl failed) = record {
  lines = [];
  text = failed.1.0 ++ [];
  turns = turns_from promise trail.now cards (record { earlier = []; now = trail.now }) [] failed.1.0 [] replied failed.1.1 (refl, refl);
  ends = subst (λ (e : End). EndsIn input input output output' trail.now [] (failed.1.0 ++ []) e) (sym failed.0) (
    inl (record { lines_are = lines_none input.bytes; none_failed = refl }),
    AddsBeginning-stop (closing_text trail.now)
        (subst (λ (t : List ℕ). AddsBeginning output output' t) (sym (append-nil failed.1.0)) failed.1.2),
  );
}
not_opened promise cards trail input output output' result replied new (inr full) =
    let since = replies_since promise cards trail.now replied in
    let opening = promise_line promise ++ played_text (left_in promise) cards ++ asks trail.now in
    record {
      lines = [];
      text = opening ++ [];
      turns = turns_from promise trail.now cards (record { earlier = []; now = trail.now }) [] opening [] replied (cards, since, refl) (refl, refl);
      ends = subst (λ (e : End). EndsIn input input output output' trail.now [] (opening ++ []) e) (sym full.0) (
        inl (record { lines_are = lines_none input.bytes; none_failed = refl }),
        record {
          gone = [];
          rest = opening ++ [];
          whole = refl;
          adds = subst (λ (d : Device). Adds output d []) (sym full.1) (Adds-none output);
        },
      );
    }
