-- A batch of pieces more.
use Rattle.std.proofs.Common.{◌≡◌, ℕ, zero, suc, ◌+◌, ◌<◌, ◌≤◌, Bool, true, false, List, [], ◌∷◌, ◌++◌, length, get_or, take, drop, Option, None, Some, is_some, Result, Ok, Err, inl, refl, sym, ◌∙◌, ap, subst, arith, add-one}
use Rattle.std.specs.List.{AllZip}
use Rattle.std.proofs.lemmas.List.Elements.{All-weaker}
use Rattle.cards.specs.declared.suits.Trump.{Trump}
use Rattle.certificate_graph.specs.declared.bundles.Claim.{Claim}
use Rattle.lease_book.specs.Entries.{place_of}
use Rattle.std.proofs.lemmas.List.{take-append-drop, drop_all}
use Rattle.std.proofs.lemmas.Option.{none-some}
use Rattle.checker.specs.declared.entries.Shown.{Shown}
use Rattle.pbn_deals.specs.declared.boards.Board.{Board}
use Rattle.streams.specs.declared.inputs.InputFault.{InputFault}
use Rattle.streams.specs.declared.inputs.InputFault.TheVariants.{OutOfMemory}
use Rattle.evidence.specs.Sections.{SectionShape}
use Rattle.evidence.specs.declared.parts.Part.{Part}
use Rattle.evidence.specs.declared.parts.Part.TheVariants as part
use Rattle.evidence.specs.declared.parts.Piece.{Piece}
use Rattle.evidence.specs.declared.damages.Damage.{Damage}
use Rattle.evidence.specs.Cuts.{IsCutOf, IsNextCutOf}
use Rattle.evidence.specs.Parts.{IsPartOf}
use Rattle.evidence.specs.Pieces.{Reading, reading_of, IsFound, IsDamaged, Passes, IsNext, StopsSections}
use Rattle.evidence.specs.Wholes.{Whole, IsNextOf}
use Rattle.audits.specs.Reads.{sections_of, as_source, ReadsUntil}
use Rattle.audits.specs.Firsts.{AreFirstShown, AllKnown}
use Rattle.audits.specs.Batches.{Cuts, EndsBatch, ReadsBatch, ReadsBehind, Grows, IsPieceOf, AddsPart, NotesPiece, NotesPieces, NotesSome, fault_behind}
use Rattle.audits.specs.Shows.{ReadsFirsts}
use Rattle.audits.proofs.ReadLaws.{ReadsSome, PassesBytes, bytes_passed, bytes_more, bytes_ended, stops_bytes, bytes_lost, next_found, next_damaged, next_end, sections_found, sections_damaged, stopped, takes_none}

-- ---- pieces that are cut
pub cuts_push : (old middle new : Whole) (pieces : List Piece) (piece : Piece) → Cuts old pieces middle → IsNextCutOf middle new (Some piece) → Cuts old (pieces ++ piece ∷ []) new
cuts_push old middle new [] piece same next = (new, subst (λ (w : Whole). IsNextCutOf w new (Some piece)) same next, refl)
cuts_push old middle new (first ∷ more) piece (between, cut, cuts) next = (between, cut, cuts_push between middle new more piece cuts next)

reholds : (old new : Reading) (P Q : List ℕ → Type 0) → (passes : Passes old new P) → Q passes.piece → Passes old new Q
reholds old new P Q passes holds = record { piece = passes.piece; first = passes.first; holds = holds; counted = passes.counted; none_failed = passes.none_failed }

next_part : (old new : Reading) (at : ℕ) (bytes : List ℕ) (long : Bool) → at ≡ old.before → Passes old new (IsCutOf long bytes) → (one : Part) → IsPartOf long at bytes one → IsNext old new one
next_part old new at bytes true at_is passes one is = subst (IsNext old new) (sym is) (at_is, reholds old new (IsCutOf true bytes) IsDamaged passes (inl passes.holds))
next_part old new at bytes false at_is passes (part.Found section) is = reholds old new (IsCutOf false bytes) (λ piece. IsFound piece section) passes (subst (λ (l : List ℕ). IsFound l section) passes.holds is)
next_part old new at bytes false at_is passes (part.Damaged byte) is = (is.0 ∙ at_is, reholds old new (IsCutOf false bytes) IsDamaged passes (subst IsDamaged passes.holds is.1))
next_part old new at bytes false at_is passes part.End is = absurd is

-- what a piece is that was cut
next_of_cut : (old new : Whole) (piece : Piece) (one : Part) → IsNextCutOf old new (Some piece) → IsPieceOf piece one → IsNextOf old new one
next_of_cut old new piece one cut is =
    next_part (reading_of old.source old.held old.before) (reading_of new.source new.held new.before) piece.at piece.bytes.items piece.is_long cut.0 cut.1 one is

-- ---- bytes
cuts_bytes : (old middle new : Whole) (pieces : List Piece) → PassesBytes old middle → Cuts middle pieces new → PassesBytes old new
cuts_bytes old middle new [] passes same = subst (λ (w : Whole). PassesBytes old w) (sym same) passes
cuts_bytes old middle new (piece ∷ more) passes (between, cut, cuts) =
    cuts_bytes old between new more (bytes_more old middle between passes (cut.1).piece (cut.1).first (cut.1).none_failed) cuts

ends_bytes : (old middle new : Whole) (ended : Option (Result Unit InputFault)) → PassesBytes old middle → EndsBatch middle new ended → StopsSections (as_source old) new.source (fault_behind ended)
ends_bytes old middle new None passes same = subst (λ (w : Whole). StopsSections (as_source old) w.source OutOfMemory) (sym same) (bytes_lost old middle passes)
ends_bytes old middle new (Some (Ok done)) passes end = bytes_lost old new (bytes_ended old middle new passes end.left_is end.none_failed)
ends_bytes old middle new (Some (Err fault)) passes stops = stops_bytes old middle passes new.source fault stops

-- what was read of a batch is lost
pub batch_lost : (old now new : Whole) (parts : List Part) (damage : Damage) (pieces : List Piece) (ended : Option (Result Unit InputFault)) → ReadsSome old now parts damage
    → ReadsBatch now new pieces ended → StopsSections (as_source old) new.source (fault_behind ended)
batch_lost old now new parts damage pieces ended some batch =
    ends_bytes old batch.middle new ended (cuts_bytes old now batch.middle pieces (bytes_passed old now parts damage some) batch.cuts) batch.ends

-- a batch is lost, and the next one
pub behind_lost : (old now new last : Whole) (parts : List Part) (damage : Damage) (pieces next : List Piece) (ended ended' : Option (Result Unit InputFault)) → ReadsSome old now parts damage
    → ReadsBatch now new pieces ended → ReadsBehind ended new last next ended' → StopsSections (as_source old) last.source (fault_behind ended')
behind_lost old now new last parts damage pieces next None ended' some batch behind =
    let passes = cuts_bytes old now batch.middle pieces (bytes_passed old now parts damage some) batch.cuts in
    let here = subst (λ (w : Whole). PassesBytes old w) (sym batch.ends) passes in
    ends_bytes old behind.middle last ended' (cuts_bytes old new behind.middle next here behind.cuts) behind.ends
behind_lost old now new last parts damage pieces next (Some how) ended' some batch (same, none, is) =
    subst (λ (e : Option (Result Unit InputFault)). StopsSections (as_source old) last.source (fault_behind e)) (sym is)
    (subst (λ (w : Whole). StopsSections (as_source old) w.source (fault_behind (Some how))) (sym same) (batch_lost old now new parts damage pieces (Some how) some batch))

-- ---- pieces that are noted
pub record ReadsOn (boards : List Board) (old : Whole) (firsts : List (Option Shown)) (damage : Damage) (rest : List Piece) (end : Whole) : Type 0 where
  pub now : Whole
  pub parts : List Part
  pub some : ReadsSome old now parts damage
  pub cuts : Cuts now rest end
  pub firsts_are : AreFirstShown boards (sections_of parts) firsts

pub notes_on : (boards : List Board) (old end : Whole) (before after : List (Option Shown)) (damage damage' : Damage) (noted rest : List Piece)
    → ReadsOn boards old before damage (noted ++ rest) end → NotesPieces boards noted before after damage damage' → ReadsOn boards old after damage' rest end
notes_on boards old end before after damage damage' [] rest on (same, still) =
    subst (λ (f : List (Option Shown)). ReadsOn boards old f damage' rest end) (sym same) (subst (λ (d : Damage). ReadsOn boards old before d rest end) (sym still) on)
notes_on boards old end before after damage damage' (piece ∷ more) rest on (middle, between, notes, later) =
    notes_on boards old end middle after between damage' more rest (one notes.part notes.part_is notes.adds) later
  where
    next : Whole
    next = on.cuts.0

    one : (here : Part) → IsPieceOf piece here → AddsPart boards here before middle damage between → ReadsOn boards old middle between (more ++ rest) end
    one (part.Found section) is (adds, still) =
        record {
          now = next;
          parts = on.parts ++ part.Found section ∷ [];
          some = subst (λ (d : Damage). ReadsSome old next (on.parts ++ part.Found section ∷ []) d) (sym still)
              (next_found old on.now next on.parts damage on.some (part.Found section) (next_of_cut on.now next piece (part.Found section) on.cuts.1 is) section refl);
          cuts = on.cuts.2;
          firsts_are = subst (λ (s : List SectionShape). AreFirstShown boards s middle) (sym (sections_found on.parts section)) (adds (sections_of on.parts) on.firsts_are);
        }
    one (part.Damaged at) is (same, counts) =
        let more = next_damaged old on.now next on.parts damage on.some (part.Damaged at) (next_of_cut on.now next piece (part.Damaged at) on.cuts.1 is) at between refl counts in
        record {
          now = next;
          parts = on.parts ++ part.Damaged (old.before + length (on.some).passed) ∷ [];
          some = more;
          cuts = on.cuts.2;
          firsts_are = subst (λ (f : List (Option Shown)). AreFirstShown boards (sections_of (on.parts ++ part.Damaged (old.before + length (on.some).passed) ∷ [])) f) (sym same)
              (subst (λ (s : List SectionShape). AreFirstShown boards s before) (sym (sections_damaged on.parts (old.before + length (on.some).passed))) on.firsts_are);
        }
    one part.End is adds = absurd adds

-- ---- a batch
module _ (boards : List Board) (old now new last : Whole) (firsts after : List (Option Shown)) (damage damage' : Damage) (pieces next : List Piece) (ended ended' : Option (Result Unit InputFault))
    (parts : List Part) (some : ReadsSome old now parts damage) (are : AreFirstShown boards (sections_of parts) firsts)
    (batch : ReadsBatch now new pieces ended) (behind : ReadsBehind ended new last next ended') where
  start : ReadsOn boards old firsts damage pieces batch.middle
  start = record { now = now; parts = parts; some = some; cuts = batch.cuts; firsts_are = are }

  -- none of it was noted
  pub batch_unread : ReadsFirsts boards old last firsts (record { damage = damage; ended = Err (fault_behind ended') })
  batch_unread =
      record {
        parts = parts;
        read_is = stopped old now parts damage some last (fault_behind ended') (behind_lost old now new last parts damage pieces next ended ended' some batch behind);
        firsts_are = are;
      }

  on : (count : ℕ) → NotesPieces boards (take count pieces) firsts after damage damage' → ReadsOn boards old after damage' (drop count pieces) batch.middle
  on count notes =
      notes_on boards old batch.middle firsts after damage damage' (take count pieces) (drop count pieces)
      (subst (λ (l : List Piece). ReadsOn boards old firsts damage l batch.middle) (sym (take-append-drop count pieces)) start) notes

  -- some of it was
  pub batch_cut_off : (all : Bool) → NotesSome boards pieces firsts after damage damage' all → ReadsFirsts boards old last after (record { damage = damage'; ended = Err (fault_behind ended') })
  batch_cut_off all notes =
      let far = on notes.count notes.notes in
      record {
        parts = far.parts;
        read_is = stopped old far.now far.parts damage' far.some last (fault_behind ended') (behind_lost old now new last parts damage pieces next ended ended' some batch behind);
        firsts_are = far.firsts_are;
      }

  -- all of it was
  all_on : NotesSome boards pieces firsts after damage damage' true → ReadsOn boards old after damage' [] batch.middle
  all_on notes =
      let count = notes.whole refl in
      subst (λ (l : List Piece). ReadsOn boards old after damage' l batch.middle) (drop_all notes.count pieces (omega (arith, count))) (on notes.count notes.notes)

  pub batch_ends : NotesSome boards pieces firsts after damage damage' true → (how : Result Unit InputFault) → ended ≡ Some how → ReadsFirsts boards old last after (record { damage = damage'; ended = how })
  batch_ends notes how is =
      let far = all_on notes in
      let stays = subst (λ (e : Option (Result Unit InputFault)). ReadsBehind e new last next ended') is behind in
      subst (λ (w : Whole). ReadsFirsts boards old w after (record { damage = damage'; ended = how })) (sym stays.0)
      (record { parts = far.parts; read_is = go how is far; firsts_are = far.firsts_are })
    where
      go : (how : Result Unit InputFault) → ended ≡ Some how → (far : ReadsOn boards old after damage' [] batch.middle) → ReadsUntil old new far.parts damage' how
      go (Ok done) is far =
          let ends = subst (λ (e : Option (Result Unit InputFault)). EndsBatch batch.middle new e) is batch.ends in
          next_end old far.now new far.parts damage' far.some part.End (subst (λ (w : Whole). IsNextCutOf w new None) far.cuts ends) refl
      go (Err fault) is far =
          stopped old far.now far.parts damage' far.some new fault
          (subst (λ (e : Option (Result Unit InputFault)). StopsSections (as_source old) new.source (fault_behind e)) is (batch_lost old now new parts damage pieces ended some batch))

  pub batch_goes_on : NotesSome boards pieces firsts after damage damage' true → ended ≡ None
      → (then : Whole) × (more : List Part) × ReadsSome old then more damage' × AreFirstShown boards (sections_of more) after × ReadsBatch then last next ended'
  batch_goes_on notes is =
      let far = all_on notes in
      let ends = subst (λ (e : Option (Result Unit InputFault)). EndsBatch batch.middle new e) is batch.ends in (
        new,
        far.parts,
        subst (λ (w : Whole). ReadsSome old w far.parts damage') (sym (ends ∙ far.cuts)) far.some,
        far.firsts_are,
        subst (λ (e : Option (Result Unit InputFault)). ReadsBehind e new last next ended') is behind,
      )

-- ---- values that stay
pub grows_more : (one two three : List (Option Shown)) → Grows one two → Grows two three → Grows one three
grows_more one two three first second place is = second place (first place is)

-- ---- pieces with what they show
pub notes_push : (boards : List Board) (old middle new : List (Option Shown)) (damage between damage' : Damage) (noted : List Piece) (piece : Piece) → NotesPieces boards noted old middle damage between
    → NotesPiece boards piece middle new between damage' → NotesPieces boards (noted ++ piece ∷ []) old new damage damage'
notes_push boards old middle new damage between damage' [] piece (same, still) note =
    let moved = subst (λ (d : Damage). NotesPiece boards piece old new d damage') still (subst (λ (f : List (Option Shown)). NotesPiece boards piece f new between damage') same note) in
    (new, damage', moved, (refl, refl))
notes_push boards old middle new damage between damage' (first ∷ more) piece (next, after, one, later) note =
    (next, after, one, notes_push boards next middle new after between damage' more piece later note)

zip_at : {A B : Type 0} (R : A → B → Type 0) (xs : List A) (ys : List B) (i : ℕ) (e : B) → AllZip R xs ys → i < length ys → (x : A) × (take (suc i) xs ≡ take i xs ++ x ∷ []) × R x (get_or ys i e)
zip_at R [] [] i e all within = absurd (omega (arith, within))
zip_at R [] (y ∷ ys) i e all within = absurd all
zip_at R (x ∷ xs) [] i e all within = absurd all
zip_at R (x ∷ xs) (y ∷ ys) zero e all within = (x, refl, all.0)
zip_at R (x ∷ xs) (y ∷ ys) (suc i) e all within = let next = zip_at R xs ys i e all.1 (omega (arith, within)) in (next.0, ap (λ l. x ∷ l) next.1, next.2)

-- the next of two lists, and those before it
pub zip_next : {A B : Type 0} (R : A → B → Type 0) (xs : List A) (ys : List B) (i : ℕ) (e : B) → AllZip R xs ys → i < length ys → (x : A) × (take (i + 1) xs ≡ take i xs ++ x ∷ []) × R x (get_or ys i e)
zip_next R xs ys i e all within = let next = zip_at R xs ys i e all within in (next.0, rw add-one next.1, next.2)

pub known_later : (firsts later : List (Option Shown)) (board : ℕ) (trump : Trump) (claims : List Claim) → Grows firsts later → AllKnown firsts board trump claims → AllKnown later board trump claims
known_later firsts later board trump claims grows known =
    All-weaker (λ (claim : Claim). is_some (get_or firsts (place_of (record { board = board; declarer = claim.declarer; trump = trump })) None) ≡ true)
    (λ (claim : Claim). is_some (get_or later (place_of (record { board = board; declarer = claim.declarer; trump = trump })) None) ≡ true)
    (λ claim. grows (place_of (record { board = board; declarer = claim.declarer; trump = trump }))) claims known

-- memory that runs out between two pieces
pub batch_stops : (old now : Whole) (pieces : List Piece) → Cuts old pieces now → ReadsBatch old now pieces (Some (Err OutOfMemory))
batch_stops old now pieces cuts =
    record { middle = now; cuts = cuts; ends = inl (record { lost = []; first = takes_none now.source.bytes; counted = refl }); some = λ is. absurd (none-some (Err OutOfMemory) (sym is)) }

-- a batch that is full
pub batch_full : (old now : Whole) (pieces : List Piece) → Cuts old pieces now → 1 ≤ length pieces → ReadsBatch old now pieces None
batch_full old now pieces cuts some = record { middle = now; cuts = cuts; ends = refl; some = λ is. some }
