-- A run that goes on from a book in which evidence is shown.
use Rattle.std.proofs.Common.{◌≡◌, ℕ, ◌≤◌, Bool, true, List, [], ◌∷◌, ◌++◌, length, drop, Option, None, Some, Result, Ok, Err, refl, sym, ap, ◌∙◌, subst, arith, length-append}
use Rattle.std.specs.Option.{option_or}
use Rattle.std.specs.Result.{IsErrAnd}
use Rattle.std.proofs.Math.Seq.{drop-append_seam}
use Rattle.std.proofs.lemmas.List.Elements.{All-append}
use Rattle.farm.specs.declared.settings.Settings.{Settings}
use Rattle.board_subcommands.specs.declared.table.options.TableOptions.{TableOptions}
use Rattle.cards.specs.Devices.{Device}
use Rattle.streams.specs.Inputs.{IsReadToEnd}
use Rattle.streams.specs.RunStreams.{Devices, devices}
use Rattle.pbn_deals.specs.declared.boards.Board.{Board}
use Rattle.pbn_deals.specs.Reading.{TextAnswers}
use Rattle.evidence.specs.Sections.{SectionShape}
use Rattle.lease_book.specs.declared.entries.Entry.{Entry}
use Rattle.lease_book.specs.declared.events.Event.{Event}
use Rattle.lease_book.specs.Books.{Ledger}
use Rattle.lease_book.specs.Entries.{place_of}
use Rattle.lease_book.specs.Twins.{are_twins, is_first}
use Rattle.lease_book.specs.Histories.{Terms, times_leased, published_in, published_when, first_published}
use Rattle.lease_book.specs.Moments.{MayTell, IsTimed, AreTimed}
use Rattle.farm.specs.declared.faults.FarmFault.{FarmFault}
use Rattle.farm.specs.declared.faults.FarmFault.TheVariants as farm
use Rattle.farm.specs.Faults.{IsHalt}
use Rattle.certificate_graph.specs.Solvers.{MayFind}
use Rattle.farm.specs.declared.unclaimed.Unclaimed.{Unclaimed}
use Rattle.farm.specs.Searched.{AreSearched, AreSearchedSince}
use Rattle.farm.specs.Rounds.{Finishes}
use Rattle.tournaments.specs.declared.faults.MakeFault.{MakeFault}
use Rattle.tournaments.specs.declared.faults.MakeFault.TheVariants.{OutOfMemory, Read, Pbn, NoThread, Write}
use Rattle.streams.proofs.ReadLaws.{Loses-all}
use Rattle.audits.specs.Shown.{PublishesShown}
use Rattle.audits.specs.Shows.{ShowsSections}
use Rattle.audits.proofs.PublishLaws.{timed_by}
use Rattle.board_subcommands.specs.declared.faults.BoardFault.{BoardFault}
use Rattle.board_subcommands.specs.declared.finished_runs.FinishedRun.{FinishedRun}
use Rattle.board_subcommands.specs.Table.Halts.{halted_fault}
use Rattle.board_subcommands.specs.Faults.{make_fault}
use Rattle.evidence_solvers.specs.declared.access.Access.{Access}
use Rattle.evidence_solvers.specs.declared.faults.KeepFault.{KeepFault}
use Rattle.board_subcommands.specs.declared.table.beside.TablesBeside.{TablesBeside}
use Rattle.board_subcommands.specs.Table.Kept.{with_file}
use Rattle.board_subcommands.specs.Table.Beside.{IsRunAfter, IsRunBeside, IsRunBesideSome, MakesBookBeside, MakesPageBeside, PutsBeside, WritesBeside}

some_is : (one other : MakeFault) → Some one ≡ Some other → one ≡ other
some_is one other is = cc

-- ---- numbers stay
option_or_assoc : {X : Type 0} (a b c : Option X) → option_or a (option_or b c) ≡ option_or (option_or a b) c
option_or_assoc None b c = refl
option_or_assoc (Some x) b c = refl

published_more : (test : Entry → Bool) (shown later : List Event) → first_published test (shown ++ later) ≡ option_or (first_published test shown) (first_published test later)
published_more test [] later = refl
published_more test (event ∷ shown) later =
    ap (option_or (published_when test event.asked event.reply)) (published_more test shown later)
    ∙ option_or_assoc (published_when test event.asked event.reply) (first_published test shown) (first_published test later)

published_stays : (boards : List Board) (shown later : List Event) (entry : Entry) (k : ℕ) → published_in boards shown entry ≡ Some k → published_in boards (shown ++ later) entry ≡ Some k
published_stays boards shown later entry k is =
    published_more (are_twins boards entry) shown later ∙ ap (λ (o : Option ℕ). option_or o (first_published (are_twins boards entry) later)) is

-- ---- the run
pub run_beside : (may_find : MayFind) (may_tell : MayTell) (budget now : ℕ) (sections : List SectionShape) (blank shown book : Ledger) (unclaimed : Unclaimed) → may_tell now → ShowsSections blank shown now sections → Finishes may_tell shown book → AreSearchedSince may_find budget shown book unclaimed → (run : IsRunBeside sections may_tell (AreSearched may_find budget unclaimed) book.terms book.events) × (run.shown ≡ shown.events)
run_beside may_find may_tell budget now sections blank shown book unclaimed may shows goes since =
    let timed = timed_by may_tell now shown.events may shows.timed in
    let later = goes.on.later in (
      record {
        run = record {
          history = goes.history;
          given_out = goes.given_out;
          done = goes.done;
          settled = goes.on.settled shows.settled;
          timed = subst (AreTimed may_tell) (sym goes.on.events_are) (All-append (λ (e : Event). IsTimed may_tell e.asked) shown.events later timed goes.on.timed);
        };
        shown = shown.events;
        later = since.later;
        events_are = since.events_are;
        audited = subst (λ (terms : Terms). PublishesShown terms.boards sections shown.events) (sym goes.on.terms_are) shows.published;
        leased = subst (λ (terms : Terms). (entry : Entry) → is_first terms.boards entry.board ≡ true → times_leased shown.events (place_of entry) ≡ 1) (sym goes.on.terms_are) shows.leased;
        leased_once = shows.leased_once;
        kept = λ entry k is. subst (λ (events : List Event). published_in book.terms.boards events entry ≡ Some k) (sym goes.on.events_are) (published_stays book.terms.boards shown.events later entry k is);
        searched = since.searched;
      },
      refl,
    )

-- ---- no run
-- a farm that was halted leaves the source read to its end
pub halted_so : (told : Option (List ℕ)) (may_find : MayFind) (may_tell : MayTell) (settings : Settings) (source source' : Device) (text : List ℕ) (boards : List Board) (fault : FarmFault) (made : MakeFault) → halted_fault fault ≡ Some made → IsHalt fault → IsReadToEnd source source' text → TextAnswers text (Ok boards) → MakesBookBeside told may_find may_tell settings source source' (Err made)
halted_so told may_find may_tell settings source source' text boards farm.OutOfMemory made is halt all says = subst (λ (m : MakeFault). MakesBookBeside told may_find may_tell settings source source' (Err m)) (some_is OutOfMemory made is) (Loses-all all)
halted_so told may_find may_tell settings source source' text boards farm.NoThread made is halt all says = subst (λ (m : MakeFault). MakesBookBeside told may_find may_tell settings source source' (Err m)) (some_is NoThread made is) (boards, record { text = text; all = all; read = says })
halted_so told may_find may_tell settings source source' text boards (farm.Book fault) made is halt all says = absurd halt

-- without a book nothing was written
unmade_page : (told : Option (List ℕ)) (may_find : MayFind) (may_tell : MayTell) (options : TableOptions) (source source' sink : Device) (fault : MakeFault) → MakesBookBeside told may_find may_tell options.settings source source' (Err fault) → MakesPageBeside (IsRunBesideSome told may_find may_tell options.settings.budget) options (devices source sink) (devices source' sink) (Err fault)
unmade_page told may_find may_tell options source source' sink OutOfMemory none = (none, refl)
unmade_page told may_find may_tell options source source' sink Read none = (none, refl)
unmade_page told may_find may_tell options source source' sink (Pbn fault) none = (none.0, none.1, none.2, refl)
unmade_page told may_find may_tell options source source' sink NoThread none = (none.0, none.1, refl)
unmade_page told may_find may_tell options source source' sink Write none = absurd none

pub unmade : (told : Option (List ℕ)) (may_find : MayFind) (may_tell : MayTell) (options : TableOptions) (source source' sink : Device) (fault : MakeFault) (answer : Result TablesBeside BoardFault) → MakesBookBeside told may_find may_tell options.settings source source' (Err fault) → IsErrAnd answer (λ told. told ≡ make_fault fault) → PutsBeside told may_find may_tell options (devices source sink) (devices source' sink) answer
unmade told may_find may_tell options source source' sink fault (Ok made) none is = absurd is
unmade told may_find may_tell options source source' sink fault (Err made) none is = (fault, is, unmade_page told may_find may_tell options source source' sink fault none)

-- ---- the events after what the file shows
later_is : (events shown later : List Event) (n : ℕ) → events ≡ shown ++ later → length shown ≡ n → drop n events ≡ later
later_is events shown later n are is = ap (λ (k : ℕ). drop k events) (sym is) ∙ (ap (drop (length shown)) are ∙ drop-append_seam shown later)

module _ (told : Option (List ℕ)) (may_find : MayFind) (may_tell : MayTell) (options : TableOptions) (old new : Devices) (made : TablesBeside) where
  pub shown_within : PutsBeside told may_find may_tell options old new (Ok made) → made.shown ≤ length made.book.events
  shown_within puts =
      let run = puts.3.run in
      let long : length made.book.events ≡ length (run.run.run.shown ++ run.run.run.later) = ap (λ (e : List Event). length e) run.run.run.events_are in
      let both = length-append run.run.run.shown run.run.run.later in
      let is = run.shown_are in
      omega arith

  pub kept_beside : (Keeps : Result Unit KeepFault → List Event → Type 0) (access : Access) (kept : Result Unit KeepFault) → PutsBeside told may_find may_tell options old new (Ok made) → Keeps kept (drop made.shown made.book.events) → WritesBeside told may_find may_tell Keeps options old new (Ok (with_file made.outcome access kept))
  kept_beside Keeps access kept puts keeps =
      let page = puts.3 in
      let run = page.run in
      let later = later_is made.book.events run.run.run.shown run.run.run.later made.shown run.run.run.events_are run.shown_are in
      let outcome = puts.2 in (
        puts.0,
        made.book,
        puts.1,
        (outcome.0, outcome.1, outcome.2, outcome.3),
        record {
          boards = page.boards;
          read = page.read;
          terms = page.terms;
          run = record { run = run.run; keeps = subst (Keeps kept) later keeps };
          page = page.page;
          is = page.is;
          written = page.written;
          counts = page.counts;
        },
      )
