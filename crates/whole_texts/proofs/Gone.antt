-- A text on its way out: what of it has gone, and what is still to go.
use Rattle.std.proofs.Common.{◌≡◌, ℕ, List, [], ◌++◌, Option, Result, Ok, Err, refl, sym, ◌∙◌, ap, subst, append_assoc, append-nil}
use Rattle.std.specs.Prelude.{IfOk, IsErrAnd}
use Rattle.cards.specs.declared.devices.DeviceFault.{DeviceFault}
use Rattle.cards.specs.Devices.{Device, Adds, AddsBeginning, Writes}
use Rattle.cards.proofs.DeviceLemmas.{Adds-twice}
use Rattle.cards.proofs.WriteLemmas.{Adds-none, AddsBeginning-stop, AddsBeginning-then}
use Rattle.whole_texts.specs.LineEnds.{last_of}
use Rattle.whole_texts.proofs.EndsBytes.{last-append}

pub record Gone (start now : Device) (before last : Option ℕ) (all todo : List ℕ) : Type 0 where
  pub done : List ℕ
  pub adds : Adds start now done
  pub ends : last ≡ last_of before done
  pub whole : all ≡ done ++ todo

pub none_gone : (start : Device) (before : Option ℕ) (all : List ℕ) → Gone start start before before all all
none_gone start before all = record { done = []; adds = Adds-none start; ends = refl; whole = refl }

-- a piece more
pub more_gone : {start now later : Device} {before last last' : Option ℕ} {all : List ℕ} (piece todo : List ℕ) → Gone start now before last all (piece ++ todo) → Adds now later piece → last' ≡ last_of last piece → Gone start later before last' all todo
more_gone {before = before} piece todo g a e = record {
  done = g.done ++ piece;
  adds = Adds-twice g.adds a;
  ends = e ∙ (ap (λ l. last_of l piece) g.ends ∙ sym (last-append before g.done piece));
  whole = g.whole ∙ sym (append_assoc g.done piece todo);
}

-- a fault in a piece
pub fault_in : {start now later : Device} {before last : Option ℕ} {all : List ℕ} (piece todo : List ℕ) → Gone start now before last all (piece ++ todo) → AddsBeginning now later piece → AddsBeginning start later all
fault_in {start} {later = later} piece todo g a =
    subst (λ t. AddsBeginning start later t) (sym g.whole) (AddsBeginning-then g.adds (AddsBeginning-stop todo a))

-- all of it
pub all_gone : {start now : Device} {before last : Option ℕ} {all : List ℕ} → Gone start now before last all [] → Adds start now all × (last ≡ last_of before all)
all_gone {start} {now} {before} g =
    let whole = g.whole ∙ append-nil g.done in
    (subst (λ t. Adds start now t) (sym whole) g.adds, g.ends ∙ ap (last_of before) (sym whole))

-- the exit of a `?`: nothing is answered
pub stops : {start later : Device} {all : List ℕ} {X : Type 0} (result : Result X DeviceFault) (Q : DeviceFault → Type 0) (P : X → Type 0) → IsErrAnd result Q → AddsBeginning start later all → Writes start later all result × IfOk result P
stops (Ok answer) Q P e a = absurd e
stops (Err fault) Q P e a = (a, tt)
