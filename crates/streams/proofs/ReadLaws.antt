-- A source that was read to its end has given its first bytes, and no call failed.
use Rattle.std.proofs.Common.{ℕ, List, [], Option, None, Some, sym, ◌∙◌, append-nil}
use Rattle.cards.specs.Devices.{Device, TakesWhereTold}
use Rattle.streams.specs.Inputs.{IsAllOf, IsReadToEnd, Loses}

takes_all : (left left' : Option (List ℕ)) (text : List ℕ) → IsAllOf left left' text → TakesWhereTold left left' text
takes_all None left' text all = tt
takes_all (Some left) left' text all = ([], all.1, sym all.0 ∙ sym (append-nil text))

pub Loses-all : {old new : Device} {text : List ℕ} → IsReadToEnd old new text → Loses old new old.failed
Loses-all {old} {new} {text} read =
    record { lost = text; first = takes_all old.bytes new.bytes text read.all; counted = read.none_failed }
