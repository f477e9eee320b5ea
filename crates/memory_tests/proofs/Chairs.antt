-- The chairs of a desk after calls were made from one of them.
use Rattle.std.proofs.Common.{◌≡◌, ℕ, List, map, get_or, set, sym, subst}
use Rattle.std.proofs.Math.Seq.{map-set_same}
use Rattle.std.proofs.lemmas.List.Elements.{All-set}
use Rattle.lease_desk.specs.declared.chairs.Chair.{Chair}
use Rattle.lease_desk.specs.declared.desk.Desk.{Desk}
use Rattle.lease_desk.specs.Desks.{IsChairOf, AreAll, AreChairsOf, chairs_of, number_of}

pub one_changes : (desk : Desk) (xs : List Chair) (i : ℕ) (chair d : Chair) → IsChairOf desk chair → number_of chair ≡ number_of (get_or xs i d) → AreChairsOf desk xs → AreChairsOf desk (set xs i chair)
one_changes desk xs i chair d is same chairs =
    let numbers = map-set_same number_of xs i chair d same in
    record {
      each = All-set (IsChairOf desk) xs i chair is chairs.each;
      all = subst (λ ns. AreAll (chairs_of desk) ns) (sym numbers) chairs.all;
    }
