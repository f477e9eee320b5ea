use Rattle.std.proofs.Common.{ℕ, List, [], ◌∷◌, get_or, arith}
use denote.RattleType.{RattleType}
use denote.Struct.Struct.{Struct}
use denote.Struct.Declared.{shape}
use denote.Struct.Tuple.{TupleAt, type_at}
use denote.Exit.{no}
use denote.Param.{param}
use denote.Param.Send.{IsSync, param_sync, arg_sync, recorded_sync, struct_sync, shr_sync}
use Rattle.std.proofs.alloc.Global.TheSendSync as heap
use Rattle.lease_desk.proofs.Sharing.{desk_sync}
use Rattle.book_tests.proofs.Chairs.{keeps_as, each_changes}
use Rattle.book_tests.proofs.desk_tests.shifts.work_side_by_side.Goals as goal

pub returns-then-count-gt0 : goal.returns-then-count-gt0
returns-then-count-gt0 g c =
    let desk = c.args.desk.now in
    let old = c.args.chairs.now in
    let new = c.for_each_mut.new.s in
    each_changes desk old new (omega arith)
    (λ i d within.
    let k = (c.for_each_mut.ensures i d within).1 in
    keeps_as desk (get_or old i d) (get_or new i d) k.argument.now k.after_call.now k.argument_is k.left k.call)
    c.requires

-- four values that threads share
four_sync : (ν : List ℕ) (A B C D : RattleType) → IsSync A → IsSync B → IsSync C → IsSync D → IsSync (TupleAt ν (A ∷ B ∷ C ∷ D ∷ []))
four_sync ν A B C D a b c d =
    let T = type_at ν (A ∷ B ∷ C ∷ D ∷ []) in
    recorded_sync (Struct (shape T)) T.D T.to T.to_one (struct_sync (shape T) (a, (b, (c, (d, tt)))))

-- the desk is shared by all
pub for_each_mut-requires-sync-F : goal.for_each_mut-requires-sync-F
for_each_mut-requires-sync-F g c κs within =
    let rt : IsSync (param 0 g.row.R) = record { shared = c.type_bounds.sync-R.shared } in
    let shift : IsSync (param 1 g.row.S) = record { shared = c.type_bounds.sync-S.shared } in
    param_sync 2 _ (arg_sync _ no _ (four_sync _ _ _ _ _ (shr_sync _ _ _ shift) (shr_sync _ _ _ rt) (shr_sync _ _ _ heap.the_sync) (shr_sync _ _ _ desk_sync)))
