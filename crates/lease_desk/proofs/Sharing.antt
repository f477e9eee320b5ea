-- Threads may share a desk. The prover finds that by itself of structs with no snapshot in them.
use denote.RattleType.{RattleType}
use denote.Struct.Declared.{shape}
use denote.Param.Send.{IsSend, IsSync, part_keyless, sendable, recorded_sync, struct_sync}
use Rattle.std.proofs.Crossing.{Vec-sync}
use Rattle.std.specs.contracts.snapshot.Snapshot as snapshot
use Rattle.lease_book.specs.contracts.book.Book as book_type
use Rattle.lease_book.proofs.book.Book.TheSendSync as book
use Rattle.pbn_deals.proofs.boards.Board.TheSendSync as board
use Rattle.lease_desk.specs.contracts.desk.Desk as desk
use Rattle.lease_desk.proofs.ends.DeskEnds.TheSendSync as ends

snapshot_send : (Y : RattleType) → IsSend (snapshot.the_row Y)
snapshot_send Y = record { owned = λ d vs. ((λ vss. (tt, ((λ uss. (tt, tt)), tt))), tt); leaving = λ k f vs. tt }

snapshot_sync : (Y : RattleType) → IsSync (snapshot.the_row Y)
snapshot_sync Y = record { shared = λ d b o κ q. part_keyless (snapshot.the_row Y) (snapshot_send Y) q d b o }

pub desk_field : IsSync desk.the_field.row
desk_field = struct_sync (shape desk.the_type) (ends.the_field_sync, (Vec-sync _ board.the_sync, (search sendable, (search sendable, (snapshot_sync book_type.the_row, (search sendable, (Vec-sync _ book.the_sync, tt)))))))

pub desk_sync : IsSync desk.the_row
desk_sync = recorded_sync desk.the_field.row desk.the_type.D desk.the_type.to desk.the_type.to_one desk_field
