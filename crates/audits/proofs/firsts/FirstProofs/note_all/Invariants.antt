-- The proofs before `proven-index` are noted.
use Rattle.std.proofs.Common.{◌≡◌, take, length}
use Rattle.audits.specs.Firsts.{AddsProofs}
use Rattle.audits.proofs.firsts.FirstProofs.note_all.Given as goal

abbrev pub invariant-loop-proven : goal.invariant-loop-proven
invariant-loop-proven l =
    record {
      sized : length l.self ≡ length l.initial.self;
      adds : AddsProofs l.board l.initial.self l.self (take l.proven-index l.proofs);
    }
