use Rattle.std.proofs.Common.{ℕ, List, Option, ◌∙◌, ap}
use Rattle.indexmap.specs.IndexMap.{get}
use Rattle.lease_book.specs.Holders.{are_same_holders, noted_or, noted_after}
use Rattle.lease_book.proofs.holders.note.Goals as goal

pub returns-in-Some-clause-first : goal.returns-in-Some-clause-first
returns-in-Some-clause-first c =
    let found = rw c.in-Some.is at c.get.ensures.value in
    rw (← c.holders_of-holders.ensures) (ap (λ (o : Option ℕ). noted_or o c.args.number) found)

pub returns-in-Some-clause-noted : goal.returns-in-Some-clause-noted
returns-in-Some-clause-noted c =
    let found = rw c.in-Some.is at c.get.ensures.value in
    rw (← c.holders_of-holders.ensures)
    (λ (others : List ℕ). ap (λ (o : Option ℕ). noted_after o c.holders_of-holders.result c.args.number others (get are_same_holders c.args.noted.now others)) found)

pub returns-in_ok-insert-in-None-clause-first : goal.returns-in_ok-insert-in-None-clause-first
returns-in_ok-insert-in-None-clause-first c =
    let found = rw c.in-None.is at c.get.ensures.value in
    rw (← c.holders_of-holders.ensures) (ap (λ (o : Option ℕ). noted_or o c.args.number) found)

pub returns-in_ok-insert-in-None-clause-noted : goal.returns-in_ok-insert-in-None-clause-noted
returns-in_ok-insert-in-None-clause-noted c =
    let found = rw c.in-None.is at c.get.ensures.value in
    rw (← c.holders_of-holders.ensures)
    (λ (others : List ℕ).
    c.in_ok-insert-in-None.ensures.updates.0 others
    ∙ ap (λ (o : Option ℕ). noted_after o c.holders_of-holders.result c.args.number others (get are_same_holders c.args.noted.now others)) found)
