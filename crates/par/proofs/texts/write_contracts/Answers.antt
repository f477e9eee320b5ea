use Rattle.cards.proofs.WriteLemmas.{Writes-then}
use Rattle.par.proofs.TextLaws.{contracts_text-split}
use Rattle.par.proofs.texts.write_contracts.Goals as goal

pub returns-in_ok-write_contract-in-len1-up : goal.returns-in_ok-write_contract-in-len1-up
returns-in_ok-write_contract-in-len1-up g c =
    let last = c.write_others.result in
    rw (← contracts_text-split c.args.contracts.now c.in-len1-up.len_at_least)
    (Writes-then last _ _ c.in_ok-write_contract-in-len1-up.ensures c.write_others.ensures)
