use Rattle.std.proofs.Common.{◌≡◌, ℕ, Result, Ok, Err, IfOk, OnOk, sym, ◌∙◌, ap, subst}
use Rattle.std.specs.Option.{option_copied}
use Rattle.indexmap.specs.IndexMap.{get}
use Rattle.lease_book.specs.Twins.{first_with}
use Rattle.lease_book.specs.Holders.{are_same_holders}
use Rattle.lease_book.proofs.HolderLaws.{noted_none, first_told, noted_more}
use Rattle.lease_book.proofs.boards.first_of.Goals as goal

on_ok : {A E : Type 0} (result : Result A E) (P Q : Type 0) → (P → Q) → OnOk result P → OnOk result Q
on_ok (Ok x) P Q f p = f p
on_ok (Err e) P Q f p = p

pub returns-in-Some-clause-first : goal.returns-in-Some-clause-first
returns-in-Some-clause-first c =
    let has = sym c.deal_on.ensures ∙ ap option_copied c.in-Some.is in
    subst (λ n. IfOk c.note.result (λ (first : ℕ). first ≡ n))
    (first_told c.args.boards.now c.args.number c.in-Some.layout.now has (get are_same_holders c.args.noted.now) c.requires.noted)
    c.note.ensures.first

pub returns-in-Some-clause-noted : goal.returns-in-Some-clause-noted
returns-in-Some-clause-noted c =
    let has = sym c.deal_on.ensures ∙ ap option_copied c.in-Some.is in
    on_ok c.note.result _ _
    (noted_more c.args.boards.now c.args.number c.in-Some.layout.now has (get are_same_holders c.args.noted.now) c.requires.noted (get are_same_holders c.note.new.noted))
    c.note.ensures.noted

pub returns-in-None-clause-first : goal.returns-in-None-clause-first
returns-in-None-clause-first c =
    let none = sym c.deal_on.ensures ∙ ap option_copied c.in-None.is in
    sym (ap (λ o. first_with c.args.boards.now o c.args.number) none)

pub returns-in-None-clause-noted : goal.returns-in-None-clause-noted
returns-in-None-clause-noted c =
    let none = sym c.deal_on.ensures ∙ ap option_copied c.in-None.is in
    noted_none c.args.boards.now c.args.number (get are_same_holders c.args.noted.now) c.requires.within none c.requires.noted
