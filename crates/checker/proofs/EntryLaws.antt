-- What is told of two graphs, from what is told of each.
use Rattle.std.proofs.Common.{◌≡◌, Result, Ok, Err, sym, ◌∙◌, subst}
use Rattle.std.specs.Prelude.{MatchResult, IsErrAnd}
use Rattle.checker.specs.declared.entry_faults.PartFault.{PartFault}
use Rattle.checker.specs.declared.entry_faults.EntryFault.{EntryFault}

-- the answer for a part under another name
abbrev pub IsNamed : {A : Type 0} → (PartFault → EntryFault) → Result A PartFault → Result A EntryFault → Type 0
IsNamed name part answer = MatchResult part (λ done. answer ≡ Ok done) (λ fault. IsErrAnd answer (λ other. other ≡ name fault))

not_both : {A : Type 0} (done : A) (fault : EntryFault) → Ok done ≡ Err fault → ⊥
not_both done fault same = cc

-- where it is a fault, that of the part has the name
pub named_fault : {A : Type 0} (name : PartFault → EntryFault) (part : Result A PartFault) (answer : Result A EntryFault) (Right : Type 0) (Wrong : PartFault → Type 0) (Told : EntryFault → Type 0) (fault : EntryFault) →
    MatchResult part (λ _. Right) Wrong → IsNamed name part answer → answer ≡ Err fault → ((one : PartFault) → Wrong one → Told (name one)) → Told fault
named_fault name (Ok done) answer Right Wrong Told fault told same is tell = absurd (not_both done fault (sym same ∙ is))
named_fault name (Err one) (Ok done) Right Wrong Told fault told same is tell = absurd same
named_fault name (Err one) (Err other) Right Wrong Told fault told same is tell =
    let e : name one ≡ fault = (let h : other ≡ fault = cc in sym same ∙ h) in
    subst Told e (tell one told)

-- where it is none, the part is right
pub named_right : {A : Type 0} (name : PartFault → EntryFault) (part : Result A PartFault) (answer : Result A EntryFault) (Right : Type 0) (Wrong : PartFault → Type 0) (done : A) →
    MatchResult part (λ _. Right) Wrong → IsNamed name part answer → answer ≡ Ok done → Right
named_right name (Ok done') answer Right Wrong done told same is = told
named_right name (Err one) (Ok done') Right Wrong done told same is = absurd same
named_right name (Err one) (Err other) Right Wrong done told same is = absurd (not_both done other (sym is))
