-- Where the words say that numbers come from.
use Rattle.std.specs.Prelude.{◌≡◌, ◌&&◌, ℕ, Bool, List, [], ◌∷◌, Some, None, codes}
use Rattle.clap.specs.Words.{Row, Rule, first_of}
use Rattle.command_words.specs.Rules.{text_rule}
use Rattle.command_words.specs.Says.{is_some_text}
use Rattle.command_words.specs.declared.proofs.Proof.{Proof}
use Rattle.command_words.specs.declared.proofs.Proof.TheVariants.{Dropped, Kept, Audited}

-- the file in which evidence is kept
abbrev pub evidence_option : List ℕ
evidence_option = codes "evidence"

-- the file whose evidence shows the numbers
abbrev pub audit_option : List ℕ
audit_option = codes "audit"

abbrev pub proof_rules : List Rule
proof_rules = text_rule evidence_option ∷ text_rule audit_option ∷ []

-- the words name at most one file of evidence: one that is kept, or one that is audited
abbrev pub SaysProof : List Row → Proof → Type 0
SaysProof said Dropped = (first_of evidence_option said ≡ None) × (first_of audit_option said ≡ None)
SaysProof said (Kept name) = (first_of evidence_option said ≡ Some name.now) × (first_of audit_option said ≡ None)
SaysProof said (Audited name) = (first_of evidence_option said ≡ None) × (first_of audit_option said ≡ Some name.now)

-- the words name two files of evidence: one that is kept, and one that is audited
abbrev pub names_both_files : List Row → Bool
names_both_files said = is_some_text (first_of evidence_option said) && is_some_text (first_of audit_option said)
