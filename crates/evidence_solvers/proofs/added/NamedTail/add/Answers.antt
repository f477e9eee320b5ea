use Rattle.std.proofs.Common.{◌∙◌, refl, sym}
use Rattle.evidence.specs.Sections.{kept_of}
use Rattle.evidence_solvers.proofs.AddLaws.{after_add}
use Rattle.evidence_solvers.proofs.added.NamedTail.add.Goals as goal

pub invariant_of-self : goal.invariant_of-self
invariant_of-self g c =
    rw c.note_memory.ensures
    (after_add g.T.Held.may_be g.F.Write.contents g.T.Held.held (kept_of c.args.layout.now c.args.trump c.args.bundle.now) c.requires.may c.self.inside.claims.items _ c.self.inside.tail c.add.new.self c.args.text.text c.requires.text (λ is. c.note_claims-noted.ensures.notes) (λ is. c.note_claims-noted.ensures.none (c.is_text.ensures ∙ is)) c.self.invariant (rw c.into_text.ensures at c.add.ensures.text))

pub returns-clause-adds : goal.returns-clause-adds
returns-clause-adds g c = record {
  between = c.add.new.self;
  adds = rw (sym c.self.view_is) (rw c.into_text.ensures at c.add.ensures.text);
  file_is = rw c.note_memory.ensures refl;
  failed_is = rw c.note_memory.ensures refl;
}

pub returns-clause-after : goal.returns-clause-after
returns-clause-after g c =
    rw c.note_memory.ensures
    (after_add g.T.Held.may_be g.F.Write.contents g.T.Held.held (kept_of c.args.layout.now c.args.trump c.args.bundle.now) c.requires.may c.self.inside.claims.items _ c.self.inside.tail c.add.new.self c.args.text.text c.requires.text (λ is. c.note_claims-noted.ensures.notes) (λ is. c.note_claims-noted.ensures.none (c.is_text.ensures ∙ is)) c.self.invariant (rw c.into_text.ensures at c.add.ensures.text))
