use Rattle.std.proofs.Common.{sym, subst, inl, inr}
use Rattle.pattern_store.specs.Record.{KeepsOwners}
use Rattle.pattern_store.proofs.OwnerWords.{keeps_masked, none_named}
use Rattle.pattern_store.proofs.record.Record.new.Goals as goal

pub returns-clause-near : goal.returns-clause-near
returns-clause-near g c = keeps_masked 0 c.args.depths c.near_mask-mask.result c.near_mask-mask.ensures c.args.near

pub returns-clause-deep : goal.returns-clause-deep
returns-clause-deep g c =
    let depths = c.args.depths in
    elim c.kept.ensures [
      | inl none ↦ inl (none_named 8 depths c.deep_mask.result c.deep_mask.ensures none.0, none.1)
      | inr some ↦ inr (some.0, some.1, subst (KeepsOwners 8 depths some.0) (sym some.2) (keeps_masked 8 depths c.deep_mask.result c.deep_mask.ensures some.0))
    ]
