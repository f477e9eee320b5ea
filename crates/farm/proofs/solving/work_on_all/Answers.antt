use Rattle.std.proofs.Common.{◌≡◌, ◌∷◌, [], ◌++◌, ◌∙◌, ap, refl}
use Rattle.farm_relay.specs.Relays.{taken_by, marks_of}
use Rattle.farm.specs.declared.posts.SolverPost.{SolverPost}
use Rattle.farm.proofs.Flows.{puts_then}
use Rattle.farm.proofs.Asks.{asks_more}
use Rattle.farm.proofs.solving.work_on_all.Goals as goal

pub loop-preserved : goal.loop-preserved
loop-preserved g c =
    let i = c.loop.invariant in
    let group = c.in-Some-take.group in
    let took = c.in-Some-take.ensures in
    let worked = c.in_ok-work_on.ensures in
    let old = c.loop.post in
    let between : SolverPost = record { chair = old.chair; groups = c.take.new.self; found = old.found; steps = old.steps } in
    let now : taken_by c.work_on.new.post.groups ≡ taken_by old.groups ++ group ∷ [] = ap taken_by worked.taken ∙ took.some in (
      record {
        chair = record { duty = worked.stays.chair.duty; number = worked.stays.chair.number ∙ i.0.chair.number };
        groups = worked.stays.groups ∙ took.same ∙ i.0.groups;
        found = puts_then _ _ _ i.0.found worked.stays.found;
      },
      ap marks_of worked.taken ∙ took.marks refl ∙ i.1,
      asks_more g.S.Solver.may_find c.args.crew.now old between c.work_on.new.post group now refl refl refl i.2 worked.asks,
    )
