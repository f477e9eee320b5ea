use Rattle.std.proofs.Common.{rules, ◌≡◌, ◌∷◌, ◌++◌, [], ℕ, List, codes, refl, subst}
use Rattle.run_ends.specs.Telling.{IsTold}
use Rattle.run_ends.proofs.TellLemmas.{IsTold-from_writes}
use Rattle.command_line.proofs.run_commands.tell_refusal.Goals as goal

pub returns-in-None : goal.returns-in-None
returns-in-None g c =
    let line : c.as_bytes-in-None.result.now ≡ codes "ddfarm: the command line is refused" ++ 10 ∷ [] = search rules in
    let told = IsTold-from_writes c.write_all-in-None.result c.write_all-in-None.ensures in (
      refl,
      rw c.in-None.is (subst (λ (text : List ℕ). IsTold (g.E.Sink.state c.args.errors.now) (g.E.Sink.state c.write_all-in-None.new.sink) text) line told),
    )
