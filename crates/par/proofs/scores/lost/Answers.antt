use Rattle.std.proofs.Common.{◌∙◌, sym, arith}
use Rattle.par.proofs.ScoreLaws.{undoubled, undoubled_vulnerable, doubled_few, doubled_many, doubled_vulnerable}
use Rattle.par.proofs.scores.lost.Goals as goal

pub returns-in-Undoubled-NotVulnerable-clause-points : goal.returns-in-Undoubled-NotVulnerable-clause-points
returns-in-Undoubled-NotVulnerable-clause-points c =
    let arm = c.in-Undoubled-NotVulnerable in
    rw (arm.is-0, arm.is-1) (sym (undoubled c.args.under))

pub returns-in-Undoubled-Vulnerable-clause-points : goal.returns-in-Undoubled-Vulnerable-clause-points
returns-in-Undoubled-Vulnerable-clause-points c =
    let arm = c.in-Undoubled-Vulnerable in
    rw (arm.is-0, arm.is-1) (sym (undoubled_vulnerable c.args.under))

pub returns-in-Doubled-NotVulnerable-clause-points : goal.returns-in-Doubled-NotVulnerable-clause-points
returns-in-Doubled-NotVulnerable-clause-points c =
    let arm = c.in-Doubled-NotVulnerable in
    rw (arm.is-0, arm.is-1) (c.saturating_sub.ensures ∙ sym (doubled_few c.args.under (omega arith)))

pub returns-in-Doubled-NotVulnerable-2-clause-points : goal.returns-in-Doubled-NotVulnerable-2-clause-points
returns-in-Doubled-NotVulnerable-2-clause-points c =
    let arm = c.in-Doubled-NotVulnerable-2 in
    rw (arm.is-0, arm.is-1) (sym (doubled_many c.args.under (omega arith)))

pub returns-in-Doubled-Vulnerable-clause-points : goal.returns-in-Doubled-Vulnerable-clause-points
returns-in-Doubled-Vulnerable-clause-points c =
    let arm = c.in-Doubled-Vulnerable in
    rw (arm.is-0, arm.is-1) (c.saturating_sub-in-Doubled-Vulnerable.ensures ∙ sym (doubled_vulnerable c.args.under))
