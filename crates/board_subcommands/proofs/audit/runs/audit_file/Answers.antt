use Rattle.std.proofs.Common.{inr, subst, Err}
use Rattle.streams.specs.RunStreams.{devices}
use Rattle.evidence.specs.Wholes.{Whole}
use Rattle.audits.specs.Audits.{AuditsTables}
use Rattle.tournaments.specs.Putting.{page_fact}
use Rattle.board_subcommands.proofs.audit.runs.audit_file.Goals as goal

pub returns : goal.returns
returns g c =
    let source' = g.I.Source.state c.audit_tables.new.input in
    let sink' = g.O.Sink.state c.audit_tables.new.output in
    inr (
      c.in-Err-audit_tables.fault,
      c.from.ensures,
      record {
        file = g.R.Opened.Source.state c.in-Ok.file;
        opened = c.in-Ok.ensures.opens;
        none_failed = c.in-Ok.ensures.none_failed;
        left = c.audit_tables.new.evidence;
        audits =
            subst (λ (evidence : Whole). AuditsTables (page_fact c.args.options.page) (devices (g.I.Source.state c.args.input.now) (g.O.Sink.state c.args.output.now)) (devices source' sink') evidence c.audit_tables.new.evidence (Err c.in-Err-audit_tables.fault))
            c.new-evidence.ensures c.in-Err-audit_tables.ensures;
      },
    )
