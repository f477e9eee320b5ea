use Rattle.std.proofs.Common.{None, subst}
use Rattle.streams.specs.RunStreams.{devices_of}
use Rattle.clap.specs.declared.error.kind.ErrorKind.{ErrorKind}
use Rattle.clap.specs.Values.{kind_of}
use Rattle.command_line.specs.Commands.{EndsWords, is_done, is_none}
use Rattle.command_line.proofs.run_commands.run_read.Goals as goal

pub returns-in-Ok : goal.returns-in-Ok
returns-in-Ok g c = λ words processors said.
    let read = rw c.in-Ok.is at said in
    (c.run_subcommand.result.0, is_done read.0 read.1 c.in-Ok.asked read.2 _ c.run_subcommand.ensures, c.code.ensures)

pub returns-in-Err : goal.returns-in-Err
returns-in-Err g c = λ words processors said.
    let read = rw c.in-Err.is at said in
    let ends = subst (λ (kind : ErrorKind). EndsWords None (devices_of g.I.Source.state g.O.Sink.state g.E.Sink.state c.args.streams.now) (devices_of g.I.Source.state g.O.Sink.state g.E.Sink.state c.tell_words.new.streams) kind c.tell_words.result) c.kind-kind.ensures c.tell_words.ensures in
    (c.tell_words.result, is_none read.0 read.1 (kind_of c.in-Err.error) read.2 ends, c.code-in-Err.ensures)
