use Rattle.std.proofs.Common.{rules}
use Rattle.streams.proofs.writer_sinks.WriterSinkSink.write.Goals as goal

pub returns-in-Ok : goal.returns-in-Ok
returns-in-Ok g c = search rules
