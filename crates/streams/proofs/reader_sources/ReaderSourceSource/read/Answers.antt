use Rattle.std.proofs.Common.{rules}
use Rattle.streams.proofs.reader_sources.ReaderSourceSource.read.Goals as goal

pub returns-in_default : goal.returns-in_default
returns-in_default g c = search rules
