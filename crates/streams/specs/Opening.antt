-- Why a file can't be opened.
use Rattle.std.specs.declared.io.ErrorKind.{ErrorKind}
use Rattle.std.specs.declared.io.ErrorKind.TheVariants as kind
use Rattle.streams.specs.declared.opening.CannotOpen.{CannotOpen}
use Rattle.streams.specs.declared.opening.CannotOpen.TheVariants.{Missing, Denied, NotAFile, Exists, Refused}

-- by what the system says
abbrev pub why_of : ErrorKind → CannotOpen
why_of kind.NotFound = Missing
why_of kind.NotADirectory = Missing
why_of kind.PermissionDenied = Denied
why_of kind.ReadOnlyFilesystem = Denied
why_of kind.IsADirectory = NotAFile
why_of kind.AlreadyExists = Exists
why_of _ = Refused
