-- What an error of the system means to a read and to a write, by its kind. Own.
use Rattle.std.specs.declared.io.ErrorKind.{ErrorKind}
use Rattle.std.specs.declared.io.ErrorKind.TheVariants as kind
use Rattle.link_files.specs.declared.files.FileError.{FileError}
use Rattle.link_files.specs.declared.files.FileError.TheVariants as read
use Rattle.link_files.specs.declared.files.WriteError.{WriteError}
use Rattle.link_files.specs.declared.files.WriteError.TheVariants as write

-- of a read: no file has a name that is not there, whose path goes through a file or that is too long
abbrev pub read_error_of : ErrorKind → FileError
read_error_of kind.NotFound = read.NotFound
read_error_of kind.NotADirectory = read.NotFound
read_error_of kind.InvalidFilename = read.NotFound
read_error_of kind.OutOfMemory = read.Memory
read_error_of _ = read.Fault

-- of making or emptying a file
abbrev pub create_error_of : ErrorKind → WriteError
create_error_of kind.OutOfMemory = write.Memory
create_error_of _ = write.Fault
