-- With which status a program ends.
use Rattle.std.specs.Prelude.{ℕ}
use Rattle.std.specs.IoError.{error_kind}
use Rattle.std.specs.declared.io.Error.{Error}
use Rattle.std.specs.declared.io.ErrorKind.{ErrorKind}
use Rattle.std.specs.declared.io.ErrorKind.TheVariants.{BrokenPipe, InvalidData, OutOfMemory}
use Rattle.program_parts.specs.declared.fault.Fault.{Fault}
use Rattle.program_parts.specs.declared.fault.Fault.TheVariants.{Absent, Usage, Line}
use Rattle.program_parts.specs.declared.fault.Fault.TheVariants.{Input, System}

abbrev pub status_of_kind : ErrorKind → ℕ
status_of_kind InvalidData = 2
status_of_kind OutOfMemory = 3
status_of_kind BrokenPipe = 141
status_of_kind _ = 4

-- 2 where the input is bad, 3 when out of memory, 141 where nobody reads the output any more, 4
-- where else reading or writing failed
abbrev pub status_of_error : Error → ℕ
status_of_error error = status_of_kind (error_kind error)

-- 1 where what was asked for is absent, 2 where an argument or a line is bad, and else what the
-- error has
abbrev pub status_of_fault : Fault → ℕ
status_of_fault Absent = 1
status_of_fault (Usage reason) = 2
status_of_fault (Line number reason) = 2
status_of_fault (Input error) = status_of_error error
status_of_fault (System error) = status_of_error error
