-- Why reading fails.
use Rattle.std.specs.IoError.{error_kind}
use Rattle.std.specs.Prelude.{◌≡◌, ◌⊎◌}
use Rattle.std.specs.declared.io.Error.{Error}
use Rattle.std.specs.declared.io.ErrorKind.TheVariants.{InvalidData, OutOfMemory}
use Rattle.program_parts.specs.Statuses.{status_of_fault}
use Rattle.program_parts.specs.declared.fault.Fault.{Fault}

-- the text is bad, or memory was refused
abbrev pub IsBadOrRefused : Error → Type 0
IsBadOrRefused error = (error_kind error ≡ InvalidData) ⊎ (error_kind error ≡ OutOfMemory)

-- the program ends with the status of bad input, or of memory that was refused
abbrev pub IsLineOrRefused : Fault → Type 0
IsLineOrRefused fault = (status_of_fault fault ≡ 2) ⊎ (status_of_fault fault ≡ 3)
