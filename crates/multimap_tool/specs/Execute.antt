-- What a run of the program says of its reader and its writer: the bytes that they tell, where
-- they tell them.
use Rattle.std.specs.Prelude.{ℕ, List, Option}
use Rattle.std.specs.Io.KnownBytes.{Appends, Consumes, IsAtEnd}
use Rattle.multimap_tool.specs.declared.faults.TextFault.{TextFault}
use Rattle.multimap_tool.specs.declared.faults.TextFault.TheVariants as text_faults
use Rattle.multimap_tool.specs.declared.faults.ToolFault.{ToolFault}
use Rattle.multimap_tool.specs.declared.faults.ToolFault.TheVariants.{BadLine, Read, Write}
use Rattle.multimap_tool.specs.declared.faults.ToolFault.TheVariants.{OutOfMemory}
use Rattle.multimap_tool.specs.Spelling.{lines_of, IsFirstBadLine}
use Rattle.multimap_tool.specs.Answers.{IsAnsweredBy}

-- a reader that had `old` left and now has `new` gave just these bytes, and has no more
pub record ReadsAll (old new : Option (List ℕ)) (bytes : List ℕ) : Type 0 where
  pub taken : Consumes old new bytes
  pub ended : IsAtEnd new

-- all of the input was read, and its output and nothing else was written
pub record IsAnswered (A : Type 0) (old_input new_input old_output new_output : Option (List ℕ))
    : Type 0 where
  pub bytes : List ℕ
  pub text : List ℕ
  pub read : ReadsAll old_input new_input bytes
  pub answer : IsAnsweredBy A bytes text
  pub written : Appends old_output new_output text

-- what a fault of a text's lines says of the text
abbrev pub IsTextFaultOf : (A : Type 0) → List ℕ → TextFault → Type 0
IsTextFaultOf A text (text_faults.BadLine line) = IsFirstBadLine A (lines_of text) line
IsTextFaultOf A text text_faults.OutOfMemory = Unit {0}

-- what a fault of the answer tells of the bytes that were read: reading and writing have no part
-- in it
abbrev pub IsFaultOf : (A : Type 0) → List ℕ → ToolFault → Type 0
IsFaultOf A bytes (BadLine line) = IsFirstBadLine A (lines_of bytes) line
IsFaultOf A bytes OutOfMemory = Unit {0}
IsFaultOf A bytes Read = ⊥
IsFaultOf A bytes Write = ⊥

-- what a fault says of the input
abbrev pub FaultTells : (A : Type 0) → Option (List ℕ) → Option (List ℕ) → ToolFault → Type 0
FaultTells A old new (BadLine line) =
    (bytes : List ℕ) × ReadsAll old new bytes × IsFirstBadLine A (lines_of bytes) line
FaultTells A old new Read = (bytes : List ℕ) × Consumes old new bytes
FaultTells A old new Write =
    (bytes : List ℕ) × (text : List ℕ) × ReadsAll old new bytes × IsAnsweredBy A bytes text
FaultTells A old new OutOfMemory = Unit {0}
