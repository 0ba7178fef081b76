-- The texts and exit statuses of faults.
use Prim.Native.String.{String}
use Rattle.std.specs.Prelude.{ℕ, List, ◌++◌, codes}
use Rattle.std.specs.Fmt.{decimal}
use Rattle.multimap_tool.specs.declared.faults.TextFault.{TextFault}
use Rattle.multimap_tool.specs.declared.faults.TextFault.TheVariants as text_faults
use Rattle.multimap_tool.specs.declared.faults.ToolFault.{ToolFault}
use Rattle.multimap_tool.specs.declared.faults.ToolFault.TheVariants.{BadLine, Read, Write}
use Rattle.multimap_tool.specs.declared.faults.ToolFault.TheVariants.{OutOfMemory}
use Rattle.multimap_tool.specs.declared.json.faults.PartFault.{PartFault}
use Rattle.multimap_tool.specs.declared.json.faults.PartFault.TheVariants as part_faults
use Rattle.multimap_tool.specs.declared.json.faults.ReadFault.{ReadFault}
use Rattle.multimap_tool.specs.declared.json.faults.ReadFault.TheVariants as read_faults
use Rattle.multimap_tool.specs.declared.json.faults.ReadFault.TheVariants.{NotArray, NotVersion2}
use Rattle.multimap_tool.specs.declared.json.faults.ReadFault.TheVariants.{BadListedKey, BadKey}
use Rattle.multimap_tool.specs.declared.json.faults.ReadFault.TheVariants.{BadValue, NotPair}
use Rattle.multimap_tool.specs.declared.json.faults.ReadFault.TheVariants.{RepeatedKey, UnusedKey}
use Rattle.multimap_tool.specs.declared.json.faults.ReadFault.TheVariants.{UnlistedKey}

-- the text of a fault
abbrev pub fault_text : ToolFault → List ℕ
fault_text (BadLine line) = codes "bad line " ++ decimal line
fault_text Read = codes "read failed"
fault_text Write = codes "write failed"
fault_text OutOfMemory = codes "out of memory"

-- its exit status
abbrev pub status_of : ToolFault → ℕ
status_of (BadLine line) = 2
status_of Read = 3
status_of Write = 3
status_of OutOfMemory = 4

-- a text's fault is the same fault of the program
abbrev pub as_tool_fault : TextFault → ToolFault
as_tool_fault (text_faults.BadLine line) = BadLine line
as_tool_fault text_faults.OutOfMemory = OutOfMemory

abbrev pub text_fault_text : TextFault → List ℕ
text_fault_text fault = fault_text (as_tool_fault fault)

-- a number between two texts
abbrev pub around : String → ℕ → String → List ℕ
around before i behind = codes before ++ decimal i ++ codes behind

-- the texts of what is wrong with a JSON value
abbrev pub part_fault_text : PartFault → List ℕ
part_fault_text part_faults.Refused = codes "refused"
part_fault_text part_faults.OutOfMemory = codes "out of memory"

abbrev pub read_fault_text : ReadFault → List ℕ
read_fault_text NotArray = codes "the value is neither an array nor an object"
read_fault_text NotVersion2 =
    codes "the object isn't made of two arrays \"keys\" and \"pairs\" alone"
read_fault_text (BadListedKey i) = around "item " i " of \"keys\" is no key of the map's type"
read_fault_text (RepeatedKey i) = around "item " i " of \"keys\" equals an earlier one"
read_fault_text (NotPair i) = around "pair " i " is no array of a key and a value"
read_fault_text (BadKey i) = around "the key of pair " i " is no key of the map's type"
read_fault_text (UnlistedKey i) = around "the key of pair " i " equals no item of \"keys\""
read_fault_text (BadValue i) = around "the value of pair " i " is no value of the map's type"
read_fault_text (UnusedKey i) = around "item " i " of \"keys\" is the key of no pair"
read_fault_text read_faults.OutOfMemory = codes "out of memory"
