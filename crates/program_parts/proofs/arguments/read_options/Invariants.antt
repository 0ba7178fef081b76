use Rattle.std.proofs.Common.{length}
use Rattle.program_parts.proofs.arguments.read_options.Given as goal

abbrev pub decreases-loop-word : goal.decreases-loop-word
decreases-loop-word l = length l.rest
