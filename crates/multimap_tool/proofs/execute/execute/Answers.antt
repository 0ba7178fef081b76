use Rattle.std.proofs.Common.{refl}
use Rattle.multimap_tool.proofs.execute.execute.Goals as goal

-- where the bytes have no answer, nothing is written
pub returns-clause-unwritten : goal.returns-clause-unwritten
returns-clause-unwritten g c = λ _. refl
