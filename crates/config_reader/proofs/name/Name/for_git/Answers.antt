use Rattle.std.proofs.Common.{rules}
use Rattle.config_reader.proofs.name.Name.for_git.Goals as goal

pub returns-clause-git_key : goal.returns-clause-git_key
returns-clause-git_key c = search rules
