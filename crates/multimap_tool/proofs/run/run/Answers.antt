use Rattle.std.proofs.Common.{rules, subst}
use Rattle.std.specs.Prelude.{Contains}
use Rattle.multimap_tool.proofs.run.run.Goals as goal

pub run_all-requires-clause-steps : goal.run_all-requires-clause-steps
run_all-requires-clause-steps g c = λ command here. record {
  callable = λ operand is key value. c.requires.callable operand (subst (Contains c.args.commands.now) is here) key value;
  clones = c.requires.clones;
  parts = c.requires.parts command here;
}

pub returns-clause-unchanged : goal.returns-clause-unchanged
returns-clause-unchanged g c = search rules
