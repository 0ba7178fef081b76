use Rattle.config_reader.proofs.Carried.{carried}
use Rattle.config_reader.proofs.answer.answer_on_text.Goals as goal

pub returns-clause-carries_out : goal.returns-clause-carries_out
returns-clause-carries_out c = λ none.
    carried c.args.text.now c.args.command c.args.config.now.lists c.read_config.new.config.lists
    c.carry_out.new.config.lists none (c.in_ok-read_config.ensures.reads none) (c.in_ok-read_config.ensures.room none)
    c.in_ok-read_config.ensures.kept c.in_ok-carry_out.ensures.leaves c.in_ok-carry_out.ensures.keeps
