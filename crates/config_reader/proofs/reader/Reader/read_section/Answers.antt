use Rattle.std.proofs.Common.{◌∙◌, ◌+◌, ◌^◌, ◌≤◌, inr, refl, rules, subst, sym}
use Rattle.config_reader.specs.Written.{texts_of}
use Rattle.config_reader.specs.Blocks.{IsKept, IsSectionLine}
use Rattle.config_reader.proofs.Kept.{section_kept}
use Rattle.config_reader.proofs.WholeLines.{keep_item}
use Rattle.config_reader.proofs.reader.Reader.read_section.Goals as goal

pub returns-clause-kept : goal.returns-clause-kept
returns-clause-kept c = λ all is lines.
    let done = c.in_ok-add_between.ensures in
    let item = c.in_ok-add_item.ensures in
    keep_item (texts_of c.add_between.new.config.lists.pairs) c.args.self.now.rest.now c.add_between.new.self.between.now c.args.behind.now
    all (texts_of c.add_item.new.config.lists.pairs) c.add_item.new.self.between.now c.add_item.new.self.rest.now
    (done.kept all is).is_all done.between lines (λ l same. item.kept l (done.rest ∙ same)) item.between item.rest

pub returns-clause-reads : goal.returns-clause-reads
returns-clause-reads c = λ is kept.
    let done = c.in_ok-add_between.ensures in
    let item = c.in_ok-add_item.ensures in
    let mid = c.add_between.new.self in
    let new = c.add_item.new.self in
    let behind = c.args.behind.now in
    let few : c.args.self.now.rank + 1 ≤ 2 ^ 63 = search rules in
    section_kept mid new c.add_between.new.config.lists c.add_item.new.config.lists
    _ _ c.args.inside.now behind _
    (subst (λ r. IsKept mid (r + 1) c.add_between.new.config.lists) (sym done.same_rank) (done.reads kept (inr refl)))
    (subst (λ rest. IsSectionLine rest c.args.inside.now behind) (sym done.rest) is)
    (search rules) item.added (sym item.section) item.same_rank
    (search rules) (subst (λ r. r + 1 ≤ 2 ^ 63) (sym done.same_rank) few) refl
    (item.between ∙ sym item.rest)
