use Rattle.std.proofs.Common.{◌≡◌, ◌∙◌, None, inl, refl, rules, subst, sym, true}
use Rattle.std.specs.IoError.{error_kind}
use Rattle.std.specs.declared.io.ErrorKind.TheVariants.{InvalidData}
use Rattle.config_reader.specs.Lines.{IsBehindLines}
use Rattle.config_reader.specs.Written.{texts_of}
use Rattle.config_reader.specs.Blocks.{IsKept, IsSettingLine, item_of_rest}
use Rattle.config_reader.specs.Said.{indent_of, is_deeper, setting_at}
use Rattle.config_reader.specs.Sections.{spelled}
use Rattle.config_reader.proofs.Kept.{setting_kept}
use Rattle.config_reader.proofs.Refused.{deeper_refused, unread_refused}
use Rattle.config_reader.proofs.WholeLines.{keep_item}
use Rattle.config_reader.proofs.reader.Reader.read_setting.Goals as goal

pub returns-clause-kept : goal.returns-clause-kept
returns-clause-kept c = λ all is.
    let done = c.in_ok-add_between.ensures in
    let item = c.in_ok-add_item.ensures in
    let behind = c.in_ok-key.behind.now in
    keep_item (texts_of c.add_between.new.config.lists.pairs) c.args.self.now.rest.now c.add_between.new.self.between.now behind
    all (texts_of c.add_item.new.config.lists.pairs) c.add_item.new.self.between.now c.add_item.new.self.rest.now
    (done.kept all is).is_all done.between (subst (λ rest. IsBehindLines rest behind) done.rest c.in_ok-key.ensures.lines)
    (λ l same. item.kept l (done.rest ∙ same)) item.between item.rest

pub returns-clause-reads : goal.returns-clause-reads
returns-clause-reads c = λ is kept.
    let done = c.in_ok-add_between.ensures in
    let item = c.in_ok-add_item.ensures in
    let mid = c.add_between.new.self in
    let here = subst (λ rest. IsSettingLine rest c.args.line.now) (sym done.rest) is in
    setting_kept mid c.add_item.new.self c.add_between.new.config.lists c.add_item.new.config.lists
    _ _ c.args.line.now c.in_ok-key.behind.now
    (subst (λ r. IsKept mid r c.add_between.new.config.lists) (sym done.same_rank) (done.reads kept (inl refl))) here
    (c.in_ok-key.ensures.setting here.line_is) (search rules) (search rules) item.added
    item.section (search rules) item.same_rank (item.between ∙ sym item.rest)

pub returns-then-is_deeper-clause-refused : goal.returns-then-is_deeper-clause-refused
returns-then-is_deeper-clause-refused c = λ is bad.
    let old = c.args.self.now in
    let deeper : is_deeper (indent_of c.args.line.now) old.indent ≡ true = search rules in
    deeper_refused (spelled old.section) old.indent old.rest.now c.args.line.now is deeper

pub returns-in_err-key-clause-refused : goal.returns-in_err-key-clause-refused
returns-in_err-key-clause-refused c = λ is.
    let old = c.args.self.now in
    let rest = c.in_ok-add_between.ensures.rest in
    let here = subst (λ rest. IsSettingLine rest c.args.line.now) (sym rest) is in
    let refused : error_kind c.in_err-key.field-0.0 ≡ InvalidData → item_of_rest old ≡ None =
    λ bad. unread_refused (spelled old.section) old.indent old.rest.now c.args.line.now is
    (subst (λ t. setting_at t ≡ None) rest (c.in_err-key.ensures.refused here.line_is bad)) in
    search rules
