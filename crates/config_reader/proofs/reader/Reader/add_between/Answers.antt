use Rattle.std.proofs.Common.{◌≡◌, ◌⊎◌, ◌∙◌, ◌+◌, ◌++◌, ap, arith, length, refl, rules, subst, sym, ⊎_elim}
use Rattle.config_reader.specs.Blocks.{IsKept}
use Rattle.config_reader.specs.Lines.{lined}
use Rattle.config_reader.specs.Written.{texts_of}
use Rattle.ordered_multimap.proofs.KeySorts.Mapped.{OnOk-then}
use Rattle.config_reader.proofs.Kept.{between_kept, none_between}
use Rattle.config_reader.proofs.Settings.{empty_key}
use Rattle.config_reader.proofs.WholeLines.{keep, keep_none}
use Rattle.config_reader.proofs.reader.Reader.add_between.Goals as goal

pub returns-then-is_empty-clause-kept : goal.returns-then-is_empty-clause-kept
returns-then-is_empty-clause-kept c = λ all is.
    let old = c.args.self.now in
    keep_none (texts_of c.args.config.now.lists.pairs) old.between.now old.rest.now all is
    (λ lines same. ap length (sym (c.lines_before-text.ensures lines same)) ∙ search rules)

pub returns-clause-kept : goal.returns-clause-kept
returns-clause-kept c = λ all is.
    let old = c.args.self.now in
    let kept = texts_of c.args.config.now.lists.pairs in
    OnOk-then c.append_lines.result
    (λ added. keep kept old.between.now old.rest.now all (texts_of c.append_lines.new.config.lists.pairs) is.is_all is.lines
    (added ∙ ap (λ t. kept ++ t) (c.in_ok-lines.ensures.text ∙ ap lined (c.lines_before-text.ensures is.lines.0 is.lines.1))))
    c.append_lines.ensures.texts

pub returns-then-is_empty-clause-reads : goal.returns-then-is_empty-clause-reads
returns-then-is_empty-clause-reads c = λ kept level.
    let old = c.args.self.now in
    none_between old _ c.args.rank c.args.config.now.lists kept
    (⊎_elim (λ same. omega (arith, same)) (λ more. omega (arith, more)) level) refl refl refl refl

pub returns-clause-reads : goal.returns-clause-reads
returns-clause-reads c = λ kept level.
    let old = c.args.self.now in
    let new = record old { between = old.rest } in
    let now = c.append_lines.new.config.lists in
    let rank = c.in_ok-lines.ensures.rank in
    OnOk-then c.append_lines.result
    (λ added. subst (λ r. IsKept new r now) rank
    (between_kept old new c.args.config.now.lists now
    c.of_section.result c.in_ok-lines.lines c.lines_before-text.result.now kept
    (λ part is. c.lines_before-text.ensures part is) c.in_ok-lines.ensures.text c.of_section.ensures.section
    (empty_key c.of_section.result c.of_section.ensures.no_key)
    (subst (λ r. (r ≡ old.rank) ⊎ (r ≡ old.rank + 1)) (sym rank) level) added refl refl refl refl))
    c.append_lines.ensures.lists
