use Rattle.std.proofs.Common.{ℕ, ◌∙◌, IsPermutation, ap, rules, subst}
use Rattle.std.proofs.lemmas.Cmp.{nat_cmp_total}
use Rattle.std.proofs.lemmas.List.Sorted.{answers_always, ranks_by}
use Rattle.std.proofs.lemmas.Result.{on_ok_weaker}
use Rattle.std.specs.List.Sorted.{IsStableBy}
use Rattle.ordered_multimap.specs.Lists.{Lists}
use Rattle.config_reader.specs.Changed.{is_above}
use Rattle.config_reader.specs.declared.config.Lines.{Lines}
use Rattle.config_reader.specs.declared.name.Name.{Name}
use Rattle.config_reader.proofs.change.add_lines.Goals as goal

pub returns : goal.returns
returns c =
    let rank : Name × Lines → ℕ = λ pair. pair.1.rank in
    let order = ranks_by nat_cmp_total rank in
    let added = c.in_ok-append.ensures.ok.lists in
    let Holds : Lists Name Lines → Type 0 = λ m.
    IsPermutation m.pairs c.sort_by.new.self.lists.pairs
    × IsStableBy is_above m.pairs c.sort_by.new.self.lists.pairs in
    let stable = c.sort_by.ensures.stable is_above order
    (answers_always _ _ _ (λ f a r g called. search rules)) in
    let holds = subst Holds added (c.sort_by.ensures.reordered.pairs, stable) in
    on_ok_weaker c.sort_by.result
    (λ sorted. record {
      keys = c.sort_by.ensures.reordered.keys ∙ ap (λ m. m.keys) added;
      pairs = holds.0;
      sorted = sorted is_above order (answers_always _ _ _ (λ f a r g called. search rules));
      stable = holds.1;
    })
    c.sort_by.ensures.sorted
