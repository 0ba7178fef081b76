use Rattle.std.proofs.Common.{ap, sym, ◌∙◌}
use Rattle.std.specs.Cmp.{on_equiv}
use Rattle.std.specs.Cmp.Lexicographic.{nat_list_eq_equiv}
use Rattle.std.specs.Str.{bytes_eq, str_to_ascii_lowercase}
use Rattle.std.specs.String.{string_bytes}
use Rattle.ordered_multimap.specs.Pairs.{values_where}
use Rattle.ordered_multimap.specs.Walk.{end_item}
use Rattle.ordered_multimap.specs.End.TheVariants.{Back}
use Rattle.ascii_caseless_tests.proofs.Appended.{last_appended}
use Rattle.ascii_caseless_tests.proofs.callers.append_and_find.Goals as goal

pub returns : goal.returns
returns g c = record {
  last = λ same.
      let last = last_appended (on_equiv (λ text. str_to_ascii_lowercase (string_bytes text.0)) nat_list_eq_equiv)
      c.args.map.now.lists c.append.new.self.lists _ c.args.value c.in_ok-append.ensures.ok.lists in
      c.copied.ensures ∙ c.get_last.ensures
      ∙ ap (λ l. end_item Back (values_where (λ k. bytes_eq l (str_to_ascii_lowercase (string_bytes k.0))) c.append.new.self.lists.pairs)) (sym same)
      ∙ last;
}
