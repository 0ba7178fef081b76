use Rattle.std.proofs.Common.{◌≡◌, refl, true, List, [], ◌∷◌, Option, Some, None, slice_get}
use Rattle.std.proofs.Common.{◌∙◌, ap, length, rules, subst, unwrap_or}
use Rattle.std.proofs.lemmas.Result.{on_ok_weaker}
use Rattle.ordered_multimap.specs.Pairs.{has_items}
use Rattle.std.specs.Cow.{cow_str_bytes}
use Rattle.config_reader.specs.Blocks.{AreSetting}
use Rattle.config_reader.specs.Changed.{IsSetting}
use Rattle.config_reader.specs.Lines.{first_line}
use Rattle.config_reader.specs.Names.{is_key}
use Rattle.config_reader.specs.Said.{indent_of}
use Rattle.config_reader.specs.declared.name.Name.{Name}
use Rattle.config_reader.proofs.change.set.Goals as goal

-- a list with a first item has items
has_first : {X : Type 0} (x : X) (xs : List X) → Some x ≡ slice_get xs 0 → has_items xs ≡ true
has_first x [] is = absurd (cc)
has_first x (y ∷ ys) is = refl

-- what was found is taken
unwrapped : {X : Type 0} (x y : X) (found : Option X) → Some x ≡ found → x ≡ unwrap_or found y
unwrapped x y None is = absurd (cc)
unwrapped x y (Some z) is = cc

pub returns : goal.returns
returns c =
    let P : Name → Type 0 = λ stored. IsSetting c.indent_of-indent.result.now stored.key.0.now
    c.args.value.now c.in_ok-lines.lines in
    let Reads : Name → Type 0 = λ stored. is_key stored.key.0.now ≡ true
    → AreSetting (cow_str_bytes c.in_ok-lines.lines.text) stored.key.0.now c.args.value.now (length c.indent_of-indent.result.now) in
    let is_setting = subst P (unwrapped _ c.args.name _ c.in-Some.ensures.key)
    c.in_ok-lines.ensures.is_setting in
    let reads = subst Reads (unwrapped _ c.args.name _ c.in-Some.ensures.key)
    (c.in_ok-lines.ensures.reads c.indent_of-indent.ensures.blank c.indent_of-indent.ensures.one_line) in
    let text : c.as_str.result.now ≡ cow_str_bytes c.in-Some.lines.now.text = search rules in
    let there = has_first _ _ c.in-Some.ensures.value in
    on_ok_weaker c.set_lines.result
    (λ lists. record {
      present = λ _. record {
        first = c.in-Some.lines.now;
        is_first = c.in-Some.ensures.value;
        indent = c.indent_of-indent.result.now;
        blank = c.indent_of-indent.ensures.blank;
        setting = c.in_ok-lines.lines;
        is_setting = is_setting;
        rank = c.in_ok-lines.ensures.rank;
        indented = c.indent_of-indent.ensures.length ∙ ap (λ t. indent_of (first_line t)) text;
        reads = reads;
        lists = lists;
      };
      absent = λ none. absurd (cc);
    })
    c.set_lines.ensures
