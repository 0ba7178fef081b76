use Rattle.std.proofs.Common.{◌≡◌, slice_get, chars, ap, sym, ◌∙◌, rules}
use Rattle.std.specs.Str.{IsUtf8}
use Rattle.std.specs.Str.Iter.{chars_rest}
use Rattle.serde_json.specs.Data.{string}
use Rattle.serde_json.specs.View.{view}
use Rattle.multimap_tool.specs.Json.{is_character}
use Rattle.multimap_tool.proofs.Callers.JsonParts.{string_is, no_character, one_character, more_characters}
use Rattle.multimap_tool.proofs.json.parts.CharJsonPart.from_part.Goals as goal

pub returns-in-Some-None-clause-accepted : goal.returns-in-Some-None-clause-accepted
returns-in-Some-None-clause-accepted c =
    let s = c.in-Some.text.now in
    let is : view c.args.value.now ≡ string s = string_is _ _ (sym (c.in-Some.ensures)) in
    let utf8 : IsUtf8 s = search rules in
    ap is_character is ∙ one_character s (chars_rest c.next.new.self) c.in-Some-None.part utf8
    (sym c.chars-characters.ensures.rest ∙ c.in-Some-None.ensures.steps.0) (sym c.next-2.ensures.steps.2 ∙ c.in-Some-None.is-1)

pub returns-in_default-2-clause-refused : goal.returns-in_default-2-clause-refused
returns-in_default-2-clause-refused c =
    let s = c.in-Some.text.now in
    let is : view c.args.value.now ≡ string s = string_is _ _ (sym (c.in-Some.ensures)) in
    let utf8 : IsUtf8 s = search rules in
    λ _. ap is_character is ∙ more_characters s (chars_rest c.next.new.self) c.in_default-2.field-0-0 c.in_default-2.field-0-1 utf8
    (sym c.chars-characters.ensures.rest ∙ c.in_default-2.ensures.steps.0) (sym c.next-2.ensures.steps.2 ∙ c.in_default-2.is-1)

pub returns-in_default-2-2-clause-refused : goal.returns-in_default-2-2-clause-refused
returns-in_default-2-2-clause-refused c =
    let s = c.in-Some.text.now in
    let is : view c.args.value.now ≡ string s = string_is _ _ (sym (c.in-Some.ensures)) in
    λ _. ap is_character is ∙ no_character s
    (ap (λ t. slice_get (chars t) 0) (sym c.chars-characters.ensures.rest) ∙ sym c.next.ensures.steps.2 ∙ c.in_default-2.is-0)
