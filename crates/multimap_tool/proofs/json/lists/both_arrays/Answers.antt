use Rattle.std.proofs.Common.{◌≡◌, ap, sym, ◌∙◌, arith}
use Rattle.serde_json.specs.Data.{object}
use Rattle.serde_json.specs.Events.{members_len}
use Rattle.serde_json.specs.View.{view, members_view}
use Rattle.serde_json.proofs.Views.{members_len-members_view}
use Rattle.multimap_tool.specs.JsonLists.{both_arrays}
use Rattle.multimap_tool.proofs.JsonValues.Shapes.{object_is, other_members, both_are}
use Rattle.multimap_tool.proofs.json.lists.both_arrays.Goals as goal

pub returns-then-len-ne2 : goal.returns-then-len-ne2
returns-then-len-ne2 c =
    let entries = c.in-Some.members.now.entries in
    let is : view c.args.value.now ≡ object (members_view entries) = object_is _ _ (sym c.in-Some.ensures) in
    let other : members_len (members_view entries) ≡ 2
    → ⊥ = λ e. c.if-len-ne2.true (c.len.ensures.len ∙ sym (members_len-members_view entries) ∙ e) in
    sym (ap both_arrays is ∙ other_members (members_view entries) other)

pub returns-in-Some-Some : goal.returns-in-Some-Some
returns-in-Some-Some c =
    let entries = c.in-Some.members.now.entries in
    let is : view c.args.value.now ≡ object (members_view entries) = object_is _ _ (sym c.in-Some.ensures) in
    let two : members_len (members_view entries) ≡ 2 = members_len-members_view entries ∙ sym c.len.ensures.len
    ∙ omega (arith, c.if-len-ne2.false) in
    sym (both_are _ (members_view entries) _ _ is two (sym c.in-Some-Some.ensures) (sym c.in-Some-Some.ensures'))
