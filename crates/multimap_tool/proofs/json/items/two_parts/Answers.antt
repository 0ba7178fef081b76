use Rattle.std.proofs.Common.{◌≡◌, length, ap, sym, ◌∙◌, arith}
use Rattle.serde_json.specs.Data.{array}
use Rattle.serde_json.specs.View.{view, items_view}
use Rattle.multimap_tool.specs.JsonLists.{parts_of}
use Rattle.multimap_tool.proofs.Callers.JsonParts.{array_is}
use Rattle.multimap_tool.proofs.JsonValues.Shapes.{parts_of_others}
use Rattle.multimap_tool.proofs.json.items.two_parts.Goals as goal

pub returns-then-len-ne2 : goal.returns-then-len-ne2
returns-then-len-ne2 c =
    let parts = c.in-Some.parts.now.items in
    let is : view c.args.item.now ≡ array (items_view parts) = array_is _ _ (sym c.in-Some.ensures) in
    let other : length parts ≡ 2 → ⊥ = λ e. grind arith in
    sym (ap parts_of is ∙ parts_of_others parts other)
