-- Arrays of two, objects of two members, and items that pass.
use Rattle.std.proofs.Common.{◌≡◌, ℕ, ◌&&◌, Bool, true, false, cond, List, [], ◌∷◌, ◌++◌, length, Option, Some, None}
use Rattle.std.proofs.Common.{codes, option_map, option_and_then, refl, sym, ap, ap₂, ◌∙◌, arith}
use Rattle.std.proofs.lemmas.Bool.{eq-eqb, ne_eqb}
use Rattle.serde_json.specs.Data.{Data, null, boolean, number, string, array, object, Items, item, no_items, Members}
use Rattle.serde_json.specs.Events.{members_len}
use Rattle.serde_json.specs.Find.{as_object}
use Rattle.serde_json.specs.View.{view, items_view}
use Rattle.serde_json.specs.declared.value.Value.{Value}
use Rattle.multimap_tool.specs.Json.{item_fault}
use Rattle.multimap_tool.specs.JsonLists.{any, array_at, parts_of, both_arrays, each_item}
use Rattle.multimap_tool.specs.declared.json.faults.ReadFault.{ReadFault}
use Rattle.multimap_tool.specs.declared.json.faults.ReadFault.TheVariants.{BadKey, BadValue}

-- an array that isn't as long as two
pub parts_of_others : (vs : List Value) → (length vs ≡ 2 → ⊥) → parts_of (array (items_view vs)) ≡ None
parts_of_others [] other = refl
parts_of_others (v ∷ []) other = refl
parts_of_others (v ∷ w ∷ []) other = absurd (other (omega arith))
parts_of_others (v ∷ w ∷ x ∷ more) other = refl

-- objects with two members
pub object_is : (d : Data) (ms : Members) → as_object d ≡ Some ms → d ≡ object ms
object_is null ms e = absurd (grind arith)
object_is (boolean b) ms e = absurd (grind arith)
object_is (number n) ms e = absurd (grind arith)
object_is (string s) ms e = absurd (grind arith)
object_is (array ds) ms e = absurd (grind arith)
object_is (object ns) ms e = ap object (grind arith)

pub other_members : (ms : Members) → (members_len ms ≡ 2 → ⊥) → both_arrays (object ms) ≡ None
other_members ms other =
    let two : Option (Items × Items) = option_and_then (λ keys. option_map (λ pairs. (keys, pairs)) (array_at (codes "pairs") (object ms)))
    (array_at (codes "keys") (object ms)) in
    ap (λ b. cond b two None) (ne_eqb (members_len ms) 2 other)

pub both_are : (d : Data) (ms : Members) (keys pairs : Items) → d ≡ object ms → members_len ms ≡ 2 → array_at (codes "keys") d ≡ Some keys
    → array_at (codes "pairs") d ≡ Some pairs
    → both_arrays d ≡ Some (keys, pairs)
both_are d ms keys pairs is two are_keys are_pairs =
    let both : Option Items → Option Items → Option (Items × Items) = λ o p. option_and_then (λ js. option_map (λ ds. (js, ds)) p) o in
    ap both_arrays is
    ∙ ap (λ b. cond b (both (array_at (codes "keys") (object ms)) (array_at (codes "pairs") (object ms))) None)
    (eq-eqb (members_len ms) 2 two)
    ∙ ap₂ both (ap (array_at (codes "keys")) (sym is) ∙ are_keys) (ap (array_at (codes "pairs")) (sym is) ∙ are_pairs)

module _ (is_key is_value : Data → Bool) where
  -- a fault of the shape or of the key, whatever the value is
  pub fault_of_key : (i : ℕ) (d : Data) (f : ReadFault) → item_fault is_key any i d ≡ Some f → item_fault is_key is_value i d ≡ Some f
  fault_of_key i (array (item c (item d no_items))) f e =
      let P : Bool → Type 0 = λ b. cond b None (Some (BadKey i)) ≡ Some f
      → cond b (cond (is_value d) None (Some (BadValue i))) (Some (BadKey i)) ≡ Some f in
      elim (is_key c) as P [ true ↦ λ never. absurd (grind arith) | false ↦ λ is. is ] e
  fault_of_key i d f e = e

-- an array behind a good item
pub each_item-behind : (test : Data → Bool) (d : Data) (ds : Items) → test d ≡ true → each_item test (item d ds) ≡ each_item test ds
each_item-behind test d ds passes = ap (λ b. b && each_item test ds) passes

-- an item that passes goes to the end
pub each_item-push : (test : Data → Bool) (vs : List Value) (v : Value) → each_item test (items_view vs) ≡ true → test (view v) ≡ true
    → each_item test (items_view (vs ++ v ∷ [])) ≡ true
each_item-push test [] v each passes = ap (λ b. b && true) passes
each_item-push test (w ∷ vs) v each passes =
    let P : Bool → Type 0 = λ b. (b && each_item test (items_view vs)) ≡ true → (b && each_item test (items_view (vs ++ v ∷ []))) ≡ true in
    elim (test (view w)) as P [ true ↦ λ rest. each_item-push test vs v rest passes | false ↦ λ never. never ] each
