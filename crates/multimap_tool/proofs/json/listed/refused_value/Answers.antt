use Rattle.std.proofs.Common.{◌≡◌, ℕ, Bool, cond, sym, ◌∙◌, ap}
use Rattle.ordered_multimap.proofs.Callers.WellFormed.{is_present-keys}
use Rattle.multimap_tool.specs.declared.json.faults.ReadFault.TheVariants.{UnlistedKey, BadValue}
use Rattle.multimap_tool.proofs.json.listed.refused_value.Goals as goal

-- the key is listed exactly if a test of its presence says so
told : {present listed answer : Bool} (i : ℕ) → present ≡ listed → present ≡ answer
    → cond answer (BadValue i) (UnlistedKey i) ≡ cond listed (BadValue i) (UnlistedKey i)
told i same is = ap (λ b. cond b (BadValue i) (UnlistedKey i)) (sym is ∙ same)

pub returns-then-contains_key : goal.returns-then-contains_key
returns-then-contains_key g c = told c.args.index
    (is_present-keys g.met.K.Eq.laws c.args.map.now.lists c.args.key.now c.keys_len-keys.ensures.well_formed)
    (sym c.contains_key.ensures ∙ c.if-contains_key.true)

pub returns-else-contains_key : goal.returns-else-contains_key
returns-else-contains_key g c = told c.args.index
    (is_present-keys g.met.K.Eq.laws c.args.map.now.lists c.args.key.now c.keys_len-keys.ensures.well_formed)
    (sym c.contains_key.ensures ∙ c.if-contains_key.false)
