use Rattle.std.proofs.Common.{rules, ◌≡◌, Option, Some, None, IsSome, IfNone, sym, ◌∙◌}
use Rattle.std.specs.declared.cmp.PartialEq as equality
use Rattle.std.specs.declared.hash.Hash as hash
use Rattle.std.specs.declared.hash.Hasher as hasher
use Rattle.std.specs.declared.hash.BuildHasher as builder
use Rattle.multimap_walks.specs.Along.{AreLeft}
use Rattle.multimap_walks.proofs.Callers.Squashed.{read_left}
use Rattle.ordered_multimap.specs.declared.list_ordered_multimap.key_values_mut.KeyValuesMut.{KeyValuesMut}
use Rattle.ordered_multimap.proofs.list_ordered_multimap.key_values_mut.KeyValuesMut.step.Goals as goal
use Rattle.ordered_multimap.proofs.list_ordered_multimap.key_values_mut.KeyValuesMut.step.Goals.{then-is_some, else-is_some}

pub take_key-place-requires : goal.take_key-place-requires
take_key-place-requires g c = read_left c.args.self.now.map.now.slots.keys.order c.args.self.now.left c.args.self.now.are_left

-- where there is a value, nothing is asked
if_some : {X : Type 0} (P : Type 0) (o : Option X) → IsSome o → IfNone o P
if_some P (Some x) some = tt
if_some P None some = absurd (let e = some in cc)

always : {X P : Type 0} (o : Option X) → P → IfNone o P
always (Some x) p = tt
always None p = p

-- whatever shows that places are left, the walk is the same
same_walk : {K V S A H : Type 0} {e : equality.Ghosts K} {k : hash.Ghosts K} {b : builder.Ghosts S H} {h : hasher.Ghosts H}
    (w : KeyValuesMut K V S A H e k b h) (are : ∥ AreLeft w.map.now.slots.keys.order w.left ∥₁)
    → record w { are_left = are } ≡ w
same_walk w are = λ i. record w { are_left = squash₁ are w.are_left i }

pub returns-clause-none : goal.returns-clause-none
returns-clause-none g c = elim c.if-is_some.branch [
  | then-is_some w ↦ if_some (c.if-is_some.self ≡ c.args.self.now) c.take_key-place.result (sym c.is_some.ensures ∙ w.if-is_some.true)
  | else-is_some w ↦ always c.take_key-place.result (w.self-is ∙ same_walk c.args.self.now _)
]

pub returns-clause-rest : goal.returns-clause-rest
returns-clause-rest g c = search rules
