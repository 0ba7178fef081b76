-- The keys that a walk over keys with their values for writing has left.
use Rattle.std.specs.Prelude.{List}
use Rattle.std.specs.declared.cmp.PartialEq as equality
use Rattle.std.specs.declared.hash.Hash as hash
use Rattle.std.specs.declared.hash.Hasher as hasher
use Rattle.std.specs.declared.hash.BuildHasher as builder
use Rattle.multimap_slots.specs.Slots.{item_at}
use Rattle.multimap_walks.specs.Along.{items_left}
use Rattle.ordered_multimap.specs.declared.list_ordered_multimap.key_values_mut as walks
use walks.KeyValuesMut.{KeyValuesMut}

-- the keys of the map at the places that are left, in order
abbrev pub keys_left : {K V S A H : Type 0} {e : equality.Ghosts K} {k : hash.Ghosts K}
    {b : builder.Ghosts S H} {h : hasher.Ghosts H} → KeyValuesMut K V S A H e k b h → List K
keys_left w = items_left w.map.now.slots.keys.order (item_at w.map.now.slots.keys) w.left
