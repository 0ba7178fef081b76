-- An entry's first value, and an entry with another first value of its key.
use Rattle.std.proofs.Common.{◌≡◌, true, ap, ◌∙◌, subst}
use Rattle.std.proofs.Props.{props}
use Rattle.std.specs.declared.cmp.PartialEq as equality
use Rattle.std.specs.declared.hash.Hash as hash
use Rattle.std.specs.declared.hash.Hasher as hasher
use Rattle.std.specs.declared.hash.BuildHasher as builder
use Rattle.ordered_multimap.specs.Entries.{IsOccupiedBy, with_first_written}
use Rattle.ordered_multimap.specs.Lists.{Lists}
use Rattle.ordered_multimap.specs.Private.Heads.{HasHead, IsHead}
use Rattle.ordered_multimap.specs.Private.Remove.{among}
use Rattle.ordered_multimap.specs.Writes.{IsWritten, head_at, with_first, with_value}
use Rattle.ordered_multimap.proofs.Remove.ValueByValue.{in_among}
use Rattle.ordered_multimap.specs.declared.list_ordered_multimap.entry.OccupiedEntry.{OccupiedEntry}

module _ {K V S A H : Type 0} {e : equality.Ghosts K} {k : hash.Ghosts K} {b : builder.Ghosts S H} {h : hasher.Ghosts H}
    (o : OccupiedEntry K V S A H e k b h) where
  -- the place that it keeps is that of its key's first value
  pub is_head : IsHead o.map.now.slots.keys o.first
  is_head = record { place = o.place; listed = in_among o.map.now.slots.keys.order o.place o.listed; head_is = o.begins }

  pub has_head : (key : K) → IsOccupiedBy o key → HasHead e.eq o.map.now.slots.keys key o.first
  has_head key is = record { place = o.place; has = is; head_is = o.begins }

  -- so a value that is written there is the first one
  pub written_first : (v : V) (written : Lists K V) → IsWritten o.map.now (with_value o.map.now o.first v) written
      → IsWritten o.map.now (with_first o.map.now o.place v) written
  written_first v written = subst (λ head. IsWritten o.map.now (with_value o.map.now head v) written) o.begins

  -- that its key's place is listed has one proof at most, and so has that its first value is where it keeps it
  pub same_written : (v : V) (p : among o.map.now.slots.keys.order o.place ≡ true) (q : o.first ≡ head_at o.map.now.slots.keys o.place)
      → record { map = record o.map { now = with_value o.map.now o.first v }; place = o.place; first = o.first; listed = p; begins = q }
      ≡ with_first_written o v
  same_written v p q =
      let listed : IsProp (among o.map.now.slots.keys.order o.place ≡ true) = Prim.hlevel props in
      let begins : IsProp (o.first ≡ head_at o.map.now.slots.keys o.place) = Prim.hlevel props in
      ap (λ head. record {
        map = record o.map { now = with_value o.map.now head v };
        place = o.place;
        first = o.first;
        listed = p;
        begins = q;
      }) o.begins
      ∙ ap (λ l. record (with_first_written o v) { listed = l; begins = q }) (listed p o.listed)
      ∙ ap (λ l. record (with_first_written o v) { begins = l }) (begins q o.begins)
