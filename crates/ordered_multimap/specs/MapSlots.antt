-- The slots of a map, for what keeps places of it: drains, and the keys that pops lend. Clauses on
-- contents speak of its lists alone.
use Rattle.std.specs.Prelude.{ℕ, Option, refl}
use Rattle.std.specs.Coded.{Coded, code_by, coded×, coded_option, coded_ℕ}
use Rattle.multimap_slots.specs.Codes.{slots_code}
use Rattle.multimap_slots.specs.Slots.{Slots}
use Rattle.multimap_walks.specs.declared.links.ChainEnds.{ChainEnds}
use Rattle.multimap_walks.specs.declared.links.KeyLink.{KeyLink}
use Rattle.multimap_walks.specs.declared.links.ValueLink.{ValueLink}

-- the slots of the keys, those of the values, and where the values of the last drain stood that it
-- hadn't given
pub record MapSlots (K V : Type 0) : Type 0 where
  pub keys : Slots K KeyLink
  pub values : Slots V ValueLink
  pub left : ChainEnds

-- a key's link is stored as two pairs
abbrev pub key_link_code : Coded KeyLink
key_link_code =
    code_by ((ℕ × ℕ) × (ℕ × ℕ)) (coded× (coded× coded_ℕ coded_ℕ) (coded× coded_ℕ coded_ℕ))
    (λ l. ((l.hash, l.head), (l.tail, l.length)))
    (λ p. record { hash = p.0.0; head = p.0.1; tail = p.1.0; length = p.1.1 }) (λ _. refl)

-- a value's link is stored as the key's place and its neighbours
abbrev pub value_link_code : Coded ValueLink
value_link_code =
    code_by (ℕ × (Option ℕ × Option ℕ))
    (coded× coded_ℕ (coded× (coded_option coded_ℕ) (coded_option coded_ℕ)))
    (λ l. (l.key, (l.previous, l.next)))
    (λ p. record { key = p.0; previous = p.1.0; next = p.1.1 }) (λ _. refl)

-- ends are stored as their three numbers
abbrev pub ends_code : Coded ChainEnds
ends_code =
    code_by (ℕ × (ℕ × ℕ)) (coded× coded_ℕ (coded× coded_ℕ coded_ℕ))
    (λ e. (e.first, (e.last, e.length)))
    (λ p. record { first = p.0; last = p.1.0; length = p.1.1 }) (λ _. refl)

-- all are stored, one after another
abbrev pub map_slots_code : {K V : Type 0} → Coded K → Coded V → Coded (MapSlots K V)
map_slots_code {K} {V} k v =
    code_by (Slots K KeyLink × (Slots V ValueLink × ChainEnds))
    (coded× (slots_code k key_link_code) (coded× (slots_code v value_link_code) ends_code))
    (λ m. (m.keys, (m.values, m.left)))
    (λ p. record { keys = p.0; values = p.1.0; left = p.1.1 }) (λ _. refl)
