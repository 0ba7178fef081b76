-- What setting a key's value makes of the two lists, whether the key is there or not.
use Rattle.std.specs.Prelude.{Bool, true, false}
use Rattle.ordered_multimap.specs.Changes.{appended}
use Rattle.ordered_multimap.specs.Lists.{Lists}
use Rattle.ordered_multimap.specs.OneValue.{only_written}
use Rattle.ordered_multimap.specs.Pairs.{is_present}

-- the key's first pair has the value, and its others go; a new key's pair goes last
abbrev pub value_set : {K V : Type 0} → (K → K → Bool) → Lists K V → K → V → Lists K V
value_set eq m k v =
    elim (is_present eq m.pairs k) [ true ↦ only_written (eq k) m v | false ↦ appended eq m k v ]
