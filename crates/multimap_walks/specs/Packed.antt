-- A value's link in three words.
use Rattle.std.specs.Prelude.{◌+◌, ◌<◌, ◌^◌, IfSome}
use Rattle.multimap_walks.specs.declared.links.ValueLink.{ValueLink}
use Rattle.multimap_walks.specs.declared.packed.PackedLink.{PackedLink}

-- the link that it stands for
abbrev pub unpacked : PackedLink → ValueLink
unpacked p = record { key = p.key; previous = p.previous; next = p.next }

-- the links that it can stand for: the neighbours' places are below the greatest `usize`
pub record HasSmallPlaces (l : ValueLink) : Type 0 where
  pub previous : IfSome l.previous (λ p. p + 1 < 2 ^ 64)
  pub next : IfSome l.next (λ p. p + 1 < 2 ^ 64)
