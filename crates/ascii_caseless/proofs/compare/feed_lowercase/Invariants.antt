use Rattle.std.proofs.Common.{◌≡◌, take}
use Rattle.ascii_caseless.proofs.Hashing.{after_lowercase}
use Rattle.ascii_caseless.proofs.compare.feed_lowercase.Given as goal

abbrev pub invariant-loop-byte : goal.invariant-loop-byte
invariant-loop-byte g l = l.state
    ≡ after_lowercase g.H.Hasher.write l.initial.state (take l.byte-index l.text)
