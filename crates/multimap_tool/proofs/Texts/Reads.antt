-- Reads, one after another.
use Rattle.std.proofs.Common.{ℕ, Option, Some, None, List, ◌++◌, sym, ap, ◌∙◌}
use Rattle.std.proofs.lemmas.List.{append_assoc}
use Rattle.std.specs.Io.KnownBytes.{Consumes}

-- two reads take what both gave
pub Consumes-append : (old between new : Option (List ℕ)) (xs ys : List ℕ) → Consumes old between xs → Consumes between new ys
    → Consumes old new (xs ++ ys)
Consumes-append None between new xs ys first second = tt
Consumes-append (Some all) None new xs ys first second = absurd first
Consumes-append (Some all) (Some rest) None xs ys first second = absurd second
Consumes-append (Some all) (Some rest) (Some left) xs ys first second = first ∙ ap (λ r. xs ++ r) second ∙ sym (append_assoc xs ys left)
