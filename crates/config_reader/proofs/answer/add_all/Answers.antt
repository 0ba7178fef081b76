use Rattle.std.proofs.Common.{◌≡◌, ◌∙◌, List, [], ◌∷◌, ap, arith, length, lt-ltb, nat_lt, refl, rules}
use Rattle.ordered_multimap.specs.Pairs.{has_items, values_of}
use Rattle.config_reader.specs.Names.{same_name}
use Rattle.config_reader.proofs.answer.add_all.Goals as goal

-- a list with a length has items
has_length : {X : Type 0} (xs : List X) → nat_lt 0 (length xs) ≡ has_items xs
has_length [] = refl
has_length (x ∷ xs) = lt-ltb 0 (length (x ∷ xs)) (omega arith)

pub returns-clause-found : goal.returns-clause-found
returns-clause-found c =
    let counted : c.len-is_there.result ≡ length (values_of same_name c.args.config.now.lists.pairs c.args.name) = search rules in
    ap (nat_lt 0) counted ∙ has_length _
