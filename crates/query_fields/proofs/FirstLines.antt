-- The line of a name's first value.
use Rattle.std.proofs.Common.{◌≡◌, ◌∷◌, [], ◌++◌, List, Some, map, slice_get, ap, ◌∙◌, append-nil}
use Rattle.std.specs.Cow.{cow_str_bytes}
use Rattle.std.specs.declared.borrow.CowStr.{CowStr}
use Rattle.query_fields.specs.Queries.{lines_of, only_first}

pub first_line : {A : Type 0} (values : List (CowStr A)) (value : CowStr A) → slice_get values 0 ≡ Some value
    → lines_of (only_first (map cow_str_bytes values)) ≡ cow_str_bytes value ++ (10 ∷ [])
first_line [] value is = cc
first_line (first ∷ values) value is =
    let same : first ≡ value = cc in
    append-nil (cow_str_bytes first ++ (10 ∷ [])) ∙ ap (λ v. cow_str_bytes v ++ (10 ∷ [])) same
