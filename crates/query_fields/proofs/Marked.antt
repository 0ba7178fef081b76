-- A query with `?` before it.
use Rattle.std.proofs.Common.{◌≡◌, ℕ, List, [], ◌∷◌, ◌++◌, refl, sym, ap, ◌∙◌, append_assoc}
use Rattle.std.specs.declared.borrow.CowStr.{CowStr}
use Rattle.query_fields.specs.Queries.{texts_of, written_query}
use Rattle.query_fields.specs.Urls.{marked_query}

module _ {A : Type 0} where
  marked : (pairs : List (CowStr A × CowStr A)) → (pairs ≡ [] → ⊥)
      → marked_query (texts_of pairs) ≡ 63 ∷ written_query (texts_of pairs)
  marked [] some = absurd (some refl)
  marked (p ∷ pairs) some = refl

  -- a `?` that is added, and then the query
  pub marked_added : (pairs : List (CowStr A × CowStr A)) → (pairs ≡ [] → ⊥) → (old pushed new : List ℕ)
      → pushed ≡ old ++ 63 ∷ [] → new ≡ pushed ++ written_query (texts_of pairs) → new ≡ old ++ marked_query (texts_of pairs)
  marked_added pairs some old pushed new push query =
      query ∙ ap (λ bytes. bytes ++ written_query (texts_of pairs)) push
      ∙ append_assoc old (63 ∷ []) (written_query (texts_of pairs)) ∙ ap (λ bytes. old ++ bytes) (sym (marked pairs some))
