-- The first value of a key is written as it is, and the lists stay.
use Rattle.std.proofs.Common.{◌≡◌, ℕ, suc, ◌+◌, Bool, true, false, cond, List, [], ◌∷◌, filter, map, slice_get, Option, Some, None}
use Rattle.std.proofs.Common.{unwrap_or, refl, sym, ap, ◌∙◌, arith, true≢false}
use Rattle.std.specs.List.{enumerate_from}
use Rattle.std.specs.Option.{UnwrapsOrElse}
use Rattle.ordered_multimap.specs.Changes.{first_written}
use Rattle.ordered_multimap.specs.Lists.{Lists, lists}
use Rattle.ordered_multimap.proofs.Callers.Writes.{first_written-absent}
use Rattle.ordered_multimap.specs.Pairs.{has_items, is_present, values_of, with_value_at}

module _ {K V : Type 0} (eq : K → K → Bool) (k : K) (v : V) where
  -- the positions of the key's pairs, counted from a number
  abbrev positions_from : ℕ → List (K × V) → List ℕ
  positions_from at pairs = map (λ e. e.0) (filter (λ e. eq k e.1.0) (enumerate_from at pairs))

  -- the first one has the value, so that writing it there changes nothing
  record Stays (at : ℕ) (pairs : List (K × V)) (positions : List ℕ) : Type 0 where
    index : ℕ
    is_first : slice_get positions 0 ≡ Some (at + index)
    stays : with_value_at pairs index v ≡ pairs

  first_stays : (at : ℕ) (pairs : List (K × V)) → slice_get (values_of eq pairs k) 0 ≡ Some v → Stays at pairs (positions_from at pairs)
  first_stays at [] first = absurd (let bad = first in cc)
  first_stays at (p ∷ pairs) first =
      let rest : List (ℕ × (K × V)) = enumerate_from (at + 1) pairs in
      let P : Bool → Type 0 = λ b. slice_get (map (λ q. q.1) (cond b (p ∷ filter (λ q. eq k q.0) pairs) (filter (λ q. eq k q.0) pairs)))
      0 ≡ Some v
      → Stays at (p ∷ pairs) (map (λ e. e.0) (cond b ((at, p) ∷ filter (λ e. eq k e.1.0) rest) (filter (λ e. eq k e.1.0) rest))) in
      elim (eq k p.0) as P [
        | true ↦ λ e. let same : p.1 ≡ v = cc in record {
          index = 0;
          is_first = ap Some (omega arith);
          stays = ap (λ w. (p.0, w) ∷ pairs)
              (sym same);
        }
        | false ↦ λ e. let later = first_stays (at + 1) pairs e in
            record { index = suc later.index; is_first = later.is_first ∙ ap Some (omega arith); stays = ap (λ ps. p ∷ ps) later.stays }
      ] first

-- the first value of a key is written as it is, and the lists stay
pub first_rewritten : {K V : Type 0} (eq : K → K → Bool) (m : Lists K V) (k : K) (v : V) → slice_get (values_of eq m.pairs k) 0 ≡ Some v
    → first_written eq m k v ≡ m
first_rewritten {K} {V} eq m k v first =
    let same = first_stays eq k v 0 m.pairs first in
    ap (λ (o : Option ℕ). lists m.keys (elim o as (λ _. List (K × V)) [ None ↦ m.pairs | Some i ↦ with_value_at m.pairs i v ]))
    same.is_first
    ∙ ap (lists m.keys) (ap (λ i. with_value_at m.pairs i v) (omega arith) ∙ same.stays)

present_first : {X : Type 0} (xs : List X) (P : X → Type 0) (x : X) → has_items xs ≡ true → UnwrapsOrElse (slice_get xs 0) P x
    → slice_get xs 0 ≡ Some x
present_first [] P x some is = absurd (true≢false (sym some))
present_first (y ∷ xs) P x some is = ap Some (sym is)

-- so lists in which the first value of a key was written as it is are the same ones
pub first_unwritten : {K V : Type 0} (eq : K → K → Bool) (m new : Lists K V) (k : K) (v : V) (P : V → Type 0)
    → is_present eq m.pairs k ≡ true → UnwrapsOrElse (slice_get (values_of eq m.pairs k) 0) P v
    → new ≡ first_written eq m k v → new ≡ m
first_unwritten eq m new k v P present is written = written
    ∙ first_rewritten eq m k v (present_first (values_of eq m.pairs k) P v present is)

-- the same of a value that is the first one, or another where there is none
pub first_unwritten_or : {K V : Type 0} (eq : K → K → Bool) (m new : Lists K V) (k : K) (v d : V)
    → v ≡ unwrap_or (slice_get (values_of eq m.pairs k) 0) d → new ≡ first_written eq m k v → new ≡ m
first_unwritten_or {K} {V} eq m new k v d is written =
    let P : Option V → Type 0 = λ o. slice_get (values_of eq m.pairs k) 0 ≡ o → v ≡ unwrap_or o d → first_written eq m k v ≡ m in
    let same = elim (slice_get (values_of eq m.pairs k) 0) as P [
      | None ↦ λ e _. first_written-absent eq m k v e
      | Some w ↦ λ e at. first_rewritten eq m k v (e ∙ ap Some (sym at))
    ] in
    written ∙ same refl is
