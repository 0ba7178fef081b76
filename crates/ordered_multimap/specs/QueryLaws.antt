-- The laws of queries that are made of others, from theirs.
use Rattle.std.specs.Prelude.{◌≡◌, Bool, ◌++◌, Option, Some, None, ◌&&◌, IsTrue}
use Rattle.std.proofs.Common.{refl, ap, sym, true≢false}
use Rattle.std.proofs.lemmas.Bool.{and_parts}
use Rattle.std.proofs.Math.Path.{◌∙◌}
use Rattle.std.specs.Hash as fed
use Rattle.std.specs.Option.{option_eq}
use Rattle.ordered_multimap.specs.Queries.{option_equivalent}

module _ {Q K : Type 0} (stands : Q → K → Bool) where
  -- it is hashed as each key that it stands for
  pub option_hash : (query_hash : Q → fed.HashWrites) (key_hash : K → fed.HashWrites)
      → ((q : Q) (k : K) → IsTrue (stands q k) → query_hash q ≡ key_hash k)
      → (q : Option Q) (k : Option K) → IsTrue (option_equivalent stands q k)
      → fed.option query_hash q ≡ fed.option key_hash k
  option_hash query_hash key_hash law None None same = refl
  option_hash query_hash key_hash law None (Some k) same = absurd (true≢false (sym same))
  option_hash query_hash key_hash law (Some q) None same = absurd (true≢false (sym same))
  option_hash query_hash key_hash law (Some q) (Some k) same =
      ap (λ written. fed.option (λ _. written) (Some q)) (law q k same)

  -- it stands for the keys that are equal to one of its own, and for no other
  pub option_respects : (eq : K → K → Bool)
      → ((q : Q) (x y : K) → IsTrue (stands q x) → stands q y ≡ eq x y)
      → (q : Option Q) (x y : Option K) → IsTrue (option_equivalent stands q x)
      → option_equivalent stands q y ≡ option_eq eq x y
  option_respects eq law None None None same = refl
  option_respects eq law None None (Some y) same = refl
  option_respects eq law None (Some x) y same = absurd (true≢false (sym same))
  option_respects eq law (Some q) None y same = absurd (true≢false (sym same))
  option_respects eq law (Some q) (Some x) None same = refl
  option_respects eq law (Some q) (Some x) (Some y) same = law q x y same

module _ {Q K R L : Type 0} (stands : Q → K → Bool) (second : R → L → Bool) where
  -- the same of a pair of queries, for pairs of keys
  pub pair_hash : (query_hash : Q → fed.HashWrites) (key_hash : K → fed.HashWrites)
      → (second_hash : R → fed.HashWrites) (other_hash : L → fed.HashWrites)
      → ((q : Q) (k : K) → IsTrue (stands q k) → query_hash q ≡ key_hash k)
      → ((r : R) (l : L) → IsTrue (second r l) → second_hash r ≡ other_hash l)
      → (q : Q × R) (k : K × L) → IsTrue (stands q.0 k.0 && second q.1 k.1)
      → query_hash q.0 ++ second_hash q.1 ≡ key_hash k.0 ++ other_hash k.1
  pair_hash query_hash key_hash second_hash other_hash law other q k same =
      let both = and_parts (stands q.0 k.0) (second q.1 k.1) same in
      ap (λ written. written ++ second_hash q.1) (law q.0 k.0 both.0)
      ∙ ap (λ written. key_hash k.0 ++ written) (other q.1 k.1 both.1)

  pub pair_respects : (eq : K → K → Bool) (other_eq : L → L → Bool)
      → ((q : Q) (x y : K) → IsTrue (stands q x) → stands q y ≡ eq x y)
      → ((r : R) (x y : L) → IsTrue (second r x) → second r y ≡ other_eq x y)
      → (q : Q × R) (x y : K × L) → IsTrue (stands q.0 x.0 && second q.1 x.1)
      → (stands q.0 y.0 && second q.1 y.1) ≡ (eq x.0 y.0 && other_eq x.1 y.1)
  pair_respects eq other_eq law other q x y same =
      let both = and_parts (stands q.0 x.0) (second q.1 x.1) same in
      ap (λ is. is && second q.1 y.1) (law q.0 x.0 y.0 both.0)
      ∙ ap (λ is. eq x.0 y.0 && is) (other q.1 x.1 y.1 both.1)

module _ {Q K R L S M : Type 0} (stands : Q → K → Bool) (second : R → L → Bool)
    (third : S → M → Bool) where
  -- the same of three queries, for triples of keys
  pub triple_hash : (query_hash : Q → fed.HashWrites) (key_hash : K → fed.HashWrites)
      → (second_hash : R → fed.HashWrites) (other_hash : L → fed.HashWrites)
      → (third_hash : S → fed.HashWrites) (last_hash : M → fed.HashWrites)
      → ((q : Q) (k : K) → IsTrue (stands q k) → query_hash q ≡ key_hash k)
      → ((r : R) (l : L) → IsTrue (second r l) → second_hash r ≡ other_hash l)
      → ((s : S) (m : M) → IsTrue (third s m) → third_hash s ≡ last_hash m)
      → (q : Q × R × S) (k : K × L × M)
      → IsTrue (stands q.0 k.0 && second q.1 k.1 && third q.2 k.2)
      → query_hash q.0 ++ second_hash q.1 ++ third_hash q.2
      ≡ key_hash k.0 ++ other_hash k.1 ++ last_hash k.2
  triple_hash query_hash key_hash second_hash other_hash third_hash last_hash law other last q k
      same =
      let outer = and_parts (stands q.0 k.0 && second q.1 k.1) (third q.2 k.2) same in
      let inner = and_parts (stands q.0 k.0) (second q.1 k.1) outer.0 in
      ap (λ written. written ++ second_hash q.1 ++ third_hash q.2) (law q.0 k.0 inner.0)
      ∙ (ap (λ written. key_hash k.0 ++ written ++ third_hash q.2) (other q.1 k.1 inner.1)
      ∙ ap (λ written. key_hash k.0 ++ other_hash k.1 ++ written) (last q.2 k.2 outer.1))
