-- What a pass that updates values leaves, where each call leaves a value that its pair determines.
use Rattle.std.proofs.Common.{◌≡◌, ℕ, ◌+◌, ◌/◌, Bool, true, false, cond, if◌then◌else◌, List, [], ◌∷◌, ◌++◌, length, length-append, filter}
use Rattle.std.proofs.Common.{map}
use Rattle.std.proofs.Common.{refl, sym, ap, ◌∙◌, subst, arith, append_assoc}
use Rattle.std.specs.Borrow.{Bor, MutBor}
use Rattle.std.specs.Fn.{Mut}
use Rattle.std.specs.List.{enumerate_from}
use Rattle.std.specs.Ordering.{nat_cmp}
use Rattle.std.specs.FinMap.{FinMap}
use Rattle.multimap_slots.specs.Slots.{Slots}
use Rattle.multimap_slots.specs.Tapes.{Taped}
use Rattle.multimap_walks.specs.declared.links.KeyLink.{KeyLink}
use Rattle.multimap_walks.specs.declared.links.ValueLink.{ValueLink}
use Rattle.ordered_multimap.specs.Agrees.{IsMap, LacksKey}
use Rattle.ordered_multimap.specs.Lists.{Lists}
use Rattle.ordered_multimap.specs.Pairs.{positions_of, values_of, with_value_at}
use Rattle.ordered_multimap.specs.Retain.{Retains}
use Rattle.ordered_multimap.specs.Private.Update.{KeepsAgreed}
use Rattle.ordered_multimap.proofs.Agreement.AbsentKeys.{lacks_position}
use Rattle.ordered_multimap.specs.Updates.{AlwaysLeaves, AlwaysRewrites, RewritesEach, Updates, UpdatesKey, with_values_at}

module _ {F K V : Type 0} (g : Mut F (Bor K × (MutBor V × Unit {0})) (Unit {0} × (MutBor V × Unit {0}))) (step : K → V → V) (f : F)
    (always : AlwaysLeaves g f step) where
  pub updated_stepwise : (old new : List (K × V)) (last : F) → Retains (Updates g) f old new last → new ≡ map (λ p. (p.0, step p.0 p.1)) old
  updated_stepwise [] new last r = r.0
  updated_stepwise (p ∷ old) new last (b, w, next, rest, called, later, is) =
      let left = always called.key called.value called.left next called.called in
      let here : w ≡ step p.0 p.1 = sym called.leaves ∙ left.0 ∙ (λ i. step (called.shows.0 i) (called.shows.1 i)) in
      let more : rest ≡ map (λ q. (q.0, step q.0 q.1)) old = updated_stepwise old rest last
      (subst (λ h. Retains (Updates g) h old rest last) left.1 later) in
      is ∙ ap (λ c. cond c ((p.0, w) ∷ rest) rest) called.stays ∙ (λ i. (p.0, here i) ∷ more i)

-- a value behind the front ones
with_value_at-split : {K V : Type 0} (front : List (K × V)) (k : K) (v : V) (back : List (K × V)) (w : V)
    → with_value_at (front ++ (k, v) ∷ back) (length front) w ≡ front ++ (k, w) ∷ back
with_value_at-split [] k v back w = refl
with_value_at-split (p ∷ front) k v back w = ap (λ ps. p ∷ ps) (with_value_at-split front k v back w)

module _ {K V : Type 0} (eq : K → K → Bool) (key : K) (step : V → V) where
  abbrev stepped : K × V → K × V
  stepped p = (p.0, if eq key p.0 then step p.1 else p.1)

  -- the key's positions behind the front pairs
  abbrev positions_from : ℕ → List (K × V) → List ℕ
  positions_from at pairs = map (λ e. e.0) (filter (λ e. eq key e.1.0) (enumerate_from at pairs))

  -- its values, each of them stepped, at their positions
  stepped_from : (front pairs : List (K × V)) (at : ℕ) → at ≡ length front
      → with_values_at (front ++ pairs) (positions_from at pairs) (map step (values_of eq pairs key)) ≡ front ++ map stepped pairs
  stepped_from front [] at is = refl
  stepped_from front ((k, v) ∷ pairs) at is =
      let more = λ (w : V). stepped_from (front ++ (k, w) ∷ []) pairs (at + 1) (omega (arith, is, length-append front ((k, w) ∷ []))) in
      let rest : List ℕ = positions_from (at + 1) pairs in
      let values : List V = map step (values_of eq pairs key) in
      let P : Bool → Type 0 = λ b.
      with_values_at (front ++ (k, v) ∷ pairs) (map (λ e. e.0)
      (cond b ((at, (k, v)) ∷ filter (λ e. eq key e.1.0) (enumerate_from (at + 1) pairs))
      (filter (λ e. eq key e.1.0) (enumerate_from (at + 1) pairs))))
      (map step (map (λ p. p.1) (cond b ((k, v) ∷ filter (λ p. eq key p.0) pairs) (filter (λ p. eq key p.0) pairs))))
      ≡ front ++ (k, if b then step v else v) ∷ map stepped pairs in
      elim (eq key k) as P [
        | true ↦
            ap (λ n. with_values_at (with_value_at (front ++ (k, v) ∷ pairs) n (step v)) rest values) is
            ∙ ap (λ ps. with_values_at ps rest values) (with_value_at-split front k v pairs (step v)
            ∙ sym (append_assoc front ((k, step v) ∷ []) pairs))
            ∙ more (step v) ∙ append_assoc front ((k, step v) ∷ []) (map stepped pairs)
        | false ↦
            ap (λ ps. with_values_at ps rest values) (sym (append_assoc front ((k, v) ∷ []) pairs))
            ∙ more v ∙ append_assoc front ((k, v) ∷ []) (map stepped pairs)
      ]

module _ {F V : Type 0} (g : Mut F (MutBor V × Unit {0}) (Unit {0} × (MutBor V × Unit {0}))) (step : V → V) (f : F)
    (always : AlwaysRewrites g f step) where
  rewritten_stepwise : (old new : List V) (last : F) → RewritesEach g f old new last → new ≡ map step old
  rewritten_stepwise [] new last r = r.0
  rewritten_stepwise (v ∷ old) new last (w, next, rest, called, later, is) =
      let left = always called.shown called.left next called.called in
      let here : w ≡ step v = sym called.leaves ∙ left.0 ∙ ap step called.shows in
      let more : rest ≡ map step old = rewritten_stepwise old rest last (subst (λ h. RewritesEach g h old rest last) left.1 later) in
      is ∙ (λ i. here i ∷ more i)

  -- an update of a key, where each call leaves a value that the old one determines
  pub key_stepwise : {K : Type 0} (eq : K → K → Bool) (old : List (K × V)) (key : K) (new : List (K × V)) (last : F)
      → UpdatesKey g eq old key f new last
      → new ≡ map (λ p. (p.0, if eq key p.0 then step p.1 else p.1)) old
  key_stepwise eq old key new last u =
      u.pairs ∙ ap (with_values_at old (positions_of eq old key)) (rewritten_stepwise (values_of eq old key) u.values last u.each)
      ∙ stepped_from eq key step [] old 0 refl

-- an absent key has no value to update
pub absent_updated : {F K V : Type 0} (g : Mut F (MutBor V × Unit {0}) (Unit {0} × (MutBor V × Unit {0}))) (eq : K → K → Bool)
    (m : Lists K V) (key : K) (f : F) → LacksKey eq m key
    → UpdatesKey g eq m.pairs key f m.pairs f
absent_updated g eq m key f lacks = record {
  values = [];
  each = subst (λ vs. RewritesEach g f vs [] f) (sym lacks.no_value) (refl, refl);
  pairs = ap (λ ps. with_values_at m.pairs ps []) (sym (lacks_position (eq key) lacks));
}

-- a map stays one where values were written
pub map_kept : {K V : Type 0} {eq : K → K → Bool} {hash : K → ℕ} {keys : Slots K KeyLink} {rows : FinMap nat_cmp ℕ}
    {old new : Taped V ValueLink} → IsMap eq hash keys rows old → KeepsAgreed eq keys rows old new → IsMap eq hash keys rows new
map_kept {hash = hash} m kept = record {
  agrees = kept.agrees hash m.agrees;
  fits = omega (arith, ap length kept.order, m.fits, ap (λ n. n / 2) kept.room.capacity);
  paid = omega (arith, m.paid, kept.room.counts.moved, kept.room.counts.freed, kept.room.counts.holes);
}
