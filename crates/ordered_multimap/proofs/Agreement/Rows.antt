-- The rows of keys that come one after another to a list.
use Rattle.std.proofs.Common.{◌≡◌, ◌≢◌, ◌==◌, ℕ, ◌+◌, cond, [], ◌∷◌, length, Option, Some, None, is_some, refl, sym, ap, ◌∙◌, subst, inl}
use Rattle.std.proofs.Common.{inr}
use Rattle.std.proofs.Common.{length-append}
use Rattle.std.proofs.lemmas.Bool.{cases_eq, eq-eqb, ne_eqb}
use Rattle.std.specs.Cmp.{nat_cmp_total, unsigned_tied}
use Rattle.std.specs.Ordering.{nat_cmp}
use Rattle.std.specs.FinMap.{FinMap, empty, get, insert, len, get-empty, get-insert, len-empty, len-insert}
use Rattle.multimap_slots.specs.Lists.{IsIn}
use Rattle.multimap_slots.specs.Slots.{Slots, IsEmpty, PushesBack, link_at}
use Rattle.multimap_walks.specs.declared.links.KeyLink.{KeyLink}
use Rattle.ordered_multimap.specs.Private.KeyRelocations.{HasRows}
use Rattle.ordered_multimap.proofs.Append.Steps.{listed_cases, new_listed, old_listed, old_other}

pub rows-start : {K : Type 0} (packed : Slots K KeyLink) (rows : FinMap nat_cmp ℕ) → IsEmpty packed → rows ≡ empty → HasRows packed rows
rows-start packed rows none no_row = record {
  in_table = λ p l listed. absurd (subst (IsIn p) none.order listed);
  listed = λ p h e. let bad : None ≡ Some h = sym (ap (λ m. get m p) no_row ∙ get-empty nat_cmp p) ∙ e in absurd (cc);
  counted = ap len no_row ∙ len-empty nat_cmp ℕ ∙ sym (ap length none.order);
}

module _ {K : Type 0} {packed packed_after : Slots K KeyLink} {rows rows_after : FinMap nat_cmp ℕ} {key : K} {link : KeyLink} {to : ℕ}
    (pushed : PushesBack packed packed_after to key link) (rows_are : rows_after ≡ insert rows to link.hash) where
  -- the row of the key comes, and the others stay
  pub rows-step : HasRows packed rows → HasRows packed_after rows_after
  rows-step has = record {
    in_table = λ p l listed is. elim (listed_cases pushed p listed) [
      | inl before ↦ elsewhere p (old_other pushed p before)
          ∙ has.in_table p l before (sym (pushed.others.links p (old_other pushed p before)) ∙ is)
      | inr here ↦
          let both : Some link ≡ Some l = sym pushed.link_is ∙ ap (link_at packed_after) (sym here) ∙ is in
          let own : link ≡ l = cc in
          at_place p here ∙ ap (λ (x : KeyLink). Some x.hash) own
    ];
    listed = λ p h is. elim (cases_eq p to) [
      | inl same ↦ subst (λ q. IsIn q packed_after.order) (sym same) (new_listed pushed)
      | inr differs ↦ old_listed pushed p (has.listed p h (sym (elsewhere p differs) ∙ is))
    ];
    counted =
        ap len rows_are ∙ len-insert nat_cmp_total rows to link.hash
        ∙ ap (λ b. cond b (len rows) (len rows + 1)) (ap is_some absent)
        ∙ ap (λ m. m + 1) has.counted
        ∙ sym (ap length pushed.order ∙ length-append packed.order (to ∷ []));
  }
    where
      inserted : (p : ℕ) → get rows_after p ≡ cond (p == to) (Some link.hash) (get rows p)
      inserted p =
          ap (λ m. get m p) rows_are ∙ get-insert nat_cmp_total rows to link.hash p
          ∙ ap (λ b. cond b (Some link.hash) (get rows p)) (unsigned_tied p to)

      at_place : (p : ℕ) → p ≡ to → get rows_after p ≡ Some link.hash
      at_place p same = inserted p ∙ ap (λ b. cond b (Some link.hash) (get rows p)) (eq-eqb p to same)

      elsewhere : (p : ℕ) → p ≢ to → get rows_after p ≡ get rows p
      elsewhere p differs = inserted p ∙ ap (λ b. cond b (Some link.hash) (get rows p)) (ne_eqb p to differs)

      absent : get rows to ≡ None
      absent =
          let P : Option ℕ → Type 0 = λ o. get rows to ≡ o → o ≡ None in
          elim (get rows to) as P [ None ↦ λ _. refl | Some h ↦ λ is. absurd (pushed.was_absent (has.listed to h is)) ]
          refl
