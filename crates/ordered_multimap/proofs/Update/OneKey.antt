-- One pass over the values of a key: the value at a place is written, and those behind it are left.
use Rattle.std.proofs.Common.{◌≡◌, ◌<◌, ℕ, Bool, List, [], ◌∷◌, ◌++◌, length, Option, Some, None, refl, sym, ap, ◌∙◌, subst, inl, arith}
use Rattle.std.proofs.Common.{append_assoc}
use Rattle.std.specs.Borrow.{MutBor}
use Rattle.std.specs.Cmp.{IsEquivalence}
use Rattle.std.specs.Fn.{Mut}
use Rattle.std.specs.FinMap.{FinMap}
use Rattle.std.specs.List.{cons_option}
use Rattle.std.specs.Ordering.{nat_cmp}
use Rattle.multimap_slots.specs.Lists.{IsIn, AreDistinct, first_of, next_of}
use Rattle.multimap_slots.specs.Slots.{Slots, item_at, link_at, with_item}
use Rattle.multimap_slots.specs.Tapes.{Taped}
use Rattle.multimap_slots.proofs.Callers.PlaceLists.{AreDistinct-gone, IsIn-left, IsIn-right, next_of-split}
use Rattle.multimap_slots.proofs.Callers.SlotChanges.{KeepsOthers-with_item}
use Rattle.multimap_walks.specs.declared.links.KeyLink.{KeyLink}
use Rattle.multimap_walks.specs.declared.links.ValueLink.{ValueLink}
use Rattle.multimap_walks.specs.Chained.{chain_of, pairs_of, position_in, positions_at, values_at}
use Rattle.ordered_multimap.specs.Agrees.{Agrees, HasKey}
use Rattle.ordered_multimap.specs.Pairs.{values_of, with_value_at}
use Rattle.ordered_multimap.specs.Private.Update.{RewritesAt, RewritesOne}
use Rattle.ordered_multimap.specs.Updates.{CallableOnEach, MayRewrite, RewritesEach, UpdatesKey, with_values_at}
use Rattle.ordered_multimap.proofs.Update.Rewriting.{IsRewriting}
use Rattle.ordered_multimap.proofs.Agreement.LookUps.{positions_of-chain, values_of-chain}
use Rattle.ordered_multimap.proofs.Callers.Places.{begins, filter_map-agree, no_rest, places_from-split, places_from}
use Rattle.ordered_multimap.proofs.Remove.ValueByValue.{distinct, in_list, onward}
use Rattle.ordered_multimap.proofs.Callers.Writes.{Agrees-with_item, pairs_of-with_item}

module _ {F K V : Type 0} {g : Mut F (MutBor V × Unit {0}) (Unit {0} × (MutBor V × Unit {0}))} {eq : K → K → Bool}
    {keys : Slots K KeyLink} {rows : FinMap nat_cmp ℕ} {old : Slots V ValueLink} {key : ℕ} {first : F} where
  -- there is a place
  pub rewriting-at : {values : Slots V ValueLink} {f : F} {following : Option ℕ} {place : ℕ} → following ≡ Some place
      → IsRewriting g keys old key eq rows values first f following → IsRewriting g keys old key eq rows values first f (Some place)
  rewriting-at {values = values} {f = f} is r = subst (IsRewriting g keys old key eq rows values first f) is r

  -- nothing is done yet
  pub rewriting-start : {hash : K → ℕ} → Agrees eq hash keys rows old → (l : KeyLink) → IsIn key keys.order → link_at keys key ≡ Some l
      → CallableOnEach g first (values_at old (chain_of old key)) → IsRewriting g keys old key eq rows old first first (Some l.head)
  rewriting-start agrees l listed link_is callable = record {
    done = [];
    rest = chain_of old key;
    parts = refl;
    following_is = sym (agrees.chained.head key l listed link_is);
    order = refl;
    links = λ q. refl;
    agrees = λ hash a. a;
    callable = callable;
    goes_on = λ later last each. record { values = later; each = each; pairs = refl };
  }

  module _ {hash : K → ℕ} (old_agrees : Agrees eq hash keys rows old) {values : Slots V ValueLink} {f : F} {place : ℕ}
      (r : IsRewriting g keys old key eq rows values first f (Some place)) where
    abbrev agrees : Agrees eq hash keys rows values
    agrees = r.agrees hash old_agrees

    -- the places behind this one
    abbrev back : List ℕ
    back = (begins r.rest place (sym r.following_is)).rest

    rest_is : r.rest ≡ place ∷ back
    rest_is = (begins r.rest place (sym r.following_is)).is

    split : chain_of old key ≡ r.done ++ place ∷ back
    split = r.parts ∙ ap (λ ps. r.done ++ ps) rest_is

    gone : IsIn place (r.done ++ back) → ⊥
    gone = AreDistinct-gone r.done place back (subst AreDistinct split (distinct old_agrees.values_sound old_agrees.chained key))

    in_chain : IsIn place (chain_of old key)
    in_chain = subst (IsIn place) (sym split) (IsIn-right place r.done (place ∷ back) (inl refl))

    pub rewriting-listed : IsIn place values.order
    rewriting-listed = subst (IsIn place) (sym r.order) (in_list old_agrees.values_sound old_agrees.chained key place in_chain).0

    -- the function may be called on the value
    pub may_rewrite : (v : V) → item_at values place ≡ Some v → MayRewrite g f v
    may_rewrite v is = r.callable.at [] (values_at values back) f v
        (ap (values_at values) rest_is ∙ ap (λ o. cons_option o (values_at values back)) is) refl

    module _ {values_after : Slots V ValueLink} (w : V) (written : values_after ≡ with_item values place w) where
      back_same : values_at values_after back ≡ values_at values back
      back_same =
          ap (λ (s : Slots V ValueLink). values_at s back) written
          ∙ filter_map-agree (item_at (with_item values place w)) (item_at values) back
          (λ q i. (KeepsOthers-with_item values place w).items q
          (λ same. gone (subst (λ p. IsIn p (r.done ++ back)) same (IsIn-right q r.done back i))))

      pairs_now : pairs_of keys values_after ≡ with_value_at (pairs_of keys values) (position_in old.order place) w
      pairs_now =
          ap (pairs_of keys) written ∙ pairs_of-with_item agrees place rewriting-listed w
          ∙ ap (λ ps. with_value_at (pairs_of keys values) (position_in ps place) w) r.order

  -- one step
  module _ {hash : K → ℕ} (old_agrees : Agrees eq hash keys rows old) {values values_after : Taped V ValueLink} {f
      f' : F} {place : ℕ} {next : Option ℕ}
      (r : IsRewriting g keys old key eq rows values.list first f (Some place))
      (one : RewritesOne g values values_after place f f' next) where
    written_list : values_after.list ≡ with_item values.list place one.left
    written_list = ap (λ (t : Taped V ValueLink). t.list) one.written

    rest_values : values_at values.list r.rest ≡ one.was ∷ values_at values.list (back old_agrees r)
    rest_values = ap (values_at values.list) (rest_is old_agrees r)
        ∙ ap (λ o. cons_option o (values_at values.list (back old_agrees r))) one.was_is

    same_back : values_at values_after.list (back old_agrees r) ≡ values_at values.list (back old_agrees r)
    same_back = back_same old_agrees r one.left written_list

    pub rewriting-step : IsRewriting g keys old key eq rows values_after.list first f' next
    rewriting-step = record {
      done = r.done ++ place ∷ [];
      rest = back old_agrees r;
      parts = split old_agrees r ∙ sym (append_assoc r.done (place ∷ []) (back old_agrees r));
      following_is =
          one.next_is ∙ sym (onward old_agrees.values_sound old_agrees.chained key place one.link (in_chain old_agrees r)
          (sym (r.links place) ∙ one.link_is))
          ∙ ap (λ ps. next_of ps place) (split old_agrees r)
          ∙ next_of-split r.done place (back old_agrees r) (λ i. gone old_agrees r (IsIn-left place r.done (back old_agrees r) i));
      order = ap (λ (s : Slots V ValueLink). s.order) written_list ∙ r.order;
      links = λ q. ap (λ (s : Slots V ValueLink). link_at s q) written_list ∙ r.links q;
      agrees = λ h a. subst (Agrees eq h keys rows) (sym written_list)
          (Agrees-with_item (r.agrees h a) place (rewriting-listed old_agrees r) one.left);
      callable = record {
        at = λ before after h v is folds.
            r.callable.at (one.was ∷ before) after h v (rest_values ∙ ap (λ vs. one.was ∷ vs) (sym same_back ∙ is))
            (f', (one.left, one.called), folds);
      };
      goes_on = λ later last each.
          let here : RewritesEach g f (one.was ∷ values_at values.list (back old_agrees r)) (one.left ∷ later) last =
          (one.left, f', later, one.called, subst (λ vs. RewritesEach g f' vs later last) same_back each, refl) in
          let before = r.goes_on (one.left ∷ later) last
          (subst (λ vs. RewritesEach g f vs (one.left ∷ later) last) (sym rest_values) here) in
          subst (λ ps. RewritesAt g keys old key first ps last)
          (ap (λ ps. with_values_at (pairs_of keys values.list) (positions_at old ps) (one.left ∷ later)) (rest_is old_agrees r)
          ∙ ap (λ ps. with_values_at ps (positions_at old (back old_agrees r)) later) (sym (pairs_now old_agrees r one.left written_list)))
          before;
    }

    left_behind : length rewriting-step.rest ≡ length (back old_agrees r)
    unfolding rewriting-step
    left_behind = refl

    -- and one place fewer is left
    pub rewriting-smaller : places_from (chain_of old key) next < places_from (chain_of old key) (Some place)
    rewriting-smaller =
        omega (arith, places_left r, places_left rewriting-step, left_behind, ap length (rest_is old_agrees r))
      where
        places_left : {vs : Slots V ValueLink} {h : F} {o : Option ℕ} → (s : IsRewriting g keys old key eq rows vs first h o)
            → places_from (chain_of old key) o ≡ length s.rest
        places_left s =
            ap (λ n. places_from (chain_of old key) n) s.following_is ∙ ap (λ ps. places_from ps (first_of s.rest)) s.parts
            ∙ places_from-split s.done s.rest (subst AreDistinct s.parts (distinct old_agrees.values_sound old_agrees.chained key))

  -- all is done
  pub rewriting-end : {values : Slots V ValueLink} {f : F} {following : Option ℕ} → following ≡ None
      → IsRewriting g keys old key eq rows values first f following → RewritesAt g keys old key first (pairs_of keys values) f
  rewriting-end {values = values} {f = f} is r =
      let none = no_rest r.rest (sym r.following_is ∙ is) in
      subst (λ ps. RewritesAt g keys old key first (with_values_at (pairs_of keys values) (positions_at old ps) []) f) none
      (r.goes_on [] f (subst (λ ps. RewritesEach g f (values_at values ps) [] f) (sym none) (refl, refl)))

-- the pass over the chain of a key is one over its values
module _ {F K V : Type 0} {g : Mut F (MutBor V × Unit {0}) (Unit {0} × (MutBor V × Unit {0}))} {eq : K → K → Bool}
    (laws : IsEquivalence eq) {hash : K → ℕ}
    {keys : Slots K KeyLink} {rows : FinMap nat_cmp ℕ} {old : Slots V ValueLink} (agrees : Agrees eq hash keys rows old) (k : K) (place : ℕ)
    (has : HasKey eq keys k place) where
  pub chain_callable : {f : F} → CallableOnEach g f (values_of eq (pairs_of keys old) k)
      → CallableOnEach g f (values_at old (chain_of old place))
  chain_callable {f} callable = subst (CallableOnEach g f) (values_of-chain laws agrees k place has) callable

  pub chain_updated : {f last : F} {new : List (K × V)} → RewritesAt g keys old place f new last
      → UpdatesKey g eq (pairs_of keys old) k f new last
  chain_updated {f} {last} r = record {
    values = r.values;
    each = subst (λ vs. RewritesEach g f vs r.values last) (sym (values_of-chain laws agrees k place has)) r.each;
    pairs = r.pairs ∙ ap (λ ps. with_values_at (pairs_of keys old) ps r.values) (sym (positions_of-chain laws agrees k place has));
  }
