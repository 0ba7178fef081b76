-- One pass over the pairs: what is done with the pair at a place, and what is left to do.
use Rattle.std.proofs.Common.{◌≡◌, ◌≢◌, ℕ, ◌+◌, Bool, true, false, cond, List, [], ◌∷◌, ◌++◌, length, length-append, filter}
use Rattle.std.proofs.Common.{Option, Some, None, refl, sym, ap, ◌∙◌, subst, inl, arith, append_assoc}
use Rattle.std.proofs.lemmas.List.{append-nil}
use Rattle.std.proofs.lemmas.List.Elements.{filter_map-append}
use Rattle.std.specs.Cmp.{IsEquivalence}
use Rattle.std.specs.List.{filter_map, cons_option}
use Rattle.std.specs.Map.{keys_of}
use Rattle.std.specs.Map.Calls.{CallableOnEachPair}
use Rattle.std.specs.Ordering.{nat_cmp}
use Rattle.std.specs.FinMap.{FinMap}
use Rattle.multimap_slots.specs.Lists.{IsIn, first_of, next_of, without, AreDistinct}
use Rattle.multimap_slots.specs.Slots.{Slots, with_item}
use Rattle.multimap_slots.proofs.Callers.PlaceLists.{AreDistinct-gone, IsIn-left, IsIn-right, IsIn-was, next_of-split, without-split}
use Rattle.multimap_walks.specs.declared.links.KeyLink.{KeyLink}
use Rattle.multimap_walks.specs.declared.links.ValueLink.{ValueLink}
use Rattle.multimap_walks.specs.Chained.{pair_at, pairs_of}
use Rattle.ordered_multimap.specs.Agrees.{Agrees, items_of}
use Rattle.ordered_multimap.specs.Keys.{is_listed, keys_named_by}
use Rattle.ordered_multimap.specs.Retain.{Retains}
use Rattle.ordered_multimap.proofs.Remove.OnePair.{LeavesAt, named_by-again, named_by-all}
use Rattle.ordered_multimap.proofs.Callers.Members.{keys_of-append}
use Rattle.ordered_multimap.proofs.Callers.Places.{begins, filter_map-agree, no_rest, places_from, places_from-split}
use Rattle.ordered_multimap.proofs.Callers.Writes.{Agrees-with_item, pair_here, pair_other}

module _ {F K V : Type 0} (calls : F → K → V → Bool → V → F → Type 0) where
  -- the pairs before this place are retained, and those from it on are still to be asked for
  pub record IsRetaining (eq : K → K → Bool) (accepts : F → K → V → Type 0)
      (old_keys keys : Slots K KeyLink) (old_rows rows : FinMap nat_cmp ℕ)
      (old_values values : Slots V ValueLink) (first f : F) (following : Option ℕ) : Type 0 where
    pub done : List ℕ
    pub rest : List ℕ
    pub order : values.order ≡ done ++ rest
    pub following_is : following ≡ first_of rest
    pub agrees : (hash : K → ℕ) → Agrees eq hash old_keys old_rows old_values
        → Agrees eq hash keys rows values
    pub keys_are : items_of keys ≡ keys_named_by eq (items_of old_keys) (pairs_of keys values)
    pub callable : CallableOnEachPair calls accepts f (filter_map (pair_at keys values) rest)
    pub goes_on : (later : List (K × V)) (last : F)
        → Retains calls f (filter_map (pair_at keys values) rest) later last
        → Retains calls first (pairs_of old_keys old_values)
        (filter_map (pair_at keys values) done ++ later) last

module _ {F K V : Type 0} {eq : K → K → Bool} {calls : F → K → V → Bool → V → F → Type 0} {accepts : F → K → V → Type 0}
    {old_keys : Slots K KeyLink} {old_rows : FinMap nat_cmp ℕ} {old_values : Slots V ValueLink} {first : F} where
  -- a step has left this much to do
  pub record Continues {keys : Slots K KeyLink} {rows : FinMap nat_cmp ℕ} {values : Slots V ValueLink} {f : F} {following : Option ℕ}
      (r : IsRetaining calls eq accepts old_keys keys old_rows rows old_values values first f following)
      (keys_after : Slots K KeyLink) (rows_after : FinMap nat_cmp ℕ) (values_after : Slots V ValueLink)
      (g : F) (next : Option ℕ) : Type 0 where
    pub retaining : IsRetaining calls eq accepts old_keys keys_after old_rows rows_after old_values values_after first g next
    pub fewer : length retaining.rest + 1 ≡ length r.rest
    -- they are behind the one that was asked for, and their pairs are as they were
    pub passed : (p : ℕ) × (r.rest ≡ p ∷ retaining.rest)
    pub same : (q : ℕ) → IsIn q retaining.rest → pair_at keys_after values_after q ≡ pair_at keys values q

  -- so many places are left
  pub places_from-rest : {keys : Slots K KeyLink} {rows : FinMap nat_cmp ℕ} {values : Slots V ValueLink} {f : F} {following : Option ℕ}
      → (r : IsRetaining calls eq accepts old_keys keys old_rows rows old_values values first f following)
      → AreDistinct values.order → places_from values.order following ≡ length r.rest
  places_from-rest {values = values} {following = following} r distinct =
      ap (λ ps. places_from ps following) r.order ∙ ap (places_from (r.done ++ r.rest)) r.following_is
      ∙ places_from-split r.done r.rest (subst AreDistinct r.order distinct)

  -- there is a place
  pub retaining-at : {keys : Slots K KeyLink} {rows : FinMap nat_cmp ℕ} {values : Slots V ValueLink} {f : F} {following : Option ℕ}
      {place : ℕ} → following ≡ Some place
      → IsRetaining calls eq accepts old_keys keys old_rows rows old_values values first f following
      → IsRetaining calls eq accepts old_keys keys old_rows rows old_values values first f (Some place)
  retaining-at {keys = keys} {rows = rows} {values = values} {f = f} is r =
      subst (IsRetaining calls eq accepts old_keys keys old_rows rows old_values values first f) is r

  -- nothing is done yet
  pub retaining-start : IsEquivalence eq → {hash : K → ℕ} → Agrees eq hash old_keys old_rows old_values
      → (following : Option ℕ) → following ≡ first_of old_values.order
      → CallableOnEachPair calls accepts first (pairs_of old_keys old_values)
      → IsRetaining calls eq accepts old_keys old_keys old_rows old_rows old_values old_values first first following
  retaining-start laws agrees following is callable = record {
    done = [];
    rest = old_values.order;
    order = refl;
    following_is = is;
    agrees = λ hash a. a;
    keys_are = named_by-all laws agrees;
    callable = callable;
    goes_on = λ later last r. r;
  }

  pub retaining-start-rest : (laws : IsEquivalence eq) {hash : K → ℕ} (agrees : Agrees eq hash old_keys old_rows old_values)
      (following : Option ℕ) (is : following ≡ first_of old_values.order)
      (callable : CallableOnEachPair calls accepts first (pairs_of old_keys old_values))
      → (retaining-start laws agrees following is callable).rest ≡ old_values.order
  unfolding retaining-start
  retaining-start-rest laws agrees following is callable = refl

  module _ (laws : IsEquivalence eq) {hash : K → ℕ} (old_agrees : Agrees eq hash old_keys old_rows old_values)
      {keys : Slots K KeyLink} {rows : FinMap nat_cmp ℕ} {values : Slots V ValueLink} {f : F} {place : ℕ}
      (r : IsRetaining calls eq accepts old_keys keys old_rows rows old_values values first f (Some place)) where
    abbrev agrees : Agrees eq hash keys rows values
    agrees = r.agrees hash old_agrees

    abbrev pub back : List ℕ
    back = (begins r.rest place (sym r.following_is)).rest

    rest_is : r.rest ≡ place ∷ back
    rest_is = (begins r.rest place (sym r.following_is)).is

    -- the pairs that are done, and those behind this one
    abbrev pub done_pairs : List (K × V)
    done_pairs = filter_map (pair_at keys values) r.done

    abbrev pub back_pairs : List (K × V)
    back_pairs = filter_map (pair_at keys values) back

    split : values.order ≡ r.done ++ place ∷ back
    split = r.order ∙ ap (λ ps. r.done ++ ps) rest_is

    gone : IsIn place (r.done ++ back) → ⊥
    gone = AreDistinct-gone r.done place back (subst AreDistinct split agrees.values_sound.distinct)

    pub listed_place : IsIn place values.order
    listed_place = subst (IsIn place) (sym split) (IsIn-right place r.done (place ∷ back) (inl refl))

    other : (q : ℕ) → IsIn q (r.done ++ back) → q ≢ place
    other q i same = gone (subst (λ p. IsIn p (r.done ++ back)) same i)

    was_listed : (q : ℕ) → IsIn q (r.done ++ back) → IsIn q values.order
    was_listed q i = subst (IsIn q) (sym split) (IsIn-was q r.done place back i)

    -- one place fewer is left
    pub next_is : next_of values.order place ≡ first_of back
    next_is = ap (λ ps. next_of ps place) split ∙ next_of-split r.done place back (λ i. gone (IsIn-left place r.done back i))

    -- the function may be called on the pair
    pub may_ask : (k : K) (v : V) → pair_at keys values place ≡ Some (k, v) → accepts f k v
    may_ask k v is =
        r.callable.at [] back_pairs f k v
        (ap (filter_map (pair_at keys values)) rest_is ∙ ap (λ o. cons_option o back_pairs) is) refl

    -- the pairs once the pair has been asked for: the others are the same
    pub record Turned (b : Bool) (w : V) (k : K) (keys_after : Slots K KeyLink) (rows_after : FinMap nat_cmp ℕ)
        (values_after : Slots V ValueLink) : Type 0 where
      order : values_after.order ≡ cond b (r.done ++ place ∷ []) r.done ++ back
      others : (q : ℕ) → IsIn q (r.done ++ back) → pair_at keys_after values_after q ≡ pair_at keys values q
      here : b ≡ true → pair_at keys_after values_after place ≡ Some (k, w)
      agrees_after : (h : K → ℕ) → Agrees eq h keys rows values → Agrees eq h keys_after rows_after values_after
      keys_are : (pairs_of keys_after values_after ≡ done_pairs ++ cond b ((k, w) ∷ back_pairs) back_pairs)
          → items_of keys_after ≡ keys_named_by eq (items_of old_keys) (pairs_of keys_after values_after)

    pub one_fewer : {w : V} {k : K} {keys_after : Slots K KeyLink} {rows_after : FinMap nat_cmp ℕ} {values_after : Slots V ValueLink}
        → Turned false w k keys_after rows_after values_after → length values_after.order + 1 ≡ length values.order
    one_fewer t = omega (arith, ap length t.order, ap length split, length-append r.done back, length-append r.done (place ∷ back))

    module _ {b : Bool} {k : K} {was w : V} {g : F} (pair_is : pair_at keys values place ≡ Some (k, was)) (called : calls f k was b w g)
        {keys_after : Slots K KeyLink} {rows_after : FinMap nat_cmp ℕ} {values_after : Slots V ValueLink}
        (t : Turned b w k keys_after rows_after values_after) where
      done_same : filter_map (pair_at keys_after values_after) r.done ≡ done_pairs
      done_same = filter_map-agree (pair_at keys_after values_after) (pair_at keys values) r.done
          (λ q i. t.others q (IsIn-left q r.done back i))

      back_same : filter_map (pair_at keys_after values_after) back ≡ back_pairs
      back_same = filter_map-agree (pair_at keys_after values_after) (pair_at keys values) back
          (λ q i. t.others q (IsIn-right q r.done back i))

      rest_pairs : filter_map (pair_at keys values) r.rest ≡ (k, was) ∷ back_pairs
      rest_pairs = ap (filter_map (pair_at keys values)) rest_is ∙ ap (λ o. cons_option o back_pairs) pair_is

      -- the pairs that are done, before others
      abbrev done_after : Bool → List (K × V)
      done_after c = filter_map (pair_at keys_after values_after) (cond c (r.done ++ place ∷ []) r.done)

      done_now : (more : List (K × V)) → done_after b ++ more ≡ done_pairs ++ cond b ((k, w) ∷ more) more
      done_now more = by b t.here
        where
          by : (c : Bool) → (c ≡ true → pair_at keys_after values_after place ≡ Some (k, w))
              → done_after c ++ more ≡ done_pairs ++ cond c ((k, w) ∷ more) more
          by true here =
              ap (λ ps. ps ++ more) (filter_map-append (pair_at keys_after values_after) r.done (place ∷ []))
              ∙ ap (λ o. (filter_map (pair_at keys_after values_after) r.done ++ cons_option o []) ++ more) (here refl)
              ∙ ap (λ ps. (ps ++ (k, w) ∷ []) ++ more) done_same
              ∙ append_assoc done_pairs ((k, w) ∷ []) more
          by false here = ap (λ ps. ps ++ more) done_same

      pairs_now : pairs_of keys_after values_after ≡ done_pairs ++ cond b ((k, w) ∷ back_pairs) back_pairs
      pairs_now =
          ap (filter_map (pair_at keys_after values_after)) t.order
          ∙ filter_map-append (pair_at keys_after values_after) (cond b (r.done ++ place ∷ []) r.done) back
          ∙ ap (λ ps. done_after b ++ ps) back_same
          ∙ done_now back_pairs

      pub continues : (next : Option ℕ) → next ≡ next_of values.order place → Continues r keys_after rows_after values_after g next
      continues next next_of_is = record {
        retaining = record {
          done = cond b (r.done ++ place ∷ []) r.done;
          rest = back;
          order = t.order;
          following_is = next_of_is ∙ next_is;
          agrees = λ h a. t.agrees_after h (r.agrees h a);
          keys_are = t.keys_are pairs_now;
          callable = record {
            at = λ before after g' j v is folds.
                r.callable.at ((k, was) ∷ before) after g' j v
                (rest_pairs ∙ ap (λ ps. (k, was) ∷ ps) (sym back_same ∙ is)) (g, (b, w, called), folds);
          };
          goes_on = λ later last rest.
              let here : Retains calls f ((k, was) ∷ back_pairs) (cond b ((k, w) ∷ later) later) last =
              (b, w, g, later, called, subst (λ ps. Retains calls g ps later last) back_same rest, refl) in
              subst (λ ps. Retains calls first (pairs_of old_keys old_values) ps last) (sym (done_now later))
              (r.goes_on (cond b ((k, w) ∷ later) later) last
              (subst (λ ps. Retains calls f ps (cond b ((k, w) ∷ later) later) last) (sym rest_pairs) here));
        };
        fewer = omega (arith, ap length rest_is);
        passed = (place, rest_is);
        same = λ q i. t.others q (IsIn-right q r.done back i);
      }

    module _ (k : K) (was w : V) (pair_is : pair_at keys values place ≡ Some (k, was)) where
      abbrev pub written : Slots V ValueLink
      written = with_item values place w

      -- the names of the pairs as they were
      names : keys_of (pairs_of keys values) ≡ keys_of done_pairs ++ k ∷ keys_of back_pairs
      names =
          ap (λ ps. keys_of (filter_map (pair_at keys values) ps)) split
          ∙ ap keys_of (filter_map-append (pair_at keys values) r.done (place ∷ back))
          ∙ ap (λ o. keys_of (done_pairs ++ cons_option o back_pairs)) pair_is
          ∙ keys_of-append done_pairs ((k, was) ∷ back_pairs)

      pub turned_stays : Turned true w k keys rows written
      turned_stays = record {
        order = split ∙ sym (append_assoc r.done (place ∷ []) back);
        others = λ q i. pair_other agrees place listed_place w q (was_listed q i) (other q i);
        here = λ _. pair_here agrees place listed_place w k was pair_is;
        agrees_after = λ h a. Agrees-with_item a place listed_place w;
        keys_are = λ now.
            r.keys_are
            ∙ ap (λ ks. filter (is_listed eq ks) (items_of old_keys))
            (names ∙ sym (ap keys_of now ∙ keys_of-append done_pairs ((k, w) ∷ back_pairs)));
      }

      module _ {keys_after : Slots K KeyLink} {rows_after : FinMap nat_cmp ℕ} {values_after : Slots V ValueLink}
          (leaves : (h : K → ℕ) → Agrees eq h keys rows written → LeavesAt eq h keys keys_after rows_after written values_after place) where
        left : LeavesAt eq hash keys keys_after rows_after written values_after place
        left = leaves hash (Agrees-with_item agrees place listed_place w)

        order_left : values_after.order ≡ r.done ++ back
        order_left = left.order ∙ ap (λ ps. without ps place) split ∙ without-split r.done place back gone

        pub turned_leaves : Turned false w k keys_after rows_after values_after
        turned_leaves = record {
          order = order_left;
          others = λ q i.
              left.same q (subst (IsIn q) (sym order_left) i)
              ∙ pair_other agrees place listed_place w q (was_listed q i) (other q i);
          here = λ e. absurd (let bad : false ≡ true = e in cc);
          agrees_after = λ h a. (leaves h (Agrees-with_item a place listed_place w)).agrees;
          keys_are = λ now.
              left.keys_are ∙ ap (λ ks. keys_named_by eq ks (pairs_of keys_after values_after)) r.keys_are
              ∙ named_by-again laws (items_of old_keys) (pairs_of keys values) (pairs_of keys_after values_after)
              (λ j i. subst (IsIn j) (sym names)
              (IsIn-was j (keys_of done_pairs) k (keys_of back_pairs)
              (subst (IsIn j) (ap keys_of now ∙ keys_of-append done_pairs back_pairs) i)));
        }

  -- all is done
  pub retaining-end : {keys : Slots K KeyLink} {rows : FinMap nat_cmp ℕ} {values : Slots V ValueLink} {f : F} {following : Option ℕ}
      → following ≡ None → IsRetaining calls eq accepts old_keys keys old_rows rows old_values values first f following
      → Retains calls first (pairs_of old_keys old_values) (pairs_of keys values) f
  retaining-end {keys = keys} {values = values} {f = f} is r =
      let none = no_rest r.rest (sym r.following_is ∙ is) in
      let all : pairs_of keys values ≡ filter_map (pair_at keys values) r.done ++ [] =
      ap (filter_map (pair_at keys values)) (r.order ∙ ap (λ ps. r.done ++ ps) none ∙ append-nil r.done)
      ∙ sym (append-nil (filter_map (pair_at keys values) r.done)) in
      subst (λ ps. Retains calls first (pairs_of old_keys old_values) ps f) (sym all)
      (r.goes_on [] f (subst (λ ps. Retains calls f (filter_map (pair_at keys values) ps) [] f) (sym none) (refl, refl)))
