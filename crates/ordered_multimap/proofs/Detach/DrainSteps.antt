-- What a drain has left, and what its steps leave of the slots.
use Rattle.std.proofs.lemmas.List.{append-nil}
use Rattle.std.proofs.Common.{◌≡◌, ◌≢◌, ℕ, zero, suc, ◌+◌, Bool, true, List, [], ◌∷◌, ◌++◌, length, map, reverse, Option, Some, None}
use Rattle.std.proofs.Common.{◌⊎◌, inl, inr, true≢false, IsSome, option_map, unwrap_or, refl, sym, ap, ◌∙◌, subst, arith}
use Rattle.std.specs.Prelude.{IfSome}
use Rattle.std.proofs.Math.Logic.{∥∥₁_elim}
use Rattle.std.specs.Ordering.{nat_cmp}
use Rattle.std.specs.FinMap.{FinMap}
use Rattle.std.proofs.Props.{props}
use Rattle.multimap_slots.specs.Lists.{IsIn, AreDistinct, first_of, last_of}
use Rattle.multimap_slots.specs.Slots.{IsDetached, IsSound, Slots, TakesDetached, item_at, link_at}
use Rattle.multimap_slots.proofs.Callers.PlaceLists.{AreDistinct-gone, AreDistinct-remove, IsIn-left, IsIn-reverse}
use Rattle.multimap_walks.specs.declared.links.ChainEnds.{ChainEnds}
use Rattle.multimap_walks.specs.declared.links.KeyLink.{KeyLink}
use Rattle.multimap_walks.specs.declared.links.ValueLink.{ValueLink}
use Rattle.multimap_walks.specs.Path.{path, Leads}
use Rattle.multimap_walks.specs.Chained.{IsDetachedChain, next_place, previous_place, values_at}
use Rattle.multimap_walks.proofs.Callers.Paths.{Leads-agree, path-is, front_taken, back_taken, shown_first, shown_last}
use Rattle.multimap_walks.proofs.Callers.Chains.{behind_named, before_named, chain_behind, chain_before, first_stands, last_stands, length-left}
use Rattle.multimap_walks.proofs.Callers.Squashed.{AreDistinct-prop, Leads-prop}
use Rattle.ordered_multimap.specs.Agrees.{Agrees, lists_of}
use Rattle.ordered_multimap.specs.Detaches.{IsDrained, KeepsSlots, drained, drained_places}
use Rattle.ordered_multimap.specs.Private.Relocations.{Relocates}
use Rattle.ordered_multimap.proofs.Callers.Places.{filter_map-agree}
use Rattle.ordered_multimap.proofs.Agreement.Relocated.{agrees-relocated, lists_of-relocated}

-- that a drain's places are detached has one proof at most
module _ {V : Type 0} (values : Slots V ValueLink) where
  IsDetached-prop : (p : ℕ) → IsProp (IsDetached values p)
  IsDetached-prop p x y =
      let not_listed_prop : IsProp (¬ IsIn p values.order) = Prim.hlevel props in
      let has_item_prop : IsProp (IsSome (item_at values p)) = Prim.hlevel props in
      λ i. record { not_listed = not_listed_prop x.not_listed y.not_listed i; has_item = has_item_prop x.has_item y.has_item i }

  IsDrained-prop : (ends : ChainEnds) → IsProp (IsDrained values ends)
  IsDrained-prop ends x y =
      let last_prop : IsProp (IfSome (last_of (drained_places values ends)) (λ p. p ≡ ends.last)) = Prim.hlevel props in
      λ i. record {
        onward = Leads-prop (next_place values) (drained_places values ends) x.onward y.onward i;
        backward = Leads-prop (previous_place values) (reverse (drained_places values ends)) x.backward y.backward i;
        last = last_prop x.last y.last i;
        distinct = AreDistinct-prop (drained_places values ends) x.distinct y.distinct i;
        there = λ p member. IsDetached-prop p (x.there p member) (y.there p member) i;
      }

  -- so it can be read off a drain
  pub drains : (ends : ChainEnds) → ∥ IsDrained values ends ∥₁ → IsDrained values ends
  drains ends some = ∥∥₁_elim some (IsDrained-prop ends) (λ d. d)

  first_of-path : (names : ℕ → Option ℕ) (front n : ℕ) → IfSome (first_of (path names front n)) (λ p. p ≡ front)
  first_of-path names front zero = tt
  first_of-path names front (suc n) = refl

  length-along : (names : ℕ → Option ℕ) (front n : ℕ) → length (path names front n) ≡ n
  length-along names front zero = refl
  length-along names front (suc n) = ap suc (length-along names (unwrap_or (names front) front) n)

  -- they are a chain
  pub chain_of-drained : (ends : ChainEnds) → IsDrained values ends → IsDetachedChain values ends.first ends.last ends.length
  chain_of-drained ends d = record {
    places = drained_places values ends;
    onward = d.onward;
    backward = d.backward;
    first = first_of-path (next_place values) ends.first ends.length;
    last = d.last;
    count = length-along (next_place values) ends.first ends.length;
    there = d.there;
  }

  pub places_of-chain : (ends : ChainEnds) (chain : IsDetachedChain values ends.first ends.last ends.length)
      → drained_places values ends ≡ chain.places
  places_of-chain ends chain = path-is (IsDetached values) (next_place values)
      (previous_place values) ends.first ends.last ends.length chain

  -- a chain at places of their own
  pub drained-chain : (ends : ChainEnds) (chain : IsDetachedChain values ends.first ends.last ends.length) → AreDistinct chain.places
      → IsDrained values ends
  drained-chain ends chain distinct =
      let same = sym (places_of-chain ends chain) in
      record {
        onward = subst (Leads (next_place values)) same chain.onward;
        backward = subst (λ ps. Leads (previous_place values) (reverse ps)) same chain.backward;
        last = subst (λ ps. IfSome (last_of ps) (λ p. p ≡ ends.last)) same chain.last;
        distinct = subst AreDistinct same distinct;
        there = λ p member. chain.there p (subst (IsIn p) (sym same) member);
      }

  -- as many values are left as places
  pub length-drained : (ends : ChainEnds) → IsDrained values ends → length (drained values ends) ≡ ends.length
  length-drained ends d = length-left values true ends.first ends.last ends.length (chain_of-drained ends d)

-- slots that keep what stands at the places of a drain
module _ {V : Type 0} {values : Slots V ValueLink} (values_after : Slots V ValueLink) (ends : ChainEnds) (d : IsDrained values ends)
    (unlisted : (p : ℕ) → IsIn p (drained_places values ends) → ¬ IsIn p values_after.order)
    (items : (p : ℕ) → IsIn p (drained_places values ends) → item_at values_after p ≡ item_at values p)
    (links : (p : ℕ) → IsIn p (drained_places values ends) → link_at values_after p ≡ link_at values p) where
  chain_kept : IsDetachedChain values_after ends.first ends.last ends.length
  unfolding chain_of-drained
  chain_kept =
      let chain = chain_of-drained values ends d in
      record {
        places = drained_places values ends;
        onward = Leads-agree (next_place values) (next_place values_after) (drained_places values ends)
            (λ p member. rw (links p member) refl) d.onward;
        backward = Leads-agree (previous_place values) (previous_place values_after) (reverse (drained_places values ends))
            (λ p member. rw (links p (IsIn-reverse p (drained_places values ends) member)) refl) d.backward;
        first = chain.first;
        last = d.last;
        count = chain.count;
        there = λ p member. record { not_listed = unlisted p member; has_item = rw (items p member) ((d.there p member).has_item) };
      }

  pub drained-kept : IsDrained values_after ends
  unfolding chain_kept
  drained-kept = drained-chain values_after ends chain_kept d.distinct

  pub places-kept : drained_places values_after ends ≡ drained_places values ends
  unfolding chain_kept
  places-kept = places_of-chain values_after ends chain_kept

  pub left-kept : drained values_after ends ≡ drained values ends
  left-kept = ap (values_at values_after) places-kept
      ∙ filter_map-agree (item_at values_after) (item_at values) (drained_places values ends) items

-- each of the first drain's places is one of the second drain's, or no item stands there any more
abbrev pub AreLeftOrDropped : {V : Type 0} → Slots V ValueLink → ChainEnds → Slots V ValueLink → ChainEnds → Type 0
AreLeftOrDropped old old_ends new new_ends =
    (p : ℕ) → IsIn p (drained_places old old_ends) → IsIn p (drained_places new new_ends) ⊎ (item_at new p ≡ None)

-- a step at either end
module _ {V : Type 0} {values : Slots V ValueLink} (ends : ChainEnds) (some : ∥ IsDrained values ends ∥₁) (n : ℕ)
    (more : ends.length ≡ n + 1) where
  d : IsDrained values ends
  d = drains values ends some

  chain : IsDetachedChain values ends.first ends.last ends.length
  chain = chain_of-drained values ends d

  pub first_detached : IsDetached values ends.first
  first_detached = first_stands values true ends.first ends.last ends.length n more chain

  pub last_detached : IsDetached values ends.last
  last_detached = last_stands values true ends.first ends.last ends.length n more chain

  module _ (l : ValueLink) (behind : ℕ) (link_is : link_at values ends.first ≡ Some l) (told : behind ≡ unwrap_or l.next 0) where
    behind_ends : ChainEnds
    behind_ends = record { first = behind; last = ends.last; length = n }

    places_are : drained_places values ends ≡ ends.first ∷ drained_places values behind_ends
    unfolding behind_ends
    places_are = front_taken (IsDetached values) (next_place values)
        (previous_place values) ends.first ends.last ends.length n more chain behind
        (behind_named values true ends.first ends.last ends.length n more chain behind l link_is told)

    split : AreDistinct (ends.first ∷ drained_places values behind_ends)
    split = subst AreDistinct places_are d.distinct

    rest : IsDrained values behind_ends
    unfolding behind_ends
    rest =
        let c = chain_behind values true ends.first ends.last ends.length n more chain behind l link_is told in
        drained-chain values behind_ends c (subst AreDistinct (places_of-chain values behind_ends c) split.1)

    elsewhere : (p : ℕ) → IsIn p (drained_places values behind_ends) → p ≢ ends.first
    elsewhere p member same = split.0 (subst (λ x. IsIn x (drained_places values behind_ends)) same member)

    module _ {values_after : Slots V ValueLink} {v : V} (takes : TakesDetached values values_after ends.first v) where
      after_places : drained_places values_after behind_ends ≡ drained_places values behind_ends
      unfolding behind_ends
      after_places = places-kept values_after behind_ends rest
          (λ p member listed. (rest.there p member).not_listed (subst (IsIn p) takes.order listed))
          (λ p member. takes.others.items p (elsewhere p member)) (λ p member. takes.others.links p (elsewhere p member))

      pub first_dropped : (p : ℕ) → IsIn p (drained_places values ends) ⊎ (item_at values p ≡ None)
          → IsIn p (drained_places values_after (record { first = behind; last = ends.last; length = n })) ⊎ (item_at values_after p ≡ None)
      unfolding behind_ends
      first_dropped p (inl member) = by (subst (IsIn p) places_are member)
        where
          by : IsIn p (ends.first ∷ drained_places values behind_ends)
              → IsIn p (drained_places values_after behind_ends) ⊎ (item_at values_after p ≡ None)
          by (inl same) = inr (ap (item_at values_after) same ∙ takes.freed)
          by (inr behind_it) = inl (subst (IsIn p) (sym after_places) behind_it)
      first_dropped p (inr gone) = inr (takes.others.items p (λ same.
          true≢false (sym (subst IsSome (sym takes.had ∙ ap (item_at values) (sym same) ∙ gone) refl))) ∙ gone)

      pub first_rest : IsDrained values_after (record { first = behind; last = ends.last; length = n })
      unfolding behind_ends
      first_rest = drained-kept values_after behind_ends rest
          (λ p member listed. (rest.there p member).not_listed (subst (IsIn p) takes.order listed))
          (λ p member. takes.others.items p (elsewhere p member)) (λ p member. takes.others.links p (elsewhere p member))

      pub first_given : drained values ends ≡ v ∷ drained values_after (record { first = behind; last = ends.last; length = n })
      unfolding behind_ends
      first_given =
          shown_first (item_at values) (drained_places values ends) ends.first (drained_places values behind_ends) v places_are takes.had
          ∙ ap (λ vs. v ∷ vs) (sym (left-kept values_after behind_ends rest
          (λ p member listed. (rest.there p member).not_listed (subst (IsIn p) takes.order listed))
          (λ p member. takes.others.items p (elsewhere p member)) (λ p member. takes.others.links p (elsewhere p member))))

  module _ (l : ValueLink) (before : ℕ) (link_is : link_at values ends.last ≡ Some l) (told : before ≡ unwrap_or l.previous 0) where
    before_ends : ChainEnds
    before_ends = record { first = ends.first; last = before; length = n }

    places_end : drained_places values ends ≡ drained_places values before_ends ++ ends.last ∷ []
    unfolding before_ends
    places_end = back_taken (IsDetached values) (next_place values)
        (previous_place values) ends.first ends.last ends.length n more chain before
        (before_named values true ends.first ends.last ends.length n more chain before l link_is told)

    whole : AreDistinct (drained_places values before_ends ++ ends.last ∷ [])
    whole = subst AreDistinct places_end d.distinct

    front : IsDrained values before_ends
    unfolding before_ends
    front =
        let c = chain_before values true ends.first ends.last ends.length n more chain before l link_is told in
        drained-chain values before_ends c (subst AreDistinct (places_of-chain values before_ends c)
        (subst AreDistinct (append-nil (drained_places values before_ends))
        (AreDistinct-remove (drained_places values before_ends) ends.last [] whole)))

    apart : (p : ℕ) → IsIn p (drained_places values before_ends) → p ≢ ends.last
    apart p member same = AreDistinct-gone (drained_places values before_ends) ends.last [] whole
        (IsIn-left ends.last (drained_places values before_ends) [] (subst (λ x. IsIn x (drained_places values before_ends)) same member))

    module _ {values_after : Slots V ValueLink} {v : V} (takes : TakesDetached values values_after ends.last v) where
      pub last_rest : IsDrained values_after (record { first = ends.first; last = before; length = n })
      unfolding before_ends
      last_rest = drained-kept values_after before_ends front
          (λ p member listed. (front.there p member).not_listed (subst (IsIn p) takes.order listed))
          (λ p member. takes.others.items p (apart p member)) (λ p member. takes.others.links p (apart p member))

      pub last_given : drained values ends ≡ drained values_after (record { first = ends.first; last = before; length = n }) ++ v ∷ []
      unfolding before_ends
      last_given =
          shown_last (item_at values) (drained_places values ends) ends.last (drained_places values before_ends) v places_end takes.had
          ∙ ap (λ vs. vs ++ v ∷ []) (sym (left-kept values_after before_ends front
          (λ p member listed. (front.there p member).not_listed (subst (IsIn p) takes.order listed))
          (λ p member. takes.others.items p (apart p member)) (λ p member. takes.others.links p (apart p member))))

-- nothing was taken
module _ {V : Type 0} {values : Slots V ValueLink} where
  pub keeps_all : KeepsSlots values values
  keeps_all = record { order = refl; items = λ q listed. refl; links = λ q listed. refl }

  -- the same number of places
  pub drained-length : (first last n m : ℕ) → n ≡ m → IsDrained values (record { first = first; last = last; length = n })
      → IsDrained values (record { first = first; last = last; length = m })
  drained-length first last n m same drain = subst (λ k. IsDrained values (record { first = first; last = last; length = k })) same drain

-- what only takes detached values keeps the list
module _ {V : Type 0} {values values_after : Slots V ValueLink} where
  pub keeps_slots : (sound : IsSound values) {place : ℕ} {v : V} → IsDetached values place → TakesDetached values values_after place v
      → KeepsSlots values values_after
  keeps_slots sound {place} detached takes = record {
    order = takes.order;
    items = λ q listed. takes.others.items q (λ same. detached.not_listed (subst (λ x. IsIn x values.order) same listed));
    links = λ q listed. takes.others.links q (λ same. detached.not_listed (subst (λ x. IsIn x values.order) same listed));
  }

  pub keeps_more : {values_last : Slots V ValueLink} → KeepsSlots values values_after → KeepsSlots values_after values_last
      → KeepsSlots values values_last
  keeps_more first then = record {
    order = then.order ∙ first.order;
    items = λ q listed. then.items q (subst (IsIn q) (sym first.order) listed) ∙ first.items q listed;
    links = λ q listed. then.links q (subst (IsIn q) (sym first.order) listed) ∙ first.links q listed;
  }

-- the same name for each place
module _ {K V : Type 0} {eq : K → K → Bool} {hash : K
    → ℕ} {keys : Slots K KeyLink} {rows : FinMap nat_cmp ℕ} {values values_after : Slots V ValueLink}
    (agrees : Agrees eq hash keys rows values) (keeps : KeepsSlots values values_after)
    (room : values_after.capacity ≡ values.capacity) where
  same_option : (o : Option ℕ) → o ≡ option_map (λ p. p) o
  same_option None = refl
  same_option (Some p) = refl

  map-same : (ps : List ℕ) → ps ≡ map (λ p. p) ps
  map-same [] = refl
  map-same (p ∷ ps) = ap (λ qs. p ∷ qs) (map-same ps)

  unnamed : Relocates (λ p. p) keys keys values values_after
  unnamed = record {
    apart = λ p q i j same. same;
    key_order = refl;
    key_items = λ q. refl;
    key_links = λ q l listed is. is;
    key_room = agrees.keys_sound.fits;
    order = keeps.order ∙ map-same values.order;
    items = λ q listed. keeps.items q listed;
    links = λ q l listed is. keeps.links q listed ∙ is
        ∙ (λ i. Some (record l { previous = same_option l.previous i; next = same_option l.next i }));
    room = omega (arith, agrees.values_sound.fits, room);
  }

  pub agrees-listed : Agrees eq hash keys rows values_after
  agrees-listed = agrees-relocated (λ p. p) agrees unnamed

  pub lists_of-listed : lists_of keys values_after ≡ lists_of keys values
  lists_of-listed = lists_of-relocated (λ p. p) agrees unnamed
