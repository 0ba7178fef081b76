-- What a walk over a chain has left, and what a step at either end gives.
use Rattle.std.proofs.Common.{◌≡◌, ◌<◌, ◌==◌, ℕ, ◌+◌, ◌-◌, Bool, true, false, cond, List, [], ◌∷◌, length, filter, reverse, Option, Some, None}
use Rattle.std.proofs.Common.{unwrap_or, refl, sym, ap, ◌∙◌, subst, inl, inr}
use Rattle.std.specs.Prelude.{IsSome, MatchOption, ⊤, option_and_then, option_map, if◌then◌else◌}
use Rattle.std.specs.Borrow.{Bor}
use Rattle.std.proofs.lemmas.Bool.Decides.{Decides-eqb}
use Rattle.std.proofs.lemmas.List.{length-map}
use Rattle.multimap_slots.specs.Lists.{IsIn, AreDistinct, first_of, last_of, next_of, previous_of}
use Rattle.multimap_slots.specs.Slots.{HasLink, Slots, IsSound, item_at, link_at}
use Rattle.multimap_slots.proofs.Callers.PlaceLists.{IsIn-kept, IsIn-reverse}
use Rattle.multimap_walks.specs.declared.End.{End}
use Rattle.multimap_walks.specs.declared.End.TheVariants.{Front, Back}
use Rattle.multimap_walks.specs.declared.links.ChainEnds.{ChainEnds}
use Rattle.multimap_walks.specs.declared.links.KeyLink.{KeyLink}
use Rattle.multimap_walks.specs.declared.links.ValueLink.{ValueLink}
use Rattle.multimap_walks.specs.Ends.{end_place, ends_after, step_from}
use Rattle.multimap_walks.specs.Walk.{end_rest, with_end}
use Rattle.multimap_walks.specs.Chained.{position_in, is_value_of, chain_of, values_at, positions_at, positions_left, next_place}
use Rattle.multimap_walks.specs.Chained.{previous_place, places_along, Stands, IsChain, IsDetachedChain, IsChained}
use Rattle.multimap_walks.specs.ChainWalk.{AreCounted, GivesEnd, chain_walk, reads_of_step}
use Rattle.multimap_walks.proofs.Callers.Ends.{end_leaves, end_named, end_rest-none, end_rest-with, end_taken, map-with, shows_end}
use Rattle.multimap_walks.proofs.Callers.Ends.{end_stands as path_stands}
use Rattle.multimap_walks.proofs.Callers.Paths.{Leads-agree, Leads-next_of, Leads-previous_of, is_one, path-is, path_none, front_named, front_stands}
use Rattle.multimap_walks.proofs.Callers.Paths.{back_named, back_stands, front_rest, back_rest, length-path}

-- a default that isn't used
any_default : (o : Option ℕ) (d e : ℕ) → IsSome o → unwrap_or o d ≡ unwrap_or o e
any_default None d e some = absurd (let e = some in cc)
any_default (Some p) d e some = refl

-- a step to the place that a link names, or to 0
pub steps_to : {p : ℕ} {o step : Option ℕ} → p ≡ unwrap_or o 0 → o ≡ step → p ≡ unwrap_or step 0
steps_to is named = is ∙ ap (λ x. unwrap_or x 0) named

one_read : (end : End) (p : ℕ) (ps : List ℕ) → reads_of_step (with_end end p ps) ≡ 1
one_read Front p ps = refl
one_read Back p [] = refl
one_read Back p (q ∷ ps) = refl

module _ {V : Type 0} (values : Slots V ValueLink) where
  -- the position at an end goes with the place
  pub position_goes : (end : End) (p : ℕ) (old new : List ℕ) → old ≡ with_end end p new
      → positions_at values new ≡ end_rest end (positions_at values old)
  position_goes end p old new taken =
      let at = position_in values.order in
      sym (ap (end_rest end) (ap (positions_at values) taken ∙ map-with at end p new) ∙ end_rest-with end (at p) (positions_at values new))

  -- the same where what is left is told of the values after the step
  pub positions_on : (new : Slots V ValueLink) → new ≡ values → (end : End) (p : ℕ) (old : List ℕ) (left : Slots V ValueLink → List ℕ)
      → old ≡ with_end end p (left values) → positions_at new (left new) ≡ end_rest end (positions_at values old)
  positions_on new same end p old left taken = ap (λ s. positions_at s (left s)) same ∙ position_goes end p old (left values) taken

  -- the position of a listed value goes, and that of a detached one isn't there
  positions_go : (end : End) (detached : Bool) (p : ℕ) (old new : List ℕ) → old ≡ with_end end p new
      → positions_left values detached new ≡ end_rest end (positions_left values detached old)
  positions_go end true p old new taken = sym (end_rest-none end)
  positions_go end false p old new taken = position_goes end p old new taken

  -- the read of a listed value is counted, and none of a detached one
  reads_one : (end : End) (detached : Bool) (p : ℕ) (old new : List ℕ) (before after : ℕ) → old ≡ with_end end p new
      → after ≡ before + (if detached then 0 else 1)
      → after ≡ before + reads_of_step (positions_left values detached old)
  reads_one end true p old new before after taken counted = counted
  reads_one end false p old new before after taken counted =
      let at = position_in values.order in
      counted
      ∙ ap (λ n. before + n)
      (sym (ap (λ ps. reads_of_step (positions_at values ps)) taken ∙ ap reads_of_step (map-with at end p new)
      ∙ one_read end (at p) (positions_at values new)))

  stands_item : (detached : Bool) (p : ℕ) → Stands values detached p → IsSome (item_at values p)
  stands_item true p stands = stands.has_item
  stands_item false p stands = stands.1

  -- as many values are left as places
  pub length-left : (detached : Bool) (front back n : ℕ) → IsChain values detached front back n
      → length (values_at values (places_along values front n)) ≡ n
  length-left detached front back n chain =
      length-path (item_at values) (Stands values detached) (next_place values) (previous_place values) front back n chain
      (stands_item detached)

  -- so as many as positions, where they have these
  are_counted : (detached : Bool) (front back n before : ℕ) → IsChain values detached front back n
      → AreCounted (chain_walk values detached front n before)
  are_counted true front back n before chain = inl refl
  are_counted false front back n before chain =
      let places = path-is (Stands values false) (next_place values) (previous_place values) front back n chain in
      inr
      (length-map (places_along values front n) (position_in values.order) ∙ ap length places ∙ chain.count
      ∙ sym (length-left false front back n chain))

  -- the place that a link names
  next_is : (p : ℕ) (l : ValueLink) → link_at values p ≡ Some l → next_place values p ≡ l.next
  next_is p l is = ap (option_and_then (λ m. m.next)) is

  previous_is : (p : ℕ) (l : ValueLink) → link_at values p ≡ Some l → previous_place values p ≡ l.previous
  previous_is p l is = ap (option_and_then (λ m. m.previous)) is

  link_named : (end : End) (p : ℕ) (l : ValueLink) → link_at values p ≡ Some l
      → step_from end l.next l.previous ≡ step_from end (next_place values) (previous_place values) p
  link_named Front p l is = sym (next_is p l is)
  link_named Back p l is = sym (previous_is p l is)

  -- a step at an end
  module _ (detached : Bool) (left : ChainEnds) (more : left.length ≡ left.length - 1 + 1)
      (chain : IsChain values detached left.first left.last left.length) (end : End) where
    -- where more is left, its link leads on
    end_leads : (l : ValueLink) → link_at values (end_place end left) ≡ Some l → 0 < left.length - 1
        → IsSome (step_from end l.next l.previous)
    end_leads l link_is some = subst IsSome (sym (link_named end (end_place end left) l link_is))
        (end_named (Stands values detached) (next_place values) (previous_place values) left more chain some end)

    -- an item stands there
    pub end_stands : Stands values detached (end_place end left)
    end_stands = path_stands (Stands values detached) (next_place values) (previous_place values) left more chain end

    module _ (place : ℕ) (l : ValueLink) (link_is : link_at values (end_place end left) ≡ Some l)
        (told : place ≡ unwrap_or (step_from end l.next l.previous) 0) where
      abbrev rest : ChainEnds
      rest = ends_after end left place

      named : 0 < left.length - 1
          → place ≡ unwrap_or (step_from end (next_place values) (previous_place values) (end_place end left)) (end_place end left)
      named some =
          told ∙ any_default (step_from end l.next l.previous) 0 (end_place end left) (end_leads l link_is some)
          ∙ ap (λ o. unwrap_or o (end_place end left)) (link_named end (end_place end left) l link_is)

      -- the chain that it leaves
      pub chain_leaves : IsChain values detached rest.first rest.last rest.length
      chain_leaves = end_leaves (Stands values detached) (next_place values) (previous_place values) left more chain place end named

      pub chain_taken : places_along values left.first left.length
          ≡ with_end end (end_place end left) (places_along values rest.first rest.length)
      chain_taken = end_taken (Stands values detached) (next_place values) (previous_place values) left more chain place end named

      -- it gives the value there
      pub gives_end : (given : Bor V) (before after : ℕ) → item_at values (end_place end left) ≡ Some given.now
          → after ≡ before + (if detached then 0 else 1)
          → GivesEnd end (chain_walk values detached left.first left.length before) (Some given)
          (chain_walk values detached rest.first rest.length after)
      gives_end given before after item_is counted =
          let old = places_along values left.first left.length in
          let new = places_along values rest.first rest.length in (
            shows_end (item_at values) end old (end_place end left) new given.now chain_taken item_is,
            record {
              positions = positions_go end detached (end_place end left) old new chain_taken;
              reads = reads_one end detached (end_place end left) old new before after chain_taken counted;
              counted = are_counted detached left.first left.last left.length before chain;
            },
          )

  -- the chains that a step leaves, and what stands at the ends, by the numbers of `ChainEnds`
  module _ (detached : Bool) (front back m n : ℕ) (more : m ≡ n + 1) (chain : IsChain values detached front back m) where
    pub behind_named : (next : ℕ) (l : ValueLink) → link_at values front ≡ Some l → next ≡ unwrap_or l.next 0
        → 0 < n → next ≡ unwrap_or (next_place values front) front
    behind_named next l link_is told some =
        let is = next_is front l link_is in
        let leads = front_named (Stands values detached) (next_place values) (previous_place values) front back m n more chain some in
        told ∙ any_default l.next 0 front (subst IsSome is leads) ∙ ap (λ o. unwrap_or o front) (sym is)

    pub before_named : (previous : ℕ) (l : ValueLink) → link_at values back ≡ Some l → previous ≡ unwrap_or l.previous 0
        → 0 < n → previous ≡ unwrap_or (previous_place values back) back
    before_named previous l link_is told some =
        let is = previous_is back l link_is in
        let leads = back_named (Stands values detached) (next_place values) (previous_place values) front back m n more chain some in
        told ∙ any_default l.previous 0 back (subst IsSome is leads) ∙ ap (λ o. unwrap_or o back) (sym is)

    pub chain_behind : (next : ℕ) (l : ValueLink) → link_at values front ≡ Some l → next ≡ unwrap_or l.next 0
        → IsChain values detached next back n
    chain_behind next l link_is told =
        front_rest (Stands values detached) (next_place values) (previous_place values) front back m n more chain next
        (behind_named next l link_is told)

    pub chain_before : (previous : ℕ) (l : ValueLink) → link_at values back ≡ Some l → previous ≡ unwrap_or l.previous 0
        → IsChain values detached front previous n
    chain_before previous l link_is told =
        back_rest (Stands values detached) (next_place values) (previous_place values) front back m n more chain previous
        (before_named previous l link_is told)

  -- an item stands at either end of what is left
  pub first_stands : (detached : Bool) (front back m n : ℕ) → m ≡ n + 1 → IsChain values detached front back m
      → Stands values detached front
  first_stands detached = front_stands (Stands values detached) (next_place values) (previous_place values)

  pub last_stands : (detached : Bool) (front back m n : ℕ) → m ≡ n + 1 → IsChain values detached front back m → Stands values detached back
  last_stands detached = back_stands (Stands values detached) (next_place values) (previous_place values)

  -- detached values that are told by their ends, or none
  pub chain_told : (ends : Option ChainEnds) (none told : ChainEnds) → none.length ≡ 0 → told ≡ unwrap_or ends none
      → MatchOption ends ⊤ (λ e. IsDetachedChain values e.first e.last e.length) → IsChain values true told.first told.last told.length
  chain_told None none told empty is given =
      subst (IsChain values true told.first told.last) (sym (ap (λ e. e.length) is ∙ empty))
      (path_none (Stands values true) (next_place values) (previous_place values) told.first told.last)
  chain_told (Some e) none told empty is given = subst (λ e'. IsChain values true e'.first e'.last e'.length) (sym is) given

-- filtered places
AreDistinct-filter : (test : ℕ → Bool) (ps : List ℕ) → AreDistinct ps → AreDistinct (filter test ps)
AreDistinct-filter test [] distinct = tt
AreDistinct-filter test (q ∷ ps) distinct =
    elim (test q) as (λ b. AreDistinct (cond b (q ∷ filter test ps) (filter test ps))) [
      | true ↦ (λ member. distinct.0 (IsIn-kept test q ps member).0, AreDistinct-filter test ps distinct.1)
      | false ↦ AreDistinct-filter test ps distinct.1
    ]

-- an option that has a value
record Held {X : Type 0} (o : Option X) : Type 0 where
  value : X
  is : o ≡ Some value

held : {X : Type 0} (o : Option X) → IsSome o → Held o
held None some = absurd (let e = some in cc)
held (Some x) some = record { value = x; is = refl }

module _ {K V : Type 0} (keys : Slots K KeyLink) (values : Slots V ValueLink) (key : ℕ) (l : KeyLink) (sound : IsSound values)
    (chained : IsChained keys values) (has : HasLink keys key l) where
  pub chain_listed : (p : ℕ) → IsIn p (chain_of values key) → IsIn p values.order
  chain_listed p member = (IsIn-kept (is_value_of values key) p values.order member).0

  pub chain_distinct : AreDistinct (chain_of values key)
  chain_distinct = AreDistinct-filter (is_value_of values key) values.order sound.distinct

  -- the link of a place of the chain names the key
  owner : (p : ℕ) (m : ValueLink) → IsIn p (chain_of values key) → link_at values p ≡ Some m → m.key ≡ key
  owner p m member is =
      let test : is_value_of values key p ≡ true = (IsIn-kept (is_value_of values key) p values.order member).1 in
      (Decides-eqb m.key key).0 (sym (ap (λ o. unwrap_or (option_map (λ (k : ValueLink). k.key == key) o) false) is) ∙ test)

  -- so it names the neighbours in the chain
  names_next : (p : ℕ) → IsIn p (chain_of values key) → next_of (chain_of values key) p ≡ next_place values p
  names_next p member =
      let h = held (link_at values p) (sound.linked p (chain_listed p member)) in
      ap (λ k. next_of (chain_of values k) p) (sym (owner p h.value member h.is)) ∙ chained.next p h.value (chain_listed p member) h.is
      ∙ sym (next_is values p h.value h.is)

  names_previous : (p : ℕ) → IsIn p (chain_of values key) → previous_of (chain_of values key) p ≡ previous_place values p
  names_previous p member =
      let h = held (link_at values p) (sound.linked p (chain_listed p member)) in
      ap (λ k. previous_of (chain_of values k) p) (sym (owner p h.value member h.is))
      ∙ chained.previous p h.value (chain_listed p member) h.is ∙ sym (previous_is values p h.value h.is)

  -- the values of a listed key are a chain
  pub chain_whole : IsChain values false l.head l.tail l.length
  chain_whole = record {
    places = chain_of values key;
    onward =
        Leads-agree (next_of (chain_of values key)) (next_place values) (chain_of values key) names_next
        (Leads-next_of (chain_of values key) chain_distinct);
    backward =
        Leads-agree (previous_of (chain_of values key)) (previous_place values) (reverse (chain_of values key))
        (λ p member. names_previous p (IsIn-reverse p (chain_of values key) member))
        (Leads-previous_of (chain_of values key) chain_distinct);
    first = is_one (first_of (chain_of values key)) l.head (chained.head key l has.listed has.link_is);
    last = is_one (last_of (chain_of values key)) l.tail (chained.tail key l has.listed has.link_is);
    count = chained.length key l has.listed has.link_is;
    there = λ p member. (chain_listed p member, sound.filled p (chain_listed p member));
  }

  -- whose places are those of the key
  pub along_whole : places_along values l.head l.length ≡ chain_of values key
  unfolding chain_whole
  along_whole = path-is (Stands values false) (next_place values) (previous_place values) l.head l.tail l.length chain_whole
