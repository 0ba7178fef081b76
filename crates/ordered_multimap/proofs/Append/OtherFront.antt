-- The pair of another map at the front, which is put last.
use Rattle.std.proofs.Common.{◌≡◌, ◌≢◌, ◌⊎◌, ◌==◌, ◌+◌, ◌<◌, ◌≤◌, ℕ, Bool, true, false, not, cond, List, [], ◌∷◌, ◌++◌, filter, length}
use Rattle.std.proofs.Common.{Option, Some, None, refl, sym, ap, ◌∙◌, subst, inl, inr, arith}
use Rattle.std.proofs.lemmas.Bool.{ne_eqb}
use Rattle.std.specs.Prelude.{IfSome}
use Rattle.multimap_slots.specs.Lists.{IsIn, first_of, without}
use Rattle.multimap_slots.specs.Slots.{Slots, Removes, item_at, link_at}
use Rattle.multimap_slots.specs.Tapes.{Taped}
use Rattle.multimap_slots.proofs.Callers.PlaceLists.{IsIn-right, without-split}
use Rattle.multimap_walks.specs.declared.links.KeyLink.{KeyLink}
use Rattle.multimap_walks.specs.declared.links.ValueLink.{ValueLink}
use Rattle.multimap_walks.specs.Chained.{is_value_of}
use Rattle.ordered_multimap.specs.Agrees.{HasKey}
use Rattle.ordered_multimap.specs.Multimap.{Multimap}
use Rattle.ordered_multimap.specs.Private.AppendMap.{PutsAfter, PutsFirstOf, PutsKeyAt, PutsLaterOf, PutsTaken}
use Rattle.ordered_multimap.specs.Private.AppendMap.{CanPutTaken}
use Rattle.ordered_multimap.specs.Private.AppendMap.{IsKeyAt}
use Rattle.ordered_multimap.specs.Private.Relocations.{AreChained}
use Rattle.ordered_multimap.proofs.Agreement.Agreed.{PairAt, pair_of}
use Rattle.ordered_multimap.proofs.Append.Merged.{put-keys}
use Rattle.ordered_multimap.proofs.Append.OtherLinks as links
use Rattle.ordered_multimap.proofs.Append.OtherMap.{IsMoving}
use Rattle.ordered_multimap.proofs.Callers.ListedKeys.{length-keys_with}
use Rattle.ordered_multimap.proofs.Callers.Members.{IsIn-filter}
use Rattle.ordered_multimap.proofs.Callers.Places.{begins}

-- a place that is listed makes the list no shorter than one
some_listed : (q : ℕ) (ps : List ℕ) → IsIn q ps → 0 < length ps
some_listed q [] i = absurd i
some_listed q (p ∷ ps) i = omega arith

pub same_some : {X : Type 0} (x y : X) → Some x ≡ Some y → x ≡ y
same_some x y e = cc

module _ {K V S : Type 0} {eq : K → K → Bool} {replaces : Bool} {old : Multimap K V S} {keys : Slots K KeyLink} {values : Taped V ValueLink}
    (chains : AreChained keys values.list) {now : Multimap K V S} {keys_now : Slots K KeyLink} {values_now : Taped V ValueLink}
    (w : IsMoving eq replaces old now keys keys_now values values_now) (p : ℕ) (front : first_of values_now.list.order ≡ Some p) where
  abbrev pub rest : List ℕ
  rest = (begins values_now.list.order p front).rest

  pub rest_is : values_now.list.order ≡ p ∷ rest
  rest_is = (begins values_now.list.order p front).is

  pub front_listed : IsIn p values_now.list.order
  front_listed = subst (IsIn p) (sym rest_is) (inl refl)

  pub order : values.list.order ≡ w.taken ++ p ∷ rest
  order = w.order ∙ ap (λ ps. w.taken ++ ps) rest_is

  pub was_listed : (q : ℕ) → IsIn q rest → IsIn q values_now.list.order
  was_listed q i = subst (IsIn q) (sym rest_is) (inr i)

  pub rest_left : {mid : Slots V ValueLink} {value : V} → Removes values_now.list mid p value → mid.order ≡ rest
  rest_left removed = removed.order ∙ ap (λ ps. without ps p) rest_is
      ∙ without-split [] p rest (λ i. links.gone chains w.taken p rest order (IsIn-right p w.taken rest i))

  -- the pair at the front
  abbrev pub at : PairAt keys values.list p
  at = pair_of keys values.list chains.keys_sound chains.sound chains.chained p (links.listed_here chains w.taken p rest order)

  -- a key that doesn't have this value isn't the pair's
  pub not_own : (q : ℕ) → q ≡ at.link.key → filter (is_value_of values.list q) (p ∷ []) ≡ [] → ⊥
  not_own q same none =
      let own : is_value_of values.list q p ≡ true = ap (λ r. is_value_of values.list r p) same
      ∙ links.own_here chains w.taken p rest order at.link at.link_is in
      absurd (let bad = sym (ap (λ b. cond b (p ∷ []) []) own) ∙ none in cc)

  module _ (link : ValueLink) (link_is : link_at values_now.list p ≡ Some link) where
    -- the key of the pair is still among those of the other map
    pub record IsFirst : Type 0 where
      pub none : at.link.previous ≡ None
      same : link ≡ at.link

    -- or the link names where it stands
    pub record IsLater : Type 0 where
      pub previous : ℕ
      pub some : at.link.previous ≡ Some previous
      same : link ≡ record at.link { key = link.key }
      stands : HasKey eq now.slots.keys at.key link.key

    pub first_or_later : IsFirst ⊎ IsLater
    first_or_later =
        let left = w.links p at.link front_listed at.link_is in
        let P : Option ℕ → Type 0 = λ o. at.link.previous ≡ o → IsFirst ⊎ IsLater in
        elim at.link.previous as P [
          | None ↦ λ e. inl (record {
            none = e;
            same = same_some link at.link (sym link_is ∙ left.waits (λ q some i. absurd (let bad = sym e ∙ some in cc)));
          })
          | Some q ↦ λ e.
              let on = left.handed_on q e (links.before chains w.taken p rest order at.link at.link_is q e) in
              let is : link ≡ record at.link { key = on.place } = same_some link (record at.link { key = on.place })
              (sym link_is ∙ on.link_is) in
              let place : link.key ≡ on.place = ap (λ (l : ValueLink). l.key) is in
              inr (record {
                previous = q;
                some = e;
                same = is ∙ ap (λ n. record at.link { key = n }) (sym place);
                stands = subst (HasKey eq now.slots.keys at.key) (sym place) (on.stands at.key at.key_is);
              })
        ] refl

    -- there is room for the pair, and its key is found
    pub can_put : CanPutTaken now keys_now link
    can_put = record {
      value_room = omega (arith, w.value_room, ap length rest_is);
      key_at = elim first_or_later [
        | inl first ↦
            let names = ap (λ (l : ValueLink). l.key) first.same in
            let left = w.keys_left at.link.key at.key_listed
            (links.none_before chains w.taken p rest order at.link at.link_is first.none) in
            subst (IsKeyAt keys_now now link.key) (sym (ap (λ (l : ValueLink). l.previous) first.same ∙ first.none))
            (subst (λ q. IsIn q keys_now.order) (sym names) left.0, omega (arith, w.key_room, some_listed _ _ left.0))
        | inr later ↦
            subst (IsKeyAt keys_now now link.key) (sym (ap (λ (l : ValueLink). l.previous) later.same ∙ later.some)) later.stands.listed
      ];
    }

    pub same_next : link.next ≡ at.link.next
    same_next = elim first_or_later [
      | inl first ↦ ap (λ (l : ValueLink). l.next) first.same
      | inr later ↦ ap (λ (l : ValueLink). l.next) later.same
    ]

    -- the next value under the key is still there once this one is taken
    pub next_left : {mid : Slots V ValueLink} {value : V} → Removes values_now.list mid p value
        → IfSome link.next (λ q. IsIn q mid.order)
    next_left {mid} removed = by link.next (λ q e. subst (IsIn q) (sym (rest_left removed))
        (links.behind chains w.taken p rest order at.link at.link_is q (sym same_next ∙ e)))
      where
        by : (o : Option ℕ) → ((q : ℕ) → o ≡ Some q → IsIn q mid.order) → IfSome o (λ q. IsIn q mid.order)
        by None each = tt
        by (Some q) each = each q refl

    -- the pair was put last
    module _ (value : V) (new : Multimap K V S) (keys_new : Slots K KeyLink) (place : ℕ) where
      -- which keys of the other map are left, and that there is room for them
      pub record PutsPair : Type 0 where
        pub replaced : Bool
        pub first : IsFirst → replaced ≡ replaces
        pub later : IsLater → replaced ≡ false
        pub pair : PutsKeyAt eq replaced at.key value now new place
        pub key_room : length new.lists.keys + length keys_new.order ≤ length now.lists.keys + length keys_now.order
        pub others : (q : ℕ) → q ≢ at.link.key → IsIn q keys_now.order → IsIn q keys_new.order × (item_at keys_new q ≡ item_at keys_now q)
        pub capacity : keys_new.capacity ≡ keys_now.capacity

      first_pair : PutsTaken eq replaces value link now new keys_now keys_new place → IsFirst → PutsPair
      first_pair done first =
          let names = ap (λ (l : ValueLink). l.key) first.same in
          let left = w.keys_left at.link.key at.key_listed
          (links.none_before chains w.taken p rest order at.link at.link_is first.none) in
          let none = ap (λ (l : ValueLink). l.previous) first.same ∙ first.none in
          let taken : PutsFirstOf eq replaces value link now new keys_now keys_new place =
          subst (PutsAfter eq replaces value link now new keys_now keys_new place) none done in
          let removed : Removes keys_now keys_new at.link.key taken.key = subst
          (λ q. Removes keys_now keys_new q taken.key) names taken.removed in
          let key : taken.key ≡ at.key = same_some taken.key at.key (sym removed.had ∙ left.1 ∙ at.key_is) in
          let pair : PutsKeyAt eq replaces at.key value now new place = subst (λ k. PutsKeyAt eq replaces k value now new place) key taken.pair in
          record {
            replaced = replaces;
            first = λ _. refl;
            later = λ is. absurd (let bad = sym first.none ∙ is.some in cc);
            pair = pair;
            key_room = omega (
              arith,
              ap (λ m. length m.keys) pair.pair.lists,
              ap length (put-keys eq replaces now.lists at.key value),
              length-keys_with eq now.lists.keys at.key,
              removed.shorter,
            );
            others = λ q differs i. (
              subst (IsIn q) (sym removed.order) (IsIn-filter (λ r. not (r == at.link.key)) q keys_now.order
                  (ap not (ne_eqb q at.link.key differs)) i),
              removed.others.items q differs,
            );
            capacity = removed.capacity;
          }

      later_pair : PutsTaken eq replaces value link now new keys_now keys_new place → IsLater → PutsPair
      later_pair done later =
          let some = ap (λ (l : ValueLink). l.previous) later.same ∙ later.some in
          let taken : PutsLaterOf eq replaces value link now new keys_now keys_new place =
          subst (PutsAfter eq replaces value link now new keys_now keys_new place) some done in
          record {
            replaced = false;
            first = λ is. absurd (let bad = sym is.none ∙ later.some in cc);
            later = λ _. refl;
            pair = taken.pair at.key later.stands;
            key_room = omega (arith, ap length taken.same_keys, ap (λ (s : Slots K KeyLink). length s.order) taken.keys_are);
            others = λ q differs i. (
              subst (λ (s : Slots K KeyLink). IsIn q s.order) (sym taken.keys_are) i,
              ap (λ (s : Slots K KeyLink). item_at s q) taken.keys_are,
            );
            capacity = ap (λ (s : Slots K KeyLink). s.capacity) taken.keys_are;
          }

      pub puts_pair : PutsTaken eq replaces value link now new keys_now keys_new place → PutsPair
      puts_pair done = elim first_or_later [ inl first ↦ first_pair done first | inr later ↦ later_pair done later ]
