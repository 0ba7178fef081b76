-- Steps along a path, from either end, and what is shown along it.
use Rattle.std.proofs.Common.{◌≡◌, ℕ, ◌+◌, List, [], ◌∷◌, ◌++◌, length, reverse, Option, Some, None, unwrap_or, refl, sym, ap, ◌∙◌, subst}
use Rattle.std.proofs.Common.{inl, inr, arith, ◌<◌}
use Rattle.std.specs.Prelude.{IfSome, IsSome}
use Rattle.std.specs.List.{filter_map, cons_option}
use Rattle.std.proofs.lemmas.Bool.{eq-eqb, ne_eqb}
use Rattle.std.proofs.lemmas.List.{reverse-reverse, reverse-append, length-reverse}
use Rattle.multimap_slots.specs.Lists.{IsIn, AreDistinct, first_of, last_of, next_of, previous_of}
use Rattle.multimap_slots.proofs.Callers.PlaceLists.{IsIn-reverse, AreDistinct-push, first_of-reverse}
use Rattle.multimap_walks.specs.Path.{path, Leads, IsPath}

module _ (names : ℕ → Option ℕ) where
  -- the first part of a row
  pub Leads-left : (xs ys : List ℕ) → Leads names (xs ++ ys) → Leads names xs
  Leads-left [] ys leads = tt
  Leads-left (x ∷ []) ys leads = (tt, tt)
  Leads-left (x ∷ z ∷ xs) ys leads = (leads.0, Leads-left (z ∷ xs) ys leads.1)

  -- places that lead on are the path from the first one
  path-leads : (places : List ℕ) (p : ℕ) → Leads names places → IfSome (first_of places) (λ q. q ≡ p)
      → path names p (length places) ≡ places
  path-leads [] p leads first = refl
  path-leads (q ∷ []) p leads first = ap (λ x. x ∷ []) (sym first)
  path-leads (q ∷ r ∷ places) p leads first =
      ap (λ x. x ∷ path names (unwrap_or (names x) x) (length (r ∷ places))) (sym first)
      ∙ ap (λ o. q ∷ path names (unwrap_or o q) (length (r ∷ places))) leads.0
      ∙ ap (λ xs. q ∷ xs) (path-leads (r ∷ places) r leads.1 refl)

  -- functions that name the same
  pub Leads-agree : (other : ℕ → Option ℕ) (places : List ℕ) → ((p : ℕ) → IsIn p places → names p ≡ other p) → Leads names places
      → Leads other places
  Leads-agree other [] same leads = tt
  Leads-agree other (p ∷ []) same leads = (tt, tt)
  Leads-agree other (p ∷ q ∷ places) same leads =
      (sym (same p (inl refl)) ∙ leads.0, Leads-agree other (q ∷ places) (λ r later. same r (inr later)) leads.1)

-- distinct places lead on by their order
named_first : (places : List ℕ) (o : Option ℕ) → o ≡ first_of places → IfSome (first_of places) (λ q. o ≡ Some q)
named_first [] o is = tt
named_first (p ∷ places) o is = is

pub Leads-next_of : (places : List ℕ) → AreDistinct places → Leads (next_of places) places
Leads-next_of [] distinct = tt
Leads-next_of (p ∷ places) distinct = (
  named_first places (next_of (p ∷ places) p) (rw (eq-eqb p p refl) refl),
  Leads-agree (next_of places) (next_of (p ∷ places)) places
      (λ q later. sym (rw (ne_eqb p q (λ same. distinct.0 (subst (λ x. IsIn x places) (sym same) later))) refl))
      (Leads-next_of places distinct.1),
)

reverse-cons : (p : ℕ) (places : List ℕ) → reverse (p ∷ places) ≡ reverse places ++ p ∷ []
reverse-cons p places = reverse-append (p ∷ []) places

pub AreDistinct-reverse : (places : List ℕ) → AreDistinct places → AreDistinct (reverse places)
AreDistinct-reverse [] distinct = tt
AreDistinct-reverse (p ∷ places) distinct =
    subst AreDistinct (sym (reverse-cons p places))
    (AreDistinct-push (reverse places) p (λ member. distinct.0 (IsIn-reverse p places member)) (AreDistinct-reverse places distinct.1))

pub Leads-previous_of : (places : List ℕ) → AreDistinct places → Leads (previous_of places) (reverse places)
Leads-previous_of places distinct = Leads-next_of (reverse places) (AreDistinct-reverse places distinct)

-- the end that is named is the one
pub is_one : (o : Option ℕ) (p : ℕ) → o ≡ Some p → IfSome o (λ q. q ≡ p)
is_one None p is = tt
is_one (Some q) p is = let same : q ≡ p = cc in same

pub is_own : (o : Option ℕ) → IfSome o (λ q. q ≡ unwrap_or o 0)
is_own None = tt
is_own (Some q) = refl

module _ (stands : ℕ → Type 0) (next previous : ℕ → Option ℕ) where
  -- what a walk's fields say is left
  pub path-is : (front back n : ℕ) (walk : IsPath stands next previous front back n) → path next front n ≡ walk.places
  path-is front back n walk = ap (path next front) (sym walk.count) ∙ path-leads next walk.places front walk.onward walk.first

  -- no place is left
  pub path_none : (front back : ℕ) → IsPath stands next previous front back 0
  path_none front back =
      record { places = []; onward = tt; backward = tt; first = tt; last = tt; count = refl; there = λ p member. absurd member }

  -- a path backward
  mirrored : (front back n : ℕ) → IsPath stands next previous front back n → IsPath stands previous next back front n
  mirrored front back n walk = record {
    places = reverse walk.places;
    onward = walk.backward;
    backward = subst (Leads next) (sym (reverse-reverse walk.places)) walk.onward;
    first = subst (λ o. IfSome o (λ p. p ≡ back)) (sym (first_of-reverse walk.places)) walk.last;
    last =
        subst (λ o. IfSome o (λ p. p ≡ front))
        (sym (sym (first_of-reverse (reverse walk.places)) ∙ ap first_of (reverse-reverse walk.places))) walk.first;
    count = length-reverse walk.places ∙ walk.count;
    there = λ p member. walk.there p (IsIn-reverse p walk.places member);
  }

  -- what a step at the front takes of the places, and the path that it leaves
  record Step (front back n behind : ℕ) (places : List ℕ) : Type 0 where
    rest : IsPath stands next previous behind back n
    taken : places ≡ front ∷ rest.places

  first_behind : (p : ℕ) (places : List ℕ) (front behind : ℕ) → p ≡ front → IfSome (first_of places) (λ q. next p ≡ Some q)
      → (0 < length places → behind ≡ unwrap_or (next front) front) → IfSome (first_of places) (λ q. q ≡ behind)
  first_behind p [] front behind first leads told = tt
  first_behind p (q ∷ places) front behind first leads told =
      sym (told (omega arith) ∙ ap (λ x. unwrap_or (next x) x) (sym first) ∙ ap (λ o. unwrap_or o p) leads)

  last_behind : (p : ℕ) (places : List ℕ) (back : ℕ) → IfSome (last_of (p ∷ places)) (λ q. q ≡ back)
      → IfSome (last_of places) (λ q. q ≡ back)
  last_behind p [] back last = tt
  last_behind p (q ∷ places) back last = last

  step : (front back behind n : ℕ) (walk : IsPath stands next previous front back (n + 1))
      → (0 < n → behind ≡ unwrap_or (next front) front) → Step front back n behind walk.places
  step front back behind n walk told =
      from walk.places walk.onward walk.backward walk.first walk.last walk.count walk.there where
        from : (places : List ℕ) → Leads next places → Leads previous (reverse places) → IfSome (first_of places) (λ p. p ≡ front)
            → IfSome (last_of places) (λ p. p ≡ back)
            → length places ≡ n + 1 → ((p : ℕ) → IsIn p places → stands p) → Step front back n behind places
        from [] onward backward first last count there = absurd (omega (arith, count))
        from (p ∷ places) onward backward first last count there = record {
          rest = record {
            places = places;
            onward = onward.1;
            backward = Leads-left previous (reverse places) (p ∷ []) (subst (Leads previous) (reverse-cons p places) backward);
            first = first_behind p places front behind first onward.0 (λ some. told (omega (arith, some, count)));
            last = last_behind p places back last;
            count = omega (arith, count);
            there = λ q member. there q (inr member);
          };
          taken = ap (λ x. x ∷ places) first;
        }

-- the first of several places names the next
names_on : (names : ℕ → Option ℕ) (front : ℕ) (places : List ℕ) → Leads names places → IfSome (first_of places) (λ p. p ≡ front)
    → 1 < length places → IsSome (names front)
names_on names front [] leads first several = absurd (omega (arith, several))
names_on names front (p ∷ []) leads first several = absurd (omega (arith, several))
names_on names front (p ∷ q ∷ places) leads first several = subst IsSome (sym (ap names (sym first) ∙ leads.0)) refl

-- a step at either end: what stands there, the path that is left, and the place that is taken
module _ (stands : ℕ → Type 0) (next previous : ℕ → Option ℕ) (front back m n : ℕ) (more : m ≡ n + 1)
    (walk : IsPath stands next previous front back m) where
  grown : IsPath stands next previous front back (n + 1)
  grown = subst (IsPath stands next previous front back) more walk

  at_front : (behind : ℕ) → (0 < n → behind ≡ unwrap_or (next front) front) → Step stands next previous front back n behind grown.places
  at_front behind told = step stands next previous front back behind n grown told

  backward : IsPath stands previous next back front (n + 1)
  backward = mirrored stands next previous front back (n + 1) grown

  at_back : (before : ℕ) → (0 < n → before ≡ unwrap_or (previous back) back) → Step stands previous next back front n before backward.places
  at_back before told = step stands previous next back front before n backward told

  pub front_stands : stands front
  front_stands = grown.there front (subst (IsIn front) (sym (at_front (unwrap_or (next front) front) (λ _. refl)).taken) (inl refl))

  pub back_stands : stands back
  back_stands = backward.there back (subst (IsIn back) (sym (at_back (unwrap_or (previous back) back) (λ _. refl)).taken) (inl refl))

  -- where another place is left, each end names its neighbour
  pub front_named : 0 < n → IsSome (next front)
  front_named some = names_on next front grown.places grown.onward grown.first (omega (arith, grown.count, some))

  pub back_named : 0 < n → IsSome (previous back)
  back_named some = names_on previous back backward.places backward.onward backward.first (omega (arith, backward.count, some))

  pub front_rest : (behind : ℕ) → (0 < n → behind ≡ unwrap_or (next front) front) → IsPath stands next previous behind back n
  front_rest behind told = (at_front behind told).rest

  pub back_rest : (before : ℕ) → (0 < n → before ≡ unwrap_or (previous back) back) → IsPath stands next previous front before n
  back_rest before told = mirrored stands previous next before front n (at_back before told).rest

  pub front_taken : (behind : ℕ) → (0 < n → behind ≡ unwrap_or (next front) front) → path next front m ≡ front ∷ path next behind n
  unfolding at_front front_rest
  front_taken behind told =
      ap (path next front) more ∙ path-is stands next previous front back (n + 1) grown ∙ (at_front behind told).taken
      ∙ ap (λ ps. front ∷ ps) (sym (path-is stands next previous behind back n (front_rest behind told)))

  pub back_taken : (before : ℕ) → (0 < n → before ≡ unwrap_or (previous back) back) → path next front m ≡ path next front n ++ back ∷ []
  unfolding mirrored backward at_back back_rest
  back_taken before told =
      let behind = (at_back before told).rest.places in
      ap (path next front) more ∙ path-is stands next previous front back (n + 1) grown
      ∙ sym (reverse-reverse grown.places) ∙ ap reverse (at_back before told).taken ∙ reverse-cons back behind
      ∙ ap (λ ps. ps ++ back ∷ []) (sym (path-is stands next previous front before n (back_rest before told)))

module _ {X : Type 0} (item_of : ℕ → Option X) where
  one_more : (o : Option X) (xs : List X) → IsSome o → length (cons_option o xs) ≡ length xs + 1
  one_more None xs some = absurd (cc)
  one_more (Some x) xs some = omega arith

  length-shown : (ps : List ℕ) → ((p : ℕ) → IsIn p ps → IsSome (item_of p)) → length (filter_map item_of ps) ≡ length ps
  length-shown [] each = refl
  length-shown (p ∷ ps) each =
      omega (arith, one_more (item_of p) (filter_map item_of ps) (each p (inl refl)), length-shown ps (λ q later. each q (inr later)))

  -- where each place shows something, as much is shown as places are left
  pub length-path : (stands : ℕ → Type 0) (next previous : ℕ → Option ℕ) (front back n : ℕ) → IsPath stands next previous front back n
      → ((p : ℕ) → stands p → IsSome (item_of p))
      → length (filter_map item_of (path next front n)) ≡ n
  length-path stands next previous front back n walk each =
      ap (λ ps. length (filter_map item_of ps)) (path-is stands next previous front back n walk)
      ∙ length-shown walk.places (λ p member. each p (walk.there p member)) ∙ walk.count

  -- the first place and the last show an item each
  pub shown_first : (places : List ℕ) (p : ℕ) (ps : List ℕ) (x : X) → places ≡ p ∷ ps → item_of p ≡ Some x
      → filter_map item_of places ≡ x ∷ filter_map item_of ps
  shown_first places p ps x taken is = ap (filter_map item_of) taken ∙ ap (λ o. cons_option o (filter_map item_of ps)) is

  shown_end : (ps : List ℕ) (p : ℕ) (x : X) → item_of p ≡ Some x → filter_map item_of (ps ++ p ∷ []) ≡ filter_map item_of ps ++ x ∷ []
  shown_end [] p x is = ap (λ o. cons_option o []) is
  shown_end (q ∷ ps) p x is =
      elim (item_of q) as (λ o. cons_option o (filter_map item_of (ps ++ p ∷ [])) ≡ cons_option o (filter_map item_of ps) ++ x ∷ []) [
        | None ↦ shown_end ps p x is
        | Some y ↦ ap (λ ys. y ∷ ys) (shown_end ps p x is)
      ]

  pub shown_last : (places : List ℕ) (p : ℕ) (ps : List ℕ) (x : X) → places ≡ ps ++ p ∷ [] → item_of p ≡ Some x
      → filter_map item_of places ≡ filter_map item_of ps ++ x ∷ []
  shown_last places p ps x taken is = ap (filter_map item_of) taken ∙ shown_end ps p x is
