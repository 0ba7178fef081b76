-- Calls of a function on the values of some keys, as calls on all pairs: those of the other keys are passed over.
use Rattle.std.proofs.Common.{◌≡◌, ◌≤◌, ℕ, Bool, true, false, cond, List, [], ◌∷◌, ◌++◌, filter, map, length, Option, Some, refl}
use Rattle.std.proofs.Common.{sym, ap, ◌∙◌, subst, inl, inr, arith, append_assoc}
use Rattle.std.proofs.lemmas.List.Elements.{filter_map-append}
use Rattle.std.specs.Borrow.{MutBor}
use Rattle.std.specs.Fn.{Mut}
use Rattle.std.specs.List.{FoldsTo, filter_map, cons_option}
use Rattle.std.specs.Map.Calls.{CallableOnEachPair, SomeCallAtPair}
use Rattle.std.specs.Ordering.{nat_cmp}
use Rattle.std.specs.FinMap.{FinMap}
use Rattle.multimap_slots.specs.Lists.{IsIn, first_of}
use Rattle.multimap_slots.specs.Slots.{Slots}
use Rattle.multimap_walks.specs.declared.links.KeyLink.{KeyLink}
use Rattle.multimap_walks.specs.declared.links.ValueLink.{ValueLink}
use Rattle.multimap_walks.specs.Chained.{pair_at, pairs_of}
use Rattle.ordered_multimap.specs.Pairs.{values_where}
use Rattle.ordered_multimap.specs.Retain.{AsksAccepted, AsksIf, MayAskEach, MayAskValue, Retains, SomeAnswer}
use Rattle.ordered_multimap.proofs.Remove.Retaining.{IsRetaining}

module _ {F V : Type 0} (g : Mut F (MutBor V × Unit {0}) (Bool × (MutBor V × Unit {0}))) where
  -- f may be called on a value where its key is accepted
  abbrev pub MayAskIf : Bool → F → V → Type 0
  MayAskIf true f v = MayAskValue g f v
  MayAskIf false f v = Unit {0}

  module _ {K : Type 0} (accepts : K → Bool) where
    abbrev pub MayAskAccepted : F → K → V → Type 0
    MayAskAccepted f k v = MayAskIf (accepts k) f v

    -- calls on the pairs of some keys are calls on their values
    folds_values : (before : List (K × V)) (f next : F) → FoldsTo (SomeCallAtPair (AsksAccepted g accepts)) f before next
        → FoldsTo (SomeAnswer g) f (values_where accepts before) next
    folds_values [] f next folds = folds
    folds_values (p ∷ before) f next (h, (b, w, asked), rest) =
        elim (accepts p.0) as (λ a. AsksIf g a f p.1 b w h
        → FoldsTo (SomeAnswer g) f (map (λ (q : K × V). q.1) (cond a (p ∷ filter (λ q. accepts q.0) before) (filter (λ q. accepts q.0) before))) next) [
          | true ↦ λ called. (h, (b, w, called), folds_values before h next rest)
          | false ↦ λ none. subst (λ e. FoldsTo (SomeAnswer g) e (values_where accepts before) next) none.2 (folds_values before h next rest)
        ] asked

    values-split : (before after : List (K × V)) (p : K × V) → accepts p.0 ≡ true
        → values_where accepts (before ++ p ∷ after) ≡ values_where accepts before ++ p.1 ∷ values_where accepts after
    values-split [] after p e = rw e refl
    values-split (q ∷ before) after p e =
        let put : Bool → List (K × V) → List V = λ b ps. map (λ (r : K × V). r.1) (cond b (q ∷ ps) ps) in
        elim (accepts q.0) as (λ b. put b (filter (λ r. accepts r.0) (before ++ p ∷ after))
        ≡ put b (filter (λ r. accepts r.0) before) ++ p.1 ∷ values_where accepts after) [
          | true ↦ ap (λ vs. q.1 ∷ vs) (values-split before after p e)
          | false ↦ values-split before after p e
        ]

    -- so what may be called on each of their values may be called on the pairs
    pub callable_pairs : (f : F) (pairs : List (K × V)) → MayAskEach g f (values_where accepts pairs)
        → CallableOnEachPair (AsksAccepted g accepts) MayAskAccepted f pairs
    callable_pairs f pairs each = record {
      at = λ before after next k v is folds.
          elim (accepts k) as (λ a. accepts k ≡ a → MayAskIf a next v) [
            | true ↦ λ e. each.at (values_where accepts before) (values_where accepts after) next v
                (ap (values_where accepts) is ∙ values-split before after (k, v) e) (folds_values before f next folds)
            | false ↦ λ e. tt
          ] refl;
    }

    -- where no pair is one of theirs, none is called, and all stay
    pub none_asked : (pairs : List (K × V)) (f : F) → length (values_where accepts pairs) ≡ 0 → Retains (AsksAccepted g accepts) f pairs pairs f
    none_asked [] f none = (refl, refl)
    none_asked (p ∷ pairs) f none =
        elim (accepts p.0) as (λ a. accepts p.0 ≡ a
        → length (map (λ (q : K × V). q.1) (cond a (p ∷ filter (λ q. accepts q.0) pairs) (filter (λ q. accepts q.0) pairs))) ≡ 0
        → Retains (AsksAccepted g accepts) f (p ∷ pairs) (p ∷ pairs) f) [
          | true ↦ λ e some. absurd (omega (arith, some))
          | false ↦ λ e no_other.
              (true, p.1, f, pairs, rw e (refl, refl, refl), none_asked pairs f no_other, refl)
        ] refl none

module _ {F K V : Type 0} (eq : K → K → Bool) (calls : F → K → V → Bool → V → F → Type 0) (may : F → K → V → Type 0)
    (old_keys : Slots K KeyLink) (old_rows : FinMap nat_cmp ℕ) (old_values : Slots V ValueLink) (first : F)
    (keys : Slots K KeyLink) (rows : FinMap nat_cmp ℕ) (values : Slots V ValueLink) (f : F) (own : ℕ → Bool) where
  abbrev Pass : Option ℕ → Type 0
  Pass following = IsRetaining calls eq may old_keys keys old_rows rows old_values values first f following

  -- of these places those before the next own one are passed over
  pub record Advances (places : List ℕ) : Type 0 where
    pub next : Option ℕ
    pub next_is : next ≡ first_of (filter own places)
    pub pass : Pass next
    pub shorter : length pass.rest ≤ length places

  -- a pair that a call leaves as it is, and the function too
  abbrev pub PassesOver : ℕ → Type 0
  PassesOver q = (k : K) × ((v : V) × (pair_at keys values q ≡ Some (k, v)) × calls f k v true v f)

  abbrev pairs_at : List ℕ → List (K × V)
  pairs_at places = filter_map (pair_at keys values) places

  -- one place is passed over
  skip : (q : ℕ) (places : List ℕ) (following : Option ℕ) (r : Pass following) → r.rest ≡ q ∷ places → PassesOver q
      → (s : Pass (first_of places)) × (s.rest ≡ places)
  skip q places following r is (k, (v, pair_is, called)) = (
    record {
      done = r.done ++ q ∷ [];
      rest = places;
      order = r.order ∙ ap (λ ps. r.done ++ ps) is ∙ sym (append_assoc r.done (q ∷ []) places);
      following_is = refl;
      agrees = r.agrees;
      keys_are = r.keys_are;
      callable = record {
        at = λ before after next j w e folds.
            r.callable.at ((k, v) ∷ before) after next j w (rest_pairs ∙ ap (λ ps. (k, v) ∷ ps) e) (f, (true, v, called), folds);
      };
      goes_on = λ later last rest.
          subst (λ ps. Retains calls first (pairs_of old_keys old_values) ps last) (sym (done_now later))
          (r.goes_on ((k, v) ∷ later) last
          (subst (λ ps. Retains calls f ps ((k, v) ∷ later) last) (sym rest_pairs) (true, v, f, later, called, rest, refl)));
    },
    refl,
  )
    where
      rest_pairs : pairs_at r.rest ≡ (k, v) ∷ pairs_at places
      rest_pairs = ap pairs_at is ∙ ap (λ o. cons_option o (pairs_at places)) pair_is

      done_now : (later : List (K × V)) → pairs_at (r.done ++ q ∷ []) ++ later ≡ pairs_at r.done ++ (k, v) ∷ later
      done_now later =
          ap (λ ps. ps ++ later) (filter_map-append (pair_at keys values) r.done (q ∷ [])
          ∙ ap (λ o. pairs_at r.done ++ cons_option o []) pair_is)
          ∙ append_assoc (pairs_at r.done) ((k, v) ∷ []) later

  -- none is passed over where the first place is an own one, or there is none
  stays_here : (places : List ℕ) (following : Option ℕ) (r : Pass following) → r.rest ≡ places
      → first_of places ≡ first_of (filter own places) → Advances places
  stays_here places following r is first_is = record {
    next = first_of places;
    next_is = first_is;
    pass = record {
      done = r.done;
      rest = r.rest;
      order = r.order;
      following_is = sym (ap first_of is);
      agrees = r.agrees;
      keys_are = r.keys_are;
      callable = r.callable;
      goes_on = r.goes_on;
    };
    shorter = omega (arith, ap length is);
  }

  pub advance : (places : List ℕ) (following : Option ℕ) (r : Pass following) → r.rest ≡ places
      → ((q : ℕ) → IsIn q places → own q ≡ false → PassesOver q) → Advances places
  advance [] following r is over = stays_here [] following r is refl
  advance (q ∷ places) following r is over =
      elim (own q) as (λ b. own q ≡ b → Advances (q ∷ places)) [
        | true ↦ λ e. stays_here (q ∷ places) following r is (rw e refl)
        | false ↦ λ e.
            let s = skip q places following r is (over q (inl refl) e) in
            let later = advance places (first_of places) s.0 s.1 (λ p i. over p (inr i)) in
            record { next = later.next; next_is = rw e later.next_is; pass = later.pass; shorter = omega (arith, later.shorter) }
      ] refl
