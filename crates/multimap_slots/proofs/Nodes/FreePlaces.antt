-- The list of free places, and the claim of one.
use Rattle.std.proofs.Common.{◌≡◌, ◌≢◌, ℕ, zero, suc, ◌<◌, List, [], ◌∷◌, ◌++◌, length, get_or, set, Option, Some, None, refl, sym, ap}
use Rattle.std.proofs.Common.{subst, ◌∙◌, arith}
use Rattle.std.proofs.lemmas.List.{map-set, length-map, length-set, get_or-map, get_or-set_other, get_or_past, length_push}
use Rattle.multimap_slots.specs.declared.order.node.Node.{Node}
use Rattle.multimap_slots.specs.declared.order.node.State.{State}
use Rattle.multimap_slots.specs.declared.order.node.State.TheVariants.{Free}
use Rattle.multimap_slots.specs.Private.ListLayout.{nexts, states, IsFreeList, Claims}
use Rattle.multimap_slots.proofs.Changes.Put.{put-set, put-push}

-- a free place stays free, with the same free place behind it
pub record KeepsFree (nexts nexts' : List (Option ℕ)) (states states' : List State) (q : ℕ) : Type 0 where
  pub within : q < length states'
  pub state : get_or states' q Free ≡ Free
  pub next : get_or nexts' q None ≡ get_or nexts q None

-- the free places stay linked, if each keeps what it has
pub free-agree : (ns ns' : List (Option ℕ)) (ss ss' : List State) (n : ℕ) (at : Option ℕ)
    → ((q m : ℕ) → m < n → IsFreeList ns ss (suc m) (Some q) → KeepsFree ns ns' ss ss' q)
    → IsFreeList ns ss n at → IsFreeList ns' ss' n at
free-agree ns ns' ss ss' zero at keeps l = l
free-agree ns ns' ss ss' (suc n) at keeps l =
    let k = keeps l.0 n (omega arith) (l.0, refl, l.2, l.3, l.4) in
    (l.0, l.1, k.within, k.state, rw k.next (free-agree ns ns' ss ss' n (get_or ns l.0 None) (λ q m below. keeps q m (omega arith)) l.4))

-- from one place on there are only so many
pub free-count : (ns : List (Option ℕ)) (ss : List State) (m n : ℕ) (at : Option ℕ) → IsFreeList ns ss m at → IsFreeList ns ss n at → m ≡ n
free-count ns ss zero zero at p q = refl
free-count ns ss zero (suc n) at p q = absurd (let e = q.1 in cc)
free-count ns ss (suc m) zero at p q = absurd (let e = p.1 in cc)
free-count ns ss (suc m) (suc n) at p q =
    let first = p.1 in
    let second = q.1 in
    let same : q.0 ≡ p.0 = cc in
    ap suc (free-count ns ss m n (get_or ns p.0 None) p.4 (subst (λ x. IsFreeList ns ss n (get_or ns x None)) same q.4))

free-none : (ns : List (Option ℕ)) (ss : List State) (k : ℕ) → IsFreeList ns ss k None → k ≡ 0
free-none ns ss zero l = refl
free-none ns ss (suc k) l = absurd (let e = l.1 in cc)

-- the first place on the list is free
pub free_here : (ns : List (Option ℕ)) (ss : List State) (m q : ℕ) → IsFreeList ns ss (suc m) (Some q)
    → (q < length ss) × (get_or ss q Free ≡ Free)
free_here ns ss m q l =
    let first = l.1 in
    let same : l.0 ≡ q = cc in
    (rw same at l.2, rw same at l.3)

module _ {L : Type 0} where
  -- the place that is claimed is the first free one
  Claims-first : (old : List (Node L)) (place : ℕ) (node : Node L) (next : Option ℕ) → get_or (nexts old) place None ≡ next
      → (n : ℕ) → IsFreeList (nexts old) (states old) (suc n) (Some place) → Claims old (set old place node) (Some place) next node place
  Claims-first old place node next reads n l =
      let first = l.1 in
      let same : l.0 ≡ place = cc in
      let within : place < length old = rw (same, length-map) at l.2 in
      record {
        within = omega arith;
        was_free = rw same at l.3;
        written = sym (put-set old place node within);
        fills = λ at_end. absurd (omega arith);
        behind = λ none. absurd (let e = none in cc);
        frees = λ k whole.
            let count = free-count (nexts old) (states old) k (suc n) (Some place) whole l in
            let rest = free-agree (nexts old) (nexts (set old place node)) (states old) (states (set old place node)) n next
            (λ q m below later.
            let here = free_here (nexts old) (states old) m q later in
            let differs : q ≢ place = λ e. absurd (omega (
              arith,
              free-count (nexts old) (states old) (suc m) (suc n) (Some place)
                  (subst (λ x. IsFreeList (nexts old) (states old) (suc m) (Some x)) e later) l,
            )) in
            record {
              within = rw (length-map, length-set) (rw length-map at here.0);
              state = rw map-set (get_or-set_other (states old) place q node.standing.state Free differs ∙ here.1);
              next = rw map-set (get_or-set_other (nexts old) place q node.next None differs);
            })
            (subst (IsFreeList (nexts old) (states old) n) (ap (λ x. get_or (nexts old) x None) same ∙ reads) l.4) in
            (n, omega (arith, length-set old place node), rest);
      }

  -- the node was read at the free place, and written there
  pub Claims-some : (old : List (Node L)) (place : ℕ) (node read : Node L) (free : Option ℕ) → free ≡ Some place
      → read ≡ get_or old place read
      → (v : ℕ) → IsFreeList (nexts old) (states old) v free → Claims old (set old place node) free read.next node place
  Claims-some old place node read free e reading zero l = absurd (let e' = sym e ∙ l in cc)
  Claims-some old place node read free e reading (suc v) l =
      let l' : IsFreeList (nexts old) (states old) (suc v) (Some place) = rw e at l in
      let first = l'.1 in
      let same : l'.0 ≡ place = cc in
      let within : place < length old = rw (same, length-map) at l'.2 in
      rw e (Claims-first old place node read.next (get_or-map (λ n. n.next) old place read None within ∙ ap (λ n. n.next) (sym reading)) v
      l')

  -- with no place on the list, the place behind the nodes is claimed
  Claims-push : (old : List (Node L)) (node : Node L) → Claims old (old ++ node ∷ []) None None node (length old)
  Claims-push old node =
      record {
        within = omega arith;
        was_free = get_or_past (states old) (length old) Free (omega (arith, length-map old (λ (n : Node L). n.standing.state)));
        written = sym (put-push old (length old) node (omega arith));
        fills = λ _. free-none (nexts old) (states old);
        behind = λ _. refl;
        frees = λ k whole. (0, omega (arith, length_push old node, free-none (nexts old) (states old) k whole), refl);
      }

  pub Claims-none : (old new : List (Node L)) (node : Node L) (free : Option ℕ) (at : ℕ) → free ≡ None → at ≡ length old
      → new ≡ old ++ node ∷ [] → Claims old new free free node at
  Claims-none old new node free at e end made = rw (e, end, made) (Claims-push old node)
