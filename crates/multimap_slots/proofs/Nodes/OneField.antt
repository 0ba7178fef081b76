-- A write or a read of one field of one node.
use Rattle.std.proofs.Common.{◌≡◌, ◌≢◌, ℕ, ◌<◌, ◌≤◌, IfSome, List, map, length, get_or, set, Option, Some, None, refl, sym, ap, ◌∙◌, arith}
use Rattle.std.proofs.Common.{◌+◌, ◌^◌, inl, inr}
use Rattle.std.proofs.lemmas.Bool.{cases_lt}
use Rattle.std.proofs.lemmas.List.{map-set, length-map, get_or-map, get_or-set_same, get_or-set_other, get_or_past}
use Rattle.std.proofs.lemmas.Option.{slice_get-get_or}
use Rattle.std.proofs.Math.Seq.{map-set_same}
use Rattle.std.specs.Prelude.{slice_get}
use Rattle.multimap_slots.specs.Private.Paths.{after, IsMoved}
use Rattle.multimap_slots.specs.Private.ListLayout.{nexts, previouses, states, links}
use Rattle.multimap_slots.specs.declared.order.node.Node.{Node}
use Rattle.multimap_slots.specs.declared.order.node.State.TheVariants.{Listed, Free}

-- one field is written, of those that say where to go
pub IsMoved-field : {A : Type 0} (f : A → Option ℕ) (first : Option ℕ) (xs : List A) (p : ℕ) (y : A) → p < length xs
    → IsMoved (after first (map f xs)) (after first (map f (set xs p y))) (Some p) (f y)
IsMoved-field f first xs p y within =
    Prim.rw (map-set f xs p y) (record { moved = get_or-set_same (map f xs) p (f y) None (Prim.rw length-map within); kept = others })
  where
    others : (x : Option ℕ) → x ≢ Some p → after first (set (map f xs) p (f y)) x ≡ after first (map f xs) x
    others None differs = refl
    others (Some q) differs = get_or-set_other (map f xs) p q (f y) None (λ e. differs (ap Some e))

-- where the list begins is written
pub IsMoved-first : (first to : Option ℕ) (ns : List (Option ℕ)) → IsMoved (after first ns) (after to ns) None to
IsMoved-first first to ns =
    record { moved = refl; kept = others }
  where
    others : (x : Option ℕ) → x ≢ None → after to ns x ≡ after first ns x
    others None differs = absurd (differs refl)
    others (Some q) differs = refl

-- a field of a node that was read
pub field_read : {A B : Type 0} (f : A → B) (xs : List A) (p : ℕ) (read : A) (d : B) → p < length xs → read ≡ get_or xs p read
    → f read ≡ get_or (map f xs) p d
field_read f xs p read d within reading = ap f reading ∙ sym (get_or-map f xs p read d within)

-- the link of a node that was read
pub link_read : {L : Type 0} (nodes : List (Node L)) (p : ℕ) (read : Node L) → p < length nodes → read ≡ get_or nodes p read
    → slice_get (links nodes) p ≡ Some read.link
link_read {L} nodes p read within reading =
    slice_get-get_or (links nodes) p read.link (Prim.rw length-map within)
    ∙ ap Some (sym (field_read (λ (n : Node L). n.link) nodes p read read.link within reading))

-- as many states, as many nodes
pub length-states : {L : Type 0} (xs ys : List (Node L)) → states xs ≡ states ys → length xs ≡ length ys
length-states {L} xs ys same =
    sym (length-map xs (λ (n : Node L). n.standing.state)) ∙ ap length same ∙ length-map ys (λ (n : Node L). n.standing.state)

-- what is within one bound is within a greater one
pub within_more : (o : Option ℕ) (m n : ℕ) → m ≤ n → IfSome o (λ p. p < m) → IfSome o (λ p. p < n)
within_more None m n le h = tt
within_more (Some x) m n le h = omega arith

-- a place below such a bound leaves room for the two words that stand for no place
pub within_low : (o : Option ℕ) (n : ℕ) → n + 2 < 2 ^ 64 → IfSome o (λ p. p < n) → IfSome o (λ p. p + 3 < 2 ^ 64)
within_low None n low h = tt
within_low (Some x) n low h = omega (arith, low)

-- a listed place is one of a node
pub within_listed : {L : Type 0} (nodes : List (Node L)) (p : ℕ) → get_or (states nodes) p Free ≡ Listed → p < length nodes
within_listed {L} nodes p listed = elim (cases_lt p (length nodes)) [
  | inl below ↦ below
  | inr past ↦ absurd (let bad = sym listed ∙ get_or_past (states nodes) p Free (rw length-map past) in cc)
]

-- another link in a node that was read
module _ {L : Type 0} (nodes : List (Node L)) (p : ℕ) (read : Node L) (link : L) (reading : read ≡ get_or nodes p read) where
  pub nexts-relink : nexts (set nodes p (record read { link = link })) ≡ nexts nodes
  nexts-relink = map-set_same (λ n. n.next) nodes p (record read { link = link }) read (ap (λ n. n.next) reading)

  pub previouses-relink : previouses (set nodes p (record read { link = link })) ≡ previouses nodes
  previouses-relink = map-set_same (λ n. n.standing.previous) nodes p (record read { link = link }) read (ap (λ n. n.standing.previous) reading)

  pub states-relink : states (set nodes p (record read { link = link })) ≡ states nodes
  states-relink = map-set_same (λ n. n.standing.state) nodes p (record read { link = link }) read (ap (λ n. n.standing.state) reading)
