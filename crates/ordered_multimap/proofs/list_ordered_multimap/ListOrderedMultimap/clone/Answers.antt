use Rattle.std.proofs.Common.{◌≡◌, [], length, ap, subst, sym, arith}
use Rattle.multimap_slots.specs.Lists.{IsIn}
use Rattle.ordered_multimap.specs.Agrees.{lists_of}
use Rattle.ordered_multimap.specs.Clones.{AreClones}
use Rattle.ordered_multimap.specs.Lists.{IsWellFormed}
use Rattle.ordered_multimap.proofs.Agreement.Agreed.{length-keys, length-pairs, no_pairs, well_formed}
use Rattle.ordered_multimap.proofs.Agreement.NewPlaces.{places-length}
use Rattle.ordered_multimap.proofs.Clone.Copied.{agrees-copied, lists_cloned}
use Rattle.ordered_multimap.proofs.Clone.Lists.{empty_cloned, no_keys, same_lists}
use Rattle.ordered_multimap.proofs.list_ordered_multimap.ListOrderedMultimap.clone.Goals as goal

pub returns-then-is_empty-clause-clones : goal.returns-then-is_empty-clause-clones
returns-then-is_empty-clause-clones g c =
    let agrees = c.self.invariant.agrees in
    let eq = g.K.PartialEq.eq in
    let none = no_pairs agrees in
    subst (λ m. AreClones eq g.K.Clone.is_clone g.V.Clone.is_clone m.lists c.with_hasher.result.lists) c.self.view_is
    (subst (AreClones eq g.K.Clone.is_clone g.V.Clone.is_clone (lists_of c.self.inside.keys c.self.inside.values.list))
    (sym c.with_hasher.ensures.new.empty)
    (empty_cloned g.K.Clone.is_clone g.V.Clone.is_clone _ (well_formed agrees) (none.0 (c.is_empty.ensures.0 c.if-is_empty.true))))

pub returns-then-is_empty-clause-lists : goal.returns-then-is_empty-clause-lists
returns-then-is_empty-clause-lists g c =
    λ keys_same values_same.
    same_lists g.K.Clone.is_clone g.V.Clone.is_clone c.args.self.now.lists
    (subst (λ m. IsWellFormed g.K.PartialEq.eq m.lists) c.self.view_is (well_formed c.self.invariant.agrees)) keys_same values_same
    c.with_hasher.result.lists (returns-then-is_empty-clause-clones g c)

pub returns-then-is_empty-clause-key_room : goal.returns-then-is_empty-clause-key_room
returns-then-is_empty-clause-key_room g c =
    let agrees = c.self.invariant.agrees in
    omega (
      arith,
      ap (λ m. length m.lists.keys) c.self.view_is,
      ap length (no_keys g.K.PartialEq.eq _ (well_formed agrees) ((no_pairs agrees).0 (c.is_empty.ensures.0 c.if-is_empty.true))),
    )

pub returns-in_err-storage-clause-succeeds : goal.returns-in_err-storage-clause-succeeds
returns-in_err-storage-clause-succeeds g c =
    λ none sure.
    let no_place = (no_pairs c.self.invariant.agrees).1 (subst (λ m. m.lists.pairs ≡ []) (sym c.self.view_is) none) in
    absurd (let bad = c.is_empty.ensures.1 no_place in cc)

pub invariant_of-result : goal.invariant_of-result
invariant_of-result g c =
    let s = c.in_ok-storage.ensures in
    let same = places-length s.copied.values_copied in
    record {
      agrees = agrees-copied c.self.invariant.agrees s.copied g.met.K.Eq.laws
          (λ k d i. c.requires k d (subst (λ m. IsIn k m.lists.keys) c.self.view_is i));
      fits = omega (arith, same, s.value_room);
      paid = omega (arith, s.unused.moved, s.unused.holes);
    }

pub returns-clause-clones : goal.returns-clause-clones
returns-clause-clones g c =
    let s = c.in_ok-storage.storage in
    subst (λ m. AreClones g.K.PartialEq.eq g.K.Clone.is_clone g.V.Clone.is_clone m.lists (lists_of s.keys s.values.list)) c.self.view_is
    (lists_cloned c.self.invariant.agrees c.in_ok-storage.ensures.copied g.met.K.Eq.laws
    (λ k d i. c.requires k d (subst (λ m. IsIn k m.lists.keys) c.self.view_is i)))

pub returns-clause-lists : goal.returns-clause-lists
returns-clause-lists g c =
    λ keys_same values_same.
    same_lists g.K.Clone.is_clone g.V.Clone.is_clone c.args.self.now.lists
    (subst (λ m. IsWellFormed g.K.PartialEq.eq m.lists) c.self.view_is (well_formed c.self.invariant.agrees)) keys_same values_same _
    (returns-clause-clones g c)

pub returns-clause-key_room : goal.returns-clause-key_room
returns-clause-key_room g c =
    let s = c.in_ok-storage.ensures in
    omega (arith, ap (λ m. length m.lists.keys) c.self.view_is, length-keys c.self.invariant.agrees, s.key_room, s.row_room)

pub returns-clause-value_room : goal.returns-clause-value_room
returns-clause-value_room g c =
    omega (
      arith,
      ap (λ m. length m.lists.pairs) c.self.view_is,
      length-pairs c.self.invariant.agrees,
      c.in_ok-storage.ensures.value_room,
    )
