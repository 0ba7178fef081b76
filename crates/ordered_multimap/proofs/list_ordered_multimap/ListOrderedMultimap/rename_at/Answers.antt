use Rattle.std.proofs.Common.{◌≡◌, Some, false, find, ap, ◌∙◌, subst, sym}
use Rattle.ordered_multimap.specs.Agrees.{HasKey, hash_of, lists_of}
use Rattle.ordered_multimap.specs.Renames.{is_taken, renamed_where}
use Rattle.ordered_multimap.proofs.Agreement.LookUps.{listed_inside, own_key}
use Rattle.ordered_multimap.proofs.Agreement.Renamed.{Agrees-renamed, lists_of-renamed}
use Rattle.ordered_multimap.proofs.Agreement.TakenKeys.{found_old}
use Rattle.ordered_multimap.proofs.list_ordered_multimap.ListOrderedMultimap.rename_at.Goals as goal

pub replace_key-requires-clause-listed : goal.replace_key-requires-clause-listed
replace_key-requires-clause-listed g c = listed_inside _ c.self.view_is c.requires.listed

pub replace_key-requires-clause-row : goal.replace_key-requires-clause-row
replace_key-requires-clause-row g c =
    λ l is. c.self.invariant.agrees.in_table c.args.place l (listed_inside _ c.self.view_is c.requires.listed) is

pub replace_key-requires-clause-counted : goal.replace_key-requires-clause-counted
replace_key-requires-clause-counted g c = c.self.invariant.agrees.counted

pub invariant_of-self : goal.invariant_of-self
invariant_of-self g c =
    let is_map = c.self.invariant in let eq = g.K.PartialEq.eq in
    let own = own_key g.met.K.Eq.laws is_map.agrees c.args.place (listed_inside _ c.self.view_is c.requires.listed) in
    let free = subst (λ m. (k : g.row.K.Denot) → HasKey eq m.slots.keys k c.args.place
    → is_taken eq (eq k) c.args.key m.lists.keys ≡ false) (sym c.self.view_is) c.requires.untaken in
    let hash_is = c.requires.hash
    ∙ ap (λ m. hash_of g.S.BuildHasher g.S.Hasher.Hasher m.hasher (g.K.Hash.hash_input c.args.key)) (sym c.self.view_is) in
    record {
      agrees = Agrees-renamed g.met.K.Eq.laws is_map.agrees own.0 c.args.place own.1 c.replace_key.ensures.replaced hash_is
          (free own.0 own.1);
      fits = is_map.fits;
      paid = is_map.paid;
    }

pub returns-clause-old : goal.returns-clause-old
returns-clause-old g c =
    let eq = g.K.PartialEq.eq in
    subst (λ m. (k : g.row.K.Denot) → HasKey eq m.slots.keys k c.args.place
    → find (eq k) m.lists.keys ≡ Some c.replace_key.result) c.self.view_is
    (λ k has. found_old g.met.K.Eq.laws c.self.invariant.agrees k c.args.key c.args.place has c.replace_key.result
    c.replace_key.ensures.replaced.item_is)

pub returns-clause-lists : goal.returns-clause-lists
returns-clause-lists g c =
    let eq = g.K.PartialEq.eq in
    subst (λ m. (k : g.row.K.Denot) → HasKey eq m.slots.keys k c.args.place
    → lists_of c.replace_key.new.keys c.self.inside.values.list ≡ renamed_where (eq k) c.args.key m.lists) c.self.view_is
    (λ k has. lists_of-renamed g.met.K.Eq.laws c.self.invariant.agrees k c.args.place has c.replace_key.ensures.replaced)
