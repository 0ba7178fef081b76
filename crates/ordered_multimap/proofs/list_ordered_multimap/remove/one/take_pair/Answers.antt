use Rattle.std.proofs.Common.{◌≡◌, ◌==◌, ◌∙◌, Some, not, length, refl, sym, ap, true≢false, arith}
use Rattle.multimap_slots.specs.Slots.{Slots}
use Rattle.multimap_walks.specs.declared.links.KeyLink.{KeyLink}
use Rattle.multimap_walks.specs.declared.links.ValueLink.{ValueLink}
use Rattle.multimap_walks.specs.Chained.{chain_of, is_value_of}
use Rattle.ordered_multimap.proofs.Callers.Places.{begins, filter-agree}
use Rattle.ordered_multimap.proofs.Chains.Parts.{own, own-only}
use Rattle.ordered_multimap.proofs.list_ordered_multimap.remove.one.take_pair.Goals as goal

-- the key's only value

pub returns-then-key_link-eq1 : goal.returns-then-key_link-eq1
returns-then-key_link-eq1 g c =
    let s = c.requires.links in
    let t = c.take_listed-value.ensures in
    let l = c.link_of-key_place.result in
    let link_is = c.link_of-key_place.ensures.link in
    let values = c.args.values.now.list in
    let key_listed = s.chained.owned c.args.place l s.listed link_is in
    let only : length (chain_of values l.key) ≡ 1 = s.chained.length l.key c.args.key_link key_listed (s.key_link_is l link_is)
    ∙ c.if-key_link-eq1.true in
    let mine = own-only s.sound s.chained c.args.place l s.listed link_is only in
    let own_place = own s.sound s.chained c.args.place l s.listed link_is in
    record {
      takes = record {
        link = l;
        link_is = link_is;
        had = t.removed.had;
        order = t.removed.order;
        entry = record {
          taken = record {
            order = t.removed.order
                ∙ filter-agree (λ q. not (q == c.args.place)) (λ q. not (is_value_of values l.key q)) values.order
                (λ q i. ap not (sym (mine q i)));
            items = λ q other. t.removed.others.items q (λ same. true≢false (sym (ap (is_value_of values l.key) same ∙ own_place) ∙ other));
            links = λ q other. t.removed.others.links q (λ same. true≢false (sym (ap (is_value_of values l.key) same ∙ own_place) ∙ other));
            capacity = t.removed.capacity;
          };
          removed = c.take_key-key.ensures.removed;
          rows_are = c.take_key-key.ensures.row.rows;
        };
      };
      frees = t.freed;
      room = record {
        key_room = c.take_key-key.ensures.removed.capacity;
        row_room = c.take_key-key.ensures.row.capacity;
        value_room = t.removed.capacity;
      };
    }

-- one of several

pub take_one-value-requires-clause-more : goal.take_one-value-requires-clause-more
take_one-value-requires-clause-more g c =
    let s = c.requires.links in
    let l = c.link_of-key_place.result in
    let k = c.args.key_link in
    let key_listed = s.chained.owned c.args.place l s.listed c.link_of-key_place.ensures.link in
    let key_link_is = s.key_link_is l c.link_of-key_place.ensures.link in
    let first = begins (chain_of c.args.values.now.list l.key) k.head (s.chained.head l.key k key_listed key_link_is) in
    omega (arith, c.if-key_link-eq1.false, s.chained.length l.key k key_listed key_link_is, ap length first.is)

pub returns : goal.returns
returns g c =
    let t = c.take_one-value.ensures in
    let both : Some t.taken.link ≡ Some c.link_of-key_place.result = sym t.taken.link_is ∙ c.link_of-key_place.ensures.link in
    let link : t.taken.link ≡ c.link_of-key_place.result = cc in
    record {
      takes = record { one = t.taken; key_is = ap (λ (l : ValueLink). l.key) link; rows_are = refl };
      frees = t.frees;
      room = record {
        key_room = ap (λ (s : Slots g.row.K.Denot KeyLink). s.capacity)
            t.taken.keys_are;
        row_room = refl;
        value_room = t.taken.capacity;
      };
    }
