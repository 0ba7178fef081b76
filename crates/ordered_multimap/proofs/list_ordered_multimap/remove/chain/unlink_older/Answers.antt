use Rattle.std.proofs.Common.{◌≡◌, ◌≢◌, ◌-◌, ℕ, Some, length, refl, sym, ap, ◌∙◌, subst, arith}
use Rattle.multimap_slots.specs.Tapes.{Taped}
use Rattle.multimap_walks.specs.declared.links.ValueLink.{ValueLink}
use Rattle.multimap_walks.specs.Chained.{chain_of}
use Rattle.ordered_multimap.specs.Private.Remove.{IsTaking}
use Rattle.ordered_multimap.specs.TapeNumbers.{TakesOut, numbers_of}
use Rattle.ordered_multimap.proofs.Detach.Chains.{holds_gone, mended_drain}
use Rattle.ordered_multimap.proofs.Remove.WaysOut.{leaving-counts}
use Rattle.ordered_multimap.proofs.Remove.ValueByValue.{chain_row, taking-last, taking-listed}
use Rattle.ordered_multimap.proofs.list_ordered_multimap.remove.chain.unlink_older.Goals as goal

pub unlink_values-left-requires-clause-row : goal.unlink_values-left-requires-clause-row
unlink_values-left-requires-clause-row g c =
    let s = c.requires.chain in let l = c.listed_link_mut-link.result.now in (
      _,
      chain_row s.chains.sound s.chains.chained c.args.place l s.listed c.listed_link_mut-link.ensures.value.link_is (l.length - 1)
          (omega arith),
    )

pub set_previous-requires-clause-listed : goal.set_previous-requires-clause-listed
set_previous-requires-clause-listed g c =
    let s = c.requires.chain in
    let l = c.listed_link_mut-link.result.now in
    let is = c.listed_link_mut-link.ensures.value.link_is in
    let more = c.requires.more l is in
    let row = chain_row s.chains.sound s.chains.chained c.args.place l s.listed is (l.length - 1) (omega arith) in
    let left = c.unlink_values-left.ensures.left _ row in
    let last_is = taking-last s.chains.sound s.chains.chained c.args.place
    (l.length - 1) left.0 c.unlink_values-left.new.values.list left.1.taking l s.listed is (omega (arith, more)) in
    taking-listed row (l.length - 1) l.tail c.unlink_values-left.new.values.list
    (subst (λ o. IsTaking (chain_of c.args.values.now.list c.args.place)
    (l.length - 1) o c.args.values.now.list c.unlink_values-left.new.values.list) last_is left.1.taking)

pub returns : goal.returns
returns g c =
    let s = c.requires.chain in
    let l = c.listed_link_mut-link.result.now in
    let is = c.listed_link_mut-link.ensures.value.link_is in
    let more = c.requires.more l is in
    let row = chain_row s.chains.sound s.chains.chained c.args.place l s.listed is (l.length - 1) (omega arith) in
    let t = c.unlink_values-left in
    let left = t.ensures.left _ row in
    let a = left.1.taking in
    let last_is = taking-last s.chains.sound s.chains.chained c.args.place (l.length - 1) left.0 t.new.values.list a l s.listed is
    (omega (arith, more)) in
    let took : IsTaking (chain_of c.args.values.now.list c.args.place) (l.length - 1)
    (Some l.tail) c.args.values.now.list t.new.values.list =
    record {
      gone = a.gone;
      rest = a.rest;
      parts = a.parts;
      count = a.count;
      following_is = sym last_is
          ∙ a.following_is;
      taken = a.taken;
    } in
    let tail_listed = taking-listed row (l.length - 1) l.tail t.new.values.list took in
    let m = c.set_previous.ensures in
    let links = λ (q : ℕ) (differs : q ≢ l.tail). m.others q (λ e. differs (let same : l.tail ≡ q = cc in sym same)) in
    let rest = ap (λ v. v.list) m.rest in
    record {
      older = record {
        link = l;
        link_is = is;
        count = l.length - 1;
        older = omega (arith, more);
        left = t.new.values.list;
        taking = took;
        rest = rest;
        alone = λ v has. m.here l.tail v refl has;
        links = links;
        keys_are = refl;
      };
      first = t.ensures.given;
      counts = subst (λ (v : Taped g.row.V.Denot ValueLink). TakesOut (l.length - 1) (numbers_of c.args.values.now) (numbers_of v))
          (sym m.rest) (leaving-counts left.1);
      shorter = omega (arith, left.1.shorter, ap (λ (v : Taped g.row.V.Denot ValueLink). length v.list.order) m.rest);
      drain = λ keeps.
          let holds = holds_gone s.chains.sound s.chains.chained c.args.place l s.listed is
          (l.length - 1) left.0 t.new.values.list t.result.1
          (ap (λ e. e.first) t.ensures.ends) (ap (λ e. e.length) t.ensures.ends) a left.1.last_is (left.1.kept keeps) in
          mended_drain t.new.values.list c.set_previous.new.values.list t.result.1 l.tail tail_listed rest links holds.chain holds.left;
    }
