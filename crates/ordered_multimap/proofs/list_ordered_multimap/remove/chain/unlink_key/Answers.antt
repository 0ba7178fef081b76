use Rattle.std.proofs.Common.{◌≡◌, Some, ap, sym, ◌∙◌, subst, arith}
use Rattle.multimap_slots.specs.Slots.{item_at}
use Rattle.multimap_walks.specs.declared.links.KeyLink.{KeyLink}
use Rattle.ordered_multimap.specs.TapeNumbers.{TakesOut, numbers_of}
use Rattle.ordered_multimap.proofs.Detach.Chains.{holds_whole}
use Rattle.ordered_multimap.proofs.Remove.WaysOut.{leaving-counts}
use Rattle.ordered_multimap.proofs.Remove.ValueByValue.{chain_row, taking-end, taking-some}
use Rattle.ordered_multimap.proofs.list_ordered_multimap.remove.chain.unlink_key.Goals as goal

pub unlink_values-first-requires-clause-some : goal.unlink_values-first-requires-clause-some
unlink_values-first-requires-clause-some g c =
    let s = c.requires in
    taking-some s.chains.sound s.chains.chained c.args.place c.take_listed-key.result.1 s.listed c.take_listed-key.ensures.link

pub unlink_values-first-requires-clause-row : goal.unlink_values-first-requires-clause-row
unlink_values-first-requires-clause-row g c =
    let s = c.requires in let l = c.take_listed-key.result.1 in
    (_, chain_row s.chains.sound s.chains.chained c.args.place l s.listed c.take_listed-key.ensures.link l.length (omega arith))

pub returns : goal.returns
returns g c =
    let s = c.requires in
    let l = c.take_listed-key.result.1 in
    let is = c.take_listed-key.ensures.link in
    let t = c.unlink_values-first.ensures in
    let left = t.left _ (chain_row s.chains.sound s.chains.chained c.args.place l s.listed is l.length (omega arith)) in
    let all = sym (s.chains.chained.length c.args.place l s.listed is) in
    record {
      taken = taking-end s.chains.sound s.chains.chained c.args.place l.length left.0 c.unlink_values-first.new.values.list left.1.taking
          all;
      removed = c.take_listed-key.ensures.removed;
      first = λ k v k_is v_is.
          let one : Some k ≡ Some l = sym k_is ∙ is in
          let same : k ≡ l = cc in
          t.given v (ap (λ (m : KeyLink). item_at c.args.values.now.list m.head) (sym same) ∙ v_is);
      counts = subst (λ n. TakesOut n (numbers_of c.args.values.now) (numbers_of c.unlink_values-first.new.values)) all
          (leaving-counts left.1);
      drain = λ keeps. holds_whole s.chains.sound s.chains.chained c.args.place l s.listed is l.length left.0
          c.unlink_values-first.new.values.list
          c.unlink_values-first.result.1
          (ap (λ e. e.first) t.ends) (ap (λ e. e.length) t.ends) left.1.taking left.1.last_is (left.1.kept keeps) all;
    }
