use Rattle.std.proofs.Common.{◌≡◌, ◌+◌, ◌*◌, ◌%◌, false, inl, inr, subst, arith}
use Rattle.multimap_table.specs.Private.Layout.{IsBitSet}
use Rattle.multimap_table.specs.Private.Entries.{row_at}
use Rattle.multimap_table.proofs.BitLemmas.{no_bit_zero}
use Rattle.multimap_table.proofs.probe.find_in_group.Goals as goal

pub returns : goal.returns
returns g c = record {
  found = tt;
  absent = λ lane (in_group, tag, same_hash).
      let at : 16 * c.args.group + lane % 16 ≡ lane = omega arith in
      elim (c.loop-matches.invariant.left (lane % 16) (omega arith) (rw at tag) (rw at same_hash)) [
        | inl set ↦ absurd (no_bit_zero (lane % 16) (subst (λ n. IsBitSet n (lane % 16)) c.loop-matches-test.false set))
        | inr missed ↦ subst (λ n. goal.F-post g c.args.test.now (row_at c.args.rows.now n).place false) at missed
      ];
}
