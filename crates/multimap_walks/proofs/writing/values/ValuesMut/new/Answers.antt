use Rattle.multimap_walks.proofs.writing.values.ValuesMut.new.Goals as goal

pub invariant_of-result : goal.invariant_of-result
invariant_of-result g c = record { readable = ∣ c.all_of-left.ensures.can ∣₁ }
