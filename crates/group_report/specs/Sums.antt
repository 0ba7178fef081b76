-- What a summary says of values, and what a map from groups to summaries says of entries.
use Rattle.std.specs.Int.{int_max, int_min, w128}
use Rattle.std.specs.List.{fold, sum_by}
use Rattle.std.specs.Prelude.{◌≡◌, Bool, List, [], ◌∷◌, ℤ, pos, negsuc, ◌+◌, ◌+ℤ◌, ◌<◌, ◌^◌, length}
use Rattle.std.specs.Prelude.{FitsSigned, slice_get, unwrap_or}
use Rattle.ordered_multimap.specs.Changes.{first_occurrences}
use Rattle.ordered_multimap.specs.Lists.{Lists}
use Rattle.ordered_multimap.specs.Pairs.{values_of}
use Rattle.group_report.specs.declared.summary.Summary.{Summary}

-- the summary of no value
abbrev pub nothing : Summary
nothing = record {
  count = 0;
  sum = pos 0;
  least = pos 9223372036854775807;
  greatest = negsuc 9223372036854775807;
}

-- the summary of what this one is of, and of one value more
abbrev pub summary_with : Summary → ℤ → Summary
summary_with all value = record {
  count = all.count + 1;
  sum = all.sum +ℤ value;
  least = int_min all.least value;
  greatest = int_max all.greatest value;
}

-- one value more can be counted, and added to the sum
abbrev pub FitsOneMore : Summary → ℤ → Type 0
FitsOneMore all value = (all.count + 1 < 2 ^ 64) × FitsSigned w128 (all.sum +ℤ value)

-- how many values there are, their sum, the least and the greatest of them
abbrev pub summary_of : List ℤ → Summary
summary_of values = fold summary_with nothing values

-- one summary of all values, where there is any
abbrev pub summaries_of : List ℤ → List Summary
summaries_of [] = []
summaries_of (value ∷ values) = summary_of (value ∷ values) ∷ []

-- the summary that the map has of a group, or that of no value
abbrev pub summary_in : {G : Type 0} → (G → G → Bool) → Lists G Summary → G → Summary
summary_in eq m g = unwrap_or (slice_get (values_of eq m.pairs g) 0) nothing

-- Of entries, each a group and a value, the map has one summary for each group, which is that of
-- the values of its entries in order; the groups stand as they first occur; and the summaries count
-- all entries.
pub record Summarizes {G : Type 0} (eq : G → G → Bool) (entries : List (G × ℤ))
    (m : Lists G Summary) : Type 0 where
  pub summaries : (g : G) → values_of eq m.pairs g ≡ summaries_of (values_of eq entries g)
  pub order : m.keys ≡ first_occurrences eq entries
  pub counts : sum_by (λ p. p.1.count) m.pairs ≡ length entries
