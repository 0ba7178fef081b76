-- Ranks of settings, which are even, and of the lines behind them.
use Rattle.std.proofs.Common.{◌≡◌, ℕ, ◌+◌, ◌≤◌, arith}
use Rattle.config_reader.specs.Blocks.{IsOfSettings, settings_rank}

pub next_rank : (rank : ℕ) → IsOfSettings rank → IsOfSettings (rank + 2)
next_rank rank is = omega (arith, is)

pub closing_rank : (rank : ℕ) → IsOfSettings rank → settings_rank (rank + 1) ≡ rank
closing_rank rank is = omega (arith, is)

pub rank_least : (rank : ℕ) → settings_rank rank ≤ rank
rank_least rank = omega arith

pub rank_most : (rank : ℕ) → rank ≤ settings_rank rank + 1
rank_most rank = omega arith

pub rank_above : (rank other : ℕ) → IsOfSettings rank → rank ≤ other → rank ≤ settings_rank other
rank_above rank other is less = omega (arith, is, less)

pub rank_again : (rank : ℕ) → IsOfSettings (settings_rank rank)
rank_again rank = omega arith
