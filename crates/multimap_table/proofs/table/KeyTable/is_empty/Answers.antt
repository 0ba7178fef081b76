use Rattle.std.proofs.Common.{◌≡◌, ap, sym, ◌∙◌, eqb-true, eq-eqb, ℕ}
use Rattle.std.specs.Ordering.{nat_cmp}
use Rattle.std.specs.FinMap as map
use Rattle.multimap_table.specs.Table.{Table}
use Rattle.multimap_table.proofs.TableLemmas.{len_of}
use Rattle.multimap_table.proofs.table.KeyTable.is_empty.Goals as goal

pub returns : goal.returns
returns g c =
    let len : c.self.inside.len ≡ map.len c.args.self.now.rows = len_of _ _ _ c.self.invariant
    ∙ ap (λ (t : Table). map.len t.rows) c.self.view_is in (
      λ none. map.empty_of_len c.args.self.now.rows (sym len ∙ eqb-true c.self.inside.len 0 none),
      λ none. eq-eqb c.self.inside.len 0 (len ∙ ap (λ (m : map.FinMap nat_cmp ℕ). map.len m) none ∙ map.len-empty nat_cmp ℕ),
    )
