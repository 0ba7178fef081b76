use Rattle.std.proofs.Common.{rules}
use Rattle.std.proofs.Common.{◌≡◌, ℕ, Bool, true, false, Option, Some, None, IfNone, refl, sym, ◌∙◌}
use Rattle.std.specs.FinMap.{get}
use Rattle.std.specs.List.{list_any}
use Rattle.ordered_multimap.specs.Agrees.{SaysWhetherAccepted, items_of}
use Rattle.ordered_multimap.proofs.Agreement.Queries.{none_accepted}
use Rattle.ordered_multimap.proofs.list_ordered_multimap.remove.chain.take_row.Goals as goal

pub returns-clause-absent : goal.returns-clause-absent
returns-clause-absent g c =
    let accepts = g.Q.KeyQuery.equivalent c.args.query in
    let keys = c.args.keys.now in
    let P : Option ℕ → Type 0 = λ o. IfNone o ((place : ℕ) → get c.args.table.now.rows place ≡ Some c.args.hash
    → SaysWhetherAccepted accepts keys place false) → IfNone o (list_any accepts (items_of keys) ≡ false) in
    elim c.take.result as P [
      | None ↦ λ none. none_accepted accepts keys keys.order (λ place j listed item.
          let Q : Bool → Type 0 = λ b. accepts j ≡ b → b ≡ false in
          elim (accepts j) as Q [
            | true ↦ λ e. sym e ∙ none place (c.requires.hashed place j listed item e) j item
            | false ↦ λ _. refl
          ] refl)
      | Some place ↦ λ found. found
    ] c.take.ensures.absent

pub returns-clause-found : goal.returns-clause-found
returns-clause-found g c = search rules
