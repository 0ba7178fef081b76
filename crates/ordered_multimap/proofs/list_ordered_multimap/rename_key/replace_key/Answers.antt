use Rattle.std.proofs.Common.{rules, ◌≡◌, ◌-◌, true, cond, is_some, None, refl, ap, ◌∙◌, arith}
use Rattle.std.proofs.lemmas.Bool.{eq-eqb}
use Rattle.std.specs.Cmp.{nat_cmp_total, unsigned_tied}
use Rattle.std.specs.FinMap as map
use Rattle.ordered_multimap.proofs.Agreement.Renamed.{some_length}
use Rattle.ordered_multimap.proofs.list_ordered_multimap.rename_key.replace_key.Goals as goal

pub insert-requires-clause-room : goal.insert-requires-clause-room
insert-requires-clause-room g c =
    let rows = c.args.table.now.rows in let place = c.args.place in
    let had : map.contains_key rows place ≡ true = ap is_some (c.requires.row c.listed_link-link.result c.listed_link-link.ensures.link_is) in
    let fewer = ap map.len c.remove.ensures.rows ∙ map.len-remove nat_cmp_total rows place
    ∙ ap (λ b. cond b (map.len rows - 1) (map.len rows)) had in
    omega (
      arith,
      fewer,
      c.remove.ensures.capacity,
      c.capacity-room.ensures.capacity,
      c.capacity-room.ensures.fits,
      c.requires.counted,
      some_length place c.args.keys.now.order c.requires.listed,
    )

pub insert-requires-clause-absent : goal.insert-requires-clause-absent
insert-requires-clause-absent g c =
    let rows = c.args.table.now.rows in let place = c.args.place in
    ap (λ m. map.get m place) c.remove.ensures.rows ∙ map.get-remove nat_cmp_total rows place place
    ∙ ap (λ b. cond b None (map.get rows place)) (unsigned_tied place place ∙ eq-eqb place place refl)

pub returns-clause-replaced : goal.returns-clause-replaced
returns-clause-replaced g c = search rules
