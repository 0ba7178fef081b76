use Rattle.std.proofs.Common.{◌∙◌, sym}
use Rattle.multimap_slots.specs.Slots.{item_at}
use Rattle.ordered_multimap.proofs.Remove.AtEnds.{end_listed, none_at_end}
use Rattle.ordered_multimap.proofs.Walks.TakenOut.{taken_out}
use Rattle.ordered_multimap.proofs.list_ordered_multimap.into_values.IntoValues.take_out.Goals as goal

pub take_listed-value-requires : goal.take_listed-value-requires
take_listed-value-requires g c =
    end_listed c.args.end c.self.inside.values.list.order _ (sym c.place_at_end.ensures ∙ c.in-Some.is)

pub returns : goal.returns
returns g c =
    sym c.self.view_is
    ∙ taken_out c.self.inside.values.list c.take_listed-value.new.self.list c.in-Some.place _ c.take_listed-value.ensures.removed
    c.args.end c.len-values.ensures.sound.distinct (sym c.place_at_end.ensures ∙ c.in-Some.is)

pub returns-in_default : goal.returns-in_default
returns-in_default g c =
    let none = sym c.self.view_is ∙ none_at_end (item_at c.self.inside.values.list) c.args.end c.self.inside.values.list.order
    (sym c.place_at_end.ensures ∙ c.in_default.is) in
    (none, none)
