-- The packed link as a type argument of a call: how it is laid out, its laws, and the glue that lets one go.
use Rattle.std.proofs.Common.{[], ◌∷◌, refl}
use mir.Syntax.{Dict, Ty, dnil, impl, tcons, tnil, ty_int, ty_struct, w64}
use denote.Exit.{no}
use denote.Param.{arg, layout}
use denote.Param.Laws.{Laws, arg_laws}
use denote.RattleType.{RattleType}
use Rattle.multimap_walks.specs.contracts.packed.PackedLink as PL-type
use Rattle.multimap_walks.proofs.packed.PackedLink.TheLaws as PL-laws

abbrev place_layout : Ty
place_layout = ty_struct [] (tcons (ty_int w64) tnil)

abbrev link_layout : Ty
link_layout = ty_struct [] (tcons (ty_int w64) (tcons place_layout (tcons place_layout tnil)))

abbrev pub Packed : RattleType
Packed = arg link_layout no PL-type.the_row

abbrev pub packed_laws : Laws Packed
packed_laws = arg_laws link_layout no PL-type.the_row PL-laws.the_row_laws refl

abbrev pub drops_packed : Dict
drops_packed = impl ("ordered_multimap_callers::Destruct++none::drop" ∷ []) (tcons (layout Packed) tnil) dnil
