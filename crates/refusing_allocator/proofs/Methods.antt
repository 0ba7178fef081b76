-- What both methods of the allocator have. Assumes `Logic`.
use Rattle.std.proofs.Common.{List, [], ◌∷◌, refl}
use seplogic.Ra.Ura.{Ura}
use mir.Syntax.{Args, a_type, dnil, dcons}
use types.Logic.{Logic}
use denote.Exit.{yes}
use denote.Param.{bounded, param}
use denote.Signature.{Slot, plain}
use denote.Builtin.{usize, RefOf}
use denote.Triple.Walked.{AllGo, Stays, stay_dropped, Goes-dropped}
use Rattle.std.proofs.alloc.Calls.{Al}
use Rattle.refusing_allocator.specs.contracts.RefusingAllocator as wrapper

-- how large the block is, and how it is aligned: the last two parameters of both
abbrev sizes : List (Slot 2)
sizes = plain (λ _. usize) ∷ plain (λ _. usize) ∷ []

abbrev pub sizes_stay : Stays sizes (yes, (yes, tt))
sizes_stay = (stay_dropped (plain (λ _. usize)) yes, (stay_dropped (plain (λ _. usize)) yes, tt))

abbrev pub sizes_go : {M : Type 1} {𝓤 : Ura M} (𝓛 : Logic 𝓤) → AllGo 𝓛 2 sizes (yes, (yes, tt)) sizes_stay
sizes_go 𝓛 = (Goes-dropped 𝓛 2 (plain (λ _. usize)) yes (λ κs x f. refl), (Goes-dropped 𝓛 2 (plain (λ _. usize)) yes (λ κs x f. refl), tt))

module _ (Z : Al) where
  -- what the inner allocator gives a method's code
  abbrev pub args : Args
  args = bounded (a_type ∷ []) (Z.row, tt) (dcons Z.d (dcons Z.drops dnil))

  -- the `&` to the allocator
  abbrev pub self : Slot 2
  self = RefOf (0 ∷ []) tt (plain (λ _. wrapper.the_row (param 0 Z.row))) (λ _. tt)
