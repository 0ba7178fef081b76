-- The data fields of `Cells`, which a `&` reads: the pointer, the number of slots and the mark. Assumes `Logic`.
use mathlib.Core.Path.{◌≡◌, refl, ap, ◌∙◌}
use Prim.Native.Nat.{ℕ}
use mathlib.Core.List.{List, [], ◌∷◌, ◌++◌}
use seplogic.Ra.Ura.{Ura}
use mir.Syntax.{w64}
use mir.Val.{Val, vint, vstruct, vcons, vnil, of_list}
use types.Logic.{Logic}
use denote.RattleType.{RattleType}
use denote.Laws.{Is}
use denote.RawPtr.{Ptr, ptr_val}
use denote.Ref.{NamedLft, MutRef}
use denote.Copied.{Struct-Copied}
use denote.Opens.{Opens}
use denote.Struct.Laws.{RawPtr-copy, usize-copy, field_copy}
use denote.Struct.Owning.{shape}
use denote.Struct.Struct.{Struct}
use Rattle.std.specs.contracts.marker.PhantomData as Mark
use Rattle.multimap_slots.specs.contracts.cells.Cells as C

abbrev pub cells_val : Ptr → ℕ → Val
cells_val p n = vstruct (vcons (ptr_val p) (vcons (vint w64 n) (vcons (vstruct vnil) vnil)))

module _ (a : NamedLft) (R : RattleType) where
  abbrev pub Words : RattleType
  Words = Struct (shape (C.the_type a R))

  pub told : (p : Ptr) (n : ℕ) (vs : List Val) → Is Words (p, (n, (tt, tt))) vs → vs ≡ cells_val p n ∷ []
  told p n vs is = is.1.0 ∙ ap (λ (ws : List Val). vstruct (of_list (ws ++ (is.0.1.0 ++ (is.0.1.1.0 ++ [])))) ∷ []) is.1.1.0
      ∙ ap (λ (ws : List Val). vstruct (of_list (ptr_val p ∷ (ws ++ (is.0.1.1.0 ++ [])))) ∷ []) is.1.1.1.0.0
      ∙ ap (λ (ws : List Val). vstruct (of_list (ptr_val p ∷ vint w64 n ∷ (ws ++ []))) ∷ []) is.1.1.1.1.0.1.0

  pub words_open : {M : Type 1} {𝓤 : Ura M} (𝓛 : Logic 𝓤) → Opens 𝓛 Words
  words_open {M} {𝓤 = 𝓤} 𝓛 =
      (Struct-Copied 𝓛 (shape (C.the_type a R)) (refl, (refl, (refl, tt))) (
        RawPtr-copy.copied M 𝓤 𝓛,
        (
          usize-copy.copied M 𝓤 𝓛,
          ((field_copy (Mark.the_type (MutRef a.mir a.lft R)) tt).copied M 𝓤 𝓛, tt),
        ),
      )).opens
