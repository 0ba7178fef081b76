-- The drop of a walk for writing whose body returns at once: the loans of the values that were not given end. Assumes `Logic`.
-- `returning` is its code: local 1 is the walk, and 0 the result. What the walk owns is a marker, its cells and its places.
-- `drops` proves it, by `slot_cells_end`, which tells what the cells end as.
use mathlib.Core.Path.{◌≡◌, refl, sym, subst}
use mathlib.Core.List.{List, [], ◌∷◌, ◌++◌}
use Prim.Native.Nat.{ℕ}
use seplogic.Ra.Ura.{Ura}
use mir.Syntax.{Ty, ty_unit, Callee, Fn, local, value_local, seq, assign, place, rv_opd, opd_unit, return}
use mir.Val.{Val, vunit}
use base.Logic.{SProp, ent, id⊢}
use base.Fml.{Fml, ftrue, fsep, fex}
use prog.Wp.{WpFn, Closed}
use prog.Model.{Model}
use types.Logic.{Logic, sem}
use types.Kit.{‵, raw, ◌⊛◌, later, ◌$◌, ◌∵◌, !, qed, by, done, now, updating, move, keep, drop, use1, split, fsplit, fsplit3, fjoin}
use types.Kit.{feq_i, fpick, await, rewrite}
use types.Run.{of_opd, unit_lit, returns, enter}
use types.ByLocal.{alloc_all, pass_all, free_all, look_at, sets}
use contract.Lifetimes.{Lfts, Outlives}
use contract.Running.{Running, tables}
use denote.Builtin.{unit}
use denote.Exit.{no, rest}
use denote.Laws.{Typed, Lawful}
use denote.Param.{param}
use denote.Param.Laws.{Laws, param_laws}
use denote.RattleType.{RattleType}
use denote.Ref.{NamedLft}
use denote.Signature.{plain, named_lft}
use denote.Steps.{nothing}
use denote.Triple.Clauses.{Ended, Clauses, AtExit, at_exit, closing}
use denote.Triple.Entry.{alive}
use denote.Triple.Spec.{Meets}
use denote.Triple.Walked.{Stays, stay_dropped, Goes, walk_of}
use Rattle.std.proofs.raw_atomic.Walks.{proved_at, leaves}
use Rattle.std.specs.declared.alloc.Allocator.{Ghosts}
use Rattle.multimap_slots.specs.Ended.{ends_with}
use Rattle.multimap_slots.specs.declared.cells_of.SlotCells.{SlotCells}
use Rattle.multimap_slots.specs.declared.link_form.LinkForm.{Ghosts as Form}
use Rattle.multimap_slots.specs.contracts.cells_of.SlotCells as S-type
use Rattle.multimap_slots.proofs.Lending.Ended.{one_of}
use Rattle.multimap_slots.proofs.Lending.Renamed.{slot_cells_end}
use Rattle.multimap_walks.specs.declared.links.ValueLink.{ValueLink}
use Rattle.multimap_walks.specs.contracts.links.ValueLink as VL-type

abbrev pub returning : ℕ → List (ℕ × ℕ) → Ty → Fn
returning m bs τ = record {
  lifetimes = m;
  outlives = bs;
  ty_params = [];
  givens = 0;
  params = 1;
  locals = local ty_unit value_local ∷ local τ value_local ∷ [];
  body = seq (assign (place 0 []) (rv_opd opd_unit)) return;
}

module _ (a : NamedLft) (V A B : RattleType) (alloc : Ghosts A.Denot) (form : Form B.Denot ValueLink)
    (s : SlotCells V.Denot ValueLink A.Denot B.Denot) where
  abbrev Own : List Val → Fml
  Own = (S-type.the_row a V VL-type.the_row A B alloc form).own_val s

  -- what a walk owns: its cells stand behind two further parts
  pub record HasCells (F : Fml) : Type 1 where
    pub Stored : Type 0
    pub first : Stored → Fml
    pub second : Stored → Fml
    pub others : Stored → Fml
    pub cells : Stored → List Val
    pub is : F ≡ fex Stored (λ i. fsep (first i) (fsep (second i) (fsep (Own (cells i)) (others i))))

  pub has_cells : {F : Fml} (I : Type 0) (P Q T : I → Fml) (us : I → List Val)
      → F ≡ fex I (λ i. fsep (P i) (fsep (Q i) (fsep (Own (us i)) (T i)))) → HasCells F
  has_cells I P Q T us is = record { Stored = I; first = P; second = Q; others = T; cells = us; is = is }

module _ {M : Type 1} {𝓤 : Ura M} (𝓛 : Logic 𝓤) where
  open 𝓛 use {H}

  -- the contract says nothing of what is left of a walk
  pub nothing_left : ent 𝓤 (sem 𝓛 ftrue) (H.⇛ (sem 𝓛 (fsep ftrue (fsep (fsep ftrue (fsep ftrue ftrue)) ftrue))))
  nothing_left = qed 𝓛 (‵ ftrue ∷ []) ∵ updating ! $ nothing ! $ nothing ! $ fjoin ! $ nothing ! $ fjoin ! $ fjoin ! $ nothing ! $
      fjoin ! $ now ! $ done !

  -- of what a walk owns, its cells end
  cells_of_walk_end :
      (a : NamedLft) (V A B : RattleType) (alloc : Ghosts A.Denot) (form : Form B.Denot ValueLink)
      (s : SlotCells V.Denot ValueLink A.Denot B.Denot) {F : Fml}
      → HasCells a V A B alloc form s F → ent 𝓤 (sem 𝓛 F) (H.⇛ (sem 𝓛 (ends_with V s.cells)))
  cells_of_walk_end a V A B alloc form s {F} has = qed 𝓛 (‵ F ∷ []) ∵ rewrite ! 0 (λ (G : Fml). ‵ G) has.is refl $ updating ! $
      fpick ! (λ i. fsplit3 ! $ drop ! $ drop ! $ fsplit ! $
      use1 𝓛 (later (‵ (ends_with V s.cells))) (slot_cells_end 𝓛 a V VL-type.the_row A B alloc form s (has.cells i)) $ await ! tt $ now ! $
      keep ! (0 ∷ []) $ done !)

module _ {M : Type 1} {𝓤 : Ura M} (𝓛 : Logic 𝓤) (𝓜 : Model 𝓤 𝓛.H) (𝓡 : Running 𝓤 𝓛.H 𝓜) (X Y Z W : RattleType) (LX : Laws X) (LY : Laws Y)
    (LZ : Laws Z) (LW : Laws W) (ga : Ghosts Z.Denot) (gf : Form W.Denot ValueLink) (os : List (Outlives 5))
    (row : NamedLft → (K V A B : RattleType) → Form B.Denot ValueLink → Ghosts A.Denot → RattleType) where
  abbrev R : Lfts 5 → RattleType
  R κs = row (named_lft 5 0 tt κs) (param 0 X) (param 1 Y) (param 2 Z) (param 3 W) gf ga

  abbrev Dropped : Ended
  Dropped = record {
    signature = record { lifetimes = 5; outlives = os; params = plain R ∷ []; result = plain (λ κs. unit) };
    kept = (no, tt);
  }

  pub drops :
      ((a : NamedLft) (K V A B : RattleType) (f : Form B.Denot ValueLink) (g : Ghosts A.Denot)
      → Laws K → Laws V → Laws A → Laws B → Laws (row a K V A B f g))
      → Goes 𝓛 5 (plain R) no (stay_dropped (plain R) no) → (c : Clauses 𝓤 Dropped)
      (cells : (κs : Lfts 5) → (R κs).Denot → SlotCells Y.Denot ValueLink Z.Denot W.Denot)
      → ((κs : Lfts 5) (d : (R κs).Denot) (gh : (c κs (d, tt)).ghost) (e : AtExit Dropped κs)
      → (c κs (d, tt)).ensures gh tt e ≡ sem 𝓛 (ends_with (param 1 Y) (cells κs d).cells))
      → ((κs : Lfts 5) (d : (R κs).Denot) (v : Val)
      → HasCells (named_lft 5 0 tt κs) (param 1 Y) (param 2 Z) (param 3 W) ga gf (cells κs d) ((R κs).own_val d (v ∷ [])))
      → (m : ℕ) (bs : List (ℕ × ℕ)) (τ : Ty) {name : Callee} → ((κs : Lfts 5) → (R κs).mir ≡ τ ∷ [])
      → Closed 𝓤 𝓛.H (tables 𝓤 𝓛.H 𝓜 𝓡 𝓡.env).C (tables 𝓤 𝓛.H 𝓜 𝓡 𝓡.env).Λ name (returning m bs τ)
      → Meets 𝓛 Dropped.signature ((tables 𝓤 𝓛.H 𝓜 𝓡 𝓡.env).C name) (closing 𝓛 Dropped c)
  drops laws goes c cells says has m bs τ {name} single closed =
      let H = 𝓛.H in let 𝓣 = tables 𝓤 H 𝓜 𝓡 𝓡.env in let fn = returning m bs τ in
      let of_row : (κs : Lfts 5) → Lawful 𝓛 (R κs) = λ κs. (laws (named_lft 5 0 tt κs) (param 0 X) (param 1 Y) (param 2 Z) (param 3 W) gf ga
      (param_laws 0 X LX) (param_laws 1 Y LY) (param_laws 2 Z LZ) (param_laws 3 W LW)).lawful 𝓛 in
      let hs : Stays Dropped.signature.params Dropped.kept = (stay_dropped (plain R) no, tt) in
      proved_at 𝓛 Dropped hs c 𝓜 𝓡 (goes, tt) name fn closed (λ y are.
      let κs = y.0.0 in let qs = y.0.1 in let d = y.0.3.0 in let It : RattleType = R κs in
      let At : List Val → (walk_of 𝓛 Dropped hs c).Ghost = λ us. ((κs, qs, y.0.2, y.0.3, (us, tt)), y.1) in
      let got = one_of τ y.0.4.0
      (subst (λ (τs : List Ty). Typed τs y.0.4.0) (single κs) ((of_row κs).typed d y.0.4.0 are.0)) in
      let v : Val = got.0 in
      subst (λ (us : List Val). ent 𝓤 ((walk_of 𝓛 Dropped hs c).pre (At us))
      (WpFn 𝓤 H 𝓣.C 𝓣.Λ fn (us ++ []) ((walk_of 𝓛 Dropped hs c).post (At us)))) (sym got.1) (
      let z : (walk_of 𝓛 Dropped hs c).Ghost = At (v ∷ []) in let Post : Val → SProp 𝓤 = (walk_of 𝓛 Dropped hs c).post z in
      let Ensures : SProp 𝓤 = (c κs y.0.3).ensures y.1 tt (at_exit Dropped κs y.0.3 (rest (It.exit no) d, tt)) in
      qed 𝓛 ((raw (alive 𝓛 Dropped.signature κs qs) ⊛ ‵ (It.own_val d (v ∷ [])) ⊛ ‵ ftrue) ∷ raw ((c κs y.0.3).requires y.1) ∷ []) ∵
      split ! $ move ! (2 ∷ []) $ drop ! $ move ! (1 ∷ []) $ split ! $ move ! (1 ∷ []) $ drop ! $
      -- [what is owned of the walk; the tokens]
      enter ! 𝓣.C 𝓣.Λ fn (v ∷ []) Post $ alloc_all ! (λ l. pass_all ! refl (got.2, tt) $
      use1 𝓛 (later (‵ (ends_with (param 1 Y) (cells κs d).cells)))
      (cells_of_walk_end 𝓛 (named_lft 5 0 tt κs) (param 1 Y) (param 2 Z) (param 3 W) ga gf (cells κs d) (has κs d v)) $ await ! tt $
      use1 𝓛 (raw (Ensures)) (subst (λ (P : SProp 𝓤). ent 𝓤 P Ensures)
      (says κs d y.1 (at_exit Dropped κs y.0.3 (rest (It.exit no) d, tt))) (id⊢ 𝓤 Ensures)) $
      sets ! (of_opd ! (unit_lit !)) refl (tt, tt) $ returns ! (look_at ! 0 refl) $ free_all ! refl $
      feq_i ! (List Val) (vunit ∷ []) (vunit ∷ []) refl $ nothing ! $ nothing ! $ fjoin ! $ move ! (3 ∷ 0 ∷ 1 ∷ 2 ∷ []) $
      by ! (leaves 𝓛 Dropped hs c z vunit tt (rest (It.exit no) d, tt) (tt, tt)))))
