-- `lend` holds the map for writing, and opens it. Assumes `Logic`.
-- It shares the keys, and calls `cells_of` with the loan of the values, which lends each of their cells.
-- It gives back the keys to read and these cells; the map is closed late, with what the cells end as.
use mathlib.Core.Path.{◌≡◌, refl, sym, ap, subst, ◌∙◌}
use Prim.Native.Nat.{ℕ, ◌+◌}
use mathlib.Core.List.{List, [], ◌∷◌}
use mir.Syntax.{named, a_type, dcons, dnil}
use mir.MapTy.{inst_fn}
use mir.Val.{Val, vptr, vstruct, vcons, vnil}
use base.Logic.{SProp, ent, sep, emp, id⊢}
use base.Share
use base.Fraction.{full_share}
use base.Fml.{Lft, GName, Fml, ftrue, fsep, flft, fobs, fbor, Incl-trans, Incl-refl}
use ghost.Rules.{aged}
use prog.Memory.{size, align, up}
use types.Logic.{sem}
use types.Kit.{‵, raw, ◌⊛◌, some, later, ◌$◌, ◌∵◌, !, qed, by, move, drop, group, use0, use1, use2, use3, split, split3, join}
use types.Kit.{fsplit, fsplit3, fjoin, fjoin3, fpack, feq_i, pick, await, suffices, frame}
use types.Mut.{open_ref}
use types.SemTy.{Body}
use types.Run.{stop, fld, of_opd, addr, no_more, and_then, returns, enter}
use types.Part.{agg}
use types.ByLocal.{alloc_all, pass_all, free_all, look_at, get, sets, lands_as, through}
use contract.Running.{tables}
use contract.Monad.{fact, fact_i}
use denote.Exit.{no}
use denote.RattleType.{RattleType, Valss}
use denote.Laws.{Is, shows}
use denote.Memory.{mem, part_at, part_of, lone}
use denote.Ref.{MutRef, ShrRef, MutBor, Bor, mut_vals, mut_Tells}
use denote.Follow.{follows}
use denote.Param.{param, bounded}
use denote.Param.Laws.{Laws, param_laws}
use denote.Signature.{plain, named_lft, mut_ref_to}
use denote.Opens.{hide}
use denote.Steps.{nothing, peeks, heard}
use denote.Struct.Struct.{within, as_fields}
use denote.Struct.Members.{Member}
use denote.Struct.Parts.{PartsBack}
use denote.Struct.Pick.{field_out, field_back}
use denote.Model.Fields.{view_owns, view_made, plain_out, Plain-in}
use denote.Triple.Call.{calls_at}
use denote.Triple.Spec.{triple_of}
use denote.Triple.Clauses.{lasts}
use denote.Triple.Table.{framed}
use denote.Triple.Walked.{Stays, stay_dropped, walk_of, ends_at, Goes-spent_ref, says}
use Rattle.std.proofs.raw_atomic.Walks.{proved}
use Rattle.multimap_slots.specs.SlotCells.{cells_name, LendsSlots}
use Rattle.multimap_slots.specs.CellsLends.{with_refilled, with_tape_refilled}
use Rattle.multimap_slots.specs.Tapes.{with_list}
use Rattle.multimap_slots.proofs.Callers.TakenItems.{LendsSlots-renamed}
use Rattle.multimap_slots.proofs.Lending.Renamed.{slot_cells_renamed}
use types.Follow.{after}
use base.Stored.{Gv}
use Rattle.multimap_slots.specs.contracts.cells_of.SlotCells as C-type
use Rattle.multimap_slots.specs.contracts.list.SlotList as L-type
use Rattle.multimap_slots.specs.contracts.tape.Tape as P-type
use Rattle.multimap_slots.proofs.cells_of.SlotCells.TheLaws as C-laws
use Rattle.multimap_slots.proofs.list.SlotList.TheLaws as L-laws
use Rattle.multimap_slots.proofs.tape.Tape.TheLaws as P-laws
use Rattle.multimap_slots.proofs.Lending.Late.{Lents, lends_late, closes_named}
use Rattle.multimap_table.specs.contracts.table.KeyTable as T-type
use Rattle.multimap_table.proofs.table.KeyTable.TheLaws as T-laws
use Rattle.multimap_walks.specs.contracts.links.ChainEnds as E-type
use Rattle.multimap_walks.specs.contracts.links.KeyLink as KL-type
use Rattle.multimap_walks.specs.contracts.links.ValueLink as VL-type
use Rattle.multimap_walks.specs.contracts.packed.PackedLink as PL-type
use Rattle.multimap_walks.specs.contracts.packed.PackedLinkLinkFormValueLink.TheImpl.{ghosts as form}
use Rattle.multimap_walks.proofs.links.ChainEnds.TheLaws as E-laws
use Rattle.multimap_walks.proofs.links.KeyLink.TheLaws as KL-laws
use Rattle.multimap_walks.proofs.links.ValueLink.TheLaws as VL-laws
use Rattle.multimap_walks.proofs.packed.PackedLink.TheLaws as PL-laws
use Rattle.std.specs.Prelude.{Bool, Option, Some}
use Rattle.ordered_multimap.specs.Lists.{lists}
use Rattle.ordered_multimap.specs.Multimap.{Multimap}
use Rattle.ordered_multimap.specs.Agrees.{Agrees, hash_of}
use Rattle.ordered_multimap.specs.ValuesLent.{with_values_of, with_values, with_items, EndsTapeOfValues}
use Rattle.ordered_multimap.specs.contracts.list_ordered_multimap.ListOrderedMultimap as M-type
use Rattle.ordered_multimap.specs.contracts.list_ordered_multimap.ListOrderedMultimap.TheInside as I-type
use Rattle.ordered_multimap.proofs.Loans.Outlived.{told, hears, tells}
use Rattle.ordered_multimap.proofs.Callers.LentValues.{map-ended, revalued_refilled, Agrees-refilled, AreLent-made, around_values}
use Rattle.ordered_multimap.specs.contracts.list_ordered_multimap.lend.cells_of as g
use Rattle.ordered_multimap.proofs.list_ordered_multimap.lend.cells_of.Met.{met}
use Rattle.ordered_multimap.specs.contracts.list_ordered_multimap.ListOrderedMultimap.lend as F
use Rattle.ordered_multimap.specs.contracts.list_ordered_multimap.ListOrderedMultimap.lend.Key.{name as #self}
use Rattle.ordered_multimap.proofs.list_ordered_multimap.ListOrderedMultimap.lend.Statement.{statement}
use Rattle.ordered_multimap.proofs.list_ordered_multimap.ListOrderedMultimap.lend.Code as code

pub lend_spec : {M : Type 1} → statement M
unfolding part_of
lend_spec 𝓤 𝓛 𝓜 𝓡 wired X₀ X₁ X₂ X₃ X₄ L₀ L₁ L₂ L₃ L₄ ge de gp dp gk dk gb db gj dj ga da dA dJ m₁ m₂ m₃ m₄ m₅ m₆ m₇ m₈ =
    let H = 𝓛.H in let 𝓣 = tables 𝓤 H 𝓜 𝓡 𝓡.env in
    let K : RattleType = param 0 X₀ in let V : RattleType = param 1 X₁ in let S : RattleType = param 2 X₂ in
    let A : RattleType = param 3 X₃ in let J : RattleType = param 4 X₄ in
    let KS : RattleType = L-type.the_row K KL-type.the_row A ga in let TS : RattleType = T-type.the_row A ga in
    let VS : RattleType = P-type.the_row V VL-type.the_row A PL-type.the_row ga form in let ES : RattleType = E-type.the_row in
    let R : RattleType = M-type.the_row K V S A J gp gk gb gj ga in let I : RattleType = I-type.the_row K V S A J gp gk gb gj ga in
    let ms : List Member = record { row = S; ty = lone S.mir } ∷ record { row = KS; ty = lone KS.mir }
    ∷ record { row = TS; ty = lone TS.mir } ∷ record { row = VS; ty = lone VS.mir } ∷ record { row = ES; ty = lone ES.mir } ∷ [] in
    let En = F.ended X₀ X₁ X₂ X₃ X₄ ge de gp dp gk dk gb db gj dj ga da dA dJ in
    let inst = bounded (a_type ∷ a_type ∷ a_type ∷ a_type ∷ a_type ∷ []) (X₀, (X₁, (X₂, (X₃, (X₄, tt)))))
    (dcons de (dcons dp (dcons dk (dcons db (dcons dj (dcons da (dcons dA (dcons dJ dnil)))))))) in
    let fn = inst_fn inst code.function in let c = F.clauses X₀ X₁ X₂ X₃ X₄ ge de gp dp gk dk gb db gj dj ga da dA dJ 𝓛 𝓜.mem 𝓡.returns in
    let hs : Stays En.signature.params En.kept = (stay_dropped (mut_ref_to (0 ∷ []) tt (plain (λ _. R))) no, tt) in
    proved 𝓛 En hs c 𝓜 𝓡 (Goes-spent_ref 𝓛 6 (0 ∷ []) tt (plain (λ _. R)), tt) (#self inst) fn
    (code.unfolded 𝓤 H 𝓜 𝓡 wired (X₀, (X₁, (X₂, (X₃, (X₄, tt))))) de dp dk db dj da dA dJ)
    (λ κs. (mut_vals, tt)) (λ κs. (mut_Tells (named 0) κs.0 R, tt)) (λ κs qs bounds a ghost are.
    let view : I.Denot → Multimap K.Denot V.Denot S.Denot = M-type.the_view K V S A J gp gk gb gj ga in let good : I.Denot
    → Type 0 = M-type.the_invariant K V S A J gp gk gb gj ga in
    let PK = param_laws 0 X₀ L₀ in let PV = param_laws 1 X₁ L₁ in let PS = param_laws 2 X₂ L₂ in let PA = param_laws 3 X₃ L₃ in
    let KS-is : Laws KS = L-laws.the_row_laws K KL-type.the_row A ga PK KL-laws.the_row_laws PA in
    let VS-is : Laws VS = P-laws.the_row_laws V VL-type.the_row A PL-type.the_row ga form PV VL-laws.the_row_laws PA PL-laws.the_row_laws in
    let ES-is : Laws ES = E-laws.the_row_laws in
    let TS-is : Laws TS = T-laws.the_row_laws A ga PA in
    let s = a.0.now in let γ : GName = a.0.ghost_name in let κ : Lft = κs.0 in let q = qs.0 in let b : ℕ = a.0.ref_ptr.0 in
    let o : ℕ = a.0.ref_ptr.1 in
    let l = Share.left q in let r = Share.right q in
    let e₁ : ℕ = up (align (lone S.mir)) 0 + size (lone S.mir) in let e₂ : ℕ = up (align (lone KS.mir)) e₁ + size (lone KS.mir) in
    let e₃ : ℕ = up (align (lone TS.mir)) e₂ + size (lone TS.mir) in
    let so : ℕ = o + up (align (lone S.mir)) 0 in let ko : ℕ = o + up (align (lone KS.mir)) e₁ in
    let to : ℕ = o + up (align (lone TS.mir)) e₂ in let vo : ℕ = o + up (align (lone VS.mir)) e₃ in
    let e₄ : ℕ = up (align (lone VS.mir)) e₃ + size (lone VS.mir) in let eo : ℕ = o + up (align (lone ES.mir)) e₄ in
    let Own : I.Denot → Fml = λ t. fsep (part_at S full_share t.state b so)
    (fsep (part_at TS full_share t.table b to) (part_at ES full_share t.left b eo)) in
    let back : (s : Multimap K.Denot V.Denot S.Denot) (t : I.Denot) (items : List (Option V.Denot)) → view t ≡ s → good t
    → ent 𝓤 (sep 𝓤 (sem 𝓛 (part_at VS full_share (with_tape_refilled t.values items) b vo))
    (sep 𝓤 (sem 𝓛 (part_at KS full_share t.keys b ko)) (sep 𝓤 (sem 𝓛 (Own t)) (PartsBack 𝓛 full_share [] ms b o))))
    (sem 𝓛 (part_at R full_share (with_values s items) b o))
    = λ s t items seen ok.
    let v' = with_tape_refilled t.values items in let t' : I.Denot = record t { values = v' } in
    let same = revalued_refilled t.keys t.values.list items in
    qed 𝓛 (‵ (part_at VS full_share v' b vo) ∷ ‵ (part_at KS full_share t.keys b ko) ∷
    (‵ (Own t) ⊛ raw (PartsBack 𝓛 full_share [] ms b o)) ∷ []) ∵
    move ! (2 ∷ []) $ split ! $ fsplit3 ! $ use0 𝓛 (‵ ftrue) (id⊢ 𝓤 (emp 𝓤)) $
    -- [nothing; the state; the table; the ends; the way back; the values; the keys]
    move ! (3 ∷ 0 ∷ []) $ fjoin ! $ move ! (2 ∷ 0 ∷ []) $ fjoin ! $ move ! (4 ∷ 0 ∷ []) $ fjoin ! $ move ! (1 ∷ 0 ∷ []) $ fjoin ! $
    move ! (2 ∷ 0 ∷ 1 ∷ []) $
    use3 𝓛 (‵ (part_at I full_share t' b o)) (field_back 𝓛 full_share [] ms (t.state, (t.keys, (t.table, (v', (t.left, tt))))) b o 3) $
    by ! (Plain-in R I (view_owns I (Multimap K.Denot V.Denot S.Denot) R.coded view good) 𝓛 full_share (with_values s items) t'
    (view_made I (Multimap K.Denot V.Denot S.Denot) R.coded view good 𝓛 (with_values s items) t' (
      (λ j. record (view t) {
        lists = lists (view t).lists.keys (sym same j);
        slots = record
            (view t).slots { values = with_refilled t.values.list items };
      }) ∙ ap (λ h. with_values h items) seen,
      record {
        agrees = Agrees-refilled gp.eq (λ k. hash_of gb gj t.state (gk.hash_input k)) t.keys t.table.rows t.values.list items
            ok.agrees;
        fits = ok.fits;
        paid = ok.paid;
      },
    )) b o) in
    let y : (walk_of 𝓛 En hs c).Ghost = ((κs, qs, bounds, a, (mut_vals a.0, tt)), ghost) in let Post : Val
    → SProp 𝓤 = (walk_of 𝓛 En hs c).post y in
    qed 𝓛 (((‵ (flft κ q) ⊛ ‵ (flft κs.1.0 qs.1.0) ⊛ ‵ (flft κs.1.1.0 qs.1.1.0) ⊛ ‵ (flft κs.1.1.1.0 qs.1.1.1.0) ⊛ ‵
    (flft κs.1.1.1.1.0 qs.1.1.1.1.0) ⊛ ‵ (flft κs.1.1.1.1.1.0 qs.1.1.1.1.1.0) ⊛ ‵ ftrue) ⊛ ‵
    ((MutRef (named 0) κ R).own_val a.0 (mut_vals a.0)) ⊛ ‵ ftrue)
    ∷ told κs.1 K V S A J (‵ ftrue) ∷ []) ∵
    move ! (1 ∷ []) $ hears κs.1 K V S A J ! (λ five.
    split3 ! $ move ! (2 ∷ []) $ drop ! $ split ! $ move ! (2 ∷ []) $ fsplit3 ! $ drop ! $
    -- [obs; the borrow; the token of 'a; the other tokens]
    move ! (2 ∷ []) $ use1 𝓛 (‵ (flft κ l) ⊛ ‵ (flft κ r)) (𝓛.lfts.lft_split κ q) $ split ! $ move ! (2 ∷ 3 ∷ 0 ∷ []) $
    enter ! 𝓣.C 𝓣.Λ fn (vptr b o ∷ []) Post $ alloc_all ! (λ loc. pass_all ! refl ((tt, tt), tt) $
    open_ref ! tt (mem R) {x = s} {b = b} {o = o} $
    use1 𝓛 (some (λ (x : (t : I.Denot) × ((view t ≡ s) × good t)). ‵ (part_at I full_share x.0 b o)))
    (plain_out R I (view_owns I (Multimap K.Denot V.Denot S.Denot) R.coded view good) 𝓛 full_share s b o) $ pick ! (λ x.
    let t : I.Denot = x.0 in let v = t.values in
    let Q : Fml = part_at KS full_share t.keys b ko in let Back : SProp 𝓤 = PartsBack 𝓛 full_share [] ms b o in
    let Rest : SProp 𝓤 = sep 𝓤 (sem 𝓛 (Own t)) Back in
    use1 𝓛 (‵ (part_at VS full_share v b vo) ⊛ (‵ (fsep (part_at S full_share t.state b so)
    (fsep Q (fsep (part_at TS full_share t.table b to) (fsep (part_at ES full_share t.left b eo) ftrue)))) ⊛ raw Back))
    (field_out 𝓛 full_share [] ms (PS.lawful 𝓛, (KS-is.lawful 𝓛, (TS-is.lawful 𝓛, (VS-is.lawful 𝓛, (ES-is.lawful 𝓛, tt)))))
    (t.state, (t.keys, (t.table, (v, (t.left, tt))))) b o 3) $ split3 ! $
    move ! (1 ∷ []) $ fsplit3 ! $ move ! (2 ∷ []) $ fsplit ! $ move ! (1 ∷ []) $ fsplit ! $ move ! (1 ∷ []) $ drop ! $
    -- [the ends; the table; the state; the keys; the values; the way back; the open borrow; obs; auth; half the token; the other tokens]
    move ! (1 ∷ 0 ∷ []) $ fjoin ! $ move ! (1 ∷ 0 ∷ []) $ fjoin ! $ move ! (0 ∷ 3 ∷ []) $ group ! 2 $ use1 𝓛 (raw Rest) (id⊢ 𝓤 _) $
    move ! (3 ∷ 2 ∷ 1 ∷ []) $ group ! 3 $
    use1 𝓛 (later (some (λ (p : ℕ × GName). raw (aged 𝓤 H 𝓛.A p.0 κ l (Body (mem R) b o γ)) ⊛ raw
    (Lents 𝓛 (mem R) (mem VS) κ l b o b vo γ Q p.0 p.1) ⊛ ‵ (fobs p.1 (VS.coded.code v)) ⊛ ‵ (fbor κ (Body (mem VS) b vo p.1)) ⊛ ‵
    (fbor κ Q))))
    (lends_late 𝓛 (mem R) (mem VS) κ l b o b vo γ Q v) $ await ! tt $ pick ! (λ p.
    let n : ℕ = p.0 in let δ : GName = p.1 in
    split3 ! $ move ! (2 ∷ []) $ split3 ! $
    -- [obs δ; the values' borrow; the keys'; the open borrow; the rights; the rest; obs; auth; half the token; the other tokens]
    move ! (2 ∷ 8 ∷ []) $ use2 𝓛 (later (‵ (KS.shr_at t.keys b ko κ) ⊛ ‵ (flft κ r)))
    (KS-is.shares 𝓛 t.keys κ ((κ, r) ∷ []) b ko (L-laws.the_within K KL-type.the_row A ga κ (Incl-trans bounds.0 five.keys)
    (KL-laws.the_within κ) (Incl-trans bounds.1.1.1.0 five.memory)) (Incl-refl κ)) $ await ! tt $ split ! $
    let keys : Bor KS.Denot = record { ref_ptr = (b, ko); now = t.keys } in let KR : RattleType = ShrRef (named 0) κ KS in
    hide ! $ feq_i ! (List Val) (vptr b ko ∷ []) (vptr b ko ∷ []) refl $ fjoin ! $ use1 𝓛 (‵ (KR.own_val keys (vptr b ko ∷ []))) (id⊢ 𝓤 _) $
    -- [the keys; half the token; obs δ; the values' borrow; the open borrow; the rights; the rest; obs; auth; the other tokens]
    move ! (2 ∷ 3 ∷ []) $ feq_i ! (List Val) (vptr b vo ∷ []) (vptr b vo ∷ []) refl $ fjoin3 ! $
    let rv : MutBor VS.Denot = record { ref_ptr = (b, vo); ghost_name = δ; now = v } in
    let G = triple_of 𝓛 (g.signature X₀ X₁ X₂ X₃ X₄ ge de gp dp gk dk gb db gj dj ga da dA dJ)
    (g.spec X₀ X₁ X₂ X₃ X₄ ge de gp dp gk dk gb db gj dj ga da dA dJ 𝓛 𝓜.mem 𝓡.returns) in
    let z : G.Ghost = ((κs, (r, qs.1), (bounds.1.0, (bounds.1.1.1.0, tt)), (rv, tt), (mut_vals rv, tt)), tt) in
    -- [the values; the keys; half the token; the open borrow; the rights; the rest; obs; auth; the other tokens]
    nothing ! $ move ! (1 ∷ 0 ∷ []) $ fjoin ! $ move ! (2 ∷ 8 ∷ []) $ join ! $ join ! $
    nothing ! $ tells κs.1 K V S A J ! five $
    move ! (1 ∷ 0 ∷ []) $ join ! $ use1 𝓛 (raw (G.pre z)) (id⊢ 𝓤 _) $
    sets ! (addr ! (through ! refl (fld ! refl (stop !)))) refl (tt, tt) $
    let a' = named_lft 6 0 tt κs in let CR : RattleType = C-type.the_row a' V VL-type.the_row A PL-type.the_row ga form in
    let CR-is : Laws CR = C-laws.the_row_laws a' V VL-type.the_row A PL-type.the_row ga form PV VL-laws.the_row_laws PA PL-laws.the_row_laws in
    calls_at ! (framed 𝓤 H 𝓜 𝓣) G (met 𝓤 𝓛 𝓜 𝓡 (code.calls-ordered_multimap::list_ordered_multimap::lend::cells_of 𝓡.env wired) X₀ X₁ X₂ X₃
    X₄ L₀ L₁ L₂ L₃ L₄ ge de gp dp gk dk gb db gj dj ga da dA dJ m₁ m₂ m₃ m₄ m₅ m₆ m₇ m₈) z (and_then ! (get ! refl) (no_more !)) (λ u.
    use1 𝓛 (later (some (λ (m : CR.Denot). ((‵ (flft κ r) ⊛ ‵ (flft κs.1.0 qs.1.0) ⊛ ‵ (flft κs.1.1.0 qs.1.1.0) ⊛ ‵
    (flft κs.1.1.1.0 qs.1.1.1.0) ⊛ ‵ (flft κs.1.1.1.1.0 qs.1.1.1.1.0) ⊛ ‵ (flft κs.1.1.1.1.1.0 qs.1.1.1.1.1.0) ⊛ ‵ ftrue) ⊛ ‵
    (CR.own_val m (u ∷ []))) ⊛
    some (λ (ws : Unit {0} × Unit {0}). ‵ (lasts (g.ended X₀ X₁ X₂ X₃ X₄ ge de gp dp gk dk gb db gj dj ga da dA dJ) κs (rv, tt) ws) ⊛
    (‵ (follows VS VS δ (cells_name m) (λ h. with_tape_refilled v h.list.items)) ⊛ raw (fact 𝓤 (LendsSlots v.list m)) ⊛ raw
    (fact 𝓤 (EndsTapeOfValues V v m))))))) (id⊢ 𝓤 _) $
    await ! tt $ pick ! (λ m. split ! $ move ! (1 ∷ []) $
    pick ! (λ ws. split3 ! $ drop ! $ move ! (1 ∷ []) $ split ! $
    heard ! (LendsSlots v.list m) (λ lent. heard ! (EndsTapeOfValues V v m) (λ ended.
    -- [what the values follow; the tokens and the cells; the keys; the open borrow; the rights; the rest; obs; auth]
    move ! (1 ∷ []) $ split ! $ split ! $ move ! (2 ∷ []) $ peeks ! CR (Is CR) (shows 𝓛 CR) m (u ∷ []) (λ is.
    let ok-u = ((CR-is.lawful 𝓛).typed m (u ∷ []) is).0 in let pv : Val = vstruct (vcons u (vcons (vptr b ko) vnil)) in
    lands_as ! refl refl ok-u $
    sets ! (of_opd ! (get ! refl)) refl ok-u $
    sets ! (addr ! (through ! refl (fld ! refl (stop !)))) refl (tt, tt) $
    sets ! (agg ! (and_then ! (get ! refl) (and_then ! (get ! refl) (no_more !)))) refl
    (as_fields (lone CR.mir ∷ lone KR.mir ∷ []) (u ∷ vptr b ko ∷ []) (ok-u, ((tt, tt), tt))) $
    -- [the cells; half the token; the other tokens; what the values follow; the keys; the open borrow; the rights; the rest; obs; auth]
    move ! (5 ∷ 8 ∷ 9 ∷ 6 ∷ 3 ∷ 7 ∷ []) $ group ! 6 $
    use1 𝓛 (later (some (λ (ε : GName). ‵ (flft κ l) ⊛ ‵ (follows R R γ ε (with_values_of s)) ⊛ ‵
    (after (mem R) (mem VS) ε (cells_name m) (λ h. with_items s h.list.items)))))
    (closes_named 𝓛 (mem R) (mem VS) (mem VS) (λ h. with_tape_refilled v h.list.items) (λ h. with_items s h.list.items)
    (with_values_of s) κ l b o b vo γ δ (cells_name m) Q Rest
    (λ h. back s t h.list.items x.1.0 x.1.1) n (R.coded.code s) (R.coded.code s) s) $ await ! tt $ pick ! (λ ε. split3 ! $
    -- [half the token; what the map follows; what its name follows; the cells; the other half; the other tokens; the keys]
    move ! (0 ∷ 4 ∷ []) $ use2 𝓛 (‵ (flft κ q)) (𝓛.lfts.lft_join κ q) $
    let rim : Option (List (Bool × Gv)) = Some (around_values K.coded V.coded S.coded s) in
    let e : CR.Denot = record m { cells = record m.cells { lender_loan = ε; lender_context = rim } } in
    -- [the token of 'a; what the map follows; what its name follows; the cells; the other tokens; the keys]
    move ! (3 ∷ 2 ∷ []) $ use2 𝓛 (‵ (CR.own_val e (u ∷ [])))
    (slot_cells_renamed 𝓛 a' V (mem R) (mem VS) (λ h. with_items s h.list.items)
    (λ ws. with_list v (record v.list { items = ws })) ε rim VL-type.the_row A PL-type.the_row ga form m (u ∷ []) (λ ws. sym (ended ws)) (λ ws. refl)) $
    move ! (0 ∷ 4 ∷ []) $
    returns ! (look_at ! 0 refl) $ free_all ! refl $
    -- [the cells; the keys; the token of 'a; what the map follows; the other tokens]
    nothing ! $ move ! (2 ∷ 0 ∷ []) $ fjoin ! $ move ! (1 ∷ 0 ∷ []) $ fjoin ! $ feq_i ! (List Val) (pv ∷ []) (pv ∷ []) refl $ fjoin ! $
    fpack ! (Valss (CR ∷ KR ∷ [])) (within (record { name = []; args = []; types = []; fields = CR ∷ KR ∷ [] }) (e, (keys, tt)) (pv ∷ []))
    (u ∷ [], (vptr b ko ∷ [], tt)) $
    suffices ! _ (ends_at 𝓛 En hs c y pv (e, keys) (tt, tt) (tt, tt)) $
    nothing ! $ nothing ! $ fjoin ! $ join ! $ move ! (1 ∷ 3 ∷ []) $ join ! $ join ! $ frame ! $ frame ! $
    says ! (record {
      lent = subst (λ r. LendsSlots r e) (ap (λ h. h.slots.values) x.1.0)
          (LendsSlots-renamed ε rim lent);
      pairs = map-ended s (view t) t.table.rows x.1.0 x.1.1.agrees refl;
      ends = λ ws. refl;
    }) $
    by ! (fact_i 𝓤 _ (emp 𝓤) (AreLent-made gp.eq (λ h k. hash_of gb gj h (gk.hash_input k)) s t.keys t.table.rows v.list e
    (subst (λ h. Agrees gp.eq (λ k. hash_of gb gj h (gk.hash_input k)) t.keys t.table.rows v.list)
    (ap (λ h. h.hasher) x.1.0) x.1.1.agrees) (ap (λ h. h.lists) x.1.0) (ap (λ h. h.slots.keys) x.1.0) (ap (λ h. h.slots.values) x.1.0)
    (LendsSlots-renamed ε rim lent)))
    ))))))))
    ))))
