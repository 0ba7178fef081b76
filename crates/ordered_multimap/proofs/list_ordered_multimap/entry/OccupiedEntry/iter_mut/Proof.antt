-- `iter_mut` holds the entry for writing. Assumes `Logic`.
-- It calls `values_mut_at`, with the map lent through the entry's reference.
-- It gives back the values of the key that this call lends; the entry is closed late, with what the map ends as.
use mathlib.Core.Path.{◌≡◌, refl, sym, ap}
use Prim.Native.Nat.{ℕ, ◌+◌}
use native.Mathlib.Omega.{arith}
use mathlib.Core.List.{List, [], ◌∷◌}
use mir.Syntax.{Ty, named, erased, mut, ty_int, ty_ref, w64, a_type, dcons, dnil}
use mir.MapTy.{inst_fn}
use mir.Val.{Val, vptr, vint}
use base.Logic.{SProp, ent, sep, emp, id⊢, guard_i}
use base.Share
use base.Fraction.{full_share}
use base.Fml.{Lft, GName, Fml, ftrue, fsep, fat, flft, fobs, fbor, flent}
use ghost.Rules.{aged}
use base.Stored.{Gv, coded×, coded_ℕ}
use mathlib.Core.Bool.{Bool, true, false}
use denote.Struct.Struct.{codeds}
use prog.Memory.{size, align, up}
use types.Logic.{sem}
use types.Kit.{‵, raw, ◌⊛◌, some, later, ◌$◌, ◌∵◌, !, qed, by, move, drop, group, use0, use1, use2, split, split3, join}
use types.Kit.{fsplit, fsplit3, fjoin, fjoin3, feq_i, feq_l, rewrite, pick, await, suffices, frame, done}
use types.Follow.{after}
use types.Late.{deep, ages, aged_up, bor_new_deep}
use types.Mut.{open_ref}
use types.SemTy.{SemTy, Body}
use types.Through.{lends_late}
use types.Run.{stop, fld, hop, look, load, of_opd, addr, no_more, and_then, returns, enter, well_typed}
use types.ByLocal.{alloc_all, pass_all, free_all, look_at, get, sets, lands_as, through}
use contract.Running.{tables}
use contract.Monad.{fact, fact_i}
use contract.Lifetimes.{Lfts}
use borrow.Table.OneValue.{part_out_at, part_in_at}
use denote.Builtin.{usize}
use denote.Exit.{no}
use denote.RattleType.{RattleType}
use denote.Laws.{Is, shows}
use denote.Memory.{mem, part_at, part_of, lone, pointee}
use denote.Plain.{uint_in, uint_out, uint_Makes, uint_vals, uint_Lawful}
use denote.Ref.{MutRef, MutBor, at_last, mut_vals, mut_Tells, mut_Lawful}
use denote.Follow.{follows}
use denote.Param.{param, bounded}
use denote.Param.Laws.{Laws, param_laws}
use denote.Signature.{plain, named_lft, mut_ref_to}
use denote.Steps.{nothing, owned, peeks, heard, only}
use denote.Struct.Members.{Member}
use denote.Struct.Parts.{PartsBack}
use denote.Struct.Pick.{field_out, field_back}
use denote.Triple.Call.{calls_at}
use denote.Triple.Spec.{triple_of}
use denote.Triple.Clauses.{lasts}
use denote.Triple.Table.{framed}
use denote.Triple.Walked.{Stays, stay_dropped, walk_of, ends_at, Goes-spent_ref}
use Rattle.std.proofs.raw_atomic.Walks.{proved}
use Rattle.std.proofs.Math.Logic.{∥∥₁_map}
use Rattle.multimap_slots.specs.Lists.{IsIn}
use Rattle.std.specs.Prelude.{Option, Some}
use Rattle.multimap_slots.proofs.Callers.TakenItems.{LendsSlots-renamed}
use Rattle.multimap_slots.proofs.Lending.Late.{closes_named}
use Rattle.multimap_walks.specs.RestWalk.{CanReadChain}
use Rattle.multimap_walks.specs.WritingWalk.{entry_values_mut_values, entry_values_mut_name, entry_values_mut_rest}
use Rattle.multimap_walks.specs.WritingWalk.{entry_values_mut_positions}
use Rattle.multimap_walks.specs.contracts.packed.PackedLink as PL-type
use Rattle.multimap_walks.proofs.packed.PackedLink.TheLaws as PL-laws
use Rattle.multimap_walks.specs.contracts.packed.PackedLinkLinkFormValueLink.TheImpl.{ghosts as form}
use Rattle.multimap_walks.specs.contracts.writing.chain.EntryValuesMut as W-type
use Rattle.multimap_walks.proofs.writing.chain.EntryValuesMut.TheLaws as W-laws
use Rattle.ordered_multimap.specs.ValueCells.{ValueCells}
use Rattle.ordered_multimap.specs.Agrees.{HasKey}
use Rattle.ordered_multimap.specs.Entries.{with_entry_items, with_map_values}
use Rattle.ordered_multimap.specs.EntryLends.{EndsEntry}
use Rattle.ordered_multimap.specs.Pairs.{positions_of, values_of}
use Rattle.ordered_multimap.specs.ValuesLent.{with_items, with_values_of, EndsMap}
use Rattle.ordered_multimap.specs.contracts.list_ordered_multimap.ListOrderedMultimap as M-type
use Rattle.ordered_multimap.specs.contracts.list_ordered_multimap.entry.OccupiedEntry as E-type
use Rattle.ordered_multimap.proofs.Loans.Outlived.{told, hears, tells, states}
use Rattle.ordered_multimap.proofs.Loans.WalkRenamed.{entry_values_renamed}
use Rattle.ordered_multimap.proofs.Remove.ValueByValue.{in_among}
use Rattle.ordered_multimap.specs.contracts.list_ordered_multimap.ListOrderedMultimap.values_mut_at as g
use Rattle.ordered_multimap.proofs.list_ordered_multimap.ListOrderedMultimap.values_mut_at.Met.{met}
use Rattle.ordered_multimap.specs.contracts.list_ordered_multimap.entry.OccupiedEntry.iter_mut as F
use Rattle.ordered_multimap.specs.contracts.list_ordered_multimap.entry.OccupiedEntry.iter_mut.Key.{name as #self}
use Rattle.ordered_multimap.proofs.Callers.LentValues.{around_values}
use Rattle.ordered_multimap.proofs.list_ordered_multimap.entry.OccupiedEntry.iter_mut.Statement.{statement}
use Rattle.ordered_multimap.proofs.list_ordered_multimap.entry.OccupiedEntry.iter_mut.Code as code

pub iter_mut_spec : {M : Type 1} → statement M
unfolding part_of
iter_mut_spec 𝓤 𝓛 𝓜 𝓡 wired X₀ X₁ X₂ X₃ X₄ L₀ L₁ L₂ L₃ L₄ ge de gp dp gk dk gb db gj dj ga da dA dJ m₁ m₂ m₃ m₄ m₅ m₆ m₇ m₈ =
    let H = 𝓛.H in let A = 𝓛.A in let 𝓣 = tables 𝓤 H 𝓜 𝓡 𝓡.env in
    let K : RattleType = param 0 X₀ in let V : RattleType = param 1 X₁ in let S : RattleType = param 2 X₂ in
    let B : RattleType = param 3 X₃ in let J : RattleType = param 4 X₄ in
    let R : RattleType = M-type.the_row K V S B J gp gk gb gj ga in
    let En = F.ended X₀ X₁ X₂ X₃ X₄ ge de gp dp gk dk gb db gj dj ga da dA dJ in
    let inst = bounded (a_type ∷ a_type ∷ a_type ∷ a_type ∷ a_type ∷ []) (X₀, (X₁, (X₂, (X₃, (X₄, tt)))))
    (dcons de (dcons dp (dcons dk (dcons db (dcons dj (dcons da (dcons dA (dcons dJ dnil)))))))) in
    let fn = inst_fn inst code.function in let c = F.clauses X₀ X₁ X₂ X₃ X₄ ge de gp dp gk dk gb db gj dj ga da dA dJ 𝓛 𝓜.mem 𝓡.returns in
    let hs : Stays En.signature.params En.kept = (
      stay_dropped
          (mut_ref_to (0 ∷ []) tt (plain (λ κs. E-type.the_row (named_lft 7 1 tt κs) K V S B J gp gk gb gj ga))) no,
      tt,
    ) in
    proved 𝓛 En hs c 𝓜 𝓡 (Goes-spent_ref 𝓛 7 (0 ∷ []) tt (plain (λ κs. E-type.the_row (named_lft 7 1 tt κs) K V S B J gp gk gb gj ga)), tt)
    (#self inst) fn (code.unfolded 𝓤 H 𝓜 𝓡 wired (X₀, (X₁, (X₂, (X₃, (X₄, tt))))) de dp dk db dj da dA dJ)
    (λ κs. (mut_vals, tt)) (λ κs. (mut_Tells (named 0) κs.0 (E-type.the_row (named_lft 7 1 tt κs) K V S B J gp gk gb gj ga), tt))
    (λ κs qs bounds a ghost are.
    let κ : Lft = κs.0 in let κ' : Lft = κs.1.0 in let q = qs.0 in let q' = qs.1.0 in let l = Share.left q in let r = Share.right q in
    let E : RattleType = E-type.the_row (named_lft 7 1 tt κs) K V S B J gp gk gb gj ga in let MR : RattleType = MutRef (named 1) κ' R in
    let ms : List Member = record { row = MR; ty = lone MR.mir } ∷ record { row = usize; ty = lone usize.mir } ∷
    record { row = usize; ty = lone usize.mir } ∷ [] in
    let s : E.Denot = a.0.now in let γ : GName = a.0.ghost_name in let b : ℕ = a.0.ref_ptr.0 in let o : ℕ = a.0.ref_ptr.1 in
    let m : MutBor R.Denot = s.map in let mb : ℕ = m.ref_ptr.0 in let mo : ℕ = m.ref_ptr.1 in let δ : GName = m.ghost_name in
    let e₁ : ℕ = up (align (lone MR.mir)) 0 + size (lone MR.mir) in let ro : ℕ = o + up (align (lone MR.mir)) 0 in
    let po : ℕ = o + up (align (lone usize.mir)) e₁ in let e₂ : ℕ = up (align (lone usize.mir)) e₁ + size (lone usize.mir) in
    let fo : ℕ = o + up (align (lone usize.mir)) e₂ in
    let τ : Ty = ty_ref erased mut (pointee R.written) in let place : Val = vint w64 s.place in
    let Cell : Fml = fat full_share τ b ro (vptr mb mo) in let Place : Fml = fat full_share (ty_int w64) b po place in
    -- the first value's place: it isn't read, and goes along with the way back
    let First : Fml = fsep (part_at usize full_share s.first b fo) ftrue in let Back : SProp 𝓤 = PartsBack 𝓛 full_share [] ms b o in
    let Rest : SProp 𝓤 = sep 𝓤 (sem 𝓛 Place) (sep 𝓤 (sem 𝓛 First) Back) in
    -- the entry's reference, as a place where its map lies
    let Seen : SemTy = record {
      rep = R.Denot;
      coded = R.coded;
      size = size (lone MR.mir);
      own_at = λ w b' o'. part_at MR full_share
          (at_last m w) b' o';
    } in
    let given_back : (w : R.Denot) → ent 𝓤 (sep 𝓤 (A.obs δ (R.coded.code w)) (sep 𝓤 (A.bor κ' (Body (mem R) mb mo δ)) (sem 𝓛 Cell)))
    (sem 𝓛 (part_at MR full_share (at_last m w) b ro))
    = λ w. qed 𝓛 (‵ (fobs δ (R.coded.code w)) ∷ ‵ (fbor κ' (Body (mem R) mb mo δ)) ∷ ‵ Cell ∷ []) ∵
    feq_i ! (List Val) (mut_vals m) (mut_vals m) refl $ fjoin3 ! $ move ! (1 ∷ 0 ∷ []) $
    by ! (part_in_at 𝓛 MR refl full_share (at_last m w) b ro τ refl (vptr mb mo)) in
    let back : (w : R.Denot) → ent 𝓤 (sep 𝓤 (sem 𝓛 (part_at MR full_share (at_last m (with_values_of m.now w)) b ro))
    (sep 𝓤 (sem 𝓛 ftrue) Rest)) (sem 𝓛 (part_at E full_share (with_map_values s w) b o))
    = λ w. qed 𝓛 (‵ (part_at MR full_share (at_last m (with_values_of m.now w)) b ro) ∷ ‵ ftrue ∷ (‵ Place ⊛ ‵ First ⊛ raw Back) ∷ []) ∵
    move ! (2 ∷ []) $ split3 ! $ use1 𝓛 (‵ (part_at usize full_share s.place b po)) (uint_in 𝓛 full_share w64 s.place b po) $
    -- [the place; the first value's place; the way back; the reference; true]
    fjoin ! $ move ! (3 ∷ []) $ drop ! $ move ! (2 ∷ 0 ∷ []) $
    by ! (field_back 𝓛 full_share [] ms (at_last m (with_values_of m.now w), (s.place, (s.first, tt))) b o 0) in
    let y : (walk_of 𝓛 En hs c).Ghost = ((κs, qs, bounds, a, (mut_vals a.0, tt)), ghost) in let Post : Val
    → SProp 𝓤 = (walk_of 𝓛 En hs c).post y in
    qed 𝓛 (((‵ (flft κ q) ⊛ ‵ (flft κ' q') ⊛ ‵ (flft κs.1.1.0 qs.1.1.0) ⊛ ‵ (flft κs.1.1.1.0 qs.1.1.1.0) ⊛ ‵
    (flft κs.1.1.1.1.0 qs.1.1.1.1.0) ⊛ ‵ (flft κs.1.1.1.1.1.0 qs.1.1.1.1.1.0) ⊛ ‵ (flft κs.1.1.1.1.1.1.0 qs.1.1.1.1.1.1.0) ⊛ ‵ ftrue) ⊛
    ‵ ((MutRef (named 0) κ E).own_val a.0 (mut_vals a.0)) ⊛ ‵ ftrue)
    ∷ told κs.1.1 K V S B J (‵ ftrue) ∷ []) ∵
    move ! (1 ∷ []) $ hears κs.1.1 K V S B J ! (λ five.
    split3 ! $ move ! (2 ∷ []) $ drop ! $ split ! $ move ! (2 ∷ []) $ fsplit3 ! $ drop ! $
    -- [obs; the borrow; the token of 'a; the other tokens]
    move ! (2 ∷ []) $ use1 𝓛 (‵ (flft κ l) ⊛ ‵ (flft κ r)) (𝓛.lfts.lft_split κ q) $ split ! $ move ! (2 ∷ 3 ∷ 0 ∷ []) $
    enter ! 𝓣.C 𝓣.Λ fn (vptr b o ∷ []) Post $ alloc_all ! (λ loc. pass_all ! refl ((tt, tt), tt) $
    open_ref ! tt (mem E) {x = s} {b = b} {o = o} $ move ! (1 ∷ []) $ ages ! (λ n. move ! (1 ∷ []) $
    -- [the entry; the open borrow; obs; auth; half the token; the other tokens]
    use1 𝓛 (‵ (part_at MR full_share m b ro) ⊛ (‵ (fsep (part_at usize full_share s.place b po) First) ⊛ raw Back))
    (field_out 𝓛 full_share [] ms (mut_Lawful 𝓛 (named 1) κ' R, (uint_Lawful 𝓛 w64, (uint_Lawful 𝓛 w64, tt))) (m, (s.place, (s.first, tt)))
    b o 0) $ split3 ! $ move ! (1 ∷ []) $ fsplit ! $
    -- [the place; the first value's place; the reference; the way back; the open borrow; obs; auth; half the token; the other tokens]
    move ! (1 ∷ 3 ∷ []) $ join ! $ move ! (1 ∷ 2 ∷ []) $
    use1 𝓛 (‵ Place) (uint_out 𝓛 full_share w64 s.place b po) $ well_typed ! (λ ok.
    sets ! (of_opd ! (load ! (through ! refl (fld ! refl (stop !))) (look ! 0 refl))) refl ok $
    -- [the place; the reference; the way back; the open borrow; obs; auth; half the token; the other tokens]
    move ! (1 ∷ []) $ use1 𝓛 (some (λ (v : Val). ‵ (fat full_share τ b ro v) ⊛ ‵ (MR.own_val m (v ∷ []))))
    (part_out_at 𝓛 MR refl full_share m b ro τ refl) $
    pick ! (λ v. split ! $ move ! (1 ∷ []) $ fsplit3 ! $
    feq_l ! (λ ev. rewrite ! 2 (λ (u : Val). ‵ (fat full_share τ b ro u)) (ap only ev) refl $
    sets ! (addr ! (through ! refl (fld ! refl (hop ! (look ! 2 refl) (stop !))))) refl (tt, tt) $
    -- [obs δ; the map's borrow; its cell; the place; the way back; the open borrow; obs; auth; half the token; the other tokens]
    move ! (9 ∷ []) $ split ! $ move ! (2 ∷ 3 ∷ 0 ∷ 4 ∷ []) $ group ! 4 $
    use1 𝓛 (later (some (λ (z : GName × ℕ). ‵ (fobs z.0 (R.coded.code m.now)) ⊛ ‵ (fbor κ (Body (mem R) mb mo z.0)) ⊛ ‵ (flft κ' q') ⊛ ‵
    (flent (deep (n + z.1) κ) (Body Seen b ro z.0)))))
    (lends_late 𝓛 Seen (mem R) (λ w. w) κ κ' bounds.0 b ro mb mo γ δ (sem 𝓛 Cell) (λ _. Unit {0})
    (λ w. guard_i 𝓤 (Unit {0}) (sem 𝓛 ((mem R).own_at w mb mo)) tt) (λ w _. given_back w) n q' m.now) $
    await ! tt $ pick ! (λ z. let k : ℕ = n + z.1 in let ε₀ : GName = z.0 in
    let rv : MutBor R.Denot = record { ref_ptr = (mb, mo); ghost_name = ε₀; now = m.now } in
    split3 ! $ feq_i ! (List Val) (mut_vals rv) (mut_vals rv) refl $ fjoin3 ! $ move ! (1 ∷ []) $ split ! $
    use0 𝓛 (‵ ftrue) (id⊢ 𝓤 (emp 𝓤)) $ bor_new_deep ! tt k κ $ drop ! $
    -- [the right to nothing; the token of 'map; the right to the reference; the map; the tokens of the types; the place; the way back; the
    -- open borrow; obs; auth; half the token]
    move ! (7 ∷ []) $ use1 𝓛 (raw (aged 𝓤 H A k κ l (Body (mem E) b o γ))) (aged_up 𝓛 n k κ l (Body (mem E) b o γ) (omega arith)) $
    move ! (4 ∷ 5 ∷ 2 ∷ 3 ∷ 1 ∷ 6 ∷ 7 ∷ 0 ∷ []) $
    -- [the map; the tokens of the types; the token of 'map; the right to the reference; the right to nothing; the place; the way back; the
    -- open borrow; obs; auth; half the token]
    let G = triple_of 𝓛 (g.signature X₀ X₁ X₂ X₃ X₄ ge de gp dp gk dk gb db gj dj ga da dA dJ)
    (g.spec X₀ X₁ X₂ X₃ X₄ ge de gp dp gk dk gb db gj dj ga da dA dJ 𝓛 𝓜.mem 𝓡.returns) in
    let listed : IsIn s.place m.now.slots.keys.order = in_among m.now.slots.keys.order s.place s.listed in
    let κt : Lfts 6 = (κ, κs.1.1) in
    let zc : G.Ghost = (
      (
        κt,
        (r, qs.1.1),
        (bounds.1.0, (bounds.1.1.0, (bounds.1.1.1.0, (bounds.1.1.1.1.0, tt)))),
        (rv, (s.place, tt)),
        (mut_vals rv, (uint_vals w64 s.place, tt)),
      ),
      tt,
    ) in
    owned ! usize (Is usize) (uint_Makes 𝓛 w64) s.place (place ∷ []) (refl, ok.1.fits) $ nothing ! $ move ! (1 ∷ 0 ∷ []) $ fjoin ! $
    move ! (1 ∷ 0 ∷ []) $ fjoin ! $
    -- [the arguments; the tokens of the types; ..]
    move ! (10 ∷ 1 ∷ []) $ join ! $ join ! $
    states ! (IsIn s.place m.now.slots.keys.order) listed $ tells κs.1.1 K V S B J ! five $
    move ! (1 ∷ 0 ∷ []) $ join ! $ use1 𝓛 (raw (G.pre zc)) (id⊢ 𝓤 _) $
    let a' = named_lft 6 0 tt κt in let CR : RattleType = W-type.the_row a' K V B PL-type.the_row form ga in
    let CR-is : Laws CR = W-laws.the_row_laws a' K V B PL-type.the_row form ga (param_laws 0 X₀ L₀) (param_laws 1 X₁ L₁) (param_laws 3 X₃ L₃)
    PL-laws.the_row_laws in
    let Ends : CR.Denot → Type 0 = λ w. EndsEntry K V S B J ga s (entry_values_mut_values w) in
    let Values : CR.Denot → Type 0 = λ w. (key : K.Denot) → HasKey gp.eq m.now.slots.keys key s.place
    → entry_values_mut_rest w ≡ values_of gp.eq m.now.lists.pairs key in
    let Positions : CR.Denot → Type 0 = λ w. (key : K.Denot) → HasKey gp.eq m.now.slots.keys key s.place
    → entry_values_mut_positions w ≡ positions_of gp.eq m.now.lists.pairs key in
    let Ended : CR.Denot → Type 0 = λ w. EndsMap K V S m.now (entry_values_mut_values w) in
    calls_at ! (framed 𝓤 H 𝓜 𝓣) G (met 𝓤 𝓛 𝓜 𝓡 (code.calls-ordered_multimap::list_ordered_multimap::ListOrderedMultimap::values_mut_at 𝓡.env
    wired) X₀ X₁ X₂ X₃ X₄ L₀ L₁ L₂ L₃ L₄ ge de gp dp gk dk gb db gj dj ga da dA dJ m₁ m₂ m₃ m₄ m₅ m₆ m₇ m₈) zc
    (and_then ! (get ! refl) (and_then ! (get ! refl) (no_more !))) (λ u.
    use1 𝓛 (later (some (λ (w : CR.Denot). ((‵ (flft κ r) ⊛ ‵ (flft κs.1.1.0 qs.1.1.0) ⊛ ‵ (flft κs.1.1.1.0 qs.1.1.1.0) ⊛ ‵
    (flft κs.1.1.1.1.0 qs.1.1.1.1.0) ⊛ ‵ (flft κs.1.1.1.1.1.0 qs.1.1.1.1.1.0) ⊛ ‵ (flft κs.1.1.1.1.1.1.0 qs.1.1.1.1.1.1.0) ⊛ ‵ ftrue) ⊛
    ‵ (CR.own_val w (u ∷ []))) ⊛
    some (λ (ws : Unit {0} × (Unit {0} × Unit {0})). ‵
    (lasts (g.ended X₀ X₁ X₂ X₃ X₄ ge de gp dp gk dk gb db gj dj ga da dA dJ) κt (rv, (s.place, tt)) ws) ⊛
    (‵ (follows R R ε₀ (entry_values_mut_name w) (with_values_of m.now)) ⊛
    (raw (fact 𝓤 (Values w)) ⊛ raw (fact 𝓤 (Positions w)) ⊛ raw (fact 𝓤 (Ended w)))))))) (id⊢ 𝓤 _) $
    await ! tt $ pick ! (λ w. split ! $ move ! (1 ∷ []) $
    pick ! (λ ws. split3 ! $ drop ! $ move ! (1 ∷ []) $ split3 ! $
    heard ! (Values w) (λ values. heard ! (Positions w) (λ positions. heard ! (Ended w) (λ ended.
    -- [what the map follows; the tokens and the walk; the token of 'map; the right to the reference; the right to nothing; the place; the
    -- way back; the open borrow; obs; auth]
    move ! (1 ∷ []) $ split ! $ split ! $ move ! (2 ∷ []) $ peeks ! CR (Is CR) (shows 𝓛 CR) w (u ∷ []) (λ is.
    let ok-u = ((CR-is.lawful 𝓛).typed w (u ∷ []) is).0 in
    lands_as ! refl refl ok-u $
    -- [the walk; half the token; the tokens of the types; what the map follows; the token of 'map; the right to the reference; the right to
    -- nothing; the place; the way back; the open borrow; obs; auth]
    move ! (7 ∷ 8 ∷ []) $ join ! $ move ! (6 ∷ 7 ∷ []) $ join ! $
    -- [the rights; the rest; the walk; half the token; the tokens of the types; what the map follows; the token of 'map; the open borrow;
    -- obs; auth]
    move ! (7 ∷ 8 ∷ 9 ∷ 0 ∷ 5 ∷ 1 ∷ []) $ group ! 6 $
    use1 𝓛 (later (some (λ (ε : GName). ‵ (flft κ l) ⊛ ‵ (follows E E γ ε (λ h. with_map_values s h.map.now)) ⊛ ‵
    (after (mem E) (mem R) ε (entry_values_mut_name w) (λ n. with_entry_items s n.slots.values.items)))))
    (closes_named 𝓛 (mem E) Seen (mem R) (with_values_of m.now) (λ n. with_entry_items s n.slots.values.items)
    (λ h. with_map_values s h.map.now) κ l b o b ro γ ε₀ (entry_values_mut_name w) ftrue Rest back k (E.coded.code s)
    (E.coded.code s) s) $
    await ! tt $ pick ! (λ ε. split3 ! $
    -- [half the token; what the entry follows; what its name follows; the walk; the other half; the tokens of the types; the token of 'map]
    move ! (0 ∷ 4 ∷ []) $ use2 𝓛 (‵ (flft κ q)) (𝓛.lfts.lft_join κ q) $ move ! (5 ∷ 4 ∷ []) $ join ! $
    -- [the other tokens; the token of 'a; what the entry follows; what its name follows; the walk]
    let rim : Option (List (Bool × Gv)) = Some ((false, (codeds (usize ∷ usize ∷ [])).code (s.place, (s.first, tt))) ∷
    (true, (coded× coded_ℕ coded_ℕ).code m.ref_ptr) ∷ (true, coded_ℕ.code δ) ∷ around_values K.coded V.coded S.coded m.now) in
    let lent : ValueCells V.Denot B.Denot = record w.values { cells = record w.values.cells { lender_loan = ε; lender_context = rim } } in
    let again : CanReadChain w.values w.left → CanReadChain lent w.left
    = λ left. record {
      chain = left.chain;
      untaken = record {
        distinct = left.untaken.distinct;
        each = λ p
            i. record {
              listed = (left.untaken.each p i).listed;
              filled = (left.untaken.each p i).filled;
              untaken =
                  (left.untaken.each p i).untaken;
            };
      };
    } in
    let e : CR.Denot = record w { values = lent; readable = ∥∥₁_map w.readable again } in
    move ! (4 ∷ 3 ∷ []) $ use2 𝓛 (‵ (CR.own_val e (u ∷ [])))
    (entry_values_renamed 𝓛 a' K V B ga (mem E) (mem R) (λ n. with_entry_items s n.slots.values.items)
    (λ ws. with_items m.now ws) ε rim w (u ∷ []) (∥∥₁_map w.readable again) (λ ws. sym (ended.ends ws)) (λ ws. refl)) $
    move ! (0 ∷ 2 ∷ 3 ∷ 1 ∷ []) $
    returns ! (look_at ! 0 refl) $ free_all ! refl $
    -- [the walk; the token of 'a; what the entry follows; the other tokens]
    suffices ! _ (ends_at 𝓛 En hs c y u e (tt, tt) (tt, tt)) $
    nothing ! $ nothing ! $ fjoin ! $ join ! $ move ! (1 ∷ 3 ∷ []) $ join ! $ join ! $ frame ! $
    use0 𝓛 (raw (fact 𝓤 (Ends e))) (fact_i 𝓤 (Ends e) (emp 𝓤)
    (record { lent = LendsSlots-renamed ε rim ended.lent; pairs = ended.pairs; ends = λ ws. refl })) $
    use0 𝓛 (raw (fact 𝓤 (Positions e))) (fact_i 𝓤 (Positions e) (emp 𝓤) positions) $ join ! $
    use0 𝓛 (raw (fact 𝓤 (Values e))) (fact_i 𝓤 (Values e) (emp 𝓤) values) $ join ! $ move ! (1 ∷ 0 ∷ []) $ done !
    )))))))
    )))))))
    ))
