-- `lend_at` holds the walk for writing, and the place of a key. Assumes `Logic`.
-- It calls `key_values_mut_at`, with the map lent through the walk's reference.
-- It gives back what that call lends of the key and its values; the walk is closed late, with what the map ends as.
use mathlib.Core.Path.{◌≡◌, refl, sym, ap}
use Prim.Native.Nat.{ℕ, ◌+◌}
use native.Mathlib.Omega.{arith}
use mathlib.Core.List.{List, [], ◌∷◌}
use mir.Syntax.{Ty, named, erased, mut, ty_ref, w64, a_type, dcons, dnil}
use mir.MapTy.{inst_fn}
use mir.Val.{Val, vptr}
use base.Logic.{SProp, ent, sep, emp, id⊢, guard_i}
use base.Share
use base.Fraction.{full_share}
use base.Fml.{Lft, GName, Fml, ftrue, fsep, fat, flft, fobs, fbor, flent}
use ghost.Rules.{aged}
use base.Stored.{Gv, coded×, coded_ℕ}
use mathlib.Core.Bool.{Bool, true, false}
use denote.Struct.Struct.{codeds}
use prog.Memory.{size, align, up}
use types.Logic.{sem}
use types.Kit.{‵, raw, ◌⊛◌, some, later, ◌$◌, ◌∵◌, !, qed, by, move, keep, drop, group, use0, use1, use2, split, split3, join}
use types.Kit.{fsplit, fsplit3, fjoin, fjoin3, feq_i, feq_l, rewrite, pick, await}
use types.Follow.{after}
use types.Late.{deep, ages, aged_up, bor_new_deep}
use types.Mut.{open_ref}
use types.SemTy.{SemTy, Body}
use types.Through.{lends_late}
use types.Run.{stop, fld, hop, look, addr, no_more, and_then, returns, enter}
use types.ByLocal.{alloc_all, pass_all, free_all, look_at, get, sets, lands_as, through}
use contract.Running.{tables}
use contract.Monad.{fact, fact_i}
use contract.Lifetimes.{Lfts}
use borrow.Table.OneValue.{part_out_at, part_in_at}
use denote.Builtin.{usize}
use denote.Exit.{no, yes}
use denote.RattleType.{RattleType}
use denote.Laws.{Is}
use denote.Memory.{mem, part_at, part_of, lone, pointee}
use denote.Plain.{uint_Makes, uint_vals, uint_Tells, uint_Lawful}
use denote.Ref.{MutRef, ShrRef, MutBor, at_last, mut_vals, mut_Tells, mut_Lawful, shr_Lawful}
use denote.Follow.{follows}
use denote.Param.{param, layout, bounded}
use denote.Param.Laws.{Laws, param_laws}
use denote.Signature.{plain, named_lft, mut_ref_to}
use denote.Steps.{nothing, owned, heard, only}
use denote.Struct.Members.{Member}
use denote.Struct.Tuple.{Tuple}
use denote.Struct.Parts.{PartsBack}
use denote.Struct.Pick.{field_out, field_back}
use denote.Triple.Call.{calls_at}
use denote.Triple.Spec.{triple_of}
use denote.Triple.Clauses.{lasts}
use denote.Triple.Table.{framed}
use denote.Triple.Walked.{Stays, stay_dropped, walk_of, Goes-spent_ref, Goes-dropped}
use Rattle.std.proofs.raw_atomic.Walks.{proved, leaves}
use Rattle.std.proofs.Math.Logic.{∥∥₁_map}
use Rattle.std.specs.Prelude.{Option, Some}
use Rattle.multimap_slots.specs.Lists.{IsIn}
use Rattle.multimap_slots.specs.Slots.{item_at}
use Rattle.multimap_slots.proofs.Callers.TakenItems.{LendsSlots-renamed}
use Rattle.multimap_slots.proofs.Lending.Late.{closes_named}
use Rattle.multimap_walks.specs.RestWalk.{CanReadChain}
use Rattle.multimap_walks.specs.WritingWalk.{entry_values_mut_values, entry_values_mut_name, entry_values_mut_rest}
use Rattle.multimap_walks.specs.WritingWalk.{entry_values_mut_positions}
use Rattle.multimap_walks.specs.contracts.links.ChainEnds as C-type
use Rattle.multimap_walks.proofs.links.ChainEnds.TheLaws as C-laws
use Rattle.multimap_walks.specs.contracts.packed.PackedLink as PL-type
use Rattle.multimap_walks.proofs.packed.PackedLink.TheLaws as PL-laws
use Rattle.multimap_walks.specs.contracts.packed.PackedLinkLinkFormValueLink.TheImpl.{ghosts as form}
use Rattle.multimap_walks.specs.contracts.writing.chain.EntryValuesMut as W-type
use Rattle.multimap_walks.proofs.writing.chain.EntryValuesMut.TheLaws as W-laws
use Rattle.ordered_multimap.specs.ValueCells.{ValueCells}
use Rattle.ordered_multimap.specs.Agrees.{HasKey}
use Rattle.ordered_multimap.proofs.Loans.Outlived.{told, hears_with, tells, states}
use Rattle.ordered_multimap.proofs.Callers.PairsByValue.{both, both_typed, pair_out, pair_in}
use Rattle.ordered_multimap.specs.WalkLends.{EndsWalk, with_walk_items, with_walk_values}
use Rattle.ordered_multimap.specs.Pairs.{positions_of, values_of}
use Rattle.ordered_multimap.specs.ValuesLent.{with_items, with_values_of, EndsMap}
use Rattle.ordered_multimap.specs.contracts.list_ordered_multimap.ListOrderedMultimap as M-type
use Rattle.ordered_multimap.specs.contracts.list_ordered_multimap.key_values_mut.KeyValuesMut as E-type
use Rattle.ordered_multimap.proofs.Loans.WalkRenamed.{entry_values_renamed}
use Rattle.ordered_multimap.specs.contracts.list_ordered_multimap.ListOrderedMultimap.key_values_mut_at as g
use Rattle.ordered_multimap.proofs.list_ordered_multimap.ListOrderedMultimap.key_values_mut_at.Met.{met}
use Rattle.ordered_multimap.specs.contracts.list_ordered_multimap.key_values_mut.KeyValuesMut.lend_at as F
use Rattle.ordered_multimap.specs.contracts.list_ordered_multimap.key_values_mut.KeyValuesMut.lend_at.Key.{name as #self}
use Rattle.ordered_multimap.proofs.Callers.LentValues.{around_values}
use Rattle.ordered_multimap.proofs.list_ordered_multimap.key_values_mut.KeyValuesMut.lend_at.Statement.{statement}
use Rattle.ordered_multimap.proofs.list_ordered_multimap.key_values_mut.KeyValuesMut.lend_at.Code as code

pub lend_at_spec : {M : Type 1} → statement M
unfolding part_of
lend_at_spec 𝓤 𝓛 𝓜 𝓡 wired X₀ X₁ X₂ X₃ X₄ L₀ L₁ L₂ L₃ L₄ ge de gp dp gk dk gb db gj dj ga da dA dJ m₁ m₂ m₃ m₄ m₅ m₆ m₇ m₈ =
    let H = 𝓛.H in let A = 𝓛.A in let 𝓣 = tables 𝓤 H 𝓜 𝓡 𝓡.env in
    let K : RattleType = param 0 X₀ in let V : RattleType = param 1 X₁ in let S : RattleType = param 2 X₂ in
    let B : RattleType = param 3 X₃ in let J : RattleType = param 4 X₄ in
    let R : RattleType = M-type.the_row K V S B J gp gk gb gj ga in
    let En = F.ended X₀ X₁ X₂ X₃ X₄ ge de gp dp gk dk gb db gj dj ga da dA dJ in
    let inst = bounded (a_type ∷ a_type ∷ a_type ∷ a_type ∷ a_type ∷ []) (X₀, (X₁, (X₂, (X₃, (X₄, tt)))))
    (dcons de (dcons dp (dcons dk (dcons db (dcons dj (dcons da (dcons dA (dcons dJ dnil)))))))) in
    let fn = inst_fn inst code.function in let c = F.clauses X₀ X₁ X₂ X₃ X₄ ge de gp dp gk dk gb db gj dj ga da dA dJ 𝓛 𝓜.mem 𝓡.returns in
    let hs : Stays En.signature.params En.kept = (
      stay_dropped
          (mut_ref_to (0 ∷ []) tt (plain (λ κs. E-type.the_row (named_lft 7 1 tt κs) K V S B J gp gk gb gj ga))) no,
      (stay_dropped (plain (λ _. usize)) yes, tt),
    ) in
    proved 𝓛 En hs c 𝓜 𝓡 (
      Goes-spent_ref 𝓛 7 (0 ∷ []) tt (plain (λ κs. E-type.the_row (named_lft 7 1 tt κs) K V S B J gp gk gb gj ga)),
      (Goes-dropped 𝓛 7 (plain (λ _. usize)) yes (λ κs x w. refl), tt),
    ) (#self inst) fn
    (code.unfolded 𝓤 H 𝓜 𝓡 wired (X₀, (X₁, (X₂, (X₃, (X₄, tt))))) de dp dk db dj da dA dJ)
    (λ κs. (mut_vals, (uint_vals w64, tt))) (λ κs.
    (mut_Tells (named 0) κs.0 (E-type.the_row (named_lft 7 1 tt κs) K V S B J gp gk gb gj ga), (uint_Tells w64, tt)))
    (λ κs qs bounds a ghost are.
    let κ : Lft = κs.0 in let κ' : Lft = κs.1.0 in let q = qs.0 in let q' = qs.1.0 in let l = Share.left q in let r = Share.right q in
    let E : RattleType = E-type.the_row (named_lft 7 1 tt κs) K V S B J gp gk gb gj ga in let MR : RattleType = MutRef (named 1) κ' R in
    let CE : RattleType = C-type.the_row in
    let ms : List Member = record { row = MR; ty = lone MR.mir } ∷ record { row = CE; ty = lone CE.mir } ∷ [] in
    let s : E.Denot = a.0.now in let γ : GName = a.0.ghost_name in let b : ℕ = a.0.ref_ptr.0 in let o : ℕ = a.0.ref_ptr.1 in
    let m : MutBor R.Denot = s.map in let mb : ℕ = m.ref_ptr.0 in let mo : ℕ = m.ref_ptr.1 in let δ : GName = m.ghost_name in
    let e₁ : ℕ = up (align (lone MR.mir)) 0 + size (lone MR.mir) in let ro : ℕ = o + up (align (lone MR.mir)) 0 in
    let eo : ℕ = o + up (align (lone CE.mir)) e₁ in
    let τ : Ty = ty_ref erased mut (pointee R.written) in let place : ℕ = a.1.0 in let at_place : List Val = uint_vals w64 place in
    let Cell : Fml = fat full_share τ b ro (vptr mb mo) in let Left : Fml = part_at CE full_share s.left b eo in
    let Back : SProp 𝓤 = PartsBack 𝓛 full_share [] ms b o in let Rest : SProp 𝓤 = sep 𝓤 (sem 𝓛 Left) Back in
    let Listed : Type 0 = IsIn place m.now.slots.keys.order in
    let fits = are.1.0.1 in let place_good = ((uint_Lawful 𝓛 w64).typed place at_place are.1.0).0 in
    -- the walk's reference, as a place where its map lies
    let Seen : SemTy = record {
      rep = R.Denot;
      coded = R.coded;
      size = size (lone MR.mir);
      own_at = λ w b' o'. part_at MR full_share
          (at_last m w) b' o';
    } in
    let given_back : (w : R.Denot) → ent 𝓤 (sep 𝓤 (A.obs δ (R.coded.code w)) (sep 𝓤 (A.bor κ' (Body (mem R) mb mo δ)) (sem 𝓛 Cell)))
    (sem 𝓛 (part_at MR full_share (at_last m w) b ro))
    = λ w. qed 𝓛 (‵ (fobs δ (R.coded.code w)) ∷ ‵ (fbor κ' (Body (mem R) mb mo δ)) ∷ ‵ Cell ∷ []) ∵
    feq_i ! (List Val) (mut_vals m) (mut_vals m) refl $ fjoin3 ! $ move ! (1 ∷ 0 ∷ []) $
    by ! (part_in_at 𝓛 MR refl full_share (at_last m w) b ro τ refl (vptr mb mo)) in
    let back : (w : R.Denot) → ent 𝓤 (sep 𝓤 (sem 𝓛 (part_at MR full_share (at_last m (with_values_of m.now w)) b ro))
    (sep 𝓤 (sem 𝓛 ftrue) Rest)) (sem 𝓛 (part_at E full_share (with_walk_values s w) b o))
    = λ w. qed 𝓛 (‵ (part_at MR full_share (at_last m (with_values_of m.now w)) b ro) ∷ ‵ ftrue ∷ (‵ Left ⊛ raw Back) ∷ []) ∵
    move ! (2 ∷ []) $ split ! $
    -- [the ends; the way back; the reference; true]
    move ! (0 ∷ 3 ∷ []) $ fjoin ! $ move ! (2 ∷ 0 ∷ []) $
    by ! (field_back 𝓛 full_share [] ms (at_last m (with_values_of m.now w), (s.left, tt)) b o 0) in
    let y : (walk_of 𝓛 En hs c).Ghost = ((κs, qs, bounds, a, (mut_vals a.0, (at_place, tt))), ghost) in let Post : Val
    → SProp 𝓤 = (walk_of 𝓛 En hs c).post y in
    qed 𝓛 (((‵ (flft κ q) ⊛ ‵ (flft κ' q') ⊛ ‵ (flft κs.1.1.0 qs.1.1.0) ⊛ ‵ (flft κs.1.1.1.0 qs.1.1.1.0) ⊛ ‵
    (flft κs.1.1.1.1.0 qs.1.1.1.1.0) ⊛ ‵ (flft κs.1.1.1.1.1.0 qs.1.1.1.1.1.0) ⊛ ‵ (flft κs.1.1.1.1.1.1.0 qs.1.1.1.1.1.1.0) ⊛ ‵ ftrue) ⊛
    ‵ ((MutRef (named 0) κ E).own_val a.0 (mut_vals a.0)) ⊛ ‵ (usize.own_val place at_place) ⊛ ‵ ftrue)
    ∷ told κs.1.1 K V S B J (raw (fact 𝓤 Listed)) ∷ []) ∵
    move ! (1 ∷ []) $ hears_with κs.1.1 K V S B J ! (λ five. heard ! Listed (λ listed.
    split3 ! $ move ! (2 ∷ []) $ split ! $ drop ! $ drop ! $ split ! $ move ! (2 ∷ []) $ fsplit3 ! $ drop ! $
    -- [obs; the borrow; the token of 'a; the other tokens]
    move ! (2 ∷ []) $ use1 𝓛 (‵ (flft κ l) ⊛ ‵ (flft κ r)) (𝓛.lfts.lft_split κ q) $ split ! $ move ! (2 ∷ 3 ∷ 0 ∷ []) $
    enter ! 𝓣.C 𝓣.Λ fn (vptr b o ∷ at_place) Post $ alloc_all ! (λ loc. pass_all ! refl ((tt, tt), (place_good, tt)) $
    open_ref ! tt (mem E) {x = s} {b = b} {o = o} $ move ! (1 ∷ []) $ ages ! (λ n. move ! (1 ∷ []) $
    -- [the walk; the open borrow; obs; auth; half the token; the other tokens]
    use1 𝓛 (‵ (part_at MR full_share m b ro) ⊛ (‵ (fsep Left ftrue) ⊛ raw Back))
    (field_out 𝓛 full_share [] ms (mut_Lawful 𝓛 (named 1) κ' R, (C-laws.the_row_laws.lawful 𝓛, tt)) (m, (s.left, tt)) b o 0) $ split3 ! $
    move ! (1 ∷ []) $ fsplit ! $ move ! (1 ∷ []) $ drop ! $
    -- [the ends; the reference; the way back; the open borrow; obs; auth; half the token; the other tokens]
    move ! (1 ∷ []) $ use1 𝓛 (some (λ (v : Val). ‵ (fat full_share τ b ro v) ⊛ ‵ (MR.own_val m (v ∷ []))))
    (part_out_at 𝓛 MR refl full_share m b ro τ refl) $
    pick ! (λ v. split ! $ move ! (1 ∷ []) $ fsplit3 ! $
    feq_l ! (λ ev. rewrite ! 2 (λ (u : Val). ‵ (fat full_share τ b ro u)) (ap only ev) refl $
    sets ! (addr ! (through ! refl (fld ! refl (hop ! (look ! 2 refl) (stop !))))) refl (tt, tt) $
    -- [obs δ; the map's borrow; its cell; the ends; the way back; the open borrow; obs; auth; half the token; the other tokens]
    move ! (9 ∷ []) $ split ! $ move ! (2 ∷ 3 ∷ 0 ∷ 4 ∷ []) $ group ! 4 $
    use1 𝓛 (later (some (λ (z : GName × ℕ). ‵ (fobs z.0 (R.coded.code m.now)) ⊛ ‵ (fbor κ (Body (mem R) mb mo z.0)) ⊛ ‵ (flft κ' q') ⊛ ‵
    (flent (deep (n + z.1) κ) (Body Seen b ro z.0)))))
    (lends_late 𝓛 Seen (mem R) (λ w. w) κ κ' bounds.0 b ro mb mo γ δ (sem 𝓛 Cell) (λ _. Unit {0})
    (λ w. guard_i 𝓤 (Unit {0}) (sem 𝓛 ((mem R).own_at w mb mo)) tt) (λ w _. given_back w) n q' m.now) $
    await ! tt $ pick ! (λ z. let k : ℕ = n + z.1 in let ε₀ : GName = z.0 in
    let rv : MutBor R.Denot = record { ref_ptr = (mb, mo); ghost_name = ε₀; now = m.now } in
    split3 ! $ feq_i ! (List Val) (mut_vals rv) (mut_vals rv) refl $ fjoin3 ! $ move ! (1 ∷ []) $ split ! $
    use0 𝓛 (‵ ftrue) (id⊢ 𝓤 (emp 𝓤)) $ bor_new_deep ! tt k κ $ drop ! $
    -- [the right to nothing; the token of 'map; the right to the reference; the map; the tokens of the types; the ends; the way back; the
    -- open borrow; obs; auth; half the token]
    move ! (7 ∷ []) $ use1 𝓛 (raw (aged 𝓤 H A k κ l (Body (mem E) b o γ))) (aged_up 𝓛 n k κ l (Body (mem E) b o γ) (omega arith)) $
    move ! (4 ∷ 5 ∷ 2 ∷ 3 ∷ 1 ∷ 6 ∷ 7 ∷ 0 ∷ []) $
    -- [the map; the tokens of the types; the token of 'map; the right to the reference; the right to nothing; the ends; the way back; the
    -- open borrow; obs; auth; half the token]
    let G = triple_of 𝓛 (g.signature X₀ X₁ X₂ X₃ X₄ ge de gp dp gk dk gb db gj dj ga da dA dJ)
    (g.spec X₀ X₁ X₂ X₃ X₄ ge de gp dp gk dk gb db gj dj ga da dA dJ 𝓛 𝓜.mem 𝓡.returns) in
    let κt : Lfts 6 = (κ, κs.1.1) in
    let zc : G.Ghost = (
      (
        κt,
        (r, qs.1.1),
        (bounds.1.0, (bounds.1.1.0, (bounds.1.1.1.0, (bounds.1.1.1.1.0, tt)))),
        (rv, (place, tt)),
        (mut_vals rv, (at_place, tt)),
      ),
      tt,
    ) in
    owned ! usize (Is usize) (uint_Makes 𝓛 w64) place at_place (refl, fits) $ nothing ! $ move ! (1 ∷ 0 ∷ []) $ fjoin ! $
    move ! (1 ∷ 0 ∷ []) $ fjoin ! $
    -- [the arguments; the tokens of the types; ..]
    move ! (10 ∷ 1 ∷ []) $ join ! $ join ! $
    states ! Listed listed $ tells κs.1.1 K V S B J ! five $
    move ! (1 ∷ 0 ∷ []) $ join ! $ use1 𝓛 (raw (G.pre zc)) (id⊢ 𝓤 _) $
    let a' = named_lft 6 0 tt κt in let CR : RattleType = W-type.the_row a' K V B PL-type.the_row form ga in
    let CR-is : Laws CR = W-laws.the_row_laws a' K V B PL-type.the_row form ga (param_laws 0 X₀ L₀) (param_laws 1 X₁ L₁) (param_laws 3 X₃ L₃)
    PL-laws.the_row_laws in
    let Sk : RattleType = ShrRef (named 0) κ K in let Q : RattleType = Tuple (Sk ∷ CR ∷ []) in
    let Key : Q.Denot → Type 0 = λ q. item_at m.now.slots.keys place ≡ Some q.0.now in
    let Values : Q.Denot → Type 0 = λ q. (key : K.Denot) → HasKey gp.eq m.now.slots.keys key place
    → entry_values_mut_rest q.1 ≡ values_of gp.eq m.now.lists.pairs key in
    let Positions : Q.Denot → Type 0 = λ q. (key : K.Denot) → HasKey gp.eq m.now.slots.keys key place
    → entry_values_mut_positions q.1 ≡ positions_of gp.eq m.now.lists.pairs key in
    let Ends : Q.Denot → Type 0 = λ q. EndsWalk K V S B J ga s (entry_values_mut_values q.1) in
    let Ended : CR.Denot → Type 0 = λ w. EndsMap K V S m.now (entry_values_mut_values w) in
    calls_at ! (framed 𝓤 H 𝓜 𝓣) G (met 𝓤 𝓛 𝓜 𝓡 (code.calls-ordered_multimap::list_ordered_multimap::ListOrderedMultimap::key_values_mut_at
    𝓡.env wired) X₀ X₁ X₂ X₃ X₄ L₀ L₁ L₂ L₃ L₄ ge de gp dp gk dk gb db gj dj ga da dA dJ m₁ m₂ m₃ m₄ m₅ m₆ m₇ m₈) zc
    (and_then ! (get ! refl) (and_then ! (get ! refl) (no_more !))) (λ u.
    use1 𝓛 (later (some (λ (w : Q.Denot). ((‵ (flft κ r) ⊛ ‵ (flft κs.1.1.0 qs.1.1.0) ⊛ ‵ (flft κs.1.1.1.0 qs.1.1.1.0) ⊛ ‵
    (flft κs.1.1.1.1.0 qs.1.1.1.1.0) ⊛ ‵ (flft κs.1.1.1.1.1.0 qs.1.1.1.1.1.0) ⊛ ‵ (flft κs.1.1.1.1.1.1.0 qs.1.1.1.1.1.1.0) ⊛ ‵ ftrue) ⊛
    ‵ (Q.own_val w (u ∷ []))) ⊛
    some (λ (ws : Unit {0} × (Unit {0} × Unit {0})). ‵
    (lasts (g.ended X₀ X₁ X₂ X₃ X₄ ge de gp dp gk dk gb db gj dj ga da dA dJ) κt (rv, (place, tt)) ws) ⊛
    (‵ (follows R R ε₀ (entry_values_mut_name w.1) (with_values_of m.now)) ⊛
    (raw (fact 𝓤 (Key w)) ⊛ raw (fact 𝓤 (Values w)) ⊛ raw (fact 𝓤 (Positions w)) ⊛ raw (fact 𝓤 (Ended w.1)))))))) (id⊢ 𝓤 _) $
    await ! tt $ pick ! (λ kv. let w = kv.1 in split ! $ move ! (1 ∷ []) $
    pick ! (λ ws. split3 ! $ drop ! $ move ! (1 ∷ []) $ split3 ! $
    heard ! (Key kv) (λ key. heard ! (Values kv) (λ values. split ! $
    heard ! (Positions kv) (λ positions. heard ! (Ended kv.1) (λ ended.
    -- [what the map follows; the tokens and the key with its walk; the token of 'map; the right to the reference; the right to nothing; the
    -- ends; the way back; the open borrow; obs; auth]
    move ! (1 ∷ []) $ split ! $ split ! $ move ! (2 ∷ []) $
    pair_out Sk CR ! refl (shr_Lawful 𝓛 (named 0) κ K) CR-is.one (CR-is.lawful 𝓛) kv.0 w (u ∷ []) (λ i j gi gj iq.
    let v : Val = both i j in lands_as ! (ap only iq) refl (both_typed (layout Sk) (layout CR) i j gi gj) $
    move ! (1 ∷ 2 ∷ 3 ∷ 4 ∷ 5 ∷ 6 ∷ 7 ∷ 8 ∷ 9 ∷ 10 ∷ 11 ∷ 12 ∷ []) $
    -- [the values' walk; half the token; the tokens of the types; what the map follows; the token of 'map; the right to the reference; the
    -- right to nothing; the ends; the way back; the open borrow; obs; auth; the key]
    move ! (7 ∷ 8 ∷ []) $ join ! $ move ! (6 ∷ 7 ∷ []) $ join ! $
    -- [the rights; the rest; the values' walk; half the token; the tokens of the types; what the map follows; the token of 'map; the open
    -- borrow; obs; auth; the key]
    move ! (7 ∷ 8 ∷ 9 ∷ 0 ∷ 5 ∷ 1 ∷ []) $ group ! 6 $
    use1 𝓛 (later (some (λ (ε : GName). ‵ (flft κ l) ⊛ ‵ (follows E E γ ε (λ h. with_walk_values s h.map.now)) ⊛ ‵
    (after (mem E) (mem R) ε (entry_values_mut_name w) (λ n. with_walk_items s n.slots.values.items)))))
    (closes_named 𝓛 (mem E) Seen (mem R) (with_values_of m.now) (λ n. with_walk_items s n.slots.values.items)
    (λ h. with_walk_values s h.map.now) κ l b o b ro γ ε₀ (entry_values_mut_name w) ftrue Rest back k (E.coded.code s)
    (E.coded.code s) s) $
    await ! tt $ pick ! (λ ε. split3 ! $
    -- [half the token; what the walk follows; what its name follows; the values' walk; the other half; the tokens of the types; the token
    -- of 'map; the key]
    move ! (0 ∷ 4 ∷ []) $ use2 𝓛 (‵ (flft κ q)) (𝓛.lfts.lft_join κ q) $ move ! (5 ∷ 4 ∷ []) $ join ! $
    -- [the other tokens; the token of 'a; what the walk follows; what its name follows; the values' walk; the key]
    let rim : Option (List (Bool × Gv)) = Some ((false, (codeds (CE ∷ [])).code (s.left, tt)) ∷
    (true, (coded× coded_ℕ coded_ℕ).code m.ref_ptr) ∷ (true, coded_ℕ.code δ) ∷ around_values K.coded V.coded S.coded m.now) in
    let lent : ValueCells V.Denot B.Denot = record w.values { cells = record w.values.cells { lender_loan = ε; lender_context = rim } } in
    let again : CanReadChain w.values w.left → CanReadChain lent w.left
    = λ left. record {
      chain = left.chain;
      untaken = record {
        distinct = left.untaken.distinct;
        each = λ p
            i. record {
              listed = (left.untaken.each p i).listed;
              filled = (left.untaken.each p i).filled;
              untaken =
                  (left.untaken.each p i).untaken;
            };
      };
    } in
    let e : CR.Denot = record w { values = lent; readable = ∥∥₁_map w.readable again } in
    move ! (4 ∷ 3 ∷ []) $ use2 𝓛 (‵ (CR.own_val e (j ∷ [])))
    (entry_values_renamed 𝓛 a' K V B ga (mem E) (mem R) (λ n. with_walk_items s n.slots.values.items)
    (λ ws. with_items m.now ws) ε rim w (j ∷ []) (∥∥₁_map w.readable again) (λ ws. sym (ended.ends ws)) (λ ws. refl)) $
    move ! (0 ∷ 2 ∷ 3 ∷ 1 ∷ []) $ move ! (4 ∷ 0 ∷ []) $ pair_in Sk CR ! kv.0 e i j $
    -- [the key with its walk; the token of 'a; what the walk follows; the other tokens]
    returns ! (look_at ! 0 refl) $ free_all ! refl $ move ! (1 ∷ 3 ∷ []) $ join ! $
    let out : Q.Denot = (kv.0, e) in
    use0 𝓛 (raw (fact 𝓤 (Ends out))) (fact_i 𝓤 (Ends out) (emp 𝓤)
    (record { lent = LendsSlots-renamed ε rim ended.lent; pairs = ended.pairs; ends = λ ws. refl })) $
    use0 𝓛 (raw (fact 𝓤 (Positions out))) (fact_i 𝓤 (Positions out) (emp 𝓤) positions) $ join ! $
    use0 𝓛 (raw (fact 𝓤 (Values out))) (fact_i 𝓤 (Values out) (emp 𝓤) values) $ join ! $
    use0 𝓛 (raw (fact 𝓤 (Key out))) (fact_i 𝓤 (Key out) (emp 𝓤) key) $ join ! $ move ! (3 ∷ 0 ∷ []) $ join ! $ nothing ! $ nothing ! $
    fjoin ! $ nothing ! $ fjoin ! $
    keep ! (2 ∷ 0 ∷ 3 ∷ 1 ∷ []) $ by ! (leaves 𝓛 En hs c y v out (tt, (tt, tt)) (tt, (tt, tt)))
    )))))))))))))))))
