-- Runs that go on by one step, and what steps and runs leave.
use Rattle.std.proofs.Common.{◌≡◌, ℕ, Bool, true, false, cond, List, [], ◌∷◌, ◌++◌, refl, sym, subst, inl, inr, Result, Ok, Err}
use Rattle.std.specs.Prelude.{IfOk}
use Rattle.std.specs.Cmp.{IsEquivalence}
use Rattle.ordered_multimap.specs.Lists.{Lists, lists, empty_lists, IsWellFormed}
use Rattle.ordered_multimap.specs.End.{End}
use Rattle.ordered_multimap.specs.End.TheVariants as ends
use Rattle.ordered_multimap.specs.Pairs.{is_present, pairs_without}
use Rattle.ordered_multimap.specs.Changes.{appended, inserted, removed, first_written, end_written, all_appended, first_occurrences}
use Rattle.ordered_multimap.proofs.Callers.Laws.{rebuilt}
use Rattle.ordered_multimap.specs.Popped.{popped}
use Rattle.ordered_multimap.proofs.Callers.WellFormed.{empty_well_formed, appended_well_formed, inserted_well_formed, removed_well_formed}
use Rattle.ordered_multimap.proofs.Callers.WellFormed.{popped_well_formed, kept_well_formed, first_written_well_formed}
use Rattle.ordered_multimap.proofs.Callers.WellFormed.{end_written_well_formed}
use Rattle.ordered_multimap.proofs.Callers.KeyOrder.{KeepsKeyOrder-same, KeepsKeyOrder-keys_with, KeepsKeyOrder-named_by}
use Rattle.ordered_multimap.proofs.Callers.KeyOrder.{KeepsKeyOrder-popped, KeepsKeyOrder-none, KeepsKeyOrder-first_written}
use Rattle.ordered_multimap.proofs.Callers.KeyOrder.{KeepsKeyOrder-end_written}
use Rattle.ordered_multimap.proofs.Callers.RemovedAt.{removed_at_well_formed}
use Rattle.ordered_multimap.proofs.Callers.Retained.{kept-named_by}
use Rattle.ordered_multimap.specs.RemovedAt.{removed_at}
use Rattle.ordered_multimap.specs.Retain.{Retains}
use Rattle.ordered_multimap.specs.Lists.{IsIn}
use Rattle.std.specs.Map.{keys_of}
use Rattle.multimap_tool.specs.declared.commands.Command.{Command}
use Rattle.multimap_tool.specs.declared.commands.Command.TheVariants.{Append, Insert, InsertAll, SetFirst, SetFront, SetBack, OrInsert}
use Rattle.multimap_tool.specs.declared.commands.Command.TheVariants.{Remove, RemoveAll, RemoveEntry}
use Rattle.multimap_tool.specs.declared.commands.Command.TheVariants.{RemoveEntryAll, RemoveAt, PopFront, PopBack, Retain, Clear}
use Rattle.multimap_tool.specs.declared.commands.Command.TheVariants.{Json}
use Rattle.multimap_tool.specs.declared.replies.Reply.{Reply}
use Rattle.multimap_tool.specs.Step.{Leaves, IsStep, KeepsPairs, entered}
use Rattle.multimap_tool.specs.MapRuns.{IsMapRun, IsMapStep}
use Rattle.multimap_tool.specs.Runs.{IsRun}
use Rattle.ordered_multimap.specs.Multimap.{Multimap}
use Rattle.multimap_tool.specs.Laws.{IsOrderly}

module _ {K V A : Type 0} (keeps : V → K → V → Bool → V → Type 0) (eq : K → K → Bool) where
  -- a run goes on by a step, on the lists
  pub IsRun-push : (commands : List (Command K V A)) (m : Lists K V) (replies : List (Reply K V A)) (n : Lists K V)
      (command : Command K V A) (reply : Reply K V A) (last : Lists K V)
      → IsRun keeps eq commands m replies n → IsStep keeps eq command n reply last
      → IsRun keeps eq (commands ++ command ∷ []) m (replies ++ reply ∷ []) last
  IsRun-push [] m [] n command reply last run step = (last, subst (λ l. IsStep keeps eq command l reply last) run step, refl)
  IsRun-push (first ∷ commands) m (told ∷ replies) n command reply last run step =
      (run.0, run.1, IsRun-push commands run.0 replies n command reply last run.2 step)
  IsRun-push [] m (told ∷ replies) n command reply last run step = absurd run
  IsRun-push (first ∷ commands) m [] n command reply last run step = absurd run

module _ {K V A S : Type 0} (keeps : V → K → V → Bool → V → Type 0) (eq : K → K → Bool) (state_clone : S → S → Type 0) where
  -- and on the whole map
  pub IsMapRun-push : (commands : List (Command K V A)) (m : Multimap K V S) (replies : List (Reply K V A)) (n : Multimap K V S)
      (command : Command K V A) (reply : Reply K V A) (last : Multimap K V S) → IsMapRun keeps eq state_clone commands m replies n
      → IsMapStep keeps eq state_clone command n last reply
      → IsMapRun keeps eq state_clone (commands ++ command ∷ []) m (replies ++ reply ∷ []) last
  IsMapRun-push [] m [] n command reply last run step =
      (last, subst (λ l. IsMapStep keeps eq state_clone command l last reply) run step, refl)
  IsMapRun-push (first ∷ commands) m (told ∷ replies) n command reply last run step =
      (run.0, run.1, IsMapRun-push commands run.0 replies n command reply last run.2 step)
  IsMapRun-push [] m (told ∷ replies) n command reply last run step = absurd run
  IsMapRun-push (first ∷ commands) m [] n command reply last run step = absurd run

module _ {K V : Type 0} {eq : K → K → Bool} (laws : IsEquivalence eq) where
  -- lists built of pairs are well formed
  built_well_formed : (m : Lists K V) (pairs : List (K × V)) → IsWellFormed eq m → IsWellFormed eq (all_appended eq m pairs)
  built_well_formed m [] formed = formed
  built_well_formed m (p ∷ pairs) formed = built_well_formed (appended eq m p.0 p.1) pairs (appended_well_formed laws m p.0 p.1 formed)

  read_well_formed : (m : Lists K V) → IsWellFormed eq m → IsWellFormed eq (lists (first_occurrences eq m.pairs) m.pairs)
  read_well_formed m formed = subst (IsWellFormed eq) (rebuilt laws m formed) (built_well_formed empty_lists m.pairs (empty_well_formed eq))

module _ {K V : Type 0} where
  -- the keys of the pairs that a function kept are old ones
  kept_keys : (keeps : K → V → Bool → V → Type 0) (old new : List (K × V))
      → Retains (λ s k v b w t. keeps k v b w) (tt {0}) old new (tt {0}) → (k : K) → IsIn k (keys_of new) → IsIn k (keys_of old)
  kept_keys keeps [] new r k member = subst (λ ps. IsIn k (keys_of ps)) r.0 member
  kept_keys keeps (p ∷ old) new (b, w, next, rest, called, later, is) k member = by b (kept_keys keeps old rest later k)
      (subst (λ ps. IsIn k (keys_of ps)) is member)
    where
      by : (b : Bool) → (IsIn k (keys_of rest) → IsIn k (keys_of old)) → IsIn k (keys_of (cond b ((p.0, w) ∷ rest) rest))
          → IsIn k (keys_of (p ∷ old))
      by true among (inl here) = inl here
      by true among (inr later) = inr (among later)
      by false among later = inr (among later)

module _ {K V A : Type 0} {eq : K → K → Bool} (laws : IsEquivalence eq) {c : Command K V A} where
  unchanged : (m n : Lists K V) → IsWellFormed eq m → n ≡ m → IsOrderly eq c m n
  unchanged m n formed same = subst (IsOrderly eq c m) (sym same)
      (record { well_formed = formed; key_order = λ _. KeepsKeyOrder-same laws m.keys })

  gone_orderly : (m n : Lists K V) (k : K) → IsWellFormed eq m → n ≡ removed eq m k → IsOrderly eq c m n
  gone_orderly m n k formed left = subst (IsOrderly eq c m) (sym left) (record {
    well_formed = removed_well_formed laws m k formed;
    key_order = λ _. KeepsKeyOrder-named_by laws m.keys (pairs_without eq m.pairs k);
  })

  taken_orderly : (m n : Lists K V) (k : K) (i : ℕ) → IsWellFormed eq m → n ≡ removed_at eq m k i → IsOrderly eq c m n
  taken_orderly m n k i formed left = subst (IsOrderly eq c m) (sym left) (record {
    well_formed = removed_at_well_formed laws m k formed i;
    key_order = λ _. KeepsKeyOrder-same laws m.keys;
  })

  replaced_orderly : (m n : Lists K V) (k : K) (v : V) → IsWellFormed eq m → n ≡ inserted eq m k v → IsOrderly eq c m n
  replaced_orderly m n k v formed left = subst (IsOrderly eq c m) (sym left) (record {
    well_formed = inserted_well_formed laws m k v formed;
    key_order = λ _. KeepsKeyOrder-keys_with laws m.keys k;
  })

  written_orderly : (m n : Lists K V) (k : K) (v : V) → IsWellFormed eq m → n ≡ first_written eq m k v → IsOrderly eq c m n
  written_orderly m n k v formed left = subst (IsOrderly eq c m) (sym left) (record {
    well_formed = first_written_well_formed m formed k v;
    key_order = λ _. KeepsKeyOrder-first_written laws m k v;
  })

  end_written_orderly : (end : End) (m n : Lists K V) (v : V) → IsWellFormed eq m → n ≡ end_written end m v → IsOrderly eq c m n
  end_written_orderly end m n v formed left = subst (IsOrderly eq c m) (sym left) (record {
    well_formed = end_written_well_formed m formed end v;
    key_order = λ _. KeepsKeyOrder-end_written laws end m v;
  })

  appended_orderly : (m n : Lists K V) (k : K) (v : V) → IsWellFormed eq m → n ≡ appended eq m k v → IsOrderly eq c m n
  appended_orderly m n k v formed left = subst (IsOrderly eq c m) (sym left) (record {
    well_formed = appended_well_formed laws m k v formed;
    key_order = λ _. KeepsKeyOrder-keys_with laws m.keys k;
  })

  entered_orderly : (m n : Lists K V) (k : K) (v : V) → IsWellFormed eq m → n ≡ entered eq m k v → IsOrderly eq c m n
  entered_orderly m n k v formed left =
      elim (is_present eq m.pairs k) as (λ b. n ≡ cond b m (appended eq m k v) → IsOrderly eq c m n) [
        | true ↦ λ same. unchanged m n formed same
        | false ↦ λ more. appended_orderly m n k v formed more
      ] left

  popped_orderly : (end : End) (m n : Lists K V) → IsWellFormed eq m → n ≡ popped eq end m → IsOrderly eq c m n
  popped_orderly end m n formed left = subst (IsOrderly eq c m) (sym left) (record {
    well_formed = popped_well_formed laws end m formed;
    key_order = λ _. KeepsKeyOrder-popped laws end m;
  })

  kept_orderly : (m n : Lists K V) (keeps : K → V → Bool → V → Type 0) → IsWellFormed eq m → KeepsPairs keeps eq m n → IsOrderly eq c m n
  kept_orderly m n keeps formed left = subst (IsOrderly eq c m) (sym (kept-named_by eq m n left.keys)) (record {
    well_formed = kept_well_formed laws m n.pairs formed (kept_keys keeps m.pairs n.pairs left.pairs);
    key_order = λ _. KeepsKeyOrder-named_by laws m.keys n.pairs;
  })

module _ {K V A : Type 0} {eq : K → K → Bool} (laws : IsEquivalence eq) (keeps : V → K → V → Bool → V → Type 0) where
  leaves_orderly : (command : Command K V A) (m n : Lists K V) → IsWellFormed eq m → Leaves keeps eq command m n → IsOrderly eq command m n
  leaves_orderly (Append k v) m n formed left = appended_orderly laws m n k v formed left
  leaves_orderly (Insert k v) m n formed left = replaced_orderly laws m n k v formed left
  leaves_orderly (InsertAll k v) m n formed left = replaced_orderly laws m n k v formed left
  leaves_orderly (SetFirst k v) m n formed left = written_orderly laws m n k v formed left
  leaves_orderly (SetFront v) m n formed left = end_written_orderly laws ends.Front m n v formed left
  leaves_orderly (SetBack v) m n formed left = end_written_orderly laws ends.Back m n v formed left
  leaves_orderly (OrInsert k v) m n formed left = entered_orderly laws m n k v formed left
  leaves_orderly (Remove k) m n formed left = gone_orderly laws m n k formed left
  leaves_orderly (RemoveAll k) m n formed left = gone_orderly laws m n k formed left
  leaves_orderly (RemoveEntry k) m n formed left = gone_orderly laws m n k formed left
  leaves_orderly (RemoveEntryAll k) m n formed left = gone_orderly laws m n k formed left
  leaves_orderly (RemoveAt k i) m n formed left = taken_orderly laws m n k i formed left
  leaves_orderly PopFront m n formed left = popped_orderly laws ends.Front m n formed left
  leaves_orderly PopBack m n formed left = popped_orderly laws ends.Back m n formed left
  leaves_orderly (Retain x) m n formed left = kept_orderly laws m n (keeps x) formed left
  leaves_orderly Clear m n formed left = subst (IsOrderly eq Clear m) (sym left) (record {
    well_formed = empty_well_formed eq;
    key_order = λ _. KeepsKeyOrder-none laws m.keys;
  })
  leaves_orderly Json m n formed left = subst (IsOrderly eq Json m) (sym left) (record {
    well_formed = read_well_formed laws m formed;
    key_order = λ other. absurd (other refl);
  })
  leaves_orderly command m n formed left = unchanged laws m n formed left

  pub step_orderly : (command : Command K V A) (m : Lists K V) (reply : Reply K V A) (n : Lists K V) → IsWellFormed eq m
      → IsStep keeps eq command m reply n → IsOrderly eq command m n
  step_orderly command m reply n formed step = elim step [
    | inl done ↦ leaves_orderly command m n formed done.1
    | inr refused ↦ unchanged
        laws m n formed refused.2
  ]

  pub run_well_formed : (commands : List (Command K V A)) (m : Lists K V) (replies : List (Reply K V A)) (n : Lists K V) → IsWellFormed eq m
      → IsRun keeps eq commands m replies n → IsWellFormed eq n
  run_well_formed [] m [] n formed run = subst (IsWellFormed eq) (sym run) formed
  run_well_formed (command ∷ commands) m (reply ∷ replies) n formed run = run_well_formed commands run.0 replies n
      (step_orderly command m reply run.0 formed run.1).well_formed run.2
  run_well_formed [] m (reply ∷ replies) n formed run = absurd run
  run_well_formed (command ∷ commands) m [] n formed run = absurd run

-- what a function may answer is what another may
module _ {K V : Type 0} (keeps other : V → K → V → Bool → V → Type 0) (eq : K → K → Bool)
    (more : (x : V) (k : K) (v : V) (b : Bool) (w : V) → keeps x k v b w → other x k v b w) where
  retains_more : (x : V) (old new : List (K × V)) → Retains (λ s k v b w t. keeps x k v b w) (tt {0}) old new (tt {0})
      → Retains (λ s k v b w t. other x k v b w) (tt {0}) old new (tt {0})
  retains_more x [] new r = r
  retains_more x (p ∷ old) new (b, w, next, rest, called, later, is) =
      (b, w, next, rest, more x p.0 p.1 b w called, retains_more x old rest later, is)

  module _ {A : Type 0} where
    leaves_more : (command : Command K V A) (m n : Lists K V) → Leaves keeps eq command m n → Leaves other eq command m n
    leaves_more (Retain x) m n left = record { keys = left.keys; pairs = retains_more x m.pairs n.pairs left.pairs }
    leaves_more command m n left = left

    step_more : (command : Command K V A) (m : Lists K V) (reply : Reply K V A) (n : Lists K V) → IsStep keeps eq command m reply n
        → IsStep other eq command m reply n
    step_more command m reply n step = elim step [ inl done ↦ inl (done.0, leaves_more command m n done.1) | inr refused ↦ inr refused ]

    pub IsRun-more : (commands : List (Command K V A)) (m : Lists K V) (replies : List (Reply K V A)) (n : Lists K V)
        → IsRun keeps eq commands m replies n → IsRun other eq commands m replies n
    IsRun-more [] m [] n run = run
    IsRun-more (command ∷ commands) m (reply ∷ replies) n run =
        (run.0, step_more command m reply run.0 run.1, IsRun-more commands run.0 replies n run.2)
    IsRun-more [] m (reply ∷ replies) n run = absurd run
    IsRun-more (command ∷ commands) m [] n run = absurd run

-- what holds of a value where there is one implies what follows from it
pub if_ok : {T E : Type 0} {P Q : T → Type 0} (r : Result T E) → ((x : T) → P x → Q x) → IfOk r P → IfOk r Q
if_ok (Ok x) follows holds = follows x holds
if_ok (Err e) follows holds = holds
