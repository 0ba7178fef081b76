-- A request for room in a run whose room is there at the start.
use Rattle.std.proofs.Common.{◌≡◌, ℕ, zero, suc, ◌+◌, Bool, List, [], ◌∷◌, take, slice_get, Some, refl, ap, subst, arith}
use Rattle.std.specs.Prelude.{Contains}
use Rattle.ordered_multimap.specs.Multimap.{Multimap}
use Rattle.multimap_tool.specs.declared.commands.Command.{Command}
use Rattle.multimap_tool.specs.declared.commands.Command.TheVariants.{Reserve}
use Rattle.multimap_tool.specs.declared.replies.Reply.{Reply}
use Rattle.multimap_tool.specs.declared.replies.Reply.TheVariants.{Done}
use Rattle.multimap_tool.specs.MapRuns.{FindsItsRoom, IsMapRun}
use Rattle.multimap_tool.specs.RunRooms.{HasRoomsFor, KeepsRoom}
use Rattle.multimap_tool.proofs.Running.Rooms.{step_grows}

module _ {K V A S : Type 0} (keeps : V → K → V → Bool → V → Type 0) (eq : K → K → Bool) (state_clone : S → S → Type 0) where
  -- each command before it adds one key and one pair at most, and lowers no room
  pub reserve_finds : (commands : List (Command K V A)) (m : Multimap K V S) (replies : List (Reply K V A)) (n : Multimap K V S)
      (i a b : ℕ) → IsMapRun keeps eq state_clone commands m replies n → slice_get commands i ≡ Some (Reserve a b)
      → ((command : Command K V A) → Contains (take i commands) command → KeepsRoom command) → HasRoomsFor m (i + a) (i + b)
      → slice_get replies i ≡ Some Done
  reserve_finds [] m replies n i a b run is keep room = absurd (grind arith)
  reserve_finds (first ∷ commands) m [] n i a b run is keep room = absurd run
  reserve_finds (first ∷ commands) m (told ∷ replies) n zero a b run is keep room =
      let same : first ≡ Reserve a b = grind arith in
      let finds : FindsItsRoom eq (Reserve a b) m told = subst (λ c. FindsItsRoom eq c m told) same run.1.finds_room in
      ap Some (finds (record { keys_fit = omega (arith, room.keys_fit); values_fit = omega (arith, room.values_fit) }))
  reserve_finds (first ∷ commands) m (told ∷ replies) n (suc i) a b run is keep room =
      let kept = keep first (0, omega arith, refl) in
      let grows = step_grows keeps eq first m.lists told run.0.lists kept run.1.step in
      let rooms = run.1.rooms kept in
      reserve_finds commands run.0 replies n i a b run.2 is (λ c inside. keep c (suc inside.0, omega (arith, inside.1), inside.2)) (record {
        keys_fit = omega (arith, room.keys_fit, grows.keys, rooms.keys);
        values_fit = omega (arith, room.values_fit, grows.pairs, rooms.values);
      })
