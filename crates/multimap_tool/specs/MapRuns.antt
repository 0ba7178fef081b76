-- One command on the whole map, and a list of commands: the lists, the rooms and the hash builder.
use Rattle.std.specs.Prelude.{◌≡◌, ◌≢◌, Bool, false, List, [], ◌∷◌}
use Rattle.ordered_multimap.specs.Multimap.{Multimap}
use Rattle.ordered_multimap.specs.Pairs.{is_present}
use Rattle.ordered_multimap.specs.Rooms.{HasKeyRoom, HasValueRoom, KeepsRooms}
use Rattle.ordered_multimap.specs.TapeNumbers.{AreUnused}
use Rattle.multimap_tool.specs.declared.commands.Command.{Command}
use Rattle.multimap_tool.specs.declared.commands.Command.TheVariants.{Append, Insert, InsertAll}
use Rattle.multimap_tool.specs.declared.commands.Command.TheVariants.{OrInsert, Reserve}
use Rattle.multimap_tool.specs.declared.commands.Command.TheVariants.{PackToFit, Swap}
use Rattle.multimap_tool.specs.declared.replies.Reply.{Reply}
use Rattle.multimap_tool.specs.declared.replies.Reply.TheVariants.{NoMemory, Done}
use Rattle.multimap_tool.specs.RunRooms.{HasRoomsFor, KeepsRoom}
use Rattle.multimap_tool.specs.Step.{IsStep}

-- the command puts the map on a tape that was not used yet
abbrev pub MakesUnused : {K V A : Type 0} → Command K V A → Type 0
MakesUnused PackToFit = Unit {0}
MakesUnused Swap = Unit {0}
MakesUnused _ = ⊥

module _ {K : Type 0} (eq : K → K → Bool) {V A S : Type 0} where
  -- a command is not refused for lack of memory where the map has the room that it asks for; the
  -- list of no value takes no memory
  abbrev pub FindsItsRoom : Command K V A → Multimap K V S → Reply K V A → Type 0
  FindsItsRoom (Append k v) m reply = HasKeyRoom m → HasValueRoom m → reply ≢ NoMemory
  FindsItsRoom (Insert k v) m reply = HasKeyRoom m → HasValueRoom m → reply ≢ NoMemory
  FindsItsRoom (OrInsert k v) m reply = HasKeyRoom m → HasValueRoom m → reply ≢ NoMemory
  FindsItsRoom (InsertAll k v) m reply =
      is_present eq m.lists.pairs k ≡ false → HasKeyRoom m → HasValueRoom m → reply ≢ NoMemory
  FindsItsRoom (Reserve a b) m reply = HasRoomsFor m a b → reply ≡ Done
  FindsItsRoom _ m reply = Unit {0}

-- where the command is answered as done that asks for room for so many more keys and values, so
-- many more fit
abbrev pub MakesItsRoom : {K V A S : Type 0} → Command K V A → Multimap K V S → Reply K V A → Type 0
MakesItsRoom (Reserve a b) n reply = reply ≡ Done → HasRoomsFor n a b
MakesItsRoom _ n reply = Unit {0}

module _ {K V : Type 0} (keeps : V → K → V → Bool → V → Type 0) (eq : K → K → Bool)
    {A S : Type 0} where
  -- the step of any command: where another map comes in the place, it has a clone of the hash
  -- builder
  pub record IsMapStep (state_clone : S → S → Type 0) (command : Command K V A)
      (old new : Multimap K V S) (reply : Reply K V A) : Type 0 where
    pub step : IsStep keeps eq command old.lists reply new.lists
    pub hasher : ((s c : S) → state_clone s c → c ≡ s) → new.hasher ≡ old.hasher
    pub rooms : KeepsRoom command → KeepsRooms old new
    pub finds_room : FindsItsRoom eq command old reply
    pub makes_room : MakesItsRoom command new reply
    pub unused : MakesUnused command → reply ≡ Done → AreUnused new.tape

module _ {K V : Type 0} (keeps : V → K → V → Bool → V → Type 0) (eq : K → K → Bool)
    {A S : Type 0} (state_clone : S → S → Type 0) where
  -- one reply for each command, and each with it a step from the map so far to the next
  abbrev pub IsMapRun : List (Command K V A) → Multimap K V S → List (Reply K V A)
      → Multimap K V S → Type 0
  IsMapRun [] m [] n = n ≡ m
  IsMapRun (command ∷ commands) m (reply ∷ replies) n =
      (next : Multimap K V S) × IsMapStep keeps eq state_clone command m next reply
      × IsMapRun commands next replies n
  IsMapRun [] m (reply ∷ replies) n = ⊥
  IsMapRun (command ∷ commands) m [] n = ⊥
