-- The room that a run of commands finds.
use Rattle.std.specs.Prelude.{◌≢◌, ◌≤◌, ◌+◌, ℕ, List, [], ◌∷◌, length, Contains}
use Rattle.ordered_multimap.specs.Multimap.{Multimap}
use Rattle.multimap_tool.specs.declared.commands.Command.{Command}
use Rattle.multimap_tool.specs.declared.commands.Command.TheVariants.{Append, Insert, OrInsert}
use Rattle.multimap_tool.specs.declared.commands.Command.TheVariants.{PackToFit, Swap}
use Rattle.multimap_tool.specs.declared.commands.Command.TheVariants.{Json, Json2}
use Rattle.multimap_tool.specs.declared.replies.Reply.{Reply}
use Rattle.multimap_tool.specs.declared.replies.Reply.TheVariants.{NoMemory}

-- so many more keys fit into the map, and so many more values
pub record HasRoomsFor {K V S : Type 0} (m : Multimap K V S) (keys values : ℕ) : Type 0 where
  pub keys_fit : length m.lists.keys + keys ≤ m.key_room
  pub values_fit : length m.lists.pairs + values ≤ m.value_room

module _ {K V A : Type 0} where
  -- the command puts one pair in, and its reply lists no values
  abbrev pub IsAddition : Command K V A → Type 0
  IsAddition (Append k v) = Unit {0}
  IsAddition (Insert k v) = Unit {0}
  IsAddition (OrInsert k v) = Unit {0}
  IsAddition _ = ⊥

  -- the command lowers no capacity: it gives none back, and doesn't replace the map
  abbrev pub KeepsRoom : Command K V A → Type 0
  KeepsRoom PackToFit = ⊥
  KeepsRoom Swap = ⊥
  KeepsRoom Json = ⊥
  KeepsRoom Json2 = ⊥
  KeepsRoom _ = Unit {0}

  -- no command lowers a room, and each has room for a key and a value
  pub record HasRunRoom {S : Type 0} (commands : List (Command K V A)) (m : Multimap K V S)
      : Type 0 where
    pub keep : (command : Command K V A) → Contains commands command → KeepsRoom command
    pub keys : length m.lists.keys + length commands ≤ m.key_room
    pub values : length m.lists.pairs + length commands ≤ m.value_room

  -- no addition is refused for lack of memory
  abbrev pub FindsRoom : List (Command K V A) → List (Reply K V A) → Type 0
  FindsRoom [] [] = Unit {0}
  FindsRoom (command ∷ commands) (reply ∷ replies) =
      (IsAddition command → reply ≢ NoMemory) × FindsRoom commands replies
  FindsRoom [] (reply ∷ replies) = ⊥
  FindsRoom (command ∷ commands) [] = ⊥
