-- A list of commands, run in order.
use Rattle.std.specs.Prelude.{◌≡◌, Bool, List, [], ◌∷◌}
use Rattle.ordered_multimap.specs.Lists.{Lists}
use Rattle.multimap_tool.specs.declared.commands.Command.{Command}
use Rattle.multimap_tool.specs.declared.replies.Reply.{Reply}
use Rattle.multimap_tool.specs.Step.{IsStep}

module _ {K V : Type 0} (keeps : V → K → V → Bool → V → Type 0) (eq : K → K → Bool)
    {A : Type 0} where
  -- one reply for each command, and each with it a step from the lists so far to the next
  abbrev pub IsRun : List (Command K V A) → Lists K V → List (Reply K V A) → Lists K V → Type 0
  IsRun [] m [] n = n ≡ m
  IsRun (command ∷ commands) m (reply ∷ replies) n =
      (next : Lists K V) × IsStep keeps eq command m reply next × IsRun commands next replies n
  IsRun [] m (reply ∷ replies) n = ⊥
  IsRun (command ∷ commands) m [] n = ⊥

-- a clone of a key or value is that key or value itself
pub record ClonesAreSame {K V : Type 0} (key_clone : K → K → Type 0)
    (value_clone : V → V → Type 0) : Type 0 where
  pub keys : (k c : K) → key_clone k c → c ≡ k
  pub values : (v c : V) → value_clone v c → c ≡ v
