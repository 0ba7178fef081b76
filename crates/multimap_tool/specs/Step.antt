-- One command on the two lists: which reply it may be given, and which lists it leaves. `keeps` is
-- said of a function that is handed a command's value, a key and its value: which answer it may
-- give, and which value it may leave.
use Rattle.std.specs.Prelude.{◌≡◌, ◌⊎◌, ◌+◌, ◌<◌, Bool, false, cond, List, length, map, IsTrue}
use Rattle.std.specs.Prelude.{Option, Some, None, option_map, unwrap_or, slice_get}
use Rattle.std.specs.Borrow.{Bor, MutBor}
use Rattle.std.specs.Fn.{FnReturns}
use denote.Param.Members.{Shared}
use Rattle.ordered_multimap.specs.End.{End}
use Rattle.ordered_multimap.specs.End.TheVariants as ends
use Rattle.ordered_multimap.specs.Walk.{end_item, answers_of_walk, forward}
use Rattle.ordered_multimap.specs.Lists.{Lists, lists, empty_lists}
use Rattle.ordered_multimap.specs.Pairs.{all_values, has_items, values_of, is_present}
use Rattle.ordered_multimap.specs.Keys.{stored_key, keys_named_by}
use Rattle.ordered_multimap.specs.Changes.{appended, inserted, removed, first_written, end_written}
use Rattle.ordered_multimap.specs.Changes.{first_occurrences}
use Rattle.ordered_multimap.specs.Popped.{popped, popped_pair}
use Rattle.ordered_multimap.specs.RemovedAt.{removed_at, removable_value_at}
use Rattle.ordered_multimap.specs.Retain.{Retains}
use Rattle.ordered_multimap.specs.Popped as pops
use Rattle.multimap_tool.specs.declared.commands.Ends.{Ends}
use Rattle.multimap_tool.specs.declared.commands.Ends.TheVariants.{Forward, Word}
use Rattle.multimap_tool.specs.declared.commands.Command.{Command}
use Rattle.multimap_tool.specs.declared.commands.Command.TheVariants.{Append, Insert, InsertAll}
use Rattle.multimap_tool.specs.declared.commands.Command.TheVariants.{SetFirst, SetFront, SetBack}
use Rattle.multimap_tool.specs.declared.commands.Command.TheVariants.{OrInsert}
use Rattle.multimap_tool.specs.declared.commands.Command.TheVariants.{Get, All, Has, Len}
use Rattle.multimap_tool.specs.declared.commands.Command.TheVariants.{Front, Back}
use Rattle.multimap_tool.specs.declared.commands.Command.TheVariants.{Remove, RemoveAll}
use Rattle.multimap_tool.specs.declared.commands.Command.TheVariants.{RemoveEntry, RemoveEntryAll}
use Rattle.multimap_tool.specs.declared.commands.Command.TheVariants.{RemoveAt}
use Rattle.multimap_tool.specs.declared.commands.Command.TheVariants.{PopFront, PopBack, Clear}
use Rattle.multimap_tool.specs.declared.commands.Command.TheVariants.{Retain, Reserve, PackToFit}
use Rattle.multimap_tool.specs.declared.commands.Command.TheVariants.{Swap, Json, Json2}
use Rattle.multimap_tool.specs.declared.commands.Command.TheVariants.{Pairs, Keys, Values, KeyLists}
use Rattle.multimap_tool.specs.declared.commands.Command.TheVariants.{Lengths}
use Rattle.multimap_tool.specs.declared.replies.Popped.{Popped}
use Rattle.multimap_tool.specs.declared.replies.Reply.{Reply}
use Rattle.multimap_tool.specs.declared.replies.Reply.TheVariants as replies

-- the letters that a walk over a list goes by
abbrev pub word_of : {X A : Type 0} → List X → Ends A → List End
word_of items Forward = forward items
word_of items (Word word) = word.items

-- what a walk over a list returns
abbrev pub walked : {X A : Type 0} → List X → Ends A → List (Option X)
walked items ends = answers_of_walk items (word_of items ends)

-- a reply with these items lists one or more
abbrev pub ListsItem : {X : Type 0} → List X → Type 0
ListsItem items = IsTrue (has_items items)

-- what a pop returns, read off the reply
abbrev pub as_pop : {K V : Type 0} → Popped K V → pops.Popped K V
as_pop p = record { owned = p.owned; key = p.key; value = p.value }

module _ {K : Type 0} (eq : K → K → Bool) {V : Type 0} where
  -- the stored key with all its values, if it is present
  abbrev pub entry_of : Lists K V → K → Option (K × List V)
  entry_of m k =
      cond (is_present eq m.pairs k) (Some (stored_key eq m.keys k, values_of eq m.pairs k)) None

  -- each key with its values, in the order of the keys
  abbrev pub key_lists : Lists K V → List (K × List V)
  key_lists m = map (λ k. (k, values_of eq m.pairs k)) m.keys

  -- the stored key and its first value, if it is present
  abbrev pub first_entry : Lists K V → K → Option (K × V)
  first_entry m k =
      option_map (λ v. (stored_key eq m.keys k, v)) (slice_get (values_of eq m.pairs k) 0)

  -- the pair goes last if the key is absent, and else the lists stay
  abbrev pub entered : Lists K V → K → V → Lists K V
  entered m k v = cond (is_present eq m.pairs k) m (appended eq m k v)

-- the command reads the map back from a JSON value
abbrev pub Rereads : {K V A : Type 0} → Command K V A → Type 0
Rereads Json = Unit {0}
Rereads Json2 = Unit {0}
Rereads _ = ⊥

-- a call of the function on these may return b, and leave w as the value
pub record MayKeep {F K V : Type 0}
    (g : Shared F (V × (Bor K × (MutBor V × Unit {0}))) (Bool × (MutBor V × Unit {0}))) (keep : F)
    (operand : V) (k : K) (v : V) (b : Bool) (w : V) : Type 0 where
  pub key : Bor K
  pub value : MutBor V
  pub shows : (key.now ≡ k) × (value.now ≡ v)
  pub left : MutBor V
  pub called : FnReturns g keep (operand, (key, (value, tt {0}))) (b, (left, tt {0}))
  pub leaves : left.now ≡ w

-- the pairs for which the function returns true stay, and the keys that they name
pub record KeepsPairs {K V : Type 0} (keeps : K → V → Bool → V → Type 0) (eq : K → K → Bool)
    (m n : Lists K V) : Type 0 where
  pub keys : n.keys ≡ keys_named_by eq m.keys n.pairs
  pub pairs : Retains (λ s k v b w t. keeps k v b w) (tt {0}) m.pairs n.pairs (tt {0})

module _ {K V : Type 0} (keeps : V → K → V → Bool → V → Type 0) (eq : K → K → Bool)
    {A : Type 0} where
  -- the lists that a command leaves: look-ups leave them as they are, and so do a clone, a
  -- request for room, a packing, and what is read of a JSON value of both lists; what is read of
  -- one of the pairs has the keys in the order in which they first occur in these
  abbrev pub Leaves : Command K V A → Lists K V → Lists K V → Type 0
  Leaves (Append k v) m n = n ≡ appended eq m k v
  Leaves (Insert k v) m n = n ≡ inserted eq m k v
  Leaves (InsertAll k v) m n = n ≡ inserted eq m k v
  Leaves (SetFirst k v) m n = n ≡ first_written eq m k v
  Leaves (SetFront v) m n = n ≡ end_written ends.Front m v
  Leaves (SetBack v) m n = n ≡ end_written ends.Back m v
  Leaves (OrInsert k v) m n = n ≡ entered eq m k v
  Leaves (Remove k) m n = n ≡ removed eq m k
  Leaves (RemoveAll k) m n = n ≡ removed eq m k
  Leaves (RemoveEntry k) m n = n ≡ removed eq m k
  Leaves (RemoveEntryAll k) m n = n ≡ removed eq m k
  Leaves (RemoveAt k i) m n = n ≡ removed_at eq m k i
  Leaves PopFront m n = n ≡ popped eq ends.Front m
  Leaves PopBack m n = n ≡ popped eq ends.Back m
  Leaves (Retain x) m n = KeepsPairs (keeps x) eq m n
  Leaves Clear m n = n ≡ empty_lists
  Leaves Json m n = n ≡ lists (first_occurrences eq m.pairs) m.pairs
  Leaves _ m n = n ≡ m

module _ {K : Type 0} (eq : K → K → Bool) {V A : Type 0} where
  -- the reply is what the command asks for
  abbrev pub IsReplyOf : Command K V A → Lists K V → Reply K V A → Type 0
  IsReplyOf (Append k v) m (replies.Appended present) = present ≡ is_present eq m.pairs k
  IsReplyOf (Insert k v) m (replies.Old old) = old ≡ slice_get (values_of eq m.pairs k) 0
  IsReplyOf (InsertAll k v) m (replies.Values values) =
      values.items ≡ map Some (values_of eq m.pairs k)
  IsReplyOf (SetFirst k v) m (replies.Old old) = old ≡ slice_get (values_of eq m.pairs k) 0
  IsReplyOf (SetFront v) m (replies.Pair pair) = pair ≡ end_item ends.Front m.pairs
  IsReplyOf (SetBack v) m (replies.Pair pair) = pair ≡ end_item ends.Back m.pairs
  IsReplyOf (OrInsert k v) m (replies.Value value) =
      value ≡ Some (unwrap_or (slice_get (values_of eq m.pairs k) 0) v)
  IsReplyOf (Get k) m (replies.Value value) = value ≡ slice_get (values_of eq m.pairs k) 0
  IsReplyOf (All k ends) m (replies.Values values) =
      values.items ≡ walked (values_of eq m.pairs k) ends
  IsReplyOf (Has k) m (replies.Truth present) = present ≡ is_present eq m.pairs k
  IsReplyOf (Len k) m (replies.Count count) = count ≡ length (values_of eq m.pairs k)
  IsReplyOf Front m (replies.Pair pair) = pair ≡ end_item ends.Front m.pairs
  IsReplyOf Back m (replies.Pair pair) = pair ≡ end_item ends.Back m.pairs
  IsReplyOf (Remove k) m (replies.Value value) = value ≡ slice_get (values_of eq m.pairs k) 0
  IsReplyOf (RemoveAll k) m (replies.Values values) =
      values.items ≡ map Some (values_of eq m.pairs k)
  IsReplyOf (RemoveEntry k) m (replies.Pair pair) = pair ≡ first_entry eq m k
  IsReplyOf (RemoveEntryAll k) m (replies.List list) =
      option_map (λ p. (p.0, p.1.items)) list ≡ entry_of eq m k
  IsReplyOf (RemoveAt k i) m (replies.Value value) = value ≡ removable_value_at eq m.pairs k i
  IsReplyOf PopFront m (replies.Popped pair) =
      option_map as_pop pair ≡ popped_pair eq ends.Front m.pairs
  IsReplyOf PopBack m (replies.Popped pair) =
      option_map as_pop pair ≡ popped_pair eq ends.Back m.pairs
  IsReplyOf (Retain x) m replies.Done = Unit {0}
  IsReplyOf Clear m replies.Done = Unit {0}
  IsReplyOf (Reserve a b) m replies.Done = Unit {0}
  IsReplyOf PackToFit m replies.Done = Unit {0}
  IsReplyOf Swap m replies.Done = Unit {0}
  IsReplyOf Json m replies.Done = Unit {0}
  IsReplyOf Json2 m replies.Done = Unit {0}
  IsReplyOf (Pairs ends) m (replies.Pairs pairs) = pairs.items ≡ walked m.pairs ends
  IsReplyOf (Keys ends) m (replies.Keys keys) = keys.items ≡ walked m.keys ends
  IsReplyOf (Values ends) m (replies.Values values) =
      values.items ≡ walked (all_values m.pairs) ends
  IsReplyOf KeyLists m (replies.Lists lists) =
      map (λ p. (p.0, p.1.items)) lists.items ≡ key_lists eq m
  IsReplyOf Lengths m (replies.Counts keys pairs) =
      (keys ≡ length m.keys) × (pairs ≡ length m.pairs)
  IsReplyOf _ m _ = ⊥

  -- an addition may find no memory, but for one to a present key that replaces or keeps, and so
  -- may a request for any room, a packing, a clone, a JSON value, and a reply that would list an
  -- item
  abbrev pub MayLackMemory : Command K V A → Lists K V → Type 0
  MayLackMemory (Append k v) m = Unit {0}
  MayLackMemory (Insert k v) m = is_present eq m.pairs k ≡ false
  MayLackMemory (InsertAll k v) m = Unit {0}
  MayLackMemory (OrInsert k v) m = is_present eq m.pairs k ≡ false
  MayLackMemory (Reserve a b) m = 0 < a + b
  MayLackMemory PackToFit m = Unit {0}
  MayLackMemory Swap m = Unit {0}
  MayLackMemory Json m = Unit {0}
  MayLackMemory Json2 m = Unit {0}
  MayLackMemory (All k ends) m = ListsItem (walked (values_of eq m.pairs k) ends)
  MayLackMemory (RemoveAll k) m = ListsItem (values_of eq m.pairs k)
  MayLackMemory (RemoveEntryAll k) m = ListsItem (values_of eq m.pairs k)
  MayLackMemory (Pairs ends) m = ListsItem (walked m.pairs ends)
  MayLackMemory (Keys ends) m = ListsItem (walked m.keys ends)
  MayLackMemory (Values ends) m = ListsItem (walked (all_values m.pairs) ends)
  MayLackMemory KeyLists m = ListsItem m.keys
  MayLackMemory _ m = ⊥

module _ {K V : Type 0} (keeps : V → K → V → Bool → V → Type 0) (eq : K → K → Bool)
    {A : Type 0} where
  -- the command may be given this reply, from these lists to those: a refusal changes nothing
  abbrev pub IsStep : Command K V A → Lists K V → Reply K V A → Lists K V → Type 0
  IsStep command m reply n =
      (IsReplyOf eq command m reply × Leaves keeps eq command m n)
      ⊎ ((reply ≡ replies.NoMemory) × MayLackMemory eq command m × (n ≡ m))

-- the same where no function is called
abbrev pub IsOwnStep : {K : Type 0} (eq : K → K → Bool) {V A : Type 0} → Command K V A
    → Lists K V → Reply K V A → Lists K V → Type 0
IsOwnStep eq = IsStep (λ x k v b w. ⊥) eq
