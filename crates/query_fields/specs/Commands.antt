-- What a command writes, and what it leaves of the fields.
use Rattle.std.specs.Cow.{cow_str_bytes}
use Rattle.std.specs.Prelude.{◌≡◌, ℕ, Bool, true, false, List, [], ◌∷◌, ◌++◌, map}
use Rattle.std.specs.Str.{bytes_eq}
use Rattle.std.specs.declared.borrow.CowStr.{CowStr}
use Rattle.std.specs.declared.borrow.CowStr.TheVariants.{Borrowed}
use Rattle.ordered_multimap.specs.Changes.{appended, removed_where}
use Rattle.ordered_multimap.specs.Lists.{Lists}
use Rattle.ordered_multimap.specs.OneValue.{only_written}
use Rattle.ordered_multimap.specs.Pairs.{has_items, is_present}
use Rattle.query_fields.specs.declared.command.Command.{Command}
use Rattle.query_fields.specs.declared.command.Command.TheVariants.{Get, All, Set, Add}
use Rattle.query_fields.specs.declared.command.Command.TheVariants.{Remove, Write, Names, Pairs}
use Rattle.query_fields.specs.Queries.{lines_of, only_first, same_name, texts_of}
use Rattle.query_fields.specs.Queries.{values_named, written_field}
use Rattle.query_fields.specs.Urls.{written_url}
use Rattle.query_fields.specs.declared.url.Url.{Url}

module _ {A : Type 0} where
  -- what the command adds to the answers
  abbrev pub written_by : Command → Url → Lists (CowStr A) (CowStr A) → List ℕ
  written_by (Get name) url lists = lines_of (only_first (values_named name.now lists.pairs))
  written_by (All name) url lists = lines_of (values_named name.now lists.pairs)
  written_by (Set name value) url lists = []
  written_by (Add name value) url lists = []
  written_by (Remove name) url lists = []
  written_by Write url lists = written_url url (texts_of lists.pairs) ++ (10 ∷ [])
  written_by Names url lists = lines_of (map cow_str_bytes lists.keys)
  written_by Pairs url lists = lines_of (map written_field (texts_of lists.pairs))

  -- whether there is what the command asks for
  abbrev pub is_found : Command → Lists (CowStr A) (CowStr A) → Bool
  is_found (Get name) lists = has_items (values_named name.now lists.pairs)
  is_found (All name) lists = has_items (values_named name.now lists.pairs)
  is_found (Set name value) lists = true
  is_found (Add name value) lists = true
  is_found (Remove name) lists = true
  is_found Write lists = true
  is_found Names lists = has_items lists.keys
  is_found Pairs lists = has_items lists.pairs

  -- what the command leaves of both lists
  abbrev pub Leaves : Command → Lists (CowStr A) (CowStr A) → Lists (CowStr A) (CowStr A) → Type 0
  Leaves (Get name) old new = new ≡ old
  Leaves (All name) old new = new ≡ old
  Leaves (Set name value) old new =
      (is_present same_name old.pairs (Borrowed name) ≡ true
      → new ≡ only_written (same_name (Borrowed name)) old (Borrowed value))
      × (is_present same_name old.pairs (Borrowed name) ≡ false
      → new ≡ appended same_name old (Borrowed name) (Borrowed value))
  Leaves (Add name value) old new = new ≡ appended same_name old (Borrowed name) (Borrowed value)
  Leaves (Remove name) old new =
      new ≡ removed_where same_name (λ stored. bytes_eq name.now (cow_str_bytes stored)) old
  Leaves Write old new = new ≡ old
  Leaves Names old new = new ≡ old
  Leaves Pairs old new = new ≡ old

-- the command changes fields
abbrev pub is_change : Command → Bool
is_change (Get name) = false
is_change (All name) = false
is_change (Set name value) = true
is_change (Add name value) = true
is_change (Remove name) = true
is_change Write = false
is_change Names = false
is_change Pairs = false
