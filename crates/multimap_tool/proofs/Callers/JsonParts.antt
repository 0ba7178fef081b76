-- JSON values of keys, values and maps.
use Rattle.std.proofs.Common.{◌≡◌, ℕ, suc, ◌==◌, ◌+◌, ◌<◌, ◌≤◌, Bool, true, false, List, [], ◌∷◌, ◌++◌, length, length-append, map, take}
use Rattle.std.proofs.Common.{drop, get_or, slice_get, Option, Some, None}
use Rattle.std.proofs.Common.{chars, encode_utf8, ℤ, pos, negsuc, refl, sym, ap, ap₂, ◌∙◌, append_assoc, append-nil, subst, arith, Result}
use Rattle.std.proofs.Common.{Ok, Err, IfErr, IsErrAnd}
use lib.Utf8.{scalars}
use Rattle.std.specs.Str.{IsUtf8}
use Rattle.std.specs.Option.{option_or}
use Rattle.std.proofs.lemmas.Bool.{ne_eqb}
use Rattle.std.proofs.lemmas.List.{map-append, take_more, drop_more}
use Rattle.std.proofs.lemmas.Str.{chars-encodes, chars_past_char}
use Rattle.serde_json.specs.Data.{Data, number, string, array, Items}
use Rattle.serde_json.specs.Find.{as_array, as_str, of_integer}
use Rattle.serde_json.specs.View.{view, items_of, items_view}
use Rattle.serde_json.specs.declared.value.Value.{Value}
use Rattle.std.specs.Cmp.{IsEquivalence}
use Rattle.ordered_multimap.specs.Lists.{Lists, lists, IsWellFormed}
use Rattle.ordered_multimap.specs.Changes.{appended, all_appended, built_from, first_occurrences}
use Rattle.ordered_multimap.proofs.Callers.Laws.{rebuilt}
use Rattle.ordered_multimap.specs.TapeNumbers.{TapeNumbers, AreUnused, TakesOut}
use Rattle.multimap_tool.specs.Json.{is_character, item_fault, first_fault, IsFound, UnlessMemory, pair_json, pairs_json, IsReadFrom}
use Rattle.multimap_tool.specs.declared.json.faults.ReadFault.{ReadFault}
use Rattle.multimap_tool.specs.declared.json.faults.ReadFault.TheVariants.{OutOfMemory}

-- what a look into a JSON value found is all that it is
pub array_is : (d : Data) (ds : Items) → as_array d ≡ Some ds → d ≡ array ds
array_is (array es) ds e = ap array (grind arith)
array_is d ds e = absurd (grind arith)

pub string_is : (d : Data) (s : List ℕ) → as_str d ≡ Some s → d ≡ string s
string_is (string t) s e = ap string (grind arith)
string_is d s e = absurd (grind arith)

-- texts of one character, and others
pub encoded_character : (c : ℕ) → scalars (c ∷ []) ≡ true → is_character (string (encode_utf8 c)) ≡ true
encoded_character c is =
    let all : chars (encode_utf8 c) ≡ c ∷ [] = ap chars (sym (append-nil (encode_utf8 c))) ∙ chars-encodes (c ∷ []) is in
    rw all refl

nothing : (xs : List ℕ) → slice_get xs 0 ≡ None → xs ≡ []
nothing [] e = refl
nothing (x ∷ xs) e = absurd (grind arith)

pub no_character : (s : List ℕ) → slice_get (chars s) 0 ≡ None → is_character (string s) ≡ false
no_character s e = rw (nothing (chars s) e) refl

pub one_character : (s rest : List ℕ) (c : ℕ) → IsUtf8 s → s ≡ encode_utf8 c ++ rest → slice_get (chars rest) 0 ≡ None
    → is_character (string s) ≡ true
one_character s rest c utf8 starts ends = rw (chars_past_char s rest c utf8 starts, nothing (chars rest) ends) refl

not_one : (x y : ℕ) (xs : List ℕ) → slice_get xs 0 ≡ Some y → length (x ∷ xs) == 1 ≡ false
not_one x y [] e = absurd (grind arith)
not_one x y (z ∷ xs) e = ne_eqb _ 1 (λ is. omega arith)

pub more_characters : (s rest : List ℕ) (c d : ℕ) → IsUtf8 s → s ≡ encode_utf8 c ++ rest → slice_get (chars rest) 0 ≡ Some d
    → is_character (string s) ≡ false
more_characters s rest c d utf8 starts goes_on = rw (chars_past_char s rest c utf8 starts) (not_one c d (chars rest) goes_on)

module _ (is_key is_value : Data → Bool) where
  pub nones : {T : Type 0} (o p : Option T) → option_or o p ≡ None → (o ≡ None) × (p ≡ None)
  nones None p e = (refl, e)
  nones (Some x) p e = absurd (grind arith)

  -- a good item behind good ones
  pub none_bad-push : (i : ℕ) (vs : List Value) (v : Value) → first_fault is_key is_value i (items_view vs) ≡ None
      → ((j : ℕ) → item_fault is_key is_value j (view v) ≡ None) → first_fault is_key is_value i (items_view (vs ++ v ∷ [])) ≡ None
  none_bad-push i [] v none good = rw (good i) refl
  none_bad-push i (w ∷ vs) v none good =
      let parts = nones (item_fault is_key is_value i (view w)) _ none in
      rw parts.0 (none_bad-push (suc i) vs v parts.1 good)

  -- a good item before others
  pub fault_behind : (i : ℕ) (v : Value) (vs : List Value) → item_fault is_key is_value i (view v) ≡ None
      → first_fault is_key is_value i (items_view (v ∷ vs)) ≡ first_fault is_key is_value (i + 1) (items_view vs)
  fault_behind i v vs good = rw good (ap (λ j. first_fault is_key is_value j (items_view vs)) (omega arith))

-- a fault of one kind is one of another
pub unless_other : (P Q : ReadFault → Type 0) → ((f : ReadFault) → P f → Q f) → (f : ReadFault) → UnlessMemory P f → UnlessMemory Q f
unless_other P Q other OutOfMemory is = tt
unless_other P Q other fault is = other fault is

-- a fault that wants no memory is of its kind
pub unless_is : (P : ReadFault → Type 0) (f : ReadFault) → (f ≡ OutOfMemory → ⊥) → UnlessMemory P f → P f
unless_is P OutOfMemory other is = absurd (other refl)
unless_is P fault other is = is

-- the fault of an item before others
pub found_first : (o p : Option ReadFault) (f : ReadFault) → IsFound o f → IsFound (option_or o p) f
found_first o p f e = unless_other (λ g. o ≡ Some g) (λ g. option_or o p ≡ Some g) (λ g is. ap (λ x. option_or x p) is) f e

-- a fault that was passed on
pub passed_on : {T : Type 0} (r : Result T ReadFault) (P : ReadFault → Type 0) (f : ReadFault) → IsErrAnd r (λ g. g ≡ f) → P f → IfErr r P
passed_on (Ok x) P f e p = tt
passed_on (Err g) P f e p = subst P (sym e) p

-- an item that a walk gave was written behind others: what is written and what is left are all, and
-- there is room for what is left
pub one_written : {P : Type 0} (f : P → Data) (done : List Value) (v : Value) (all : List P) {more : List Value} {p : P} {was left : List P}
    {room new : ℕ} → more ≡ done ++ v ∷ [] → new ≡ room → was ≡ p ∷ left → view v ≡ f p → map view done ++ map f was ≡ map f all
    → length done + length was ≤ room → (map view more ++ map f left ≡ map f all) × (length more + length left ≤ new)
one_written f done v all {more} {p} {was} {left} pushed same given is before fits = (
  ap (λ vs. map view vs ++ map f left) pushed
      ∙ ap (λ ds. ds ++ map f left) (map-append view done (v ∷ [])) ∙ append_assoc (map view done) (view v ∷ []) (map f left)
      ∙ ap (λ d. map view done ++ d ∷ map f left) is ∙ ap (λ ps. map view done ++ map f ps) (sym given) ∙ before,
  omega (arith, ap length pushed ∙ length-append done (v ∷ []), ap length given, same, fits),
)

-- what a walk over items has behind it and ahead of it once it has read one
pub seen_at : {X : Type 0} (xs : List X) (i : ℕ) (x : X) → i < length xs → x ≡ get_or xs i x → take (i + 1) xs ≡ take i xs ++ x ∷ []
seen_at xs i x inside is = take_more xs i x inside ∙ ap (λ y. take i xs ++ y ∷ []) (sym is)

pub left_at : {X : Type 0} (xs : List X) (i : ℕ) (x : X) → i < length xs → x ≡ get_or xs i x → drop i xs ≡ x ∷ drop (i + 1) xs
left_at xs i x inside is = drop_more xs i x inside ∙ ap (λ y. y ∷ drop (i + 1) xs) (sym is)

-- a pair was read behind others
pub one_read : {P : Type 0} (f : P → Data) (done : List Value) (v : Value) (pairs : List P) (p : P) → view v ≡ f p
    → map view done ≡ map f pairs → map view (done ++ v ∷ []) ≡ map f (pairs ++ p ∷ [])
one_read f done v pairs p is before =
    map-append view done (v ∷ []) ∙ ap (λ ds. ds ++ view v ∷ []) before ∙ ap (λ d. map f pairs ++ d ∷ []) is
    ∙ sym (map-append f pairs (p ∷ []))

pub appended_last : {K V : Type 0} (eq : K → K → Bool) (m : Lists K V) (pairs : List (K × V)) (p : K × V)
    → all_appended eq m (pairs ++ p ∷ []) ≡ appended eq (all_appended eq m pairs) p.0 p.1
appended_last eq m [] p = refl
appended_last eq m (q ∷ pairs) p = appended_last eq (appended eq m q.0 q.1) pairs p

pub still_unused : {t u : TapeNumbers} → AreUnused t → TakesOut 0 t u → AreUnused u
still_unused unused taken = record {
  moved = omega (arith, unused.moved, unused.holes, taken.paid);
  freed = omega (arith, unused.freed, taken.freed);
  holes = omega (arith, unused.moved, unused.holes, taken.paid);
}

-- different numbers have different JSON values
pub same_signed : (y z : ℤ) → number (of_integer y) ≡ number (of_integer z) → y ≡ z
same_signed (pos m) (pos n) e = grind arith
same_signed (pos m) (negsuc n) e = absurd (grind arith)
same_signed (negsuc m) (pos n) e = absurd (grind arith)
same_signed (negsuc m) (negsuc n) e = grind arith

-- where different values have different JSON values, so have different lists of them
pub same_items : {P : Type 0} (f : P → Data) → ((p q : P) → f p ≡ f q → p ≡ q) → (ps qs : List P)
    → items_of (map f ps) ≡ items_of (map f qs) → ps ≡ qs
same_items f same [] [] e = refl
same_items f same [] (q ∷ qs) e = absurd (grind arith)
same_items f same (p ∷ ps) [] e = absurd (grind arith)
same_items f same (p ∷ ps) (q ∷ qs) e = ap₂ (λ x xs. x ∷ xs) (same p q (grind arith)) (same_items f same ps qs (grind arith))

-- where that is so of keys and of values, different pairs have different JSON values, and what is
-- read of one is built of the very pairs
module _ {K V : Type 0} (key_json : K → Data) (value_json : V → Data) (keys : (k j : K) → key_json k ≡ key_json j → k ≡ j)
    (values : (v w : V) → value_json v ≡ value_json w → v ≡ w) where
  pub same_pair : (p q : K × V) → pair_json key_json value_json p ≡ pair_json key_json value_json q → p ≡ q
  same_pair p q e = ap₂ (λ k v. (k, v)) (keys p.0 q.0 (grind arith)) (values p.1 q.1 (grind arith))

  pub same_pairs_json : (ps qs : List (K × V)) → pairs_json key_json value_json ps ≡ pairs_json key_json value_json qs → ps ≡ qs
  same_pairs_json ps qs e = same_items (pair_json key_json value_json) same_pair ps qs (grind arith)

  pub read_back : {eq : K → K → Bool} → IsEquivalence eq → (m n : Lists K V) → IsWellFormed eq m
      → IsReadFrom key_json value_json eq (pairs_json key_json value_json m.pairs) n → n ≡ lists (first_occurrences eq m.pairs) m.pairs
  read_back {eq} laws m n formed read =
      read.2 ∙ ap (built_from eq) (sym (same_pairs_json m.pairs read.0 read.1)) ∙ rebuilt laws m formed
