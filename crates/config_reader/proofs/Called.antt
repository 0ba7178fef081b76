-- The parts of a name, in front of a byte and behind it.
use Rattle.std.proofs.Common.{◌≡◌, ◌≢◌, ℕ, suc, ◌==◌, ◌<◌, Bool, true, false, ◌||◌, List, [], ◌∷◌, ◌++◌}
use Rattle.std.proofs.Common.{refl, sym, ap, ◌∙◌, arith, length, get_or, ne_eqb}
use Rattle.std.specs.List.{list_any}
use Rattle.std.specs.Prelude.{IfErr, IfOk, Result, Ok, Err}
use Rattle.std.specs.Str.{NoCharPasses, trim, trim_end}
use Rattle.std.proofs.lemmas.Bool.{true≢false}
use Rattle.std.proofs.lemmas.Str.Pattern.{NoCharPasses-char}
use Rattle.ordered_multimap.specs.Pairs.{has_items}
use Rattle.config_reader.specs.Names.{IsCalledBy, IsCalledByDot, Lacks}
use Rattle.config_reader.specs.declared.section.Section.{Section}

pub some_items : (text : List ℕ) → 0 < length text → has_items text ≡ true
some_items [] some = absurd (omega arith)
some_items (b ∷ text) some = refl

-- a byte that isn't in the text
pub lacks_bytes : (b : ℕ) (text : List ℕ) → ((i : ℕ) → i < length text → get_or text i 0 ≢ b) → Lacks b text
lacks_bytes b [] none = refl
lacks_bytes b (c ∷ text) none =
    rw (ne_eqb c b (none 0 (omega arith))) (lacks_bytes b text (λ i below. none (suc i) (omega arith)))

pub lacks : (b : ℕ) (text : List ℕ) → b < 128 → NoCharPasses (λ c. c == b) text → Lacks b text
lacks b text small none = lacks_bytes b text (λ i below. NoCharPasses-char b text i none small below)

pub same : (b : ℕ) → (b == b) ≡ true
same b = grind arith

either : (x y : Bool) → y ≡ true → (x || y) ≡ true
either true y is = refl
either false y is = is

pub has_it : (b : ℕ) (front behind : List ℕ) → list_any (λ c. c == b) (front ++ b ∷ behind) ≡ true
has_it b [] behind = rw (same b) refl
has_it b (c ∷ front) behind = either (c == b) (list_any (λ d. d == b) (front ++ b ∷ behind)) (has_it b front behind)

pub no_cut : {P : Type 0} (b : ℕ) (text front behind : List ℕ) → text ≡ front ++ b ∷ behind → Lacks b text → P
no_cut b text front behind is none = absurd (true≢false (sym (has_it b front behind) ∙ ap (list_any (λ c. c == b)) (sym is) ∙ none))

first_lacks : (b c : ℕ) (text : List ℕ) → Lacks b (c ∷ text) → b ≢ c
first_lacks b c text none is =
    true≢false (sym (has_it b [] text) ∙ ap (λ d. list_any (λ e. e == b) (d ∷ text)) is ∙ none)

pub rest_lacks : (b c : ℕ) (text : List ℕ) → Lacks b (c ∷ text) → Lacks b text
rest_lacks b c text none = by (c == b) none
  where
    by : (is : Bool) → (is || list_any (λ d. d == b) text) ≡ false → Lacks b text
    by true neither = absurd (true≢false neither)
    by false neither = neither

-- two cuts at the first such byte, and at the last one, are the same
pub first_cut : (b : ℕ) (front behind other_front other : List ℕ) → front ++ b ∷ behind ≡ other_front ++ b ∷ other
    → Lacks b front → Lacks b other_front → (front ≡ other_front) × (behind ≡ other)
first_cut b [] behind [] other is none other_none = (refl, cc)
first_cut b [] behind (c ∷ other_front) other is none other_none =
    let first : b ≡ c = cc in absurd (first_lacks b c other_front other_none first)
first_cut b (c ∷ front) behind [] other is none other_none =
    let first : b ≡ c = cc in absurd (first_lacks b c front none first)
first_cut b (c ∷ front) behind (d ∷ other_front) other is none other_none =
    let rest : front ++ b ∷ behind ≡ other_front ++ b ∷ other = cc in
    let first : c ≡ d = cc in
    let later = first_cut b front behind other_front other rest (rest_lacks b c front none) (rest_lacks b d other_front other_none) in
    (ap (λ e. e ∷ front) first ∙ ap (λ t. d ∷ t) later.0, later.1)

pub last_cut : (b : ℕ) (front behind other_front other : List ℕ) → front ++ b ∷ behind ≡ other_front ++ b ∷ other
    → Lacks b behind → Lacks b other → (front ≡ other_front) × (behind ≡ other)
last_cut b [] behind [] other is none other_none = (refl, cc)
last_cut b [] behind (c ∷ other_front) other is none other_none =
    let rest : behind ≡ other_front ++ b ∷ other = cc in no_cut b behind other_front other rest none
last_cut b (c ∷ front) behind [] other is none other_none =
    let rest : other ≡ front ++ b ∷ behind = cc in no_cut b other front behind rest other_none
last_cut b (c ∷ front) behind (d ∷ other_front) other is none other_none =
    let rest : front ++ b ∷ behind ≡ other_front ++ b ∷ other = cc in
    let first : c ≡ d = cc in
    let later = last_cut b front behind other_front other rest none other_none in
    (ap (λ e. e ∷ front) first ∙ ap (λ t. d ∷ t) later.0, later.1)

-- success with two facts
pub IfOk-both : {T E : Type 0} (r : Result T E) {P Q R : T → Type 0} → ((x : T) → P x → Q x → R x) → IfOk r P → IfOk r Q → IfOk r R
IfOk-both (Ok x) f p q = f x p q
IfOk-both (Err e) f p q = p

pub IfOk-three : {T E : Type 0} (r : Result T E) {P Q R S : T → Type 0} → ((x : T) → P x → Q x → R x → S x)
    → IfOk r P → IfOk r Q → IfOk r R → IfOk r S
IfOk-three (Ok x) f p q r = f x p q r
IfOk-three (Err e) f p q r = p

-- a failure, told otherwise
pub IfErr-then : {T E : Type 0} (r : Result T E) {P Q : E → Type 0} → ((e : E) → P e → Q e) → IfErr r P → IfErr r Q
IfErr-then (Ok x) f p = p
IfErr-then (Err e) f p = f e p

-- the three forms of a section's name
pub by_dot : (text word name : List ℕ) (section : Section) → text ≡ word ++ 46 ∷ name → Lacks 46 word
    → section.word.0.now ≡ trim word → section.sub.now ≡ name → IsCalledByDot text section
by_dot text word name section is none word_is name_is = record {
  dotted = λ w n same lacking. let cut = first_cut 46 word name w n (sym is ∙ same) none lacking in
      (word_is ∙ ap trim cut.0, name_is ∙ cut.1);
  alone = λ lacking. no_cut 46 text word name is lacking;
}

pub by_word : (text : List ℕ) (section : Section) → Lacks 46 text
    → section.word.0.now ≡ trim text → section.sub.now ≡ [] → IsCalledByDot text section
by_word text section none word_is name_is = record {
  dotted = λ w n same lacking. no_cut 46 text w n same none;
  alone = λ lacking. (word_is, name_is);
}

pub by_quotes : (text trimmed word name : List ℕ) (section : Section) → trimmed ≡ trim_end text → (Lacks 34 text → Lacks 34 trimmed)
    → trimmed ≡ word ++ 34 ∷ (name ++ 34 ∷ []) → Lacks 34 word
    → section.word.0.now ≡ trim word → section.sub.now ≡ name → IsCalledBy text section
by_quotes text trimmed word name section is_trimmed part is none word_is name_is = record {
  quoted = λ w n same lacking.
      let cut = first_cut 34 word (name ++ 34 ∷ []) w (n ++ 34 ∷ []) (sym is ∙ is_trimmed ∙ same) none lacking in
      (word_is ∙ ap trim cut.0, name_is ∙ same_start name n cut.1);
  other = λ lacking. no_cut 34 trimmed word (name ++ 34 ∷ []) is (part lacking);
}
  where
    same_start : (a b : List ℕ) → a ++ 34 ∷ [] ≡ b ++ 34 ∷ [] → a ≡ b
    same_start a b is = (last_cut 34 a [] b [] is refl refl).0

pub without_quotes : (text trimmed : List ℕ) (section : Section) → trimmed ≡ trim_end text → Lacks 34 trimmed
    → IsCalledByDot text section → IsCalledBy text section
without_quotes text trimmed section is_trimmed none called = record {
  quoted = λ w n same lacking. no_cut 34 trimmed w (n ++ 34 ∷ []) (is_trimmed ∙ same) none;
  other = λ lacking. called;
}
