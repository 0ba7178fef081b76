-- A text cut into lines from its front.
use Rattle.std.proofs.Common.{◌≡◌, ℕ, ◌+◌, ◌<◌, false, nat_eq, List, [], ◌∷◌, ◌++◌, length, refl, sym, ap, ◌∙◌, subst, arith}
use Rattle.std.specs.Prelude.{ℤ}
use Rattle.std.proofs.lemmas.Bool.{ne_eqb}
use Rattle.std.proofs.lemmas.List.{append_assoc, append-nil}
use Rattle.multimap_tool.specs.declared.commands.Command.{Command}
use Rattle.multimap_tool.specs.Spelling.{lines_of, onto_first_line, Spells, SpellEach, IsBadLine, IsFirstBadLine}
use Rattle.multimap_tool.specs.Private.Parts.{IsWithout}
use Rattle.multimap_tool.proofs.Texts.Cut.{head_differs, tail_without}

-- a byte that is no line feed goes onto the first line
no_feed : (b : ℕ) (bs : List ℕ) → IsWithout 10 (b ∷ bs) → nat_eq b 10 ≡ false
no_feed b bs without = ne_eqb b 10 (λ e. head_differs 10 b bs without (sym e))

-- what stands before the first line feed is the first line, and what stands behind it are the others
pub lines_of-feed : (line rest : List ℕ) → IsWithout 10 line → lines_of (line ++ 10 ∷ rest) ≡ line ∷ lines_of rest
lines_of-feed [] rest without = refl
lines_of-feed (b ∷ line) rest without =
    rw (no_feed b line without) (ap (onto_first_line b) (lines_of-feed line rest (tail_without 10 b line without)))

-- without a line feed there is one line, unless there is nothing
pub lines_of-last : (line : List ℕ) → 0 < length line → IsWithout 10 line → lines_of line ≡ line ∷ []
lines_of-last [] some without = absurd (omega (arith, some))
lines_of-last (b ∷ []) some without = rw (no_feed b [] without) refl
lines_of-last (b ∷ c ∷ line) some without =
    rw (no_feed b (c ∷ line) without) (ap (onto_first_line b)
    (lines_of-last (c ∷ line) (omega arith) (tail_without 10 b (c ∷ line) without)))

module _ {A : Type 0} where
  -- the commands spell the lines before what is left of the text
  pub record IsReadTo (commands : List (Command ℕ ℤ A)) (text rest : List ℕ) : Type 0 where
    pub before : List (List ℕ)
    pub parts : lines_of text ≡ before ++ lines_of rest
    pub good : SpellEach commands before

  SpellEach-push : (commands : List (Command ℕ ℤ A)) (lines : List (List ℕ)) (command : Command ℕ ℤ A) (line : List ℕ)
      → SpellEach commands lines → Spells command line → SpellEach (commands ++ command ∷ []) (lines ++ line ∷ [])
  SpellEach-push [] [] command line each spells = (spells, tt)
  SpellEach-push [] (l ∷ lines) command line each spells = absurd each
  SpellEach-push (c ∷ commands) [] command line each spells = absurd each
  SpellEach-push (c ∷ commands) (l ∷ lines) command line each spells = (each.0, SpellEach-push commands lines command line each.1 spells)

  length-SpellEach : (commands : List (Command ℕ ℤ A)) (lines : List (List ℕ)) → SpellEach commands lines → length commands ≡ length lines
  length-SpellEach [] [] each = refl
  length-SpellEach [] (l ∷ lines) each = absurd each
  length-SpellEach (c ∷ commands) [] each = absurd each
  length-SpellEach (c ∷ commands) (l ∷ lines) each = omega (arith, length-SpellEach commands lines each.1)

  -- all is read
  pub read_all : (commands : List (Command ℕ ℤ A)) (text : List ℕ) → IsReadTo commands text [] → SpellEach commands (lines_of text)
  read_all commands text read = subst (SpellEach commands) (sym (read.parts ∙ append-nil read.before)) read.good

  -- the next line spells the next command
  pub read_more : (commands : List (Command ℕ ℤ A)) (text rest : List ℕ) (line after : List ℕ) (command : Command ℕ ℤ A)
      → IsReadTo commands text rest → lines_of rest ≡ line ∷ lines_of after → Spells command line
      → IsReadTo (commands ++ command ∷ []) text after
  read_more commands text rest line after command read first spells = record {
    before = read.before ++ line ∷ [];
    parts = read.parts ∙ ap (λ ls. read.before ++ ls) first ∙ sym (append_assoc read.before (line ∷ []) (lines_of after));
    good = SpellEach-push commands read.before command line read.good spells;
  }

  -- a bad line is the first one
  pub read_bad : (commands : List (Command ℕ ℤ A)) (text rest : List ℕ) (line after : List ℕ) (n : ℕ)
      → IsReadTo commands text rest → lines_of rest ≡ line ∷ lines_of after → IsBadLine A line → n ≡ length commands + 1
      → IsFirstBadLine A (lines_of text) n
  read_bad commands text rest line after n read first bad number = record {
    before = read.before;
    line = line;
    after = lines_of after;
    commands = commands;
    parts = read.parts ∙ ap (λ ls. read.before ++ ls) first;
    number = omega (arith, number, length-SpellEach commands read.before read.good);
    good = read.good;
    bad = bad;
  }
