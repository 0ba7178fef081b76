-- The section that a line opens.
use Rattle.std.specs.Char.{is_ascii_uppercase}
use Rattle.std.specs.List.{after_first, before_first, list_any}
use Rattle.std.specs.Prelude.{◌≡◌, ℕ, Bool, false, ◌==◌, ◌&&◌, ◌||◌, not, if◌then◌else◌}
use Rattle.std.specs.Prelude.{List, [], ◌∷◌, Option, Some, None}
use Rattle.std.specs.Str.{drop_trailing_whitespace, skip_leading_whitespace, trim}
use Rattle.ordered_multimap.specs.Pairs.{has_items}
use Rattle.config_reader.specs.declared.section.Section.{Section}
use Rattle.config_reader.specs.Lines.{says_nothing}
use Rattle.config_reader.specs.Values.{is_blank}

-- a section by its word and the name between quotes, as they are spelled
abbrev pub spelled : Section → List ℕ × List ℕ
spelled section = (section.word.0.now, section.sub.now)

-- characters without white space at their ends
abbrev pub IsTrimmed : List ℕ → Type 0
IsTrimmed cs = (skip_leading_whitespace cs ≡ cs) × (drop_trailing_whitespace cs ≡ cs)

-- a quote, a backslash or a line feed
abbrev pub is_outside_sub : ℕ → Bool
is_outside_sub b = b == 34 || b == 92 || b == 10

-- a blank of ASCII other than a line feed
abbrev pub is_space : ℕ → Bool
is_space b = b == 32 || b == 9 || b == 11 || b == 12 || b == 13

-- a dot, a bracket or a blank, which only a name between quotes can have
abbrev pub needs_quotes : ℕ → Bool
needs_quotes b = b == 46 || b == 91 || b == 93 || is_space b

-- what no word has: what no name between quotes has, or what only such a name can have
abbrev pub is_outside_word : ℕ → Bool
is_outside_word b = is_outside_sub b || needs_quotes b

-- whether a section can have this word, and this name between quotes
abbrev pub is_word : List ℕ → Bool
is_word text = has_items text && not (list_any is_outside_word text)

abbrev pub is_sub : List ℕ → Bool
is_sub text = has_items text && not (list_any is_outside_sub text)

-- the section of these parts, or none where one can't have them
abbrev pub of_word : List ℕ → Option (List ℕ × List ℕ)
of_word word = if is_word word then Some (word, []) else None

abbrev pub of_parts : List ℕ → List ℕ → Option (List ℕ × List ℕ)
of_parts word sub = if is_word word && is_sub sub then Some (word, sub) else None

-- the section `word` or `word.sub`
abbrev pub of_dotted : List ℕ → Option (List ℕ × List ℕ)
of_dotted text =
    if list_any (λ b. b == 46) text
    then of_parts (trim (before_first (λ b. b == 46) text)) (after_first (λ b. b == 46) text)
    else of_word (trim text)

-- whether a bracket closes the line, up to a comment
abbrev pub is_closed : List ℕ → Bool
is_closed [] = false
is_closed (b ∷ behind) = b == 93 && says_nothing behind

-- whether a text has a blank as its last byte, and none as its first one
abbrev pub ends_in_blank : List ℕ → Bool
ends_in_blank [] = false
ends_in_blank (b ∷ []) = is_blank b
ends_in_blank (b ∷ c ∷ text) = ends_in_blank (c ∷ text)

abbrev pub is_front : List ℕ → Bool
is_front [] = false
is_front (b ∷ text) = not (is_space b) && ends_in_blank (b ∷ text)

-- the section that a line opens, by what stands in front of its first quote and behind it
abbrev pub opened_in_quotes : List ℕ → List ℕ → Option (List ℕ × List ℕ)
opened_in_quotes word quoted =
    if is_closed (after_first (λ b. b == 34) quoted) && is_front word
    then of_parts (trim word) (before_first (λ b. b == 34) quoted) else None

-- whether a letter behind the first dot is a capital
abbrev pub has_capital_behind_dot : List ℕ → Bool
has_capital_behind_dot name = list_any is_ascii_uppercase (after_first (λ b. b == 46) name)

-- a blank or a bracket, which no name without quotes has
abbrev pub is_outside_unquoted : ℕ → Bool
is_outside_unquoted b = is_space b || b == 91

-- the section of the name that a line without quotes has
abbrev pub of_unquoted : List ℕ → Option (List ℕ × List ℕ)
of_unquoted name =
    if list_any is_outside_unquoted name || has_capital_behind_dot name
    then None else of_dotted name

-- the section that a line without quotes opens
abbrev pub opened_without_quotes : List ℕ → Option (List ℕ × List ℕ)
opened_without_quotes inside =
    if list_any (λ b. b == 93) inside && says_nothing (after_first (λ b. b == 93) inside)
    then of_unquoted (before_first (λ b. b == 93) inside) else None

-- the section that a line opens, by what stands behind its first bracket
abbrev pub opened : List ℕ → Option (List ℕ × List ℕ)
opened inside =
    if list_any (λ b. b == 34) inside
    && not (list_any (λ b. b == 93) (before_first (λ b. b == 34) inside))
    then opened_in_quotes (before_first (λ b. b == 34) inside) (after_first (λ b. b == 34) inside)
    else opened_without_quotes inside
