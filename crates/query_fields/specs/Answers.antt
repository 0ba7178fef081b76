-- What a command that stands behind a query or a URL prints.
use Rattle.std.specs.Prelude.{◌≡◌, ℕ, true, false, List, [], ◌∷◌, ◌++◌, Some, if◌then◌else◌}
use Rattle.std.specs.declared.borrow.CowStr.{CowStr}
use Rattle.ordered_multimap.specs.Lists.{Lists}
use Rattle.query_fields.specs.Commands.{Leaves, is_change, is_found, written_by}
use Rattle.query_fields.specs.Queries.{query_read_by, texts_of}
use Rattle.query_fields.specs.Urls.{IsAround, query_in, written_url}
use Rattle.query_fields.specs.declared.command.Command.{Command}
use Rattle.query_fields.specs.declared.fields.Reading.{Reading}
use Rattle.query_fields.specs.declared.url.Url.{Url}

-- the command finds what it asks for in the fields of the text, and this is what it writes of them
-- and then, if it changes fields, the text with those that it leaves
pub record IsAnswered {A : Type 0} (command : Command) (reading : Reading) (url : Url)
    (read left : Lists (CowStr A) (CowStr A)) (text said : List ℕ) : Type 0 where
  pub around : IsAround text url
  pub fields : query_read_by reading (query_in text) ≡ Some (texts_of read.pairs)
  pub found : is_found command read ≡ true
  pub leaves : Leaves command read left
  pub all : said ≡ written_by command url read ++ (if is_change command
      then written_url url (texts_of left.pairs) ++ (10 ∷ []) else [])

-- some fields and some URL are those
abbrev pub IsAnswer : {A : Type 0} → Command → Reading → Lists (CowStr A) (CowStr A)
    → List ℕ → List ℕ → Type 0
IsAnswer {A} command reading left text said =
    (url : Url) × (read : Lists (CowStr A) (CowStr A))
    × IsAnswered command reading url read left text said

-- some fields are those of the text, and the command finds nothing that it asks for in them
abbrev pub IsAbsent : {A : Type 0} → Command → Reading → Lists (CowStr A) (CowStr A)
    → List ℕ → Type 0
IsAbsent {A} command reading left text =
    (read : Lists (CowStr A) (CowStr A))
    × ((query_read_by reading (query_in text) ≡ Some (texts_of read.pairs))
    × ((is_found command read ≡ false) × Leaves command read left))
