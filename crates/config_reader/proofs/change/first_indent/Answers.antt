use Rattle.std.proofs.Common.{[], ◌∷◌, refl}
use Rattle.std.specs.Char.{encode_utf8}
use Rattle.config_reader.proofs.change.first_indent.Goals as goal

pub returns-else-eq : goal.returns-else-eq
unfolding encode_utf8
returns-else-eq c = record { blank = (9 ∷ [], refl, (refl, tt)); one_line = refl }
