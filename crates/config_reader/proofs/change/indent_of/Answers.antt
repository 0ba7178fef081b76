use Rattle.std.proofs.Common.{◌≡◌, ◌+◌, List, ℕ, ap, arith, length, refl, subst, sym}
use Rattle.std.specs.Borrow.{Bor}
use Rattle.std.specs.Str.{trim_start}
use Rattle.config_reader.specs.Blocks.{IsBlank}
use Rattle.config_reader.specs.Lines.{first_line}
use Rattle.config_reader.specs.Names.{Lacks}
use Rattle.config_reader.specs.Said.{indent_of}
use Rattle.config_reader.proofs.Blanks.{blank_stripped, lacks_stripped, length_stripped}
use Rattle.config_reader.proofs.Blocks.{lacks_before}
use Rattle.config_reader.proofs.change.indent_of.Goals as goal

pub returns : goal.returns
returns c =
    let line : List ℕ = c.first_line.result.0.now in
    let rest : List ℕ = c.trim_start.result.now in
    let P : Bor (List ℕ) → Type 0 = λ indent. IsBlank indent.now in
    let lacks : Lacks 10 line = subst (Lacks 10) (sym c.first_line.ensures.line) (lacks_before 10 c.args.text.now) in
    let long : length c.unwrap_or.result.now + length rest ≡ length line =
    length_stripped line rest c.trim_start.ensures.value c.strip_suffix.result _ c.strip_suffix.ensures.cases _ c.unwrap_or.ensures in
    let trimmed : length rest ≡ length (trim_start line) = ap length c.trim_start.ensures.trim in
    let line_is : indent_of line ≡ indent_of (first_line c.args.text.now) = ap indent_of c.first_line.ensures.line in
    record {
      blank = subst P (sym c.unwrap_or.ensures)
          (blank_stripped _ line rest c.trim_start.ensures.value c.strip_suffix.result _ refl c.strip_suffix.ensures.cases);
      one_line = lacks_stripped line rest c.trim_start.ensures.value c.strip_suffix.result _ c.strip_suffix.ensures.cases _ c.unwrap_or.ensures 10 lacks;
      length = omega (arith, long, trimmed, line_is);
    }
