use Rattle.std.proofs.Common.{◌≡◌, ◌==◌, ◌-◌, true, false, length, refl, sym, ◌∙◌, arith, rules, tests}
use Rattle.std.proofs.lemmas.Iterator.{YieldsList-from_slice}
use Rattle.std.proofs.lemmas.Iterator.Search.{any_from_yields_List}
use Rattle.std.specs.Prelude.{slice_index}
use Rattle.std.specs.List.{list_any}
use Rattle.config_reader.specs.Values.{begins_blank, ends_blank, is_special}
use Rattle.config_reader.proofs.Values.{first_byte, last_byte}
use Rattle.config_reader.proofs.value.is_plain.Goals.{then-starts_with-via-then-starts_with, then-starts_with-via-else-starts_with+then-ends_with}
use Rattle.config_reader.proofs.value.is_plain.Goals as goal

pub returns-then-starts_with : goal.returns-then-starts_with
returns-then-starts_with c =
    let v = c.args.value.now in
    let begins : c.starts_with.result ≡ (slice_index v 0 == 32) = c.starts_with.ensures.byte (omega arith) (omega arith) (λ w o r. r) in
    elim c.then-starts_with.branch [
      | then-starts_with-via-then-starts_with w ↦
          let blank : begins_blank v ≡ true = first_byte v ∙ sym begins ∙ w.if-starts_with.true in
          rw blank refl
      | then-starts_with-via-else-starts_with+then-ends_with w ↦
          let none : begins_blank v ≡ false = first_byte v ∙ sym begins ∙ w.if-starts_with.false in
          let ends : w.ends_with.result ≡ (slice_index v (length v - 1) == 32) = w.ends_with.ensures.byte (omega arith) (omega arith) (λ w o r. r) in
          let blank : ends_blank v ≡ true = last_byte v ∙ sym ends ∙ w.if-ends_with.true in
          rw (none, blank) refl
    ]

pub returns : goal.returns
returns c =
    let v = c.args.value.now in
    let begins : c.starts_with.result ≡ (slice_index v 0 == 32) = c.starts_with.ensures.byte (omega arith) (omega arith) (λ w o r. r) in
    let ends : c.ends_with.result ≡ (slice_index v (length v - 1) == 32) = c.ends_with.ensures.byte (omega arith) (omega arith) (λ w o r. r) in
    let no_start : begins_blank v ≡ false = first_byte v ∙ sym begins ∙ c.if-starts_with.false in
    let no_end : ends_blank v ≡ false = last_byte v ∙ sym ends ∙ c.if-ends_with.false in
    let some : c.any.result ≡ list_any is_special v =
    any_from_yields_List is_special _ _ _ c.any.ensures.ran (YieldsList-from_slice v (search rules)) (λ x b q k. search (rules, tests)) in
    rw (no_start, no_end, some) refl
