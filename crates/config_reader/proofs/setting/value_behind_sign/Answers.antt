use Rattle.std.proofs.Common.{◌≡◌, ◌∙◌, ◌-◌, ◌==◌, ◌++◌, [], None, ap, arith, drop, length, rules, subst, sym, take}
use Rattle.std.proofs.lemmas.Bool.{false≢true, true≢false}
use Rattle.std.specs.IoError.{error_kind}
use Rattle.std.specs.List.{after_first}
use Rattle.std.specs.Prelude.{IsUtf8}
use Rattle.std.specs.Str.{IsCharBoundary}
use Rattle.std.specs.declared.io.ErrorKind.TheVariants.{InvalidData}
use Rattle.std.specs.String.{string_bytes}
use Rattle.std.proofs.lemmas.Str.{encode_ascii}
use Rattle.config_reader.specs.declared.value.Mode.TheVariants.{Gap}
use Rattle.config_reader.specs.Values.{value_read}
use Rattle.config_reader.proofs.Cuts.{no_byte, rest_read}
use Rattle.config_reader.proofs.WholeLines.{behind_part, cut_at}
use Rattle.config_reader.proofs.Values.{read_behind}
use Rattle.config_reader.proofs.ValueTexts.{none_read, value_boundary}
use Rattle.config_reader.proofs.setting.value_behind_sign.Goals as goal

pub returns-clause-lines : goal.returns-clause-lines
returns-clause-lines c =
    let all = c.args.rest.now in
    let text = c.in-Some.text.now in
    let cut = c.in-Some.ensures.cases in
    let sign = cut.2.1.split ∙ ap (λ first. first ++ drop cut.1 all) (encode_ascii 61 (omega arith)) in
    behind_part all (take cut.0 all) text c.in_ok-value.behind.now c.in-Some-split_at_checked.behind.now 61
    (cut_at all cut.0 cut.1 61 sign ∙ search rules)
    (read_behind Gap [] [] text (string_bytes c.in_ok-value.value, c.in_ok-value.behind.now) (search rules))
    (c.in-Some-split_at_checked.ensures.back ∙ ap (λ n. drop n text) (search rules))

pub returns-clause-value : goal.returns-clause-value
returns-clause-value c =
    let text = c.in-Some.text.now in
    let value = string_bytes c.in_ok-value.value in
    let found = c.in-Some.ensures.byte (omega arith) (λ w o r. r) in
    let read = ap value_read (search rules) ∙ c.in_ok-value.ensures.value in
    ap value_read (sym found.1) ∙ rest_read text c.in_ok-value.behind.now c.in-Some-split_at_checked.behind.now value read
    (c.in-Some-split_at_checked.ensures.back ∙ ap (λ n. drop n text) (search rules))

pub returns-in_default-clause-refused : goal.returns-in_default-clause-refused
returns-in_default-clause-refused c = λ some bad.
    let none = no_byte 61 c.args.rest.now (c.in_default.ensures.byte (omega arith) (λ w o r. r)) in
    absurd (true≢false (sym some ∙ none))

pub returns-in_err-value-clause-refused : goal.returns-in_err-value-clause-refused
returns-in_err-value-clause-refused c = λ some.
    let found = c.in-Some.ensures.byte (omega arith) (λ w o r. r) in
    let utf8 : IsUtf8 c.as_bytes.result.now = search rules in
    let same : c.as_bytes.result.now ≡ after_first (λ b. b == 61) c.args.rest.now = c.as_bytes.ensures.value ∙ found.1 in
    let refused : error_kind c.in_err-value.field-0.0 ≡ InvalidData → value_read (after_first (λ b. b == 61) c.args.rest.now) ≡ None =
    λ bad. ap value_read (sym same) ∙ none_read c.as_bytes.result.now utf8 (c.in_err-value.ensures.bad bad) in
    search rules

pub returns-in_default-split_at_checked-clause-refused : goal.returns-in_default-split_at_checked-clause-refused
returns-in_default-split_at_checked-clause-refused c = λ some bad.
    let text = c.in-Some.text.now in
    let behind = c.in_ok-value.behind.now in
    let utf8 : IsUtf8 text = search rules in
    let place : c.saturating_sub.result ≡ length text - length behind = search rules in
    let at = value_boundary text (string_bytes c.in_ok-value.value) behind utf8
    (ap value_read (search rules) ∙ c.in_ok-value.ensures.value) in
    absurd (false≢true (c.in_default-split_at_checked.ensures.variant.1 (subst (IsCharBoundary text) (sym place) at)))
