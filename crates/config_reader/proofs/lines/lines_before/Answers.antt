use Rattle.std.proofs.Common.{◌≡◌, ◌-◌, ◌∙◌, length, length-append, ap, arith, rules, subst, sym, take}
use Rattle.std.specs.Str.{IsCharBoundary}
use Rattle.std.proofs.lemmas.Bool.{false≢true}
use Rattle.std.proofs.lemmas.Str.{IsCharBoundary-at_seam}
use Rattle.config_reader.proofs.WholeLines.{front_of}
use Rattle.config_reader.proofs.lines.lines_before.Goals as goal

pub returns-in-Some : goal.returns-in-Some
returns-in-Some c = λ lines is.
    c.in-Some.ensures.front ∙ ap (λ n. take n c.args.text.now) (search rules) ∙ front_of c.args.text.now lines c.args.behind.now is

pub returns-in-None : goal.returns-in-None
returns-in-None c = λ lines is.
    let len : length c.args.text.now - length c.args.behind.now ≡ length lines = omega (arith, ap length is, length-append lines c.args.behind.now) in
    let place : c.saturating_sub.result ≡ length lines = search rules ∙ len in
    absurd (false≢true (c.in-None.ensures.variant.1 (subst (IsCharBoundary c.args.text.now) (sym place)
    (IsCharBoundary-at_seam c.args.text.now lines c.args.behind.now is c.utf8.behind))))
