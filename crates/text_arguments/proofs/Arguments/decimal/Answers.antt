-- A word is missing, is no number, does not fit, or is the number.
use mathlib.Core.Path.{◌≡◌, refl, ◌∙◌, ap}
use borrow.Author.Rules.{rules}
use Rattle.std.specs.Prelude.{Result, Err}
use Rattle.text_arguments.specs.declared.Reason.{Reason}
use Rattle.text_arguments.specs.Reading.{Found, value_of, place_of, reason_of}
use Rattle.text_arguments.proofs.Taking.{decimal_missing, decimal_read}
use Rattle.text_arguments.proofs.Arguments.decimal.Goals as goal

pub returns-in_default : goal.returns-in_default
returns-in_default c =
    let e = decimal_missing _ _ c.in_default.ensures.taken.0 c.args.limit in
    record { answer = ap value_of e; place = ap (λ (f : Result Found Reason). record c.args.self.now { at = place_of c.args.self.now.at f }) e; most = tt }

pub returns-in_err-value : goal.returns-in_err-value
returns-in_err-value c =
    let h : c.from_residual.result ≡ Err (reason_of c.in_err-value.field-0.0) = search rules in
    let w = c.in-Some.ensures.taken in
    let e = decimal_read _ _ w.0 w.1 refl c.args.limit c.in_err-value.ensures.value in
    record { answer = h ∙ ap value_of e; place = ap (λ (f : Result Found Reason). record c.args.self.now { at = place_of c.args.self.now.at f }) e; most = search rules }

pub returns : goal.returns
returns c =
    let w = c.in-Some.ensures.taken in
    let e = decimal_read _ _ w.0 w.1 refl c.args.limit c.in_ok-value.ensures.value in
    record { answer = ap value_of e; place = w.2 ∙ ap (λ (f : Result Found Reason). record c.args.self.now { at = place_of c.args.self.now.at f }) e; most = c.in_ok-value.ensures.most }
