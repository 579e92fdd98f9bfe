-- The groups that are left are still to be stored, and the reason is among them.
use mathlib.Core.Path.{◌≡◌, ◌∙◌, ap}
use borrow.Author.Rules.{rules}
use Rattle.std.specs.Prelude.{Result, Err}
use Rattle.text_arguments.specs.declared.Reason.{Reason}
use Rattle.text_arguments.specs.Reading.{Found, value_of, place_of}
use Rattle.text_arguments.proofs.Groups.{all_left, none_left, group_refused, group_fits, group_read, word_ends}
use native.Mathlib.Omega.{arith}
use Rattle.text_arguments.proofs.Arguments.bytes.Goals as goal

pub loop-group-init : goal.loop-group-init
loop-group-init c = all_left _ _

pub returns-in_err-whole_bytes : goal.returns-in_err-whole_bytes
returns-in_err-whole_bytes c =
    let h : c.from_residual.result ≡ Err c.in_err-whole_bytes.field-0.0 = search rules in
    let w = c.in-Some.ensures.taken in
    let refused = group_refused c.loop-group.invariant w.0 w.1 c.in_err-whole_bytes.ensures in
    record {
      answer = h ∙ ap value_of refused.0;
      place = ap (λ (f : Result Found Reason). record c.args.self.now { at = place_of c.args.self.now.at f }) refused.0;
      stored = refused.1;
    }

pub store-count-requires : goal.store-count-requires
store-count-requires c = let w = c.in-Some.ensures.taken in let fits = group_fits c.loop-group.invariant w.0 w.1 w.2 in omega (arith, fits, c.in-Some.ensures.fits)

pub loop-group-smaller : goal.loop-group-smaller
loop-group-smaller c = let w = c.in-Some.ensures.taken in word_ends _ _ w.0 w.2

pub loop-group-preserved : goal.loop-group-preserved
loop-group-preserved c = let w = c.in-Some.ensures.taken in group_read c.loop-group.invariant w.0 w.1 w.2 c.in_ok-whole_bytes.ensures c.store-count.ensures

pub returns : goal.returns
returns c =
    let done = none_left c.loop-group.invariant c.in_default.ensures.taken.0 (omega arith) in
    record {
      answer = ap value_of done.0;
      place = ap (λ (f : Result Found Reason). record c.args.self.now { at = place_of c.args.self.now.at f }) done.0;
      stored = done.1;
    }
