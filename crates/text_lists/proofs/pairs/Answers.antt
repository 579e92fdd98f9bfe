-- The words that are left are still to be taken, and the reason is among them.
use mathlib.Core.Path.{◌≡◌, ◌∙◌, ap}
use borrow.Author.Rules.{rules}
use Rattle.std.specs.Prelude.{Result, Err}
use Rattle.text_arguments.specs.declared.Reason.{Reason}
use Rattle.text_arguments.specs.Reading.{Found, value_of, place_of}
use Rattle.text_arguments.proofs.Groups.{word_ends}
use Rattle.text_lists.proofs.PairWords.{all_left, none_left, pair_refused, pair_read, pair_fits}
use native.Mathlib.Omega.{arith}
use Rattle.text_lists.proofs.pairs.Goals as goal

pub loop-word-init : goal.loop-word-init
loop-word-init c = all_left _ _

pub returns-in_err-taken_as_pair : goal.returns-in_err-taken_as_pair
returns-in_err-taken_as_pair c =
    let h : c.from_residual.result ≡ Err c.in_err-taken_as_pair.field-0.0 = search rules in
    let w = c.in-Some.ensures.taken in
    let refused = pair_refused c.loop-word.invariant w.0 w.1 c.in_err-taken_as_pair.ensures in
    record {
      answer = h ∙ ap value_of refused.0;
      place = ap (λ (f : Result Found Reason). record c.args.arguments.now { at = place_of c.args.arguments.now.at f }) refused.0;
      stored = refused.1;
    }

pub store-requires : goal.store-requires
store-requires c = let fits = pair_fits _ _ c.in_ok-taken_as_pair.ensures in (fits.0, omega (arith, fits.1))

pub loop-word-smaller : goal.loop-word-smaller
loop-word-smaller c = let w = c.in-Some.ensures.taken in word_ends _ _ w.0 w.2

pub loop-word-preserved : goal.loop-word-preserved
loop-word-preserved c = let w = c.in-Some.ensures.taken in pair_read c.loop-word.invariant w.0 w.1 w.2 c.in_ok-taken_as_pair.ensures c.store.ensures

pub returns : goal.returns
returns c =
    let done = none_left c.loop-word.invariant c.in_default.ensures.taken.0 in
    record {
      answer = ap value_of done.0;
      place = ap (λ (f : Result Found Reason). record c.args.arguments.now { at = place_of c.args.arguments.now.at f }) done.0;
      stored = done.1;
    }
