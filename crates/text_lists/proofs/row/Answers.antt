-- Position, address and pairs, each behind the one before.
use mathlib.Core.Path.{◌≡◌, ◌∙◌, ap}
use borrow.Author.Rules.{rules}
use lib.Seq.{sets}
use Rattle.std.specs.Prelude.{Err}
use Rattle.text_lists.proofs.RowNames.{no_position, no_address, no_pairs, all_read, bytes_left}
use Rattle.text_lists.proofs.row.Goals as goal

pub returns-in_err-position : goal.returns-in_err-position
returns-in_err-position c =
    let h : c.from_residual.result ≡ Err c.in_err-position.field-0.0 = search rules in
    let r = no_position _ _ c.in_err-position.ensures.place c.in_err-position.ensures.answer in
    record { answer = h ∙ r.0; stored = ap (sets c.args.bytes.now 0) r.1 }

pub returns-in_err-address : goal.returns-in_err-address
returns-in_err-address c =
    let h : c.from_residual-in_err-address.result ≡ Err c.in_err-address.field-0.0 = search rules in
    let r = no_address _ _ c.in_ok-position.ensures.place c.in_ok-position.ensures.answer c.in_err-address.ensures.answer in
    record { answer = h ∙ r.0; stored = ap (sets c.args.bytes.now 0) r.1 }

pub returns-in_err-pairs : goal.returns-in_err-pairs
returns-in_err-pairs c =
    let h : c.from_residual-in_err-pairs.result ≡ Err c.in_err-pairs.field-0.0 = search rules in
    let p = c.in_ok-position.ensures in
    let a = c.in_ok-address.ensures in
    record {
      answer = h ∙ no_pairs _ _ p.place p.answer _ a.place a.answer c.in_err-pairs.ensures.answer;
      stored = c.in_err-pairs.ensures.stored ∙ ap (sets c.args.bytes.now 0) (bytes_left _ _ p.place p.answer _ a.place a.answer);
    }

pub returns : goal.returns
returns c =
    let p = c.in_ok-position.ensures in
    let a = c.in_ok-address.ensures in
    record {
      answer = all_read _ _ p.place p.answer _ a.place a.answer c.in_ok-pairs.ensures.answer;
      stored = c.in_ok-pairs.ensures.stored ∙ ap (sets c.args.bytes.now 0) (bytes_left _ _ p.place p.answer _ a.place a.answer);
    }
