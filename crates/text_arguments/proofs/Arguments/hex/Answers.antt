-- A word is missing, is not hexadecimal, has another length, or is the number.
use mathlib.Core.Path.{refl, sym, ◌∙◌, ap}
use Rattle.std.specs.Prelude.{Result}
use Rattle.text_arguments.specs.declared.Reason.{Reason}
use Rattle.text_arguments.specs.Reading.{Found, value_of, place_of}
use Rattle.text_arguments.proofs.Taking.{hex_missing, hex_none, hex_wrong, hex_right, hex_small}
use Rattle.text_arguments.proofs.Arguments.hex.Goals as goal

pub returns-in_default : goal.returns-in_default
returns-in_default c =
    let e = hex_missing _ _ c.in_default.ensures.taken.0 c.args.width in
    record { answer = ap value_of e; place = ap (λ (f : Result Found Reason). record c.args.self.now { at = place_of c.args.self.now.at f }) e; below = tt }

pub returns-then-not-all_hex : goal.returns-then-not-all_hex
returns-then-not-all_hex c =
    let w = c.in-Some.ensures.taken in
    let e = hex_none _ _ w.0 w.1 refl c.args.width (sym c.if-not-all_hex.ensures) in
    record { answer = ap value_of e; place = ap (λ (f : Result Found Reason). record c.args.self.now { at = place_of c.args.self.now.at f }) e; below = tt }

pub returns-then-word-width : goal.returns-then-word-width
returns-then-word-width c =
    let w = c.in-Some.ensures.taken in
    let e = hex_wrong _ _ w.0 w.1 refl c.args.width (sym c.if-not-all_hex.ensures) c.if-word-width.true in
    record { answer = ap value_of e; place = ap (λ (f : Result Found Reason). record c.args.self.now { at = place_of c.args.self.now.at f }) e; below = tt }

pub returns : goal.returns
returns c =
    let w = c.in-Some.ensures.taken in
    let e = hex_right _ _ w.0 w.1 refl c.args.width (sym c.if-not-all_hex.ensures) c.if-word-width.false c.hex.ensures in
    record {
      answer = ap value_of e;
      place = w.2 ∙ ap (λ (f : Result Found Reason). record c.args.self.now { at = place_of c.args.self.now.at f }) e;
      below = hex_small _ (sym c.if-not-all_hex.ensures) c.if-word-width.false c.hex.ensures;
    }
