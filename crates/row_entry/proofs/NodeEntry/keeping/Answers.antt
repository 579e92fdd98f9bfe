-- As many pairs as there are, at most as many as a row keeps.
use native.Mathlib.Omega.{arith}
use Rattle.wire_pairs.proofs.Arrays.{pairs_cut}
use Rattle.row_entry.specs.View.{row_of, status_of}
use Rattle.row_entry.proofs.NodeEntry.keeping.Goals as goal

pub returns : goal.returns
unfolding row_of
returns c =
    let e = pairs_cut c.args.pairs.now c.len.result (omega (arith, c.len.ensures.0)) c.len.ensures.1 in (
      (λ i. record { status = status_of c.args.status c.args.address.0 (e i) c.args.place c.args.tries; bad = c.args.bad; silences = 0 }),
      λ h. record { status = omega (arith, h); count = omega (arith, c.len.ensures.0); waiting = λ w. absurd (omega (arith, h, w)); silent = λ w. absurd (omega (arith, h, w)); pairless = λ m l. absurd (m h); settled = λ m. absurd (m h) },
      λ h p t. record { status = omega (arith, h); count = omega (arith, c.len.ensures.0); waiting = λ w. absurd (omega (arith, h, w)); silent = λ w. absurd (omega (arith, h, w)); pairless = λ m l. absurd (l h); settled = λ m. (p, t) },
    )
