-- `count_of` is the rules' count.
use Rattle.std.proofs.Common.{◌≡◌, ℕ, suc, ◌+◌, ◌-◌, ◌/◌, ◌%◌, ◌≤◌, min, ◌∙◌, arith}
use Rattle.std.proofs.lemmas.Grind.{div_ceil_times}
use native.Mathlib.Nat.{div-lt_iff_lt-mul, le-div_iff_mul-le}
use borrow.Author.Tests.{lt-leb, le-leb}
use Rattle.rules.specs.Telegram.{count_of}
use Rattle.rules.specs.House.{min_size}
use Rattle.tel_count.proofs.count_of.Goals as goal

-- a quotient rounded up
ceiling : (n l : ℕ) → min_size ≤ l → n / (l - 1) + min 1 (n % (l - 1)) ≡ (n + (l - 2)) / (l - 1)
ceiling n l low =
    let k = n / (l - 1) + min 1 (n % (l - 1)) in
    let t = div_ceil_times n (l - 1) (omega arith) in
    let d = le-div_iff_mul-le {k = l - 1} {x = k} {y = n + (l - 2)} (omega arith) in
    let e = div-lt_iff_lt-mul {k = l - 1} {x = n + (l - 2)} {y = suc k} (omega arith) in
    omega (arith, d.1 (omega arith), e.1 (omega arith))

pub returns-then-n-l : goal.returns-then-n-l
unfolding count_of
returns-then-n-l c = simp (le-leb _ _ c.if-n-l.true)

pub returns-else-n-l : goal.returns-else-n-l
unfolding count_of
returns-else-n-l c = simp (lt-leb _ _ c.if-n-l.false) (c.div_ceil.ensures ∙ ceiling c.args.n c.args.l c.requires.0)
