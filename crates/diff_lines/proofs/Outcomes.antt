-- What a comparison comes to: a refusal, which writes nothing, or the lines.
use Prim.Native.Nat.{ℕ, ◌≤◌, ◌<◌}
use mathlib.Core.Path.{◌≡◌, refl, sym, ◌∙◌, subst}
use mathlib.Core.Bool.{true, false, ◌||◌}
use mathlib.Core.List.{List}
use borrow.Author.Tests.{lt-ltb, le-ltb}
use lib.ListN.{length}
use native.Mathlib.Omega.{arith}
use Rattle.laws.specs.Bools.{cond_true, cond_false}
use Rattle.laws.specs.Buffers.{Wrote}
use Rattle.rules_diff.specs.Differences.{Line, lines_bytes, Compared, uncompared, differ, fitted, compared_number, compared_bytes, compared_lent}
use Rattle.diff_rows.specs.Gathering.{Gathering}
use Rattle.diff_lines.specs.Comparing.{lines_over, compared_by, Compares}

pub refuses : {c : Compared} {n : ℕ} (b : List ℕ) → c ≡ uncompared n → Compares c b (record { number = n; length = 0 }) b
unfolding compared_number compared_bytes compared_lent
refuses {c} {n} b e =
    subst (λ (d : Compared). Compares d b (record { number = n; length = 0 }) b) (sym e) (record { number = refl; long = refl; buffer = refl })

pub tells : {c : Compared} {ls : List Line} {b after : List ℕ} {n : ℕ} → c ≡ differ ls → Wrote b 0 (lines_bytes ls) n after
    → Compares c b (record { number = 0; length = n }) after
unfolding compared_number compared_bytes compared_lent
tells {c} {ls} {b} {after} {n} e w =
    subst (λ (d : Compared). Compares d b (record { number = 0; length = n }) after) (sym e)
    (record { number = refl; long = let p = w.place in omega arith; buffer = w.buffer })

-- the ways of a comparison, in their order
module _ (g h : Gathering) (room : ℕ) where
  pub by_bad : (g.bad || h.bad) ≡ true → compared_by g h room ≡ uncompared 2
  unfolding compared_by
  by_bad e = cond_true _ _ e

  module _ (e : (g.bad || h.bad) ≡ false) where
    pub by_falling : (g.falling || h.falling) ≡ true → compared_by g h room ≡ uncompared 20
    unfolding compared_by
    by_falling f = cond_false _ _ e ∙ cond_true _ _ f

    module _ (f : (g.falling || h.falling) ≡ false) where
      pub by_room : room < length (lines_bytes (lines_over 1 g.seats h.seats)) → compared_by g h room ≡ uncompared 21
      unfolding compared_by fitted
      by_room l = cond_false _ _ e ∙ cond_false _ _ f ∙ cond_true _ _ (lt-ltb room _ l)

      pub by_lines : length (lines_bytes (lines_over 1 g.seats h.seats)) ≤ room → compared_by g h room ≡ differ (lines_over 1 g.seats h.seats)
      unfolding compared_by fitted
      by_lines l = cond_false _ _ e ∙ cond_false _ _ f ∙ cond_false _ _ (le-ltb room _ l)
