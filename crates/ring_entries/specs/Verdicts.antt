-- What the code's verdict on an address stands for, and what follows from it, in the rules' words.
use Rattle.std.specs.Prelude.{ℕ, Bool, true, false, cond, ◌&&◌, ◌||◌}
use Rattle.laws.specs.Lists.{any}
use Rattle.rules.specs.Picture.{Row, keeps, Seat, others}
use Rattle.rules.specs.Step as rules
use Rattle.rules.specs.Step.{barred, outside, duplicate, changed, fine, ignored, counted, at_limit, nobody}
use Rattle.ring_entries.specs.declared.verdict.Verdict.{Verdict}
use Rattle.ring_entries.specs.declared.verdict.Verdict.TheVariants as verdicts

abbrev pub verdict_of : Verdict → rules.Verdict
verdict_of verdicts.Barred = barred
verdict_of verdicts.Outside = outside
verdict_of verdicts.Duplicate = duplicate
verdict_of verdicts.Changed = changed
verdict_of verdicts.Fine = fine

-- b, c and d: "bad, counted"
unfoldable pub is_conflict : rules.Verdict → Bool
is_conflict barred = false
is_conflict outside = true
is_conflict duplicate = true
is_conflict changed = true
is_conflict fine = false

-- who is counted beside the row that announces: c counts "for p and q"
unfoldable pub counts_for : rules.Verdict → ℕ → Row → Bool
counts_for barred a = nobody
counts_for outside a = nobody
counts_for duplicate a = keeps a
counts_for changed a = nobody
counts_for fine a = nobody

-- the row is counted, and then stands at the limit
unfoldable pub counts_at_limit : rules.Verdict → ℕ → Row → Bool
counts_at_limit v a r = counts_for v a r && at_limit (counted r)

-- "if a counted row now stands at 3": the row in the seat, or one that is counted beside it
unfoldable pub limit_reached : rules.Verdict → ℕ → Seat → Bool
limit_reached v a s = at_limit (counted s.row) || any (counts_at_limit v a) (others s)

-- a counted row: at the limit "all rows just counted become IGNORED with the announced address"
unfoldable pub struck : (limit : Bool) → ℕ → Row → Row
struck true a r = ignored a (counted r)
struck false a r = counted r

-- what a bad announcement makes of a row: it is struck where it counts for it
abbrev pub struck_if : rules.Verdict → (limit : Bool) → ℕ → Row → Row
struck_if v limit a r = cond (counts_for v a r) (struck limit a r) r
