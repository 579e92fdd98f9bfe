-- Parts of a message, as the code computes them.
use Rattle.std.specs.Prelude.{ℕ, cond, eqb, leb}

-- the TelID of a telegram of several: `before` stand in front of it, `left` bytes are left for it and those behind it, and it holds `most`
unfoldable pub part_id : (before left most : ℕ) → ℕ
part_id before left most = cond (eqb before 0) 1 (cond (leb left most) 3 2)
