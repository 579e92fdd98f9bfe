-- Everything that is promised of the rules of before and after, with all its premises: one record, proved in proofs/Promises.antt.
use Rattle.std.specs.Prelude.{ℕ, ◌≡◌, List}
use Rattle.rules.specs.Picture.{Picture}
use Rattle.rules.specs.Run.{Record}
use Rattle.rules_diff.specs.Differences.{NodeRow}
use Rattle.rules_diff.specs.Claims.{Checks, Writes, LineBytes, Most, Sees, Tells, Exact, WholeRows, Listings}
use Rattle.rules_diff.specs.Table.{obtained, expected}
use Rattle.rules_diff.specs.Edges.{diff_edges}

pub record Promises : Type 0 where
  -- of every two lists of rows and every room
  pub exact : (f s : List NodeRow) (room : ℕ) → Exact f s room
  pub checks : (f s : List NodeRow) (room : ℕ) → Checks f s room
  pub tells : (f s : List NodeRow) → Tells f s
  pub most : (f s : List NodeRow) → Most f s
  -- of every two lists and every lent buffer
  pub writes : (f s : List NodeRow) (lent : List ℕ) → Writes f s lent
  -- of the lines about every position
  pub line_bytes : (x : ℕ) → LineBytes x
  -- of every list and every position
  pub sees : (rs : List NodeRow) (x : ℕ) → Sees rs x
  -- of every picture
  pub whole_rows : (p : Picture) → WholeRows p
  -- of every two lists of records, from fresh pictures for L and M, and every room
  pub listings : (l m : ℕ) (rs qs : List Record) (room : ℕ) → Listings l m rs qs room
  -- by computation
  pub edges : obtained diff_edges ≡ expected diff_edges
