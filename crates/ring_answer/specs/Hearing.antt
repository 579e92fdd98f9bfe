-- What an announcement comes to, in the rules' words.
use Rattle.std.specs.Prelude.{ℕ, ◌≡◌, List, []}
use Rattle.laws.specs.Lists.{collect}
use Rattle.rules.specs.Picture.{Pair, Row, Picture, with_rows, pairs_in, Seat, others, put}
use Rattle.rules.specs.Renumber.{Judged, Renumbering, finished, free_number, renumber, place_of, tries_of}
use Rattle.rules.specs.Step.{rows_separately, Change, Response, set_order, Verdict, barred, outside, duplicate, changed, fine, verdict, ignored, answer, renumbering_for, listed_row}
use Rattle.row_entry.specs.View.{row_of}
use Rattle.row_renumber.specs.Marks.{renumbering_of}
use Rattle.ring_entries.specs.Verdicts.{verdict_of}
use Rattle.ring_answer.specs.declared.hear.Heard.{Heard}

-- the row in the seat becomes r, and n is sent to position x at address a
abbrev pub reply_change : Seat → (x a : ℕ) → Row → Renumbering → Picture → Change
reply_change s x a r n p = record { picture = with_rows (put s r) p; first = []; packing = rows_separately; set = set_order x a n }

-- the rules' renumbering, from judged pairs
abbrev pub renumbering_by : Seat → List Pair → List Judged → Renumbering
renumbering_by s ps js = renumber (free_number (collect pairs_in (others s)) ps) (place_of s.row.status) (tries_of s.row.status) js

-- the verdict on address a where the row in the seat announces it
abbrev pub verdict_for : Seat → ℕ → Verdict
verdict_for s a = verdict (others s) s.row a

-- the step of an ANSWER that is not refused
abbrev pub answered : Seat → (x a : ℕ) → List Pair → Picture → Response
answered s x a ps p = answer (verdict_for s a) x a ps s p

-- the announcing row afterwards, by the verdict; a conflict is counted elsewhere, and leaves it as it is
unfoldable pub row_after : Verdict → Seat → (address : ℕ) → List Pair → Row
row_after barred s a ps = ignored a s.row
row_after outside s a ps = s.row
row_after duplicate s a ps = s.row
row_after changed s a ps = s.row
row_after fine s a ps = listed_row s a ps

-- what is renumbered, by the verdict
unfoldable pub step_after : Verdict → Seat → List Pair → Renumbering
step_after barred s ps = finished
step_after outside s ps = finished
step_after duplicate s ps = finished
step_after changed s ps = finished
step_after fine s ps = renumbering_for s ps

-- the announcement of address a and pairs ps by the row in the seat
pub record Hears (s : Seat) (a : ℕ) (ps : List Pair) (h : Heard) : Type 0 where
  pub verdict : verdict_of h.verdict ≡ verdict_for s a
  pub row : row_of h.next ≡ row_after (verdict_for s a) s a ps
  pub step : renumbering_of h.step ≡ step_after (verdict_for s a) s ps
