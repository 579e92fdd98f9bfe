-- What a record does: the next picture, the answer and the lent buffer, in one equation with the rules' outcome.
use Rattle.std.specs.Prelude.{ℕ, suc, ◌+◌, ◌≤◌, min, ◌≡◌, true, false, List, [], ◌∷◌, ◌++◌, map, length, Result}
use Rattle.std.specs.Result.{result_unwrap_or}
use Rattle.numbers.specs.declared.Refusal.{Refusal}
use Rattle.numbers.specs.Numbers as numbers
use Rattle.std.proofs.Math.Option.{Option, none, some}
use Rattle.std.proofs.lemmas.List.Edits.{sets}
use Rattle.rules.specs.Picture.{Picture, Row, fresh, is_open, seat_at}
use Rattle.rules.specs.House.{max_nodes, max_units}
use Rattle.rules.specs.Event.{Event, START, NCE, SHUTDOWN, ANSWER, NONE, DELAY}
use Rattle.rules.specs.Order.{Order, NOTOK, encode_all}
use Rattle.rules.specs.Renumber.{Renumbering}
use Rattle.rules.specs.Step.{Verdict, Response, refuse, change, respond, asks, scanned, scan, rescan, change_rows, emptied, on_counted, conflict}
use Rattle.rules.specs.Ending.{ended, end_orders}
use Rattle.rules.specs.Run.{Outcome, refused, concluded, left, lent, number_of, written, Record, after}
use Rattle.laws.specs.Alls.{All}
use Rattle.row_entry.specs.Marks.{Marked}
use Rattle.ring_state.specs.State.{last_state, last_delay}
use Rattle.ring_entries.specs.Verdicts.{counts_for, struck}
use Rattle.ring_answer.specs.Hearing.{reply_change}
use Rattle.registry.specs.declared.image.RegistryImage.{RegistryImage}
use Rattle.registry.specs.declared.record.Recorded.{Recorded}
use Rattle.registry.specs.View.{view_of}

-- what comes back: the picture that is handed back, the number given back, the length of the orders, and the lent buffer
pub record Handed : Type 0 where
  pub picture : Picture
  pub number : ℕ
  pub length : ℕ
  pub buffer : List ℕ

-- as the code hands it back
unfoldable pub handed : Recorded → List ℕ → Handed
handed r buffer = record { picture = view_of r.picture; number = r.number; length = r.length; buffer = buffer }

-- as the rules have it
unfoldable pub expected : Picture → List ℕ → Outcome → Handed
expected p buffer o = record { picture = left p o; number = number_of o; length = length (written o); buffer = lent buffer o }

-- The marks and counts that a picture shows to who reads it as it is: a state from OFF to OK, a delay that runs or not, no more units
-- than there are entries, and every entry marked, whether its unit is there or not.
pub record Marks (i : RegistryImage) : Type 0 where
  pub state : i.state.0 ≤ last_state
  pub delay : i.delay.0 ≤ last_delay
  pub units : i.units ≤ max_units
  pub entries : All Marked i.entries

-- what comes back of a record that left this picture: the length of the orders, or the number of a refusal and no orders
abbrev pub given : RegistryImage → Result ℕ Refusal → Recorded
given left r = record { number = numbers.number_in r; length = result_unwrap_or r 0; picture = left }

-- What a record does to the picture that came in: what the rules say; a refusal hands back the very picture; and marks stay marks.
pub record Does (came : RegistryImage) (o : Outcome) (before : List ℕ) (r : Recorded) (after : List ℕ) : Type 0 where
  pub outcome : handed r after ≡ expected (view_of came) before o
  pub kept : (n : ℕ) → o ≡ refused n → r.picture ≡ came
  pub marks : Marks came → Marks r.picture

-- "fresh, or handed back earlier": what some list of records makes of a fresh picture
pub record Reached (p : Picture) : Type 0 where
  pub size : ℕ
  pub records : List Record
  pub made : p ≡ after (fresh size) records

-- what a caller keeps: a picture as the box handed it out
pub record HandedOut (i : RegistryImage) : Type 0 where
  pub reached : Reached (view_of i)
  pub marks : Marks i

-- the ending of an event whose steps left picture q
pub record Ends (q : Picture) (before : List ℕ) (at : ℕ) (r : Recorded) (after : List ℕ) : Type 0 where
  pub picture : view_of r.picture ≡ ended q
  pub number : r.number ≡ 0
  pub buffer : after ≡ sets before at (encode_all q.pass (end_orders q))
  pub length : r.length ≡ at + length (encode_all q.pass (end_orders q))

-- an event's own step, or 2 where the bytes are no event
unfoldable pub respond_to : Picture → Option Event → Response
respond_to p none = refuse 2
respond_to p (some e) = respond p e

-- what decoding grants: "N is 1 to 64"
abbrev pub WellFormed : Option Event → Type 0
WellFormed none = Unit {0}
WellFormed (some (START n)) = (1 ≤ n) × (n ≤ max_nodes)
WellFormed (some (NCE n)) = (1 ≤ n) × (n ≤ max_nodes)
WellFormed (some SHUTDOWN) = Unit {0}
WellFormed (some (ANSWER c x a ps)) = Unit {0}
WellFormed (some (NONE c x)) = Unit {0}
WellFormed (some (DELAY c)) = Unit {0}

-- a scan of the rows of p, behind the orders written up to `at`
abbrev pub scan_orders : Picture → List Order
scan_orders p = asks is_open 1 p.rows ++ end_orders (scanned p.rows p)

pub record Scans (p : Picture) (before : List ℕ) (at : ℕ) (r : Recorded) (after : List ℕ) : Type 0 where
  pub picture : view_of r.picture ≡ ended (scanned p.rows p)
  pub number : r.number ≡ 0
  pub buffer : after ≡ sets before at (encode_all (suc p.pass) (scan_orders p))
  pub length : r.length ≡ at + length (encode_all (suc p.pass) (scan_orders p))

-- The outcome of an NCE in OK.
abbrev pub rescan_outcome : Picture → (nodes : ℕ) → Outcome
rescan_outcome p n = concluded p (change (rescan n p))

-- The outcomes of an ANSWER or a NONE for position x: the row of x becomes r, and n is sent to address a; or the address is bad, and
-- counted by the verdict on it.
abbrev pub reply_outcome : Picture → (x a : ℕ) → Row → Renumbering → Outcome
reply_outcome p x a r n = concluded p (change (reply_change (seat_at p.rows x) x a r n p))

abbrev pub conflict_outcome : Verdict → Picture → (x a : ℕ) → Outcome
conflict_outcome v p x a = concluded p (conflict (counts_for v a) a (seat_at p.rows x) p)

abbrev pub ignore_outcome : Verdict → Picture → (x a : ℕ) → Outcome
ignore_outcome v p x a = concluded p (change (change_rows (on_counted (counts_for v a) (struck true a) (seat_at p.rows x)) p))

abbrev pub restart_outcome : Verdict → Picture → (x a : ℕ) → Outcome
restart_outcome v p x a =
    concluded p (change (scan (NOTOK ∷ []) (map emptied (on_counted (counts_for v a) (struck false a) (seat_at p.rows x))) p))

-- position x has a row
pub record Seat (i : RegistryImage) (x : ℕ) : Type 0 where
  pub full : length i.entries ≡ max_units
  pub first : 1 ≤ x
  pub last : x ≤ min i.units max_units
