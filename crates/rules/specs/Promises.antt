-- Everything that is promised of the rules, with all its premises: one record, proved in proofs/Promises.antt.
use Rattle.std.specs.Prelude.{ℕ, ◌^◌, ◌<◌, ◌≤◌, ◌≡◌, List, length}
use Rattle.rules.specs.Picture.{Off, NotOk, Ok, Pair, Picture, fresh}
use Rattle.rules.specs.Event.{Event}
use Rattle.rules.specs.Run.{Record, after}
use Rattle.rules.specs.Telegram.{Joining}
use Rattle.rules.specs.Claims.{Demand3, RingChange, Checks, Bounds, Fits, Refusal, Carried, SetsAimed, Unbarred, EmptyInOff, WholeListing, FreeNumber, Decodes, DecodesOnly, StatesByKinds, Values, Numbers, RoundTrip, Cuts, Lengths}
use Rattle.rules.specs.Table.{obtained, expected}
use Rattle.rules.specs.Edges.{edges as edge_table}
use Rattle.rules.specs.Cases.{cases as case_table}
use Rattle.rules.specs.Corners.{corners as corner_table}
use Rattle.rules.specs.RingChanges.{ring_changes as ring_change_table}
use Rattle.rules.specs.Tight.{at_start, at_change, at_change_in_ok, LongestWay}

pub record Promises : Type 0 where
  -- of every list of records from a fresh picture for L; a picture for an L that is not 12 to 45 is one for 12
  pub demand3 : (l : ℕ) (rs : List Record) → Demand3 l rs
  pub ring_change : (l : ℕ) (rs : List Record) (r : Record) → RingChange (after (fresh l) rs) r
  pub bounds : (l : ℕ) (rs : List Record) → Bounds l rs
  pub fits : (l : ℕ) (rs : List Record) → Fits l rs
  pub unbarred : (l : ℕ) (rs : List Record) → Unbarred l rs
  pub empty_in_off : (l : ℕ) (rs : List Record) → EmptyInOff l rs
  -- of every picture
  pub whole_listing : (p : Picture) → WholeListing p
  -- of every picture and every record
  pub checks : (p : Picture) (r : Record) → Checks p r
  pub refusal : (p : Picture) (r : Record) → Refusal p r
  pub carried : (p : Picture) (r : Record) → Carried p r
  pub sets_aimed : (p : Picture) (r : Record) → SetsAimed p r
  -- of every block, whatever the other rows keep and an answer announces
  pub free_number : (elsewhere announced : List Pair) (b : ℕ) → FreeNumber elsewhere announced b
  -- of every answer
  pub values : Values
  pub numbers : Numbers
  -- of every event
  pub decodes : (e : Event) → Decodes e
  pub states_by_kinds : (e : Event) → StatesByKinds e
  -- of every run of bytes
  pub decodes_only : (b : List ℕ) → DecodesOnly b
  -- of every L from 12 to 45, every MsgID of four bytes, every payload of 0 to 65,535 bytes, every join state and every buffer of at
  -- least 65,535 bytes
  pub round_trip : (size msg_id : ℕ) (payload : List ℕ) (s : Joining) (lent : List ℕ) → 12 ≤ size → size ≤ 45 → msg_id < 2 ^ 32
      → length payload ≤ 65_535 → 65_535 ≤ length lent → RoundTrip size msg_id payload s lent
  pub cuts : (size msg_id : ℕ) (payload : List ℕ) → 12 ≤ size → size ≤ 45 → length payload ≤ 65_535 → Cuts size msg_id payload
  pub lengths : (size msg_id : ℕ) (payload : List ℕ) → 12 ≤ size → size ≤ 45 → Lengths size msg_id payload
  -- by computation
  pub edges : obtained edge_table ≡ expected edge_table
  pub cases : obtained case_table ≡ expected case_table
  pub corners : obtained corner_table ≡ expected corner_table
  pub ring_changes : obtained ring_change_table ≡ expected ring_change_table
  pub longest_at_start : LongestWay Off NotOk at_start 1
  pub longest_at_change : LongestWay NotOk NotOk at_change 2
  pub longest_at_change_in_ok : LongestWay Ok Ok at_change_in_ok 3
