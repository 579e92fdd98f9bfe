-- What an entry shows to who reads it as it is: marks and counts in their ranges, and 0 in what does not count.
use Rattle.std.specs.Prelude.{ℕ, ◌≤◌, ◌≡◌, ◌≢◌}
use Rattle.rules.specs.House.{max_pairs}
use Rattle.row_entry.specs.declared.NodeEntry.{NodeEntry}

-- the statuses by their numbers
abbrev pub waiting_mark : ℕ
waiting_mark = 0

abbrev pub setting_mark : ℕ
setting_mark = 1

abbrev pub listed_mark : ℕ
listed_mark = 2

abbrev pub silent_mark : ℕ
silent_mark = 3

abbrev pub ignored_mark : ℕ
ignored_mark = 4

-- A status from WAITING to IGNORED, and no more pairs than there is room for. What does not count is 0: the address while the entry is
-- WAITING or SILENT, the count unless it is SETTING or LISTED, place and tries unless it is SETTING.
pub record Marked (e : NodeEntry) : Type 0 where
  pub status : e.status.0 ≤ ignored_mark
  pub count : e.count ≤ max_pairs
  pub waiting : e.status.0 ≡ waiting_mark → e.address.0 ≡ 0
  pub silent : e.status.0 ≡ silent_mark → e.address.0 ≡ 0
  pub pairless : e.status.0 ≢ setting_mark → e.status.0 ≢ listed_mark → e.count ≡ 0
  pub settled : e.status.0 ≢ setting_mark → (e.place ≡ 0) × (e.tries ≡ 0)
