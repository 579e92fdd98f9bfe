-- Everything that is promised of the rules is proved.
use Prim.Native.Nat.{ℕ, ◌≤◌}
use mathlib.Core.Path.{◌≡◌}
use mathlib.Core.Bool.{true}
use native.Mathlib.Omega.{arith}
use borrow.Author.Tests.{le-leb}
use lib.Dec.{leb}
use Rattle.laws.specs.Bools.{and_true}
use Rattle.rules.specs.House.{min_size, max_size}
use Rattle.rules.specs.Picture.{legal_size}
use Rattle.rules.specs.Promises.{Promises}
use Rattle.rules.proofs.Demand3.{demand3}
use Rattle.rules.proofs.RingChange.{ring_change}
use Rattle.rules.proofs.Records.{bounds, fits, checks, refusal, carried}
use Rattle.rules.proofs.Free.{free_numbers}
use Rattle.rules.proofs.Aimed.{sets_aimed}
use Rattle.rules.proofs.Barring.{unbarred}
use Rattle.rules.proofs.Off.{empty_in_off}
use Rattle.rules.proofs.Whole.{whole_listing}
use Rattle.rules.proofs.Encode.{decodes}
use Rattle.rules.proofs.Decode.{decodes_only}
use Rattle.rules.proofs.States.{states_by_kinds}
use Rattle.rules.proofs.Values.{values}
use Rattle.rules.proofs.Numbers.{numbers}
use Rattle.rules.proofs.RoundTrip.{round_trip, cuts, lengths}
use Rattle.rules.proofs.Edges.{edges_hold, cases_hold, corners_hold, ring_changes_hold}
use Rattle.rules.proofs.Tight.{longest_at_start, longest_at_change, longest_at_change_in_ok}

legal : (size : ℕ) → min_size ≤ size → size ≤ max_size → legal_size size ≡ true
unfolding legal_size
legal size l h = and_true (leb min_size size) (leb size max_size) (le-leb min_size size l) (le-leb size max_size h)

pub promises : Promises
promises =
    record {
      demand3 = demand3;
      ring_change = ring_change;
      bounds = bounds;
      fits = fits;
      unbarred = unbarred;
      empty_in_off = empty_in_off;
      whole_listing = whole_listing;
      checks = checks;
      refusal = refusal;
      carried = carried;
      sets_aimed = sets_aimed;
      free_number = free_numbers;
      values = values;
      numbers = numbers;
      decodes = decodes;
      states_by_kinds = states_by_kinds;
      decodes_only = decodes_only;
      round_trip = λ size msg_id payload s lent l h m n b. round_trip size msg_id payload s lent (legal size l h) (omega arith) n b;
      cuts = λ size msg_id payload l h n. cuts size msg_id payload (legal size l h) n;
      lengths = λ size msg_id payload l h. lengths size msg_id payload (legal size l h);
      edges = edges_hold;
      cases = cases_hold;
      corners = corners_hold;
      ring_changes = ring_changes_hold;
      longest_at_start = longest_at_start;
      longest_at_change = longest_at_change;
      longest_at_change_in_ok = longest_at_change_in_ok;
    }
