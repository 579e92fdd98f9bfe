-- Everything that is promised of the rules of before and after is proved.
use Rattle.rules_diff.specs.Promises.{Promises}
use Rattle.rules_diff.proofs.Rows.{checks, writes, bytes_of_lines, sees, whole_rows, listings}
use Rattle.rules_diff.proofs.Lines.{tells, most, exact}
use Rattle.rules_diff.proofs.Edges.{edges_hold}

pub promises : Promises
promises =
    record {
      exact = exact;
      checks = checks;
      tells = tells;
      most = most;
      writes = writes;
      line_bytes = bytes_of_lines;
      sees = sees;
      whole_rows = whole_rows;
      listings = listings;
      edges = edges_hold;
    }
