-- What is gathered of a list of rows, one row at a time.
use Rattle.std.specs.Prelude.{ℕ, ◌-◌, Bool, true, false, cond, List, [], ◌∷◌, map, leb, set, replicate, Option, None, Some}
use Rattle.rules.specs.House.{max_units}
use Rattle.rules_diff.specs.Differences.{NodeRow, Seen, absent, present, is_bad}
use Rattle.row_node.specs.declared.NodeRow as code
use Rattle.row_node.specs.View.{held_pairs}
use Rattle.diff_rows.specs.declared.Rows.{Rows}

-- a bad row came; the positions did not rise; the last position; what each position from 1 on has
pub record Gathering : Type 0 where
  pub bad : Bool
  pub falling : Bool
  pub last : ℕ
  pub seats : List Seen

unfoldable pub nothing_seen : Gathering
nothing_seen = record { bad = false; falling = false; last = 0; seats = replicate max_units absent }

-- one row more
unfoldable pub gathered : Gathering → NodeRow → Gathering
gathered g r =
    cond (is_bad r) (record { bad = true; falling = g.falling; last = g.last; seats = g.seats })
    (cond (leb r.position g.last) (record { bad = g.bad; falling = true; last = g.last; seats = g.seats })
    (record { bad = g.bad; falling = g.falling; last = r.position; seats = set g.seats (r.position - 1) (present r.address r.pairs) }))

-- a list of them
unfoldable pub gathered_all : Gathering → List NodeRow → Gathering
gathered_all g [] = g
gathered_all g (r ∷ rs) = gathered_all (gathered g r) rs

-- what the code's values stand for
unfoldable pub seen_in : Option code.NodeRow → Seen
seen_in None = absent
seen_in (Some r) = present r.entry.address.0 (held_pairs r.entry)

unfoldable pub gathering_of : Rows → Gathering
gathering_of r = record { bad = r.bad; falling = r.falling; last = r.last; seats = map seen_in r.seats }
