-- The three parts, one behind the other.
use Prim.Native.Nat.{◌+◌}
use mathlib.Core.Path.{◌≡◌, sym}
use native.Mathlib.Omega.{arith}
use lib.ListN.{length}
use Rattle.laws.specs.Buffers.{wrote_append, wrote_along, wrote_nothing}
use Rattle.laws.specs.Lists.{collect}
use Rattle.rules_diff.specs.Differences.{lines_at, lines_bytes}
use Rattle.wire_pairs.specs.View.{pairs_of}
use Rattle.diff_rows.specs.Gathering.{seen_in}
use Rattle.diff_changes.specs.Changes.{told}
use Rattle.diff_position.specs.Lines.{head_line, pair_line}
use Rattle.diff_position.proofs.Bytes.{found_parts, found_length}
use Rattle.diff_position.proofs.write_position.Goals as goal

pub returns-in-None-None : goal.returns-in-None-None
unfolding lines_at seen_in lines_bytes collect
returns-in-None-None c =
    wrote_along (λ t. lines_bytes (lines_at c.args.position.0 (seen_in (sym c.in-None-None.is-0 t)) (seen_in (sym c.in-None-None.is-1 t))))
    (wrote_nothing c.args.out.now c.args.at)

pub write_head-head-requires : goal.write_head-head-requires
write_head-head-requires c =
    let long : length (lines_bytes (lines_at c.args.position.0 (seen_in c.args.before) (seen_in c.args.after))) ≡ length (head_line (told c.head_kind-kind.result) c.args.position.0 c.seen_address-address.result.0) + length (collect (pair_line 4 c.args.position.0) (pairs_of c.gone-gone.result)) + length (collect (pair_line 5 c.args.position.0) (pairs_of c.new-new.result)) = found_length _ _ _ c.head_kind-kind.ensures c.seen_address-address.ensures c.gone-gone.ensures c.new-new.ensures in
    omega (arith, long)

pub write_pairs-end-requires : goal.write_pairs-end-requires
write_pairs-end-requires c =
    let long : length (lines_bytes (lines_at c.args.position.0 (seen_in c.args.before) (seen_in c.args.after))) ≡ length (head_line (told c.head_kind-kind.result) c.args.position.0 c.seen_address-address.result.0) + length (collect (pair_line 4 c.args.position.0) (pairs_of c.gone-gone.result)) + length (collect (pair_line 5 c.args.position.0) (pairs_of c.new-new.result)) = found_length _ _ _ c.head_kind-kind.ensures c.seen_address-address.ensures c.gone-gone.ensures c.new-new.ensures in
    omega (arith, long, c.write_head-head.ensures.place, c.write_head-head.auto.out)

pub write_pairs-requires : goal.write_pairs-requires
write_pairs-requires c =
    let long : length (lines_bytes (lines_at c.args.position.0 (seen_in c.args.before) (seen_in c.args.after))) ≡ length (head_line (told c.head_kind-kind.result) c.args.position.0 c.seen_address-address.result.0) + length (collect (pair_line 4 c.args.position.0) (pairs_of c.gone-gone.result)) + length (collect (pair_line 5 c.args.position.0) (pairs_of c.new-new.result)) = found_length _ _ _ c.head_kind-kind.ensures c.seen_address-address.ensures c.gone-gone.ensures c.new-new.ensures in
    omega (arith, long, c.write_head-head.ensures.place, c.write_head-head.auto.out, c.write_pairs-end.ensures.place, c.write_pairs-end.auto.out)

pub returns : goal.returns
returns c =
    wrote_along
    (sym (found_parts _ _ _ c.head_kind-kind.ensures c.seen_address-address.ensures c.gone-gone.ensures c.new-new.ensures))
    (wrote_append (wrote_append c.write_head-head.ensures c.write_pairs-end.ensures) c.write_pairs.ensures)
