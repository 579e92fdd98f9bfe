-- At every turn the listing with the pairs passed counted lists them.
use Prim.Native.Nat.{ℕ, ◌+◌}
use mathlib.Core.List.{List, ◌++◌, append-nil, map}
use mathlib.Core.Path.{◌≡◌, ◌∙◌, ap, sym}
use native.Mathlib.Omega.{arith}
use Rattle.std.proofs.Common.{take_all}
use Rattle.rules.specs.Listing.{Entry, entry}
use Rattle.row_entry.proofs.Entries.{entries_kept}
use Rattle.wire_pairs.specs.View.{pairs_of, pair_in, pair_of}
use Rattle.ring_listing.specs.View.{flat_of}
use Rattle.ring_listing.proofs.Listed.{counting, counting_own, counting_on, pairs_next}
use Rattle.ring_listing.proofs.Listing.list.Goals as goal

pub loop-i-init : goal.loop-i-init
loop-i-init c = λ es h. counting_own c.args.self.now _ (omega arith) ∙ h ∙ ap flat_of (sym (append-nil es))

pub loop-i-preserved : goal.loop-i-preserved
unfolding entry pair_in pair_of
loop-i-preserved c =
    let x = c.args.position.0 in
    let a = c.args.node.now.address.0 in
    let ps = pairs_of c.pairs-pairs.result in
    λ es h.
    counting_on c.loop-i.self _ _ (omega arith) (entry x a (pair_in c.at-pair.result)) _ (c.loop-i.invariant es h)
    ∙ ap flat_of (pairs_next x a c.loop-i.i es ps c.at-pair.ensures)

pub returns-clause-entries : goal.returns-clause-entries
unfolding counting
returns-clause-entries c =
    let x = c.args.position.0 in
    let e = c.args.node.now in
    let all = take_all c.loop-i.i (pairs_of c.pairs-pairs.result) (omega (arith, c.len.ensures.1, c.loop-i-test.false)) in
    let n : c.args.self.now.count + c.len.result ≡ c.args.self.now.count + c.loop-i.i = omega (arith, c.loop-i-test.false, c.loop-i.auto.i-end) in
    λ es h.
    ap (λ (k : ℕ). counting k c.loop-i.self) n ∙ c.loop-i.invariant es h
    ∙ ap (λ (l : List Entry). flat_of (es ++ l)) (ap (map (entry x e.address.0)) (all ∙ c.pairs-pairs.ensures) ∙ sym (entries_kept x e))
