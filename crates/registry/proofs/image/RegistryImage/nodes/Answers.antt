-- One more than there are units, while the ring runs.
use Rattle.laws.specs.Bools.{cond_same}
use Prim.Native.Nat.{◌+◌, suc, ℕ}
use Rattle.std.proofs.lemmas.List.{length-map}
use Rattle.row_entry.specs.View.{row_of}
use Rattle.ring_state.proofs.States.{by_state}
use Rattle.registry.specs.View.{view_of}
use Rattle.rules.specs.Picture.{Row, State, nodes, nodes_in}
use borrow.Author.Tests.{ne_eqb}
use lib.Dec.{eqb}
use lib.ListN.{length}
use mathlib.Core.Bool.{cond}
use mathlib.Core.List.{List}
use mathlib.Core.Path.{◌∙◌, ◌≡◌, ap, sym}
use native.Mathlib.Omega.{arith}
use Rattle.registry.proofs.image.RegistryImage.nodes.Goals as goal

pub returns-then-self-eq-OFF : goal.returns-then-self-eq-OFF
unfolding view_of nodes nodes_in
returns-then-self-eq-OFF c =
    let rs : List Row = (view_of c.args.self.now).rows in
    sym
    (by_state (λ (s : State). nodes_in s rs) c.args.self.now.state.0
    ∙ ap (λ (n : ℕ). cond (eqb n 0) 0 (cond (eqb n 1) (suc (length rs)) (suc (length rs)))) c.if-self-eq-OFF.true)

pub returns : goal.returns
unfolding view_of nodes nodes_in
returns c =
    let rs : List Row = (view_of c.args.self.now).rows in
    let e : length c.ring.result.now + 1 ≡ suc (length rs) = omega (arith, ap length c.ring.ensures.rows, length-map c.ring.result.now row_of) in
    e
    ∙ sym
    (by_state (λ (s : State). nodes_in s rs) c.args.self.now.state.0
    ∙ (λ i. cond (ne_eqb c.args.self.now.state.0 0 c.if-self-eq-OFF.false i) 0 (cond (eqb c.args.self.now.state.0 1) (suc (length rs)) (suc (length rs))))
    ∙ cond_same (eqb c.args.self.now.state.0 1) (suc (length rs)))
