-- By the order: the pass first, then what it asks for.
use Prim.Native.Nat.{ℕ}
use mathlib.Core.Bool.{false}
use mathlib.Core.List.{List, []}
use mathlib.Core.Logic.{inl, inr}
use mathlib.Core.Option.{some}
use mathlib.Core.Path.{◌≡◌, ◌∙◌, ap, refl, sym, subst}
use lib.ListN.{drop}
use Rattle.laws.specs.Bools.{cond_false, cond_same}
use Rattle.rules.specs.Event.{read_pairs}
use Rattle.rules.specs.Order.{Order, ASK, SET, OK, NOTOK, NEW, INVALID, WAIT_SHORT, WAIT_LONG}
use Rattle.rules.specs.Run.{sent_with}
use Rattle.rules_unit.specs.Slave.{Slave, besides, is_answered, named, obeyed, on_order, renumbered, says_not_ok, with_known}
use Rattle.unit_slave.proofs.Hearing.{answered, becomes_along, becomes_on, heard_invalid, heard_notok, heard_on, heard_set, silent}
use Rattle.unit_slave.specs.Steps.{Becomes, on_pass, with_pairs}
use Rattle.unit_slave.specs.View.{slave_of, Reads}
use Rattle.unit_slave.specs.declared.NetworkSlave.{NetworkSlave}
use Rattle.wire_order_reading.specs.View.{order_of}
use Rattle.wire_order_reading.specs.declared.Order as code
use Rattle.wire_order_reading.specs.declared.OrderRecord.{OrderRecord}
use Rattle.unit_slave.proofs.NetworkSlave.obey.Goals as goal

-- an order of which only the pass is looked at
told_on : (u : NetworkSlave) (s : OrderRecord) (given lent : List ℕ) (o : Order) {next : NetworkSlave} → order_of s.order given ≡ o → named o ≡ []
    → says_not_ok o ≡ false → is_answered (slave_of u) o ≡ false → Becomes u (on_pass s.pass (slave_of u)) next
    → Reads u (on_order (slave_of u) (some (sent_with s.pass (order_of s.order given)))) lent (record { number = 0; length = 0; unit = next }) lent
unfolding sent_with
told_on u s given lent o {next} e p q a h =
    subst (λ (o : Order). Reads u (on_order (slave_of u) (some (sent_with s.pass o))) lent (record { number = 0; length = 0; unit = next }) lent) (sym e)
    (silent u (sent_with s.pass o) lent a (becomes_along (heard_on s.pass (slave_of u) o p q (cond_false _ _ a)) h))

pub returns-then-not-asked : goal.returns-then-not-asked
unfolding sent_with is_answered slave_of named says_not_ok obeyed
returns-then-not-asked c =
    let u = c.args.self.now in
    let o = ASK c.in-Ask.position.0 in
    let no = sym c.eq-asked.ensures ∙ c.if-not-asked.true in
    rw c.in-Ask.is (silent u (sent_with c.args.sent.pass o) c.args.out.now no (becomes_along (heard_on c.args.sent.pass (slave_of u) o refl refl (cond_same (is_answered (slave_of u) o) (slave_of u).pairs)) c.meet.ensures))

pub returns-else-not-asked : goal.returns-else-not-asked
unfolding sent_with is_answered slave_of named says_not_ok obeyed
returns-else-not-asked c =
    let u = c.args.self.now in
    let o = ASK c.in-Ask.position.0 in
    let yes = sym c.eq-asked.ensures ∙ c.if-not-asked.false in
    rw c.in-Ask.is (answered u (sent_with c.args.sent.pass o) c.args.out.now _ yes (becomes_along (heard_on c.args.sent.pass (slave_of u) o refl refl (cond_same (is_answered (slave_of u) o) (slave_of u).pairs)) c.meet.ensures) c.answer.ensures)

pub returns-then-not-set : goal.returns-then-not-set
unfolding sent_with is_answered slave_of named says_not_ok
returns-then-not-set c =
    let u = c.args.self.now in
    let s = c.in-Set in
    let o = SET s.position.0 s.address.0 s.block s.old s.new in
    let no = sym c.is_set_by-set.ensures ∙ c.if-not-set.true in
    rw s.is (silent u (sent_with c.args.sent.pass o) c.args.out.now no (becomes_along (heard_on c.args.sent.pass (slave_of u) o refl refl (cond_false _ _ no)) c.meet-in-Set.ensures))

pub returns-else-not-set : goal.returns-else-not-set
unfolding sent_with is_answered slave_of
returns-else-not-set c =
    let u = c.args.self.now in
    let n = c.args.sent.pass in
    let s = c.in-Set in
    let o = SET s.position.0 s.address.0 s.block s.old s.new in
    let yes = sym c.is_set_by-set.ensures ∙ c.if-not-set.false in
    let becomes = becomes_on (λ (v : Slave). with_pairs (renumbered s.block s.old s.new v.pairs) v) c.meet-in-Set.ensures c.renumber.ensures in
    rw s.is (answered u (sent_with n o) c.args.out.now _ yes (becomes_along (heard_set n (slave_of u) s.position.0 s.address.0 s.block s.old s.new yes) becomes) c.answer-in-Set.ensures)

pub returns-in-NotOk : goal.returns-in-NotOk
unfolding is_answered sent_with
returns-in-NotOk c =
    let u = c.args.self.now in
    let n = c.args.sent.pass in
    rw c.in-NotOk.is (silent u (sent_with n NOTOK) c.args.out.now refl (becomes_along (heard_notok n (slave_of u)) c.empty.ensures))

pub returns-in-Invalid : goal.returns-in-Invalid
unfolding is_answered sent_with
returns-in-Invalid c =
    let u = c.args.self.now in
    let n = c.args.sent.pass in
    let ps = read_pairs (drop 8 c.args.order.now) in
    rw c.in-Invalid.is
    (silent u (sent_with n (INVALID ps)) c.args.out.now refl
    (becomes_along (heard_invalid n (slave_of u) ps) (becomes_on (λ (v : Slave). with_known (besides ps v.known) v) c.meet-in-Invalid.ensures c.forget.ensures)))

pub returns-in-Ok : goal.returns-in-Ok
unfolding named says_not_ok is_answered
returns-in-Ok c =
    let u = c.args.self.now in
    let s = c.args.sent in
    let b = c.args.order.now in
    let at = λ (o : code.Order). order_of o b in
    let lent = c.args.out.now in
    elim c.in-Ok.is [
      | inl e ↦ told_on u s b lent OK (ap at e) refl refl refl c.meet-in-Ok.ensures
      | inr f ↦ elim f [
        | inl e ↦ told_on u s b lent (NEW (read_pairs (drop 8 b))) (ap at e) refl refl refl c.meet-in-Ok.ensures
        | inr g ↦ elim g [
          | inl e ↦ told_on u s b lent WAIT_SHORT (ap at e) refl refl refl c.meet-in-Ok.ensures
          | inr e ↦ told_on u s b lent WAIT_LONG (ap at e) refl refl refl c.meet-in-Ok.ensures
        ]
      ]
    ]
