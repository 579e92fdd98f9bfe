-- 5, 8, or the SILENT entries are asked.
use Prim.Native.Nat.{◌+◌, ◌≤◌, ℕ}
use Rattle.laws.specs.Buffers.{wrote_along}
use Rattle.registry.proofs.Doing.{done, end_room, front_room, refuses}
use Rattle.registry.proofs.Ring.{changed_marks, changed_rows, ring_length, ring_marks, ring_rows}
use Rattle.registry.proofs.Scanning.{delay_front, delays, no_delay, wrong_pass}
use Rattle.ring_state.specs.State.{runs}
use Rattle.registry.specs.View.{view_of}
use Rattle.rules.specs.House.{max_units}
use Rattle.rules.specs.Order.{encode_all}
use Rattle.rules.specs.Picture.{Row, is_silent}
use Rattle.rules.specs.Step.{asked, asks, delay_ends}
use borrow.Author.Rules.{rules}
use borrow.Author.Tests.{eq-eqb, ne_eqb}
use lib.ListN.{length}
use mathlib.Core.Bool.{false, not}
use mathlib.Core.List.{List, map}
use mathlib.Core.Path.{◌≡◌, ◌∙◌, ap, refl, subst, sym}
use native.Mathlib.Omega.{arith}
use Rattle.registry.proofs.image.RegistryImage.delay_expired.Goals as goal

pub returns-then-pass-self : goal.returns-then-pass-self
unfolding view_of
returns-then-pass-self c =
    refuses c.args.out.now _ (wrong_pass (view_of c.args.self.now) c.args.pass c.if-pass-self.true) (refl, refl, refl)

pub returns-then-self-eq-STOPPED : goal.returns-then-self-eq-STOPPED
unfolding view_of runs
returns-then-self-eq-STOPPED c =
    refuses c.args.out.now _ (no_delay (view_of c.args.self.now) c.args.pass c.if-pass-self.false (ap not (eq-eqb _ _ c.if-self-eq-STOPPED.true))) (refl, refl, refl)

pub write_asks-end-requires : goal.write_asks-end-requires
unfolding view_of runs delay_ends
write_asks-end-requires c =
    let p = view_of c.args.self.now in
    let on = ap not (ne_eqb _ _ c.if-self-eq-STOPPED.false) in (
      omega (arith, c.ring.ensures.length),
      subst (λ (rs : List Row). 0 + length (encode_all c.args.pass (asks is_silent 1 rs)) ≤ length c.args.out.now) (sym c.ring.ensures.rows)
          (subst (λ (n : ℕ). 0 + length (encode_all n (asks is_silent 1 p.rows)) ≤ length c.args.out.now) (sym c.if-pass-self.false)
          (omega (arith, front_room p (delay_ends p) (delays p c.args.pass c.if-pass-self.false on) (delay_front p) refl c.args.out.now c.requires))),
    )

pub finish-requires : goal.finish-requires
unfolding view_of runs delay_ends
finish-requires c =
    let s = c.args.self.now in
    let p = view_of s in
    let on = ap not (ne_eqb _ _ c.if-self-eq-STOPPED.false) in
    let full : length s.entries ≡ max_units = search (rules, c.well_formed) in
    let n = c.unit_count-n.ensures in
    let long : length c.all_asked.new.entries ≡ c.unit_count-n.result = c.all_asked.auto.entries ∙ ring_length s.units s.entries full n in
    let rows = changed_rows s.units s.entries full n c.all_asked.new.entries long ∙ c.all_asked.ensures.0 ∙ ap (map asked) (ring_rows s.units s.entries full n) in
    end_room p (delay_ends p) (delays p c.args.pass c.if-pass-self.false on) (delay_front p)
    (λ i. record { state = p.state; pass = p.pass; size = p.size; delay = false; rows = rows i }) c.args.out.now
    (wrote_along ((λ i. encode_all (c.if-pass-self.false i) (asks is_silent 1 (c.ring.ensures.rows i)))) c.write_asks-end.ensures) c.requires

pub returns : goal.returns
unfolding view_of runs delay_ends
returns c =
    let s = c.args.self.now in
    let p = view_of s in
    let on = ap not (ne_eqb _ _ c.if-self-eq-STOPPED.false) in
    let full : length s.entries ≡ max_units = search (rules, c.well_formed) in
    let n = c.unit_count-n.ensures in
    let long : length c.all_asked.new.entries ≡ c.unit_count-n.result = c.all_asked.auto.entries ∙ ring_length s.units s.entries full n in
    let rows = changed_rows s.units s.entries full n c.all_asked.new.entries long ∙ c.all_asked.ensures.0 ∙ ap (map asked) (ring_rows s.units s.entries full n) in
    done p (delay_ends p) (delays p c.args.pass c.if-pass-self.false on) (delay_front p)
    (λ i. record { state = p.state; pass = p.pass; size = p.size; delay = false; rows = rows i }) c.args.out.now
    (wrote_along ((λ i. encode_all (c.if-pass-self.false i) (asks is_silent 1 (c.ring.ensures.rows i)))) c.write_asks-end.ensures) c.finish.ensures.0
    (λ m.
    c.finish.ensures.1
    (record {
      state = m.state;
      delay = omega arith;
      units = m.units;
      entries = changed_marks s.units s.entries full n c.all_asked.new.entries long m.entries (c.all_asked.ensures.1 (ring_marks s.units s.entries full n m.entries));
    }))
