-- Every run of calls follows the rules' bench.
use Prim.Native.Nat.{ℕ, ◌≤◌}
use mathlib.Core.Path.{◌≡◌, refl, sym, ◌∙◌, ap, subst}
use mathlib.Core.List.{List, [], ◌++◌, map}
use native.Mathlib.Omega.{arith}
use lib.ListN.{length, take, drop}
use lib.Seq.{take-append_seam}
use Rattle.laws.specs.Alls.{All}
use Rattle.laws.specs.Buffers.{sets_start}
use Rattle.rules.specs.House.{min_answer_room}
use Rattle.rules.specs.Picture.{Ok, Picture}
use Rattle.rules.specs.Run.{Outcome, Record, Sent, offered, left, written, lent, next, sent_by}
use Rattle.rules.proofs.Ways.{Offered, was_refused, was_taken, offered_cases}
use Rattle.rules.proofs.Along.{along_next}
use Rattle.rules.proofs.Sound.{Sound}
use Rattle.rules.proofs.Sizes.{largest}
use Rattle.rules.proofs.Runs.{Running, running_fresh, running_taken}
use Rattle.rules.proofs.Records.{record_fits}
use Rattle.rules_unit.specs.Reading.{decode_order}
use Rattle.rules_unit.specs.Slave.{Slave, Reading, read, reads, turned, lived}
use Rattle.rules_unit.specs.Bench.{Bench, Act, readings, act, acted, fresh_bench}
use Rattle.rules_unit.specs.Claims.{IsListed}
use Rattle.rules_unit.proofs.Coherence.{coherent}
use Rattle.rules_unit.proofs.Units.{read_with_room}
use Rattle.registry.specs.declared.image.RegistryImage.{RegistryImage}
use Rattle.registry.specs.declared.record.Recorded.{Recorded}
use Rattle.registry.specs.View.{view_of}
use Rattle.registry.specs.Outcome.{Handed, handed, expected, Does}
use Rattle.unit_slave.specs.declared.NetworkSlave.{NetworkSlave}
use Rattle.unit_slave.specs.declared.OrderRead.{OrderRead}
use Rattle.unit_slave.specs.View as units
use Rattle.unit_slave.specs.View.{slave_of, Reads}
use Rattle.unit_bench.specs.Calls.{ReadsAll, no_order_lem, then_order, Plays, no_call, record_call, look_up_call, Promises}

-- with room enough the room does not matter
read_room : (u : Slave) (b : List ℕ) (room : ℕ) → min_answer_room ≤ room → read u b room ≡ read u b min_answer_room
read_room u b room h = read_with_room u b room (decode_order b) h refl ∙ sym (read_with_room u b min_answer_room (decode_order b) (omega arith) refl)

-- the unit that an order leaves, and the picture and the orders that a record leaves
unit_after : {u : NetworkSlave} {o : Reading} {before after : List ℕ} {r : OrderRead} → Reads u o before r after → slave_of r.unit ≡ o.unit
unfolding units.handed units.expected
unit_after k = ap (λ (h : units.Handed). h.unit) k.outcome

picture_after_lem : {i : RegistryImage} {o : Outcome} {before after : List ℕ} {r : Recorded} → Does i o before r after → view_of r.picture ≡ left (view_of i) o
unfolding handed expected
picture_after_lem k = ap (λ (h : Handed). h.picture) k.outcome

orders_after : {i : RegistryImage} {o : Outcome} {before after : List ℕ} {r : Recorded} → Does i o before r after → length (written o) ≤ length before
    → take r.length after ≡ written o
unfolding handed expected lent
orders_after {o = o} {before = before} k l =
    (λ t. take (k.outcome t).length (k.outcome t).buffer) ∙ ap (take (length (written o))) (sets_start before (written o) l)
    ∙ take-append_seam (written o) (drop (length (written o)) before)

-- the orders of a record have room
written_room : (p : Picture) (r : Record) → Sound p → length (written (offered p r)) ≤ r.room
unfolding written
written_room p r h = go (offered_cases p r) (record_fits p r h)
  where
    go : {o : Outcome} → Offered p r o → length (written o) ≤ largest → length (written o) ≤ r.room
    go was_refused l = omega arith
    go (was_taken e d m t q) l = omega (arith, l, m)

-- the orders that a unit reads
reads_follow : {u v : NetworkSlave} {orders : List (List ℕ)} → ReadsAll u orders v
    → slave_of v ≡ lived (slave_of u) (map (λ (o : List ℕ). reads o min_answer_room) orders)
unfolding lived turned
reads_follow no_order_lem = refl
reads_follow (then_order {u} {v} {order} {before} {after} {orders} {r} m k rest) =
    reads_follow rest
    ∙ ap (λ (s : Slave). lived s (map (λ (o : List ℕ). reads o min_answer_room) orders))
    (unit_after k ∙ ap (λ (z : Reading). z.unit) (read_room (slave_of u) order (length before) m))

-- picture and unit as the rules' bench
abbrev bench_of : RegistryImage → NetworkSlave → Bench
bench_of i u = record { master = view_of i; unit = slave_of u }

plays_follow : {i j : RegistryImage} {u w : NetworkSlave} {acts : List Act} (sent : List Sent) → Running (view_of i) sent → Plays i u acts j w
    → bench_of j w ≡ acted (bench_of i u) acts
unfolding acted act readings turned
plays_follow sent h no_call = refl
plays_follow sent h (record_call {i} {j} {u} {v} {w} {bytes} {before} {after} {r} {acts} k ks rest) =
    let rec : Record = record { bytes = bytes; room = length before } in
    let e : view_of r.picture ≡ next (view_of i) rec = picture_after_lem k in
    let f : take r.length after ≡ written (offered (view_of i) rec) = orders_after k (written_room (view_of i) rec h.sound) in
    let g : slave_of v ≡ lived (slave_of u) (readings (written (offered (view_of i) rec))) = reads_follow ks ∙ ap (λ (b : List ℕ). lived (slave_of u) (readings b)) f in
    plays_follow (sent ++ sent_by (offered (view_of i) rec)) (subst (λ (q : Picture). Running q (sent ++ sent_by (offered (view_of i) rec))) (sym e) (along_next Running running_taken (view_of i) sent rec h)) rest
    ∙ (λ t. acted (record { master = e t; unit = g t }) acts)
plays_follow sent h (look_up_call {i} {j} {u} {v} {w} {a} {acts} k rest) =
    plays_follow sent h rest ∙ (λ t. acted (record { master = view_of i; unit = k t }) acts)

pub promises : Promises
unfolding fresh_bench
promises =
    record {
      follows = λ l x a pairs acts i j u w f m k.
          let e : bench_of j w ≡ acted (fresh_bench l x a pairs) acts =
          plays_follow [] (subst (λ (q : Picture). Running q []) (sym f) (running_fresh l)) k ∙ (λ t. acted (record { master = f t; unit = m t }) acts) in
          record {
            picture = ap (λ (b : Bench). b.master) e;
            unit = ap (λ (b : Bench). b.unit) e;
            listed = subst (λ (b : Bench). b.master.state ≡ Ok → All (IsListed b.master) b.unit.known) (sym e) (coherent l x a pairs acts).listed;
          };
    }
