-- An order read: the unit that it makes of one, step by step as the code takes them, and what is handed back.
use Prim.Native.Nat.{ℕ, ◌-◌, ◌<◌, ◌≤◌}
use mathlib.Core.Path.{◌≡◌, refl, sym, ◌∙◌, ap, subst}
use mathlib.Core.Bool.{Bool, true, false, cond, not, ◌||◌}
use mathlib.Core.List.{List, [], ◌∷◌}
use mathlib.Core.Option.{Option, some}
use native.Mathlib.Omega.{arith}
use borrow.Author.Tests.{lt-ltb, le-ltb}
use lib.Dec.{eqb}
use lib.ListN.{length, take, drop, length-drop, drop_of_length-le}
use lib.Seq.{sets, take_all}
use Rattle.laws.specs.Lists.{any, select}
use Rattle.laws.specs.Bools.{cond_true, cond_false}
use Rattle.laws.specs.Buffers.{Wrote, wrote_nothing, wrote_along}
use Rattle.rules.specs.House.{max_pairs, max_answers, min_answer_room}
use Rattle.rules.specs.Picture.{Pair, holds}
use Rattle.rules.specs.Event.{two, four, read_pairs, header, encode_event}
use Rattle.rules.specs.Order.{Order, SET, NOTOK, INVALID}
use Rattle.rules.specs.Run.{Sent, sent_with}
use Rattle.rules.proofs.Encode.{pairs_length}
use Rattle.rules_unit.specs.Reading.{decode_order}
use Rattle.rules_unit.specs.Slave.{Known, Slave, besides, says_not_ok, empties, named, known_after, with_known, renumbered, is_answered, obeyed, heard, answer_of, Reading, refuse_order, on_order, read}
use Rattle.wire_pairs.specs.View.{pairs_of}
use Rattle.unit_answers.specs.declared.DecentralRegistry.{DecentralRegistry}
use Rattle.unit_answers.specs.View.{answers_of}
use Rattle.unit_slave.specs.declared.NetworkSlave.{NetworkSlave}
use Rattle.unit_slave.specs.declared.OrderRead.{OrderRead}
use Rattle.unit_slave.specs.View.{slave_of, handed, expected, Reads}
use Rattle.unit_slave.specs.Steps.{emptied_on, on_pass, with_pairs, Becomes}

-- no pair is named: every answer stays
besides_none : (ks : List Known) → besides [] ks ≡ ks
unfolding besides select holds any
besides_none [] = refl
besides_none (k ∷ ks) = ap (◌∷◌ k) (besides_none ks)

-- fewer bytes than stand before the pairs name none
pub besides_short : (b : List ℕ) (ks : List Known) → length b < 8 → ks ≡ besides (read_pairs (drop 8 b)) ks
unfolding read_pairs
besides_short b ks h = sym (ap (λ (l : List ℕ). besides (read_pairs l) ks) (drop_of_length-le b {i = 8} (omega arith)) ∙ besides_none ks)

-- the bytes from there on are all the rest
pub besides_rest : (b : List ℕ) (ks : List Known) → besides (read_pairs (take (length b - 8) (drop 8 b))) ks ≡ besides (read_pairs (drop 8 b)) ks
besides_rest b ks = ap (λ (l : List ℕ). besides (read_pairs l) ks) (take_all (length b - 8) (drop 8 b) (omega (arith, length-drop 8 b)))

-- what each order makes of a unit
module _ (n : ℕ) (u : Slave) where
  -- one that names no pairs and says nothing of the ring keeps or empties by its pass
  known_on : (o : Order) → named o ≡ [] → says_not_ok o ≡ false → cond (eqb n u.pass) u.known [] ≡ known_after u.pass u.known (sent_with n o)
  unfolding sent_with known_after empties
  known_on o e f = go (eqb n u.pass) ∙ (λ i. besides (sym e i) (cond (sym f i || not (eqb n u.pass)) [] u.known))
    where
      go : (t : Bool) → cond t u.known [] ≡ besides [] (cond (not t) [] u.known)
      go true = sym (besides_none u.known)
      go false = sym (besides_none [])

  -- such a one that leaves the unit's own pairs
  pub heard_on : (o : Order) → named o ≡ [] → says_not_ok o ≡ false → cond (is_answered u o) (obeyed o u.pairs) u.pairs ≡ u.pairs
      → on_pass n u ≡ heard u (sent_with n o)
  unfolding on_pass heard sent_with
  heard_on o e f g = λ i. record { position = u.position; address = u.address; pairs = sym g i; pass = n; known = known_on o e f i }

  pub heard_set : (x a b o m : ℕ) → is_answered u (SET x a b o m) ≡ true
      → with_pairs (renumbered b o m (on_pass n u).pairs) (on_pass n u) ≡ heard u (sent_with n (SET x a b o m))
  unfolding on_pass with_pairs heard sent_with obeyed named says_not_ok
  heard_set x a b o m e =
      λ i. record { position = u.position; address = u.address; pairs = sym (cond_true (renumbered b o m u.pairs) u.pairs e) i; pass = n; known = known_on (SET x a b o m) refl refl i }

  pub heard_notok : emptied_on n u ≡ heard u (sent_with n NOTOK)
  unfolding emptied_on heard sent_with known_after empties named says_not_ok is_answered besides select
  heard_notok = refl

  pub heard_invalid : (ps : List Pair) → with_known (besides ps (on_pass n u).known) (on_pass n u) ≡ heard u (sent_with n (INVALID ps))
  unfolding on_pass with_known heard sent_with known_after empties named says_not_ok is_answered
  heard_invalid ps = λ i. record { position = u.position; address = u.address; pairs = u.pairs; pass = n; known = besides ps (go (eqb n u.pass) i) }
    where
      go : (t : Bool) → cond t u.known [] ≡ cond (not t) [] u.known
      go true = refl
      go false = refl

-- a unit with other answers
pub knows : (u : NetworkSlave) (k : DecentralRegistry) (ks : List Known) → (answers_of k ≡ ks) × (k.count ≤ max_answers)
    → Becomes u (with_known ks (slave_of u)) (record { pass = u.pass; address = u.address; position = u.position; pairs = u.pairs; known = k })
unfolding slave_of with_known
knows u k ks h =
    record {
      unit = λ i. record { position = u.position.0; address = u.address.0; pairs = pairs_of u.pairs; pass = u.pass; known = h.0 i };
      counts = λ c. record { pairs = c.pairs; known = h.1 };
    }

-- a unit that becomes another in two steps
pub becomes_along : {came r : NetworkSlave} {v w : Slave} → v ≡ w → Becomes came v r → Becomes came w r
becomes_along e h = record { unit = h.unit ∙ e; counts = h.counts }

pub becomes_on : {came r s : NetworkSlave} {v : Slave} (f : Slave → Slave) → Becomes came v r → Becomes r (f (slave_of r)) s → Becomes came (f v) s
becomes_on f h k = record { unit = k.unit ∙ ap f h.unit; counts = λ c. k.counts (h.counts c) }

-- a refusal hands back the very unit
pub refused : (came : NetworkSlave) (b : List ℕ) (n : ℕ) → Reads came (refuse_order n (slave_of came)) b (record { number = n; length = 0; unit = came }) b
unfolding refuse_order handed expected
refused came b n = record { outcome = refl; kept = λ _. refl; counts = λ c. c }

-- an order that is taken: the unit that it makes, and what is written
module _ (came : NetworkSlave) (s : Sent) where
  taken : (before after answer : List ℕ) {r : OrderRead} → cond (is_answered (slave_of came) s.order) (answer_of s.pass (heard (slave_of came) s)) [] ≡ answer
      → Becomes came (heard (slave_of came) s) r.unit → r.number ≡ 0 → Wrote before 0 answer r.length after → Reads came (on_order (slave_of came) (some s)) before r after
  unfolding on_order handed expected
  taken before after answer {r} e h k w =
      let l : r.length ≡ length answer = omega (arith, w.place) in
      record {
        outcome = λ i.
            record {
              unit = h.unit i;
              number = k i;
              length = (l ∙ ap length (sym e)) i;
              buffer = (w.buffer ∙ ap (sets before 0) (sym e)) i;
            };
        kept = λ f. absurd (f refl);
        counts = h.counts;
      }

  pub silent : (b : List ℕ) {next : NetworkSlave} → is_answered (slave_of came) s.order ≡ false → Becomes came (heard (slave_of came) s) next
      → Reads came (on_order (slave_of came) (some s)) b (record { number = 0; length = 0; unit = next }) b
  silent b e h =
      taken b b [] (cond_false (answer_of s.pass (heard (slave_of came) s)) [] e) h refl (wrote_nothing b 0)

  pub answered : (before after : List ℕ) {next : NetworkSlave} {n : ℕ} → is_answered (slave_of came) s.order ≡ true
      → Becomes came (heard (slave_of came) s) next → Wrote before 0 (answer_of next.pass (slave_of next)) n after
      → Reads came (on_order (slave_of came) (some s)) before (record { number = 0; length = n; unit = next }) after
  unfolding slave_of heard
  answered before after {next} {n} e h w =
      let v = heard (slave_of came) s in
      taken before after (answer_of s.pass v) (cond_true (answer_of s.pass v) [] e) h refl (wrote_along (ap (λ (w : Slave). answer_of w.pass w) h.unit) w)

-- room below the least, no order, an order
module _ (u : Slave) (b : List ℕ) (room : ℕ) where
  pub read_short : room < min_answer_room → read u b room ≡ refuse_order 1 u
  unfolding read
  read_short h = cond_true (refuse_order 1 u) _ (lt-ltb room min_answer_room h)

  pub read_order : min_answer_room ≤ room → (m : Option Sent) → m ≡ decode_order b → read u b room ≡ on_order u m
  unfolding read
  read_order h m e = cond_false (refuse_order 1 u) _ (le-ltb room min_answer_room h) ∙ ap (on_order u) (sym e)

pub reads_along : {came : NetworkSlave} {o p : Reading} {before after : List ℕ} {r : OrderRead} → o ≡ p → Reads came p before r after → Reads came o before r after
reads_along {came} {before = before} {after} {r} e h = subst (λ (o : Reading). Reads came o before r after) (sym e) h

-- an ANSWER of at most 24 pairs has its room
pub answer_fits : (n : ℕ) (u : Slave) → length u.pairs ≤ max_pairs → length (answer_of n u) ≤ min_answer_room
unfolding answer_of encode_event header four two
answer_fits n u h = let e = pairs_length u.pairs in omega arith
