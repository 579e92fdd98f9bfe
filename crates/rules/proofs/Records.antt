-- One record: the orders fit, a refusal changes nothing, orders carry the pass after the event.
use Prim.Native.Nat.{ℕ, zero, suc, ◌≤◌}
use mathlib.Core.Path.{◌≡◌, refl, ◌∙◌, ap}
use mathlib.Core.Bool.{not}
use mathlib.Core.List.{List, [], ◌∷◌, ◌++◌, map}
use native.Mathlib.Omega.{arith}
use borrow.Author.Tests.{lt-ltb, le-ltb, ne_eqb}
use lib.ListN.{length}
use Rattle.laws.specs.Buffers.{sets_start}
use Rattle.rules.specs.House.{min_room, max_pairs}
use Rattle.rules.specs.Listing.{listing}
use Rattle.laws.specs.Lists.{collect}
use Rattle.laws.specs.Alls.{All, all_nil, all_cons, all_everywhere}
use Rattle.rules.specs.Picture.{Picture, Row, kept_by, pairs_in, no_row, row_at}
use Rattle.rules.specs.Event.{Event, START, NCE, SHUTDOWN, ANSWER, NONE, DELAY}
use Rattle.rules.specs.Order.{Order, encode, encode_all}
use Rattle.rules.specs.Step.{refuse, respond}
use Rattle.rules.specs.Run.{Outcome, refused, taken, on_event, on_decoded, concluded, step, Record, offered, left, Sent, sent_with, sent_by, written, lent}
use Rattle.rules.specs.Claims.{picture_at, record_at, Fits, Bounds, OfAnotherPass, Checks, Refusal, Carried}
use Rattle.rules.proofs.Ways.{refuse_if_true, refuse_if_false, Offered, was_refused, was_taken, offered_cases}
use Rattle.rules.proofs.Sound.{Sound, RowProper}
use Rattle.rules.proofs.Decode.{formed}
use Rattle.rules.proofs.Sizes.{encode_all_size, largest, size_largest, row_few, listing_size}
use Rattle.rules.proofs.Demand3.{running_at}

-- a sound picture writes no more than the largest event
pub record_fits : (p : Picture) (r : Record) → Sound p → length (written (offered p r)) ≤ largest
unfolding written
record_fits p r h = go (offered_cases p r)
  where
    go : {o : Outcome} → Offered p r o → length (written o) ≤ largest
    go was_refused = omega arith
    go (was_taken {c} e d m t q) = rw encode_all_size (size_largest p h e c q (formed r.bytes e d))

pub fits : (l : ℕ) (rs : List Record) → Fits l rs
unfolding lent
fits l rs =
    record {
      fits = λ k h. at k;
      beyond = λ k h buffer room. sets_start buffer (written (offered (picture_at l rs k) (record_at rs k))) (omega (arith, at k));
    }
  where
    at : (k : ℕ) → length (written (offered (picture_at l rs k) (record_at rs k))) ≤ largest
    at k = record_fits (picture_at l rs k) (record_at rs k) (running_at l rs k).sound

-- the numbers that are looked at first
pub checks : (p : Picture) (r : Record) → Checks p r
unfolding step concluded on_decoded on_event respond
checks p r =
    record {
      room = λ l. ap (concluded p) (refuse_if_true _ _ (lt-ltb r.room min_room l));
      malformed = λ m d. ap (concluded p) (refuse_if_false _ _ (le-ltb r.room min_room m) ∙ ap (on_decoded p) d);
      another_pass = λ m e d t o.
          ap (concluded p) (refuse_if_false _ _ (le-ltb r.room min_room m) ∙ ap (on_decoded p) d ∙ refuse_if_false _ _ (ap not t) ∙ other e o);
    }
  where
    other : (e : Event) → OfAnotherPass e p.pass → respond p e ≡ refuse 5
    other (START n) o = absurd o
    other (NCE n) o = absurd o
    other SHUTDOWN o = absurd o
    other (ANSWER c x a ps) o = refuse_if_true _ _ (ap not (ne_eqb c p.pass o))
    other (NONE c x) o = refuse_if_true _ _ (ap not (ne_eqb c p.pass o))
    other (DELAY c) o = refuse_if_true _ _ (ap not (ne_eqb c p.pass o))

pub refusal : (p : Picture) (r : Record) → Refusal p r
unfolding left written sent_by lent
refusal p r = record { unchanged = λ n h. (ap (left p) h, ap sent_by h, λ buffer. ap (lent buffer) h) }

-- the sizes of a running picture
no_row_proper : RowProper no_row
unfolding no_row kept_by
no_row_proper = tt

row_pairs : (rows : List Row) (x : ℕ) → All RowProper rows → length (pairs_in (row_at rows x)) ≤ max_pairs
unfolding row_at
row_pairs rows zero h = row_few no_row no_row_proper
row_pairs rows (suc i) h = row_few _ (all_everywhere {P = RowProper} i no_row no_row_proper h)

pub bounds : (l : ℕ) (rs : List Record) → Bounds l rs
unfolding listing
bounds l rs =
    record {
      pass = λ k h. (sound k).pass;
      rows = λ k h. let f = (sound k).rows.few in omega arith;
      pairs = λ k x h. row_pairs (picture_at l rs k).rows x (sound k).rows.proper;
      entries = λ k h. let f = (sound k).rows.few in let e = listing_size 1 (picture_at l rs k).rows (sound k).rows.proper in omega arith;
    }
  where
    sound : (k : ℕ) → Sound (picture_at l rs k)
    sound k = (running_at l rs k).sound

pub carried : (p : Picture) (r : Record) → Carried p r
unfolding left written sent_by sent_with encode_all collect
carried p r = record { pass = pass (offered p r); bytes = bytes (offered p r) }
  where
    all : (n : ℕ) (os : List Order) → All (λ (s : Sent). s.pass ≡ n) (map (sent_with n) os)
    all n [] = all_nil
    all n (o ∷ os) = all_cons refl (all n os)

    pass : (o : Outcome) → All (λ (s : Sent). s.pass ≡ (left p o).pass) (sent_by o)
    pass (refused n) = all_nil
    pass (taken q os) = all q.pass os

    same : (n : ℕ) (os : List Order) → encode_all n os ≡ collect (λ (s : Sent). encode s.pass s.order) (map (sent_with n) os)
    same n [] = refl
    same n (o ∷ os) = ap (λ (l : List ℕ). encode n o ++ l) (same n os)

    bytes : (o : Outcome) → written o ≡ collect (λ (s : Sent). encode s.pass s.order) (sent_by o)
    bytes (refused n) = refl
    bytes (taken q os) = same q.pass os
