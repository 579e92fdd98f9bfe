-- An NCE in OK: ASKs for the new rows, INVALID for what was listed, and the ending.
use Prim.Native.Nat.{ℕ, ◌+◌, ◌≤◌}
use mathlib.Core.Path.{◌≡◌, refl, sym, ◌∙◌}
use mathlib.Core.Bool.{true, cond, ◌&&◌}
use mathlib.Core.List.{List, [], ◌++◌, append-nil}
use lib.ListN.{length}
use Rattle.laws.specs.Bools.{clash}
use Rattle.laws.specs.Buffers.{Wrote}
use Rattle.rules.specs.Picture.{State, Off, NotOk, Ok, is_ok, Pair, Picture, is_open}
use Rattle.rules.specs.Order.{INVALID, encode_all}
use Rattle.rules.specs.Listing.{listed_pairs}
use Rattle.rules.specs.Step.{asks, rescanned, rescan}
use Rattle.rules.specs.Ending.{tell, told_by, told, end_orders}
use Rattle.rules.specs.Run.{written}
use Rattle.ring_tell.specs.Told.{change_told}
use Rattle.registry.specs.declared.image.RegistryImage.{RegistryImage}
use Rattle.registry.specs.declared.record.Recorded.{Recorded}
use Rattle.registry.specs.Outcome.{Does, Ends, Marks, rescan_outcome}
use Rattle.registry.proofs.Doing.{done, end_room, front_room}

pub state_ok : (s : State) → is_ok s ≡ true → s ≡ Ok
unfolding is_ok
state_ok Off h = clash h refl
state_ok NotOk h = clash h refl
state_ok Ok h = refl

-- q is the picture that goes to the ending, and ps are the pairs that are told
module _ (p : Picture) (n : ℕ) (ok : is_ok p.state ≡ true) {q : Picture} (g : q ≡ (rescan n p).picture) {ps : List Pair} (e : ps ≡ listed_pairs p)
    (b : List ℕ) (room : length (written (rescan_outcome p n)) ≤ length b) where
  front : (rescan n p).first ++ told (rescan n p).packing p (rescan n p).picture ++ (rescan n p).set ≡ change_told p.size q.rows ps
  unfolding rescan rescanned told told_by is_ok
  front =
      append-nil _ ∙ (λ t. asks is_open 1 (sym g t).rows ++ cond (ok t && true) (tell INVALID p.size (sym e t)) [])

  pub change_room : length (encode_all q.pass (change_told p.size q.rows ps)) ≤ length b
  change_room = front_room p (rescan n p) refl front g b room

  module _ {m : List ℕ} {i : ℕ} (w : Wrote b 0 (encode_all q.pass (change_told p.size q.rows ps)) i m) where
    pub closing_room : i + length (encode_all q.pass (end_orders q)) ≤ length m
    closing_room = end_room p (rescan n p) refl front g b w room

    pub rescanned_done : {came : RegistryImage} {r : Recorded} {d : List ℕ} → Ends q m i r d → (Marks came → Marks r.picture)
        → Does came (rescan_outcome p n) b r d
    rescanned_done h k = done p (rescan n p) refl front g b w h k
