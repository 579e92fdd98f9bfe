-- One entry becomes another and a renumbering is sent: room for each part of what is written, and what is done with the record.
use Prim.Native.Nat.{ℕ, ◌+◌, ◌-◌, ◌≤◌}
use mathlib.Core.Path.{◌≡◌, refl, sym}
use mathlib.Core.List.{List, ◌++◌}
use lib.ListN.{length, get_or}
use Rattle.laws.specs.Buffers.{Wrote, wrote_along}
use Rattle.rules.specs.Picture.{Picture, with_rows, put, seat_at}
use Rattle.rules.specs.Order.{Order, encode_all}
use Rattle.rules.specs.Renumber.{Renumbering}
use Rattle.rules.specs.Step.{set_order}
use Rattle.rules.specs.Ending.{end_orders}
use Rattle.rules.specs.Run.{written}
use Rattle.row_entry.specs.declared.NodeEntry.{NodeEntry}
use Rattle.row_entry.specs.View.{row_of}
use Rattle.ring_state.specs.State.{state_of}
use Rattle.ring_tell.specs.Told.{row_told}
use Rattle.registry.specs.declared.image.RegistryImage.{RegistryImage}
use Rattle.registry.specs.declared.record.Recorded.{Recorded}
use Rattle.registry.specs.View.{view_of}
use Rattle.registry.specs.Outcome.{Does, Ends, Seat, Marks, reply_outcome}
use Rattle.ring_answer.specs.Hearing.{reply_change}
use Rattle.registry.proofs.Doing.{done, end_room, front_room}
use Rattle.registry.proofs.Places.{front_reply}

module _ (s : RegistryImage) (x : ℕ) (h : Seat s x) (a : ℕ) (e d : NodeEntry) (n : Renumbering) (b : List ℕ) where
  -- what is told of the entry
  orders : List Order
  orders = row_told (state_of s.state.0) s.size (row_of (get_or s.entries (x - 1) d)) (row_of e)

  enough : length (written (reply_outcome (view_of s) x a (row_of e) n)) ≤ length b → length (encode_all s.pass (orders ++ set_order x a n)) ≤ length b
  unfolding view_of with_rows orders
  enough room = front_room (view_of s) (reply_change (seat_at (view_of s).rows x) x a (row_of e) n (view_of s)) refl (front_reply s x h d a (row_of e) n) refl b room

  module _ (room : length (written (reply_outcome (view_of s) x a (row_of e) n)) ≤ length b) where
    pub told_room : length (encode_all s.pass (row_told (state_of s.state.0) s.size (row_of (get_or s.entries (x - 1) d)) (row_of e) ++ set_order x a n)) ≤ length b
    unfolding orders
    told_room = enough room

    module _ {l : List ℕ} {j : ℕ} (w : Wrote b 0 (encode_all s.pass (row_told (state_of s.state.0) s.size (row_of (get_or s.entries (x - 1) d)) (row_of e) ++ set_order x a n)) j l)
        {q : Picture} (g : q ≡ with_rows (put (seat_at (view_of s).rows x) (row_of e)) (view_of s)) where
      wrote : Wrote b 0 (encode_all q.pass (orders ++ set_order x a n)) j l
      unfolding view_of with_rows orders
      wrote = wrote_along (λ t. encode_all (sym g t).pass (orders ++ set_order x a n)) w

      pub closing_room : j + length (encode_all q.pass (end_orders q)) ≤ length l
      unfolding view_of with_rows orders
      closing_room = end_room (view_of s) (reply_change (seat_at (view_of s).rows x) x a (row_of e) n (view_of s)) refl (front_reply s x h d a (row_of e) n) g b wrote room

      pub replied : {r : Recorded} {k : List ℕ} → Ends q l j r k → (Marks s → Marks r.picture) → Does s (reply_outcome (view_of s) x a (row_of e) n) b r k
      unfolding view_of with_rows orders
      replied f m = done (view_of s) (reply_change (seat_at (view_of s).rows x) x a (row_of e) n (view_of s)) refl (front_reply s x h d a (row_of e) n) g b wrote f m
