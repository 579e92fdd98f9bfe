-- The message comes back: at every turn the telegrams that are left, joined from here on, give the whole message.
use Prim.Native.Nat.{◌-◌}
use mathlib.Core.Path.{◌≡◌}
use lib.ListN.{length}
use Rattle.tel_join_state.specs.Answers.{joining_of}
use Rattle.tel_round_trip.proofs.Returning.{Owed}
use Rattle.tel_round_trip.proofs.cut_and_join.Given as goal

abbrev pub invariant-loop-number : goal.invariant-loop-number
invariant-loop-number l =
    (length l.buffer ≡ length l.initial.buffer) × Owed l.l l.msg_id l.payload l.initial.buffer l.number (l.count - l.number) (joining_of l.state) l.buffer
