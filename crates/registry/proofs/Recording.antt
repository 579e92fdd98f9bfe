-- A record on its way: what is known once its bytes are decoded, and what its own step comes to.
use Prim.Native.Nat.{ℕ, ◌≤◌, min}
use mathlib.Core.Option.{some}
use Rattle.std.specs.Prelude.{Option, Some}
use Rattle.numbers.specs.declared.Refusal.{Refusal}
use Rattle.numbers.specs.declared.Refusal.TheVariants as refusals
use Rattle.numbers.specs.Numbers.{number_of}
use Rattle.ring_answer.specs.Hearing.{answered}
use Rattle.wire_events.specs.View.{event_of, event_in}
use Rattle.wire_events.specs.declared.Event.{Event}
use Rattle.ring_refusals.specs.Numbers.{refusal_of, reply_refusal, seat_in}
use Rattle.ring_state.specs.State.{state_of}
use Rattle.row_entry.specs.View.{row_of}
use Rattle.row_entry.specs.declared.NodeEntry.{NodeEntry}
use Rattle.wire_address.specs.declared.LogicalNodeAddress.{LogicalNodeAddress}
use Rattle.wire_address.specs.declared.NodePosition.{NodePosition}
use Rattle.wire_events.specs.declared.Event.TheVariants as events
use Rattle.wire_pairs.specs.View.{pairs_of}
use Rattle.wire_pairs.specs.declared.Pairs.{Pairs}
use Rattle.std.proofs.lemmas.List.{length-map}
use Rattle.rules.specs.Picture.{no_row, seat_at}
use Rattle.rules.specs.Renumber.{finished}
use Rattle.rules.specs.Step.{silenced}
use Rattle.registry.proofs.Doing.{refuses}
use Rattle.registry.proofs.Refusing.{answer_taken, none_taken, refused_late}
use native.Mathlib.Omega.{arith}
use Rattle.registry.proofs.Stepping.{fits, recorded, step_refused, step_taken, well_formed}
use Rattle.registry.specs.Outcome.{Does, HandedOut, Seat, WellFormed, reply_outcome, respond_to}
use Rattle.registry.specs.View.{view_of}
use Rattle.registry.specs.declared.image.RegistryImage.{RegistryImage}
use Rattle.registry.specs.declared.record.Recorded.{Recorded}
use Rattle.rules.specs.Event.{decode}
use Rattle.rules.specs.House.{max_units, min_room}
use Rattle.rules.specs.Run.{Outcome, concluded, refused, step, written}
use native.Mathlib.Nat.{suc-ne-zero}
use lib.ListN.{length, get_or}
use mathlib.Core.List.{List, map}
use mathlib.Core.Path.{◌∙◌, ◌≡◌, ap, refl, subst}

-- no refusal has the number 0
pub numbered : (e : Refusal) → number_of e ≡ 0 → ⊥
numbered refusals.OrderRoomTooShort = suc-ne-zero 0
numbered refusals.RecordMalformed = suc-ne-zero 1
numbered refusals.NotRunning = suc-ne-zero 2
numbered refusals.AlreadyRunning = suc-ne-zero 3
numbered refusals.WrongPass = suc-ne-zero 4
numbered refusals.NoSuchPosition = suc-ne-zero 5
numbered refusals.PositionIgnored = suc-ne-zero 6
numbered refusals.NotAsked = suc-ne-zero 7
numbered refusals.NoPassLeft = suc-ne-zero 8
numbered refusals.IllegalSize = suc-ne-zero 9
numbered refusals.PayloadTooLong = suc-ne-zero 10
numbered refusals.NoSuchTelegram = suc-ne-zero 11
numbered refusals.RoomTooShort = suc-ne-zero 12
numbered refusals.TelegramMalformed = suc-ne-zero 13
numbered refusals.TelIdPassedOver = suc-ne-zero 14
numbered refusals.OutOfSequence = suc-ne-zero 15
numbered refusals.NotListed = suc-ne-zero 16
numbered refusals.NotOk = suc-ne-zero 17
numbered refusals.RowsNotRising = suc-ne-zero 19
numbered refusals.NoRoomForDifferences = suc-ne-zero 20

-- the picture, what was given and lent, and what was read of it
pub record Decoded : Type 0 where
  pub image : RegistryImage
  pub given : List ℕ
  pub lent : List ℕ
  pub read : Option Event
  pub handed : HandedOut image
  pub room : min_room ≤ length lent
  pub decoded : event_in read ≡ decode given

-- what the rules make of the record
abbrev pub outcome : Decoded → Outcome
outcome r = step (view_of r.image) r.given (length r.lent)

-- and where an event f was read and nothing in front of its own step refuses it
abbrev pub step_of : Decoded → Event → Outcome
step_of r f = concluded (view_of r.image) (respond_to (view_of r.image) (some (event_of f)))

module _ (r : Decoded) where
  pub fits_at : {o : Outcome} → outcome r ≡ o → length (written o) ≤ length r.lent
  fits_at w = fits r.image r.handed r.given r.lent r.room w

  pub recorded_at : {o : Outcome} {s : Recorded} {d : List ℕ} → outcome r ≡ o → Does r.image o r.lent s d → Does r.image (outcome r) r.lent s d × HandedOut s.picture
  recorded_at w k = recorded r.image r.handed r.given r.lent w k

  pub formed : {f : Event} → r.read ≡ Some f → WellFormed (some (event_of f))
  formed e = subst (λ (o : Option Event). WellFormed (event_in o)) e (well_formed (view_of r.image) r.given (length r.lent) r.room r.decoded)

  -- a refusal
  pub recorded_err : (e : Refusal) {s : Recorded} → outcome r ≡ refused (number_of e) → (s.number ≡ number_of e) × (s.length ≡ 0) × (s.picture ≡ r.image)
      → Does r.image (outcome r) r.lent s r.lent × HandedOut s.picture
  recorded_err e w h = recorded_at w (refuses r.lent (number_of e) refl h)

  -- 2, 3 and 4
  pub table_step : (e : Refusal) → number_of e ≡ refusal_of (state_of r.image.state.0) (event_in r.read) → outcome r ≡ refused (number_of e)
  unfolding view_of
  table_step e h = step_refused (view_of r.image) r.given (length r.lent) r.room r.decoded h (numbered e)

  -- the table takes it
  own : ◌≡◌ {A = ℕ} 0 (refusal_of (view_of r.image).state (event_in r.read)) → outcome r ≡ concluded (view_of r.image) (respond_to (view_of r.image) (event_in r.read))
  own t = step_taken (view_of r.image) r.given (length r.lent) r.room r.decoded t

  pub own_step : ◌≡◌ {A = ℕ} 0 (refusal_of (view_of r.image).state (event_in r.read)) → {f : Event} → r.read ≡ Some f → outcome r ≡ step_of r f
  own_step t e = own t ∙ ap (λ (o : Option Event). concluded (view_of r.image) (respond_to (view_of r.image) (event_in o))) e

  -- what is looked at for an ANSWER or a NONE
  module _ (full : length r.image.entries ≡ max_units) (ring : List NodeEntry) (l : length ring ≡ min r.image.units max_units)
      (rows : map row_of ring ≡ (view_of r.image).rows) (table : ◌≡◌ {A = ℕ} 0 (refusal_of (state_of r.image.state.0) (event_in r.read))) {n : ℕ}
      (looked : n ≡ reply_refusal (state_of r.image.state.0) r.image.pass (length ring) (get_or (map row_of ring) (seat_in (event_in r.read)) no_row) (event_in r.read)) where
    many : min (length ring) max_units ≡ length (view_of r.image).rows
    many = omega (arith, l, ap length rows, length-map ring row_of)

    -- as the rules look at it, whatever was read
    late : {o : Option Event} → r.read ≡ o → n ≡ reply_refusal (view_of r.image).state r.image.pass (length ring) (get_or (view_of r.image).rows (seat_in (event_in o)) no_row) (event_in o)
    unfolding view_of
    late e =
        looked
        ∙ (λ t. reply_refusal (state_of r.image.state.0) r.image.pass (length ring) (get_or (rows t) (seat_in (event_in (e t))) no_row) (event_in (e t)))

    taken : {f : Event} → r.read ≡ Some f → outcome r ≡ step_of r f
    unfolding view_of
    taken e = own_step table e

    pub late_step : (e : Refusal) → number_of e ≡ n → outcome r ≡ refused (number_of e)
    unfolding view_of
    late_step e h =
        own table ∙ refused_late r.image full (length ring) many (event_in r.read) (h ∙ late refl) (numbered e)

    module _ (none : ◌≡◌ {A = ℕ} 0 n) (q : ℕ) (x : NodePosition) where
      pub answered_at : (a : LogicalNodeAddress) (ps : Pairs) → r.read ≡ Some (events.Answer q x a ps)
          → Seat r.image x.0 × (outcome r ≡ concluded (view_of r.image) (answered (seat_at (view_of r.image).rows x.0) x.0 a.0 (pairs_of ps) (view_of r.image)))
      unfolding respond_to
      answered_at a ps e =
          let k = answer_taken r.image full (length ring) many q x.0 a.0 (pairs_of ps) (none ∙ late e) in (k.0, taken e ∙ k.1)

      pub silent_at : r.read ≡ Some (events.NoAnswer q x)
          → Seat r.image x.0 × (outcome r ≡ reply_outcome (view_of r.image) x.0 0 (silenced (seat_at (view_of r.image).rows x.0).row) finished)
      unfolding respond_to
      silent_at e = let k = none_taken r.image full (length ring) many q x.0 (none ∙ late e) in (k.0, taken e ∙ k.1)
