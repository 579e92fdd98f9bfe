-- The tests in their order, then the event.
use mathlib.Core.Path.{◌≡◌, ◌∙◌, ap, refl, subst, sym}
use native.Mathlib.Omega.{arith}
use borrow.Author.Rules.{rules}
use lib.ListN.{length}
use Rattle.laws.specs.Alls.{All}
use Rattle.row_entry.specs.Marks.{Marked}
use Rattle.std.proofs.lemmas.Result.{err_from_is_err_and}
use native.Mathlib.Nat.{suc-ne-zero}
use Rattle.ring_refusals.specs.Numbers.{refusal_of}
use Rattle.registry.proofs.Doing.{refuses}
use Rattle.registry.proofs.Places.{index, inside, seat_entry}
use Rattle.registry.proofs.Recording.{Decoded, answered_at, fits_at, formed, late_step, own_step, recorded_at, recorded_err, silent_at, table_step}
use Rattle.registry.proofs.Ring.{ring_marks}
use Rattle.registry.proofs.Stepping.{reached_size, recorded, step_1, step_refused}
use Rattle.registry.specs.Outcome.{reply_outcome, respond_to}
use Rattle.registry.specs.View.{view_of}
use Rattle.std.specs.Prelude.{Some}
use Rattle.wire_events.specs.View.{event_in}
use Rattle.ring_answer.proofs.Hearing.{hears_conflict, hears_reply}
use Rattle.ring_answer.specs.Hearing.{Hears}
use Rattle.rules.specs.House.{max_units}
use Rattle.rules.specs.Picture as rules
use Rattle.rules.specs.Picture.{Row, seat_at}
use Rattle.rules.specs.Renumber.{finished}
use Rattle.rules.specs.Run.{concluded}
use Rattle.rules.specs.Step.{silenced}
use Rattle.wire_pairs.specs.View.{pairs_of}
use Rattle.registry.proofs.image.RegistryImage.take.Goals as goal

pub returns-then-out-lt-MIN_ROOM : goal.returns-then-out-lt-MIN_ROOM
returns-then-out-lt-MIN_ROOM c =
    recorded c.args.self.now c.requires c.args.bytes.now c.args.out.now (step_1 (view_of c.args.self.now) c.args.bytes.now (length c.args.out.now) c.if-out-lt-MIN_ROOM.true)
    (refuses c.args.out.now 1 refl (refl, refl, refl))

pub returns-in_default : goal.returns-in_default
unfolding refusal_of
returns-in_default c =
    let p = view_of c.args.self.now in
    recorded c.args.self.now c.requires c.args.bytes.now c.args.out.now
    (step_refused p c.args.bytes.now (length c.args.out.now) c.if-out-lt-MIN_ROOM.false (sym (ap event_in c.in_default.is) ∙ c.decode-read.ensures) {n = 2} refl (suc-ne-zero 1))
    (refuses c.args.out.now 2 refl (refl, refl, refl))

pub returns-in_err-refusal : goal.returns-in_err-refusal
returns-in_err-refusal c =
    let r : Decoded = record { image = c.args.self.now; given = c.args.bytes.now; lent = c.args.out.now; read = c.decode-read.result; handed = c.requires; room = c.if-out-lt-MIN_ROOM.false; decoded = c.decode-read.ensures } in
    let e = c.in_err-refusal.field-0.0 in
    let p = err_from_is_err_and c.from_residual.result c.from_residual.ensures.1 in rw (p.1, p.2) (recorded_err r e (table_step r e c.in_err-refusal.ensures) (refl, refl, refl))

pub start-requires : goal.start-requires
unfolding view_of respond_to
start-requires c =
    let r : Decoded = record { image = c.args.self.now; given = c.args.bytes.now; lent = c.args.out.now; read = c.decode-read.result; handed = c.requires; room = c.if-out-lt-MIN_ROOM.false; decoded = c.decode-read.ensures } in
    let full : length c.args.self.now.entries ≡ max_units = search (rules, c.well_formed) in
    let table = c.in_ok-refusal.ensures in
    let looked = c.in_ok-reply_refusal.ensures in
    let w = formed r (c.in-Some.is ∙ ap Some c.in-Start.is) in
    (w.0, w.1, fits_at r (own_step r table (c.in-Some.is ∙ ap Some c.in-Start.is)))

pub network_change-requires : goal.network_change-requires
unfolding view_of respond_to
network_change-requires c =
    let r : Decoded = record { image = c.args.self.now; given = c.args.bytes.now; lent = c.args.out.now; read = c.decode-read.result; handed = c.requires; room = c.if-out-lt-MIN_ROOM.false; decoded = c.decode-read.ensures } in
    let full : length c.args.self.now.entries ≡ max_units = search (rules, c.well_formed) in
    let table = c.in_ok-refusal.ensures in
    let looked = c.in_ok-reply_refusal.ensures in
    let w = formed r (c.in-Some.is ∙ ap Some c.in-NetworkChange.is) in
    (w.0, w.1, reached_size (view_of r.image) c.requires.reached, fits_at r (own_step r table (c.in-Some.is ∙ ap Some c.in-NetworkChange.is)))

pub overflow_sub-seat : goal.overflow_sub-seat
overflow_sub-seat c =
    let r : Decoded = record { image = c.args.self.now; given = c.args.bytes.now; lent = c.args.out.now; read = c.decode-read.result; handed = c.requires; room = c.if-out-lt-MIN_ROOM.false; decoded = c.decode-read.ensures } in
    let full : length c.args.self.now.entries ≡ max_units = search (rules, c.well_formed) in
    let table = c.in_ok-refusal.ensures in
    let looked = c.in_ok-reply_refusal.ensures in
    let s = c.args.self.now in
    let x = c.in-Answer.position.0 in
    let a = answered_at r full c.ring.result.now c.ring.ensures.length c.ring.ensures.rows table looked refl c.in-Answer.pass c.in-Answer.position c.in-Answer.address c.in-Answer.pairs (c.in-Some.is ∙ ap Some c.in-Answer.is) in
    omega (arith, inside s x a.0)

pub hear-heard-requires : goal.hear-heard-requires
hear-heard-requires c =
    let r : Decoded = record { image = c.args.self.now; given = c.args.bytes.now; lent = c.args.out.now; read = c.decode-read.result; handed = c.requires; room = c.if-out-lt-MIN_ROOM.false; decoded = c.decode-read.ensures } in
    let full : length c.args.self.now.entries ≡ max_units = search (rules, c.well_formed) in
    let table = c.in_ok-refusal.ensures in
    let looked = c.in_ok-reply_refusal.ensures in
    let s = c.args.self.now in
    let x = c.in-Answer.position.0 in
    let a = answered_at r full c.ring.result.now c.ring.ensures.length c.ring.ensures.rows table looked refl c.in-Answer.pass c.in-Answer.position c.in-Answer.address c.in-Answer.pairs (c.in-Some.is ∙ ap Some c.in-Answer.is) in
    (omega (arith, c.ring-in-Answer.ensures.length), omega (arith, inside s x a.0, c.ring-in-Answer.ensures.length))

pub conflict-requires : goal.conflict-requires
unfolding view_of
conflict-requires c =
    let r : Decoded = record { image = c.args.self.now; given = c.args.bytes.now; lent = c.args.out.now; read = c.decode-read.result; handed = c.requires; room = c.if-out-lt-MIN_ROOM.false; decoded = c.decode-read.ensures } in
    let full : length c.args.self.now.entries ≡ max_units = search (rules, c.well_formed) in
    let table = c.in_ok-refusal.ensures in
    let looked = c.in_ok-reply_refusal.ensures in
    let s = c.args.self.now in
    let x = c.in-Answer.position.0 in
    let a = answered_at r full c.ring.result.now c.ring.ensures.length c.ring.ensures.rows table looked refl c.in-Answer.pass c.in-Answer.position c.in-Answer.address c.in-Answer.pairs (c.in-Some.is ∙ ap Some c.in-Answer.is) in
    let h : Hears (seat_at (view_of s).rows x) c.in-Answer.address.0 (pairs_of c.in-Answer.pairs) c.hear-heard.result =
    subst (λ (t : rules.Seat). Hears t c.in-Answer.address.0 (pairs_of c.in-Answer.pairs) c.hear-heard.result) (λ t. seat_at (c.ring-in-Answer.ensures.rows t) (sym (index s x a.0) t)) c.hear-heard.ensures.0 in
    let whole = a.1 ∙ ap (concluded (view_of s)) (hears_conflict h x (view_of s) (sym c.conflicts.ensures ∙ c.if-conflicts.true)) in
    (a.0, reached_size (view_of s) c.requires.reached, fits_at r whole)

pub returns-then-conflicts : goal.returns-then-conflicts
returns-then-conflicts c =
    let r : Decoded = record { image = c.args.self.now; given = c.args.bytes.now; lent = c.args.out.now; read = c.decode-read.result; handed = c.requires; room = c.if-out-lt-MIN_ROOM.false; decoded = c.decode-read.ensures } in
    let full : length c.args.self.now.entries ≡ max_units = search (rules, c.well_formed) in
    let table = c.in_ok-refusal.ensures in
    let looked = c.in_ok-reply_refusal.ensures in
    let s = c.args.self.now in
    let x = c.in-Answer.position.0 in
    let a = answered_at r full c.ring.result.now c.ring.ensures.length c.ring.ensures.rows table looked refl c.in-Answer.pass c.in-Answer.position c.in-Answer.address c.in-Answer.pairs (c.in-Some.is ∙ ap Some c.in-Answer.is) in
    let h : Hears (seat_at (view_of s).rows x) c.in-Answer.address.0 (pairs_of c.in-Answer.pairs) c.hear-heard.result =
    subst (λ (t : rules.Seat). Hears t c.in-Answer.address.0 (pairs_of c.in-Answer.pairs) c.hear-heard.result) (λ t. seat_at (c.ring-in-Answer.ensures.rows t) (sym (index s x a.0) t)) c.hear-heard.ensures.0 in
    let whole = a.1 ∙ ap (concluded (view_of s)) (hears_conflict h x (view_of s) (sym c.conflicts.ensures ∙ c.if-conflicts.true)) in
    recorded_at r whole c.conflict.ensures

pub reply-requires : goal.reply-requires
unfolding view_of
reply-requires c =
    let r : Decoded = record { image = c.args.self.now; given = c.args.bytes.now; lent = c.args.out.now; read = c.decode-read.result; handed = c.requires; room = c.if-out-lt-MIN_ROOM.false; decoded = c.decode-read.ensures } in
    let full : length c.args.self.now.entries ≡ max_units = search (rules, c.well_formed) in
    let table = c.in_ok-refusal.ensures in
    let looked = c.in_ok-reply_refusal.ensures in
    let s = c.args.self.now in
    let x = c.in-Answer.position.0 in
    let a = answered_at r full c.ring.result.now c.ring.ensures.length c.ring.ensures.rows table looked refl c.in-Answer.pass c.in-Answer.position c.in-Answer.address c.in-Answer.pairs (c.in-Some.is ∙ ap Some c.in-Answer.is) in
    let h : Hears (seat_at (view_of s).rows x) c.in-Answer.address.0 (pairs_of c.in-Answer.pairs) c.hear-heard.result =
    subst (λ (t : rules.Seat). Hears t c.in-Answer.address.0 (pairs_of c.in-Answer.pairs) c.hear-heard.result) (λ t. seat_at (c.ring-in-Answer.ensures.rows t) (sym (index s x a.0) t)) c.hear-heard.ensures.0 in
    let whole = a.1 ∙ ap (concluded (view_of s)) (hears_reply h x (view_of s) (sym c.conflicts.ensures ∙ c.if-conflicts.false)) in
    let marks = subst (All Marked) (sym c.ring-in-Answer.ensures.entries) (ring_marks s.units s.entries full refl c.requires.marks.entries) in
    (a.0, reached_size (view_of s) c.requires.reached, c.hear-heard.ensures.1 marks, fits_at r whole)

pub returns-else-conflicts : goal.returns-else-conflicts
returns-else-conflicts c =
    let r : Decoded = record { image = c.args.self.now; given = c.args.bytes.now; lent = c.args.out.now; read = c.decode-read.result; handed = c.requires; room = c.if-out-lt-MIN_ROOM.false; decoded = c.decode-read.ensures } in
    let full : length c.args.self.now.entries ≡ max_units = search (rules, c.well_formed) in
    let table = c.in_ok-refusal.ensures in
    let looked = c.in_ok-reply_refusal.ensures in
    let s = c.args.self.now in
    let x = c.in-Answer.position.0 in
    let a = answered_at r full c.ring.result.now c.ring.ensures.length c.ring.ensures.rows table looked refl c.in-Answer.pass c.in-Answer.position c.in-Answer.address c.in-Answer.pairs (c.in-Some.is ∙ ap Some c.in-Answer.is) in
    let h : Hears (seat_at (view_of s).rows x) c.in-Answer.address.0 (pairs_of c.in-Answer.pairs) c.hear-heard.result =
    subst (λ (t : rules.Seat). Hears t c.in-Answer.address.0 (pairs_of c.in-Answer.pairs) c.hear-heard.result) (λ t. seat_at (c.ring-in-Answer.ensures.rows t) (sym (index s x a.0) t)) c.hear-heard.ensures.0 in
    let whole = a.1 ∙ ap (concluded (view_of s)) (hears_reply h x (view_of s) (sym c.conflicts.ensures ∙ c.if-conflicts.false)) in
    recorded_at r whole c.reply.ensures

pub overflow_sub-position : goal.overflow_sub-position
overflow_sub-position c =
    let r : Decoded = record { image = c.args.self.now; given = c.args.bytes.now; lent = c.args.out.now; read = c.decode-read.result; handed = c.requires; room = c.if-out-lt-MIN_ROOM.false; decoded = c.decode-read.ensures } in
    let full : length c.args.self.now.entries ≡ max_units = search (rules, c.well_formed) in
    let table = c.in_ok-refusal.ensures in
    let looked = c.in_ok-reply_refusal.ensures in
    let s = c.args.self.now in
    let x = c.in-NoAnswer.position.0 in
    let k = silent_at r full c.ring.result.now c.ring.ensures.length c.ring.ensures.rows table looked refl c.in-NoAnswer.pass c.in-NoAnswer.position (c.in-Some.is ∙ ap Some c.in-NoAnswer.is) in
    omega (arith, inside s x k.0)

pub bounds-self-position : goal.bounds-self-position
bounds-self-position c =
    let r : Decoded = record { image = c.args.self.now; given = c.args.bytes.now; lent = c.args.out.now; read = c.decode-read.result; handed = c.requires; room = c.if-out-lt-MIN_ROOM.false; decoded = c.decode-read.ensures } in
    let full : length c.args.self.now.entries ≡ max_units = search (rules, c.well_formed) in
    let table = c.in_ok-refusal.ensures in
    let looked = c.in_ok-reply_refusal.ensures in
    let s = c.args.self.now in
    let x = c.in-NoAnswer.position.0 in
    let k = silent_at r full c.ring.result.now c.ring.ensures.length c.ring.ensures.rows table looked refl c.in-NoAnswer.pass c.in-NoAnswer.position (c.in-Some.is ∙ ap Some c.in-NoAnswer.is) in
    omega (arith, inside s x k.0)

pub reply-requires-in-NoAnswer : goal.reply-requires-in-NoAnswer
unfolding view_of
reply-requires-in-NoAnswer c =
    let r : Decoded = record { image = c.args.self.now; given = c.args.bytes.now; lent = c.args.out.now; read = c.decode-read.result; handed = c.requires; room = c.if-out-lt-MIN_ROOM.false; decoded = c.decode-read.ensures } in
    let full : length c.args.self.now.entries ≡ max_units = search (rules, c.well_formed) in
    let table = c.in_ok-refusal.ensures in
    let looked = c.in_ok-reply_refusal.ensures in
    let s = c.args.self.now in
    let x = c.in-NoAnswer.position.0 in
    let k = silent_at r full c.ring.result.now c.ring.ensures.length c.ring.ensures.rows table looked refl c.in-NoAnswer.pass c.in-NoAnswer.position (c.in-Some.is ∙ ap Some c.in-NoAnswer.is) in
    let own = c.silenced-next.ensures.0 ∙ ap silenced (sym (seat_entry s x k.0 _)) in
    let whole = k.1 ∙ ap (λ (n : Row). reply_outcome (view_of s) x 0 n finished) (sym own) in
    (k.0, reached_size (view_of s) c.requires.reached, c.silenced-next.ensures.1, fits_at r whole)

pub returns-in-NoAnswer : goal.returns-in-NoAnswer
unfolding view_of
returns-in-NoAnswer c =
    let r : Decoded = record { image = c.args.self.now; given = c.args.bytes.now; lent = c.args.out.now; read = c.decode-read.result; handed = c.requires; room = c.if-out-lt-MIN_ROOM.false; decoded = c.decode-read.ensures } in
    let full : length c.args.self.now.entries ≡ max_units = search (rules, c.well_formed) in
    let table = c.in_ok-refusal.ensures in
    let looked = c.in_ok-reply_refusal.ensures in
    let s = c.args.self.now in
    let x = c.in-NoAnswer.position.0 in
    let k = silent_at r full c.ring.result.now c.ring.ensures.length c.ring.ensures.rows table looked refl c.in-NoAnswer.pass c.in-NoAnswer.position (c.in-Some.is ∙ ap Some c.in-NoAnswer.is) in
    let own = c.silenced-next.ensures.0 ∙ ap silenced (sym (seat_entry s x k.0 _)) in
    let whole = k.1 ∙ ap (λ (n : Row). reply_outcome (view_of s) x 0 n finished) (sym own) in
    recorded_at r whole c.reply-in-NoAnswer.ensures

pub delay_expired-requires : goal.delay_expired-requires
unfolding view_of respond_to
delay_expired-requires c =
    let r : Decoded = record { image = c.args.self.now; given = c.args.bytes.now; lent = c.args.out.now; read = c.decode-read.result; handed = c.requires; room = c.if-out-lt-MIN_ROOM.false; decoded = c.decode-read.ensures } in
    let full : length c.args.self.now.entries ≡ max_units = search (rules, c.well_formed) in
    let table = c.in_ok-refusal.ensures in
    let looked = c.in_ok-reply_refusal.ensures in
    fits_at r (own_step r table (c.in-Some.is ∙ ap Some c.in-DelayExpired.is))

pub returns-in-Start : goal.returns-in-Start
unfolding view_of respond_to
returns-in-Start c =
    let r : Decoded = record { image = c.args.self.now; given = c.args.bytes.now; lent = c.args.out.now; read = c.decode-read.result; handed = c.requires; room = c.if-out-lt-MIN_ROOM.false; decoded = c.decode-read.ensures } in
    let full : length c.args.self.now.entries ≡ max_units = search (rules, c.well_formed) in
    let table = c.in_ok-refusal.ensures in
    let looked = c.in_ok-reply_refusal.ensures in
    recorded_at r (own_step r table (c.in-Some.is ∙ ap Some c.in-Start.is)) c.start.ensures

pub returns-in-NetworkChange : goal.returns-in-NetworkChange
unfolding view_of respond_to
returns-in-NetworkChange c =
    let r : Decoded = record { image = c.args.self.now; given = c.args.bytes.now; lent = c.args.out.now; read = c.decode-read.result; handed = c.requires; room = c.if-out-lt-MIN_ROOM.false; decoded = c.decode-read.ensures } in
    let full : length c.args.self.now.entries ≡ max_units = search (rules, c.well_formed) in
    let table = c.in_ok-refusal.ensures in
    let looked = c.in_ok-reply_refusal.ensures in
    recorded_at r (own_step r table (c.in-Some.is ∙ ap Some c.in-NetworkChange.is)) c.network_change.ensures

pub returns-in-Shutdown : goal.returns-in-Shutdown
unfolding view_of respond_to
returns-in-Shutdown c =
    let r : Decoded = record { image = c.args.self.now; given = c.args.bytes.now; lent = c.args.out.now; read = c.decode-read.result; handed = c.requires; room = c.if-out-lt-MIN_ROOM.false; decoded = c.decode-read.ensures } in
    let full : length c.args.self.now.entries ≡ max_units = search (rules, c.well_formed) in
    let table = c.in_ok-refusal.ensures in
    let looked = c.in_ok-reply_refusal.ensures in
    recorded_at r (own_step r table (c.in-Some.is ∙ ap Some c.in-Shutdown.is)) c.shut_down.ensures

pub returns-in-DelayExpired : goal.returns-in-DelayExpired
unfolding view_of respond_to
returns-in-DelayExpired c =
    let r : Decoded = record { image = c.args.self.now; given = c.args.bytes.now; lent = c.args.out.now; read = c.decode-read.result; handed = c.requires; room = c.if-out-lt-MIN_ROOM.false; decoded = c.decode-read.ensures } in
    let full : length c.args.self.now.entries ≡ max_units = search (rules, c.well_formed) in
    let table = c.in_ok-refusal.ensures in
    let looked = c.in_ok-reply_refusal.ensures in
    recorded_at r (own_step r table (c.in-Some.is ∙ ap Some c.in-DelayExpired.is)) c.delay_expired.ensures

pub returns-in_err-reply_refusal : goal.returns-in_err-reply_refusal
returns-in_err-reply_refusal c =
    let r : Decoded = record { image = c.args.self.now; given = c.args.bytes.now; lent = c.args.out.now; read = c.decode-read.result; handed = c.requires; room = c.if-out-lt-MIN_ROOM.false; decoded = c.decode-read.ensures } in
    let full : length c.args.self.now.entries ≡ max_units = search (rules, c.well_formed) in
    let e = c.in_err-reply_refusal.field-0.0 in
    let p = err_from_is_err_and c.from_residual-in_err-reply_refusal.result c.from_residual-in_err-reply_refusal.ensures.1 in
    rw (p.1, p.2)
    (recorded_err r e (late_step r full c.ring.result.now c.ring.ensures.length c.ring.ensures.rows c.in_ok-refusal.ensures c.in_err-reply_refusal.ensures e refl)
    (refl, refl, refl))
