-- By the limit, then by the pass.
use Prim.Native.Nat.{ℕ, suc, ◌-◌, ◌<◌, ◌≤◌}
use Rattle.registry.proofs.Conflicts.{conflict_9, conflict_limit, conflict_restart}
use Rattle.registry.proofs.Doing.{along, refuses}
use Rattle.registry.proofs.Places.{inside}
use Rattle.registry.specs.Outcome.{conflict_outcome, ignore_outcome, restart_outcome}
use Rattle.registry.specs.View.{view_of}
use Rattle.registry.specs.declared.image.RegistryImage.{RegistryImage}
use Rattle.ring_entries.specs.Verdicts.{limit_reached, verdict_of}
use Rattle.rules.specs.Picture.{Row, seat_at}
use mathlib.Core.List.{List}
use native.Mathlib.Omega.{arith}
use Rattle.rules.specs.House.{max_pass}
use Rattle.rules.specs.Run.{Outcome, written}
use Rattle.rules.specs.Step.{Verdict}
use lib.ListN.{length}
use mathlib.Core.Bool.{true, false}
use mathlib.Core.Path.{refl, ◌≡◌, ◌∙◌, ap, subst}
use Rattle.registry.proofs.image.RegistryImage.conflict.Goals as goal

pub reaches_limit-requires : goal.reaches_limit-requires
reaches_limit-requires c =
    omega (arith, inside c.args.self.now c.args.position.0 c.requires.0, c.ring.ensures.length)

pub ignore-requires : goal.ignore-requires
unfolding view_of
ignore-requires c =
    let image : RegistryImage = c.args.self.now in
    let position : ℕ = c.args.position.0 in
    let address : ℕ = c.args.address.0 in
    let verdict : Verdict = verdict_of c.args.verdict in
    let limited = c.reaches_limit.ensures ∙ ap (λ (rs : List Row). limit_reached verdict address (seat_at rs (suc (position - 1)))) c.ring.ensures.rows in
    let ignores : c.reaches_limit.result ≡ true → conflict_outcome verdict (view_of image) position address ≡ ignore_outcome verdict (view_of image) position address = conflict_limit image position c.requires.0 address verdict limited in
    let room : (o : Outcome) → conflict_outcome verdict (view_of image) position address ≡ o → length (written o) ≤ length c.args.out.now = λ o e. subst (λ (o : Outcome). length (written o) ≤ length c.args.out.now) e c.requires.2 in
    (c.requires.0, c.requires.1, room _ (ignores c.if-reaches_limit.true))

pub returns-then-reaches_limit : goal.returns-then-reaches_limit
unfolding view_of
returns-then-reaches_limit c =
    let image : RegistryImage = c.args.self.now in
    let position : ℕ = c.args.position.0 in
    let address : ℕ = c.args.address.0 in
    let verdict : Verdict = verdict_of c.args.verdict in
    let limited = c.reaches_limit.ensures ∙ ap (λ (rs : List Row). limit_reached verdict address (seat_at rs (suc (position - 1)))) c.ring.ensures.rows in
    let ignores : c.reaches_limit.result ≡ true → conflict_outcome verdict (view_of image) position address ≡ ignore_outcome verdict (view_of image) position address = conflict_limit image position c.requires.0 address verdict limited in
    along (ignores c.if-reaches_limit.true) c.ignore.ensures

pub returns-then-self-ge-MAX_PASS : goal.returns-then-self-ge-MAX_PASS
unfolding view_of
returns-then-self-ge-MAX_PASS c =
    let image : RegistryImage = c.args.self.now in
    let position : ℕ = c.args.position.0 in
    let address : ℕ = c.args.address.0 in
    let verdict : Verdict = verdict_of c.args.verdict in
    let limited = c.reaches_limit.ensures ∙ ap (λ (rs : List Row). limit_reached verdict address (seat_at rs (suc (position - 1)))) c.ring.ensures.rows in
    let e = conflict_9 image position c.requires.0 address verdict limited c.if-reaches_limit.false c.if-self-ge-MAX_PASS.true in
    refuses c.args.out.now _ e (refl, refl, refl)

pub restart-requires : goal.restart-requires
unfolding view_of
restart-requires c =
    let image : RegistryImage = c.args.self.now in
    let position : ℕ = c.args.position.0 in
    let address : ℕ = c.args.address.0 in
    let verdict : Verdict = verdict_of c.args.verdict in
    let limited = c.reaches_limit.ensures ∙ ap (λ (rs : List Row). limit_reached verdict address (seat_at rs (suc (position - 1)))) c.ring.ensures.rows in
    let restarts : c.reaches_limit.result ≡ false → image.pass < max_pass → conflict_outcome verdict (view_of image) position address ≡ restart_outcome verdict (view_of image) position address = conflict_restart image position c.requires.0 address verdict limited in
    let room : (o : Outcome) → conflict_outcome verdict (view_of image) position address ≡ o → length (written o) ≤ length c.args.out.now = λ o e. subst (λ (o : Outcome). length (written o) ≤ length c.args.out.now) e c.requires.2 in
    (c.requires.0, c.if-self-ge-MAX_PASS.false, room _ (restarts c.if-reaches_limit.false c.if-self-ge-MAX_PASS.false))

pub returns : goal.returns
unfolding view_of
returns c =
    let image : RegistryImage = c.args.self.now in
    let position : ℕ = c.args.position.0 in
    let address : ℕ = c.args.address.0 in
    let verdict : Verdict = verdict_of c.args.verdict in
    let limited = c.reaches_limit.ensures ∙ ap (λ (rs : List Row). limit_reached verdict address (seat_at rs (suc (position - 1)))) c.ring.ensures.rows in
    let restarts : c.reaches_limit.result ≡ false → image.pass < max_pass → conflict_outcome verdict (view_of image) position address ≡ restart_outcome verdict (view_of image) position address = conflict_restart image position c.requires.0 address verdict limited in
    along (restarts c.if-reaches_limit.false c.if-self-ge-MAX_PASS.false) c.restart.ensures
