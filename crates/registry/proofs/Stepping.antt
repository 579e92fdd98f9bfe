-- One record: its refusals 1 to 4, what its event does, and the pictures that are reached.
use Prim.Native.Nat.{ℕ, ◌<◌, ◌≤◌}
use mathlib.Core.Path.{◌≡◌, refl, sym, ◌∙◌, ap, subst}
use mathlib.Core.Bool.{Bool, true, false, cond, not}
use mathlib.Core.List.{List, [], ◌∷◌, ◌++◌}
use mathlib.Core.Option.{Option, none, some}
use native.Mathlib.Omega.{arith}
use native.Mathlib.Nat.{suc-ne-zero}
use borrow.Author.Tests.{lt-ltb, le-ltb}
use lib.ListN.{length}
use Rattle.rules.specs.House.{min_room}
use Rattle.rules.specs.Picture.{Picture, fresh}
use Rattle.rules.specs.Event.{Event, START, NCE, SHUTDOWN, ANSWER, NONE, DELAY, decode}
use Rattle.rules.specs.Step.{refuse_if, takes, not_taken, respond}
use Rattle.rules.specs.Run.{Outcome, refused, on_event, on_decoded, concluded, step, Record, left, written, next, after}
use Rattle.rules.proofs.Decode.{formed}
use Rattle.rules.proofs.Along.{along}
use Rattle.rules.proofs.Sound.{Sound}
use Rattle.rules.proofs.Runs.{Running, running_fresh, running_taken}
use Rattle.rules.proofs.Sizes.{largest}
use Rattle.rules.proofs.Records.{record_fits}
use Rattle.registry.specs.declared.image.RegistryImage.{RegistryImage}
use Rattle.registry.specs.declared.record.Recorded.{Recorded}
use Rattle.registry.specs.View.{view_of}
use Rattle.registry.specs.Outcome.{handed, expected, Handed, Does, Marks, Reached, HandedOut, respond_to, WellFormed}
use Rattle.ring_refusals.specs.Numbers.{refusal_of}

-- refusals 1 to 4
module _ (p : Picture) (b : List ℕ) (room : ℕ) where
  pub step_1 : room < min_room → step p b room ≡ refused 1
  unfolding step concluded refuse_if
  step_1 h = ap (λ (t : Bool). concluded p (refuse_if t 1 (on_decoded p (decode b)))) (lt-ltb room min_room h)

  module _ (enough : min_room ≤ room) {o : Option Event} (d : o ≡ decode b) where
    decoded : step p b room ≡ concluded p (on_decoded p o)
    unfolding step refuse_if
    decoded = (λ i. concluded p (refuse_if (le-ltb room min_room enough i) 1 (on_decoded p (sym d i))))

    pub step_refused : {n : ℕ} → n ≡ refusal_of p.state o → (n ≡ 0 → ⊥) → step p b room ≡ refused n
    unfolding concluded on_decoded on_event refuse_if refusal_of
    step_refused e z = decoded ∙ go o e z
      where
        pick : (n : ℕ) (e : Event) (t : Bool) → n ≡ cond t 0 (not_taken e) → (n ≡ 0 → ⊥) → concluded p (refuse_if (not t) (not_taken e) (respond p e)) ≡ refused n
        pick n e true h z = absurd (z h)
        pick n e false h z = ap refused (sym h)

        go : {n : ℕ} (q : Option Event) → n ≡ refusal_of p.state q → (n ≡ 0 → ⊥) → concluded p (on_decoded p q) ≡ refused n
        go none h z = ap refused (sym h)
        go {n} (some f) h z = pick n f (takes p.state f) h z

    pub step_taken : 0 ≡ refusal_of p.state o → step p b room ≡ concluded p (respond_to p o)
    unfolding concluded on_decoded on_event refuse_if refusal_of respond_to not_taken
    step_taken e = decoded ∙ go o e
      where
        never : {X : Type 0} (e : Event) → ◌≡◌ {A = ℕ} 0 (not_taken e) → X
        never (START n) h = absurd (suc-ne-zero 3 (sym h))
        never (NCE n) h = absurd (suc-ne-zero 2 (sym h))
        never SHUTDOWN h = absurd (suc-ne-zero 2 (sym h))
        never (ANSWER c x a ps) h = absurd (suc-ne-zero 2 (sym h))
        never (NONE c x) h = absurd (suc-ne-zero 2 (sym h))
        never (DELAY c) h = absurd (suc-ne-zero 2 (sym h))

        pick : (e : Event) (t : Bool) → ◌≡◌ {A = ℕ} 0 (cond t 0 (not_taken e)) → concluded p (refuse_if (not t) (not_taken e) (respond p e)) ≡ concluded p (respond p e)
        pick e true h = refl
        pick e false h = never e h

        go : (q : Option Event) → ◌≡◌ {A = ℕ} 0 (refusal_of p.state q) → concluded p (on_decoded p q) ≡ concluded p (respond_to p q)
        go none h = refl
        go (some f) h = pick f (takes p.state f) h

    pub well_formed : WellFormed o
    well_formed = go o d
      where
        go : (q : Option Event) → q ≡ decode b → WellFormed q
        go none h = tt
        go (some (START n)) h = formed b (START n) (sym h)
        go (some (NCE n)) h = formed b (NCE n) (sym h)
        go (some SHUTDOWN) h = tt
        go (some (ANSWER c x a ps)) h = tt
        go (some (NONE c x)) h = tt
        go (some (DELAY c)) h = tt

module _ (p : Picture) (h : Reached p) where
  sound : Sound p
  sound = subst Sound (sym h.made) (along Running running_taken (fresh h.size) [] h.records (running_fresh h.size)).sound

  pub reached_size : 3 ≤ p.size
  reached_size = omega (arith, sound.size)

  -- the orders of any record fit into the least room
  pub reached_room : (b : List ℕ) (room : ℕ) → length (written (step p b room)) ≤ largest
  reached_room b room = record_fits p (record { bytes = b; room = room }) sound

  -- and so does the picture that it leaves
  after_one : (q : Picture) (rs : List Record) (r : Record) → after q (rs ++ r ∷ []) ≡ next (after q rs) r
  unfolding after
  after_one q [] r = refl
  after_one q (s ∷ rs) r = after_one (next q s) rs r

  pub reached_next : {s : RegistryImage} (b : List ℕ) {c d : List ℕ} (room : ℕ) {r : Recorded} → p ≡ view_of s → Does s (step p b room) c r d → Reached (view_of r.picture)
  unfolding handed expected
  reached_next {s} b {c} {d} room {r} e k =
      record {
        size = h.size;
        records = h.records ++ record { bytes = b; room = room } ∷ [];
        made = ap (λ (x : Handed). x.picture) k.outcome ∙ ap (λ (q : Picture). left q (step p b room)) (sym e)
            ∙ (λ i. next (h.made i) (record { bytes = b; room = room })) ∙ sym (after_one (fresh h.size) h.records (record { bytes = b; room = room }));
      }

reached_fresh : {p : Picture} (l : ℕ) → p ≡ fresh l → Reached p
unfolding after
reached_fresh l e = record { size = l; records = []; made = e }

pub handed_fresh : (i : RegistryImage) (l : ℕ) → view_of i ≡ fresh l → Marks i → HandedOut i
handed_fresh i l e m = record { reached = reached_fresh l e; marks = m }

-- a record that does what some outcome says, where that is the rules' own
module _ (s : RegistryImage) (h : HandedOut s) (b out : List ℕ) where
  pub recorded : {o : Outcome} {r : Recorded} {d : List ℕ} → step (view_of s) b (length out) ≡ o → Does s o out r d
      → Does s (step (view_of s) b (length out)) out r d × HandedOut r.picture
  recorded {o} {r} {d} e k = let m = subst (λ (t : Outcome). Does s t out r d) (sym e) k in
      (m, record { reached = reached_next (view_of s) h.reached b (length out) refl m; marks = m.marks h.marks })

  pub fits : min_room ≤ length out → {o : Outcome} → step (view_of s) b (length out) ≡ o → length (written o) ≤ length out
  fits l e = subst (λ (t : Outcome). length (written t) ≤ length out) e (omega (arith, l, reached_room (view_of s) h.reached b (length out)))
