-- In OFF there are no rows, and so the listing is empty.
use Prim.Native.Nat.{ℕ}
use mathlib.Core.Path.{◌≡◌, refl, ap, subst}
use mathlib.Core.Bool.{Bool, true, false, cond}
use mathlib.Core.List.{List, []}
use lib.ListN.{take}
use Rattle.laws.specs.Bools.{clash}
use Rattle.rules.specs.Picture.{State, Off, NotOk, Ok, Picture, with_rows, with_state, with_delay, fresh}
use Rattle.rules.specs.Event.{Event, ANSWER, NONE, DELAY}
use Rattle.rules.specs.Step.{Change, scanned, scan, begin, rescanned, rescan, shut_down, change_rows, delay_ends, keep_answer, takes}
use Rattle.rules.specs.Ending.{becomes_ok, settled, ended, picture_of}
use Rattle.rules.specs.Run.{Record, Sent}
use Rattle.rules.specs.Listing.{entries_from, listing}
use Rattle.rules.specs.Claims.{picture_at, EmptyInOff}
use Rattle.rules.proofs.Along.{Keeps, along}
use Rattle.rules.proofs.Ways.{Ways, every_taken}

abbrev Bare : Picture → Type 0
Bare p = p.state ≡ Off → p.rows ≡ []

is_off : State → Bool
is_off Off = true
is_off NotOk = false
is_off Ok = false

-- what is taken in OFF is a START
off_takes : {X : Type 0} (p : Picture) (e : Event) → p.state ≡ Off → takes Off e ≡ false → takes p.state e ≡ true → X
off_takes p e s n t = clash (subst (λ (z : State). takes z e ≡ true) s t) n

off_ways : (p : Picture) → Ways p (λ (e : Event) (c : Change). takes p.state e ≡ true → Bare c.picture)
unfolding begin scan scanned rescan rescanned shut_down change_rows with_rows delay_ends keep_answer is_off takes
off_ways p =
    record {
      starts = λ n l t s. clash (ap is_off s) refl;
      ring_changes = λ n l i t s. clash (ap is_off s) refl;
      ring_changes_in_ok = λ n l i t s. clash (ap is_off s) refl;
      shuts = λ t s. refl;
      silences = λ c x i o t s. off_takes p (NONE c x) s refl t;
      delays = λ c d t s. off_takes p (DELAY c) s refl t;
      bars = λ c x a ps i o z t s. off_takes p (ANSWER c x a ps) s refl t;
      ignores = λ c x a ps i o counts k z t s. off_takes p (ANSWER c x a ps) s refl t;
      restarts = λ c x a ps i o counts b l t s. clash (ap is_off s) refl;
      keeps = λ c x a ps i o k t s. off_takes p (ANSWER c x a ps) s refl t;
    }

-- the ending never leads to OFF
settled_bare : (p : Picture) → Bare p → Bare (settled p)
unfolding settled with_state becomes_ok is_off
settled_bare p h s = go (becomes_ok p) s
  where
    go : (b : Bool) → cond b Ok p.state ≡ Off → p.rows ≡ []
    go true e = clash (ap is_off e) refl
    go false e = h e

-- every taken event
bare_taken : Keeps (λ (p : Picture) (sent : List Sent). Bare p)
unfolding picture_of ended with_delay
bare_taken p sent e c h t q f = settled_bare c.picture (every_taken p _ (off_ways p) e c q t)

pub empty_in_off : (l : ℕ) (rs : List Record) → EmptyInOff l rs
unfolding picture_at listing entries_from fresh
empty_in_off l rs = record { empty = λ k h s. ap (entries_from 1) (along (λ (p : Picture) (sent : List Sent). Bare p) bare_taken (fresh l) [] (take k rs) (λ e. refl) s) }
