-- The table of refusals, and that it is the rules'.
use Prim.Native.Nat.{ℕ}
use mathlib.Core.Path.{◌≡◌, refl}
use mathlib.Core.Bool.{Bool, true, false, cond}
use mathlib.Core.List.{List, [], ◌∷◌}
use lib.Dec.{eqb}
use lib.ListN.{get_or}
use Rattle.std.specs.Prelude.{Option, None, Some}
use Rattle.std.proofs.Math.Option.{some}
use Rattle.rules.specs.Picture.{Off, NotOk, Ok}
use Rattle.rules.specs.Event.{Event, START, NCE, SHUTDOWN, ANSWER, NONE, DELAY}
use Rattle.rules.specs.Step.{takes, not_taken}
use Rattle.numbers.specs.declared.Refusal.{Refusal}
use Rattle.numbers.specs.declared.Refusal.TheVariants.{NotRunning, AlreadyRunning}
use Rattle.ring_state.specs.State.{state_of, state_row}
use Rattle.ring_refusals.specs.Numbers.{refusal_of, kind_in, number_or_none}

-- OFF, NOTOK and OK by START, NCE, SHUTDOWN, ANSWER, NONE and DELAY
unfoldable pub table : List (List (Option Refusal))
table =
    (None ∷ Some NotRunning ∷ Some NotRunning ∷ Some NotRunning ∷ Some NotRunning ∷ Some NotRunning ∷ [])
    ∷ (Some AlreadyRunning ∷ None ∷ None ∷ None ∷ None ∷ None ∷ [])
    ∷ (Some AlreadyRunning ∷ None ∷ None ∷ None ∷ None ∷ None ∷ [])
    ∷ []

pub by_table : (m : ℕ) (e : Event) → number_or_none (get_or (get_or table (state_row m) []) (kind_in e) None) ≡ refusal_of (state_of m) (some e)
unfolding state_row state_of kind_in refusal_of takes not_taken table
by_table m e = go (eqb m 0) (eqb m 1) e
  where
    go : (a b : Bool) (e : Event) → number_or_none (get_or (get_or table (cond a 0 (cond b 1 2)) []) (kind_in e) None) ≡ refusal_of (cond a Off (cond b NotOk Ok)) (some e)
    go true b (START n) = refl
    go true b (NCE n) = refl
    go true b SHUTDOWN = refl
    go true b (ANSWER c x a ps) = refl
    go true b (NONE c x) = refl
    go true b (DELAY c) = refl
    go false true (START n) = refl
    go false true (NCE n) = refl
    go false true SHUTDOWN = refl
    go false true (ANSWER c x a ps) = refl
    go false true (NONE c x) = refl
    go false true (DELAY c) = refl
    go false false (START n) = refl
    go false false (NCE n) = refl
    go false false SHUTDOWN = refl
    go false false (ANSWER c x a ps) = refl
    go false false (NONE c x) = refl
    go false false (DELAY c) = refl
