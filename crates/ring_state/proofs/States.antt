-- A state by its number: what is asked of it is asked of the state that the number names.
use Prim.Native.Nat.{ℕ}
use mathlib.Core.Path.{◌≡◌, refl}
use mathlib.Core.Bool.{Bool, true, false, cond}
use mathlib.Core.List.{List, []}
use lib.Dec.{eqb}
use lib.ListN.{get_or}
use Rattle.rules.specs.Picture.{State, Off, NotOk, Ok}
use Rattle.ring_state.specs.State.{state_of}
use Rattle.ring_state.specs.State.{state_row}

pub by_state : {X : Type 0} (f : State → X) (m : ℕ) → f (state_of m) ≡ cond (eqb m 0) (f Off) (cond (eqb m 1) (f NotOk) (f Ok))
unfolding state_of
by_state f m = go (eqb m 0) (eqb m 1)
  where
    go : (o n : Bool) → f (cond o Off (cond n NotOk Ok)) ≡ cond o (f Off) (cond n (f NotOk) (f Ok))
    go true n = refl
    go false true = refl
    go false false = refl

-- a table with a row for each state, at one kind
pub by_row : (table : List (List ℕ)) (k : ℕ) (f : State → ℕ) → get_or (get_or table 0 []) k 0 ≡ f Off → get_or (get_or table 1 []) k 0 ≡ f NotOk → get_or (get_or table 2 []) k 0 ≡ f Ok
    → (m : ℕ) → get_or (get_or table (state_row m) []) k 0 ≡ f (state_of m)
unfolding state_row state_of
by_row table k f o n y m = go (eqb m 0) (eqb m 1)
  where
    go : (a b : Bool) → get_or (get_or table (cond a 0 (cond b 1 2)) []) k 0 ≡ f (cond a Off (cond b NotOk Ok))
    go true b = o
    go false true = n
    go false false = y
