-- Lists that reach the bound: the longest way of a ring of two to OK with no question open.
use Rattle.std.specs.Prelude.{ℕ, suc, ◌+◌, ◌-◌, ◌≡◌, true, false, List, [], ◌∷◌, ◌++◌, replicate}
use Rattle.laws.specs.Lists.{any, collect}
use Rattle.rules.specs.House.{min_room}
use Rattle.rules.specs.Picture.{State, NotOk, Ok, is_open, open_at}
use Rattle.rules.specs.Run.{Record}
use Rattle.rules.specs.Claims.{picture_at, replies_between, bound}
use Rattle.rules.specs.Table.{hex, with_room}

-- 24 pairs that are never renumbered, and an address that is out of range, both from position 1 in a pass below 256
unfoldable pub stubbornly : ℕ → Record
stubbornly pass =
    record { bytes = hex 6 0x4D45_04_000000 ++ pass ∷ hex 4 0x01_0101_18 ++ collect (λ (n : ℕ). 0x22 ∷ n ∷ []) (replicate 24 0x00); room = min_room }

unfoldable pub out_of_range : ℕ → Record
out_of_range pass = record { bytes = hex 6 0x4D45_04_000000 ++ pass ∷ hex 4 0x01_0100_00; room = min_room }

-- 72 SETs and an address conflict in each of two passes, n and the next, 72 SETs and an end in the third
unfoldable pub lies : ℕ → List Record
lies n =
    replicate 72 (stubbornly n)
    ++ out_of_range n
    ∷ replicate 72 (stubbornly (suc n))
    ++ out_of_range (suc n)
    ∷ replicate 73 (stubbornly (suc (suc n)))

-- a START, an NCE in NOTOK and an NCE in OK meet the liar
unfoldable pub at_start : List Record
at_start = with_room 8 0x4D45_01_00000000_02 ∷ lies 1

unfoldable pub at_change : List Record
at_change = with_room 8 0x4D45_01_00000000_02 ∷ with_room 8 0x4D45_02_00000000_02 ∷ lies 2

unfoldable pub at_change_in_ok : List Record
at_change_in_ok = with_room 8 0x4D45_01_00000000_02 ∷ with_room 13 0x4D45_04_00000001_01_0101_01_2201 ∷ with_room 8 0x4D45_02_00000000_02 ∷ lies 2

-- The way begins at place i, behind a START or NCE that came in a state and left one; 72 answers leave that one, and the 73rd restarts.
-- The 219th brings OK with no question open, the 218th does not.
pub record LongestWay (came left : State) (rs : List Record) (i : ℕ) : Type 0 where
  pub begins : (picture_at 12 rs (i - 1)).state ≡ came
  pub first_pass : (picture_at 12 rs (i + 72)).state ≡ left
  pub restarts : (picture_at 12 rs (i + 73)).state ≡ NotOk
  pub at_bound : replies_between 12 rs i (i + 219) ≡ bound 2
  pub not_before : open_at (picture_at 12 rs (i + 218)) 1 ≡ true
  pub ok : (picture_at 12 rs (i + 219)).state ≡ Ok
  pub closed : any is_open (picture_at 12 rs (i + 219)).rows ≡ false
