-- The largest ring: a list that comes to as many entries as any picture has, and whose last record has as many bytes of orders as any
-- record of any list.
use Rattle.std.specs.Prelude.{ℕ, suc, ◌≡◌, List, [], ◌∷◌, ◌++◌, map, length}
use Rattle.laws.specs.Lists.{collect, up_from}
use Rattle.rules.specs.House.{min_room, max_pairs, max_units}
use Rattle.rules.specs.Picture.{Pair, Picture}
use Rattle.rules.specs.Listing.{Lookup, found, listing, look_up}
use Rattle.rules.specs.Run.{Record, offered, written}
use Rattle.rules.specs.Claims.{picture_at, record_at}
use Rattle.rules.specs.Table.{hex, with_room}

-- position x answers in pass 1 with an address of its own and as many pairs as a row holds, of a block of its own
unfoldable pub fills : ℕ → Record
fills x = record { bytes = hex 7 0x4D45_04_00000001 ++ x ∷ 0x01 ∷ x ∷ max_pairs ∷ collect (λ (n : ℕ). suc x ∷ n ∷ []) (up_from 1 max_pairs); room = min_room }

-- 64 positions whose rows are all full, and an NCE in OK that names as many
unfoldable pub full_ring : List Record
full_ring = with_room 8 0x4D45_01_00000000_40 ∷ map fills (up_from 1 max_units) ++ with_room 8 0x4D45_02_00000000_40 ∷ []

-- of a picture: how many entries it lists, where a pair stands, and how many bytes of orders a record brings
pub record Measured : Type 0 where
  pub entries : ℕ
  pub place : Lookup
  pub bytes : ℕ

unfoldable pub measured : Picture → Pair → Record → Measured
measured p a r = record { entries = length (listing p); place = look_up p a; bytes = length (written (offered p r)) }

-- The full ring lists 1,512 entries, the last of them is found, and the NCE in OK writes 5,952 bytes.
pub record LargestRing : Type 0 where
  pub reached : measured (picture_at 12 full_ring 64) (record { block = 0x40; number = 0x18 }) (record_at full_ring 64)
      ≡ record { entries = 1_512; place = found 63 0x013F; bytes = 5_952 }
