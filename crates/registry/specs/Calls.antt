-- A run of calls of `record`, each meeting the picture that the one before it handed back, and what the rules say of it.
use Rattle.std.specs.Prelude.{ℕ, zero, suc, ◌<◌, ◌≡◌, List, [], ◌∷◌, map, length, get_or}
use Rattle.rules.specs.Picture.{fresh, fresh_number}
use Rattle.rules.specs.Run.{Record, offered, step}
use Rattle.rules.specs.Claims.{picture_at, record_at, Demand3}
use Rattle.registry.specs.declared.image.RegistryImage.{RegistryImage}
use Rattle.registry.specs.declared.record.Recorded.{Recorded}
use Rattle.registry.specs.View.{view_of, make_answer}
use Rattle.numbers.specs.Numbers.{number_in}
use Rattle.registry.specs.Outcome.{handed, expected, Does, Marks}

-- one call: the record's bytes, the lent buffer before and after it, and what came back
pub record Call : Type 0 where
  pub bytes : List ℕ
  pub before : List ℕ
  pub result : Recorded
  pub after : List ℕ

-- the calls do what `record` ensures, one after the other
pub data Calls : RegistryImage → List Call → Type 0 where
  no_call : {i : RegistryImage} → Calls i []
  then_call : {i : RegistryImage} {c : Call} {cs : List Call} → Does i (step (view_of i) c.bytes (length c.before)) c.before c.result c.after
      → Calls c.result.picture cs → Calls i (c ∷ cs)

-- the picture after the first k calls
unfoldable pub image_at : RegistryImage → List Call → ℕ → RegistryImage
image_at i cs zero = i
image_at i [] (suc k) = i
image_at i (c ∷ cs) (suc k) = image_at c.result.picture cs k

-- a call as the record that it offers
unfoldable pub record_of : Call → Record
record_of c = record { bytes = c.bytes; room = length c.before }

-- Every run from a fresh picture for L has exactly the rules' pictures, and each call hands back what they say: the next picture, the
-- number, the length of the orders and the lent buffer. So demand 3 speaks of it. Marks stay marks all along.
pub record Follows (l : ℕ) (i : RegistryImage) (cs : List Call) : Type 0 where
  pub pictures : (k : ℕ) → view_of (image_at i cs k) ≡ picture_at l (map record_of cs) k
  pub backs : (k : ℕ) (c : Call) → k < length cs
      → handed (get_or cs k c).result (get_or cs k c).after
      ≡ expected (picture_at l (map record_of cs) k) (get_or cs k c).before (offered (picture_at l (map record_of cs) k) (record_at (map record_of cs) k))
  pub demand3 : Demand3 l (map record_of cs)
  pub marks : Marks i → (k : ℕ) → Marks (image_at i cs k)

pub record Promises : Type 0 where
  -- the number given back where a picture is made is the rules'
  pub made : (l : ℕ) → number_in (make_answer l) ≡ fresh_number l
  -- of every run of calls from a fresh picture for L
  pub follows : (l : ℕ) (i : RegistryImage) (cs : List Call) → view_of i ≡ fresh l → Calls i cs → Follows l i cs
