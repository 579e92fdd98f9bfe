-- Standard output: what waits in the buffer, and how much, when bytes are put.
use Rattle.std.specs.Prelude.{ℕ, suc, ◌<◌, ◌≡◌, Bool, true, false, cond, ◌&&◌, List, [], ◌∷◌, ltb, length, set, replicate}
use Rattle.std.specs.declared.rt.Stdout.{Stdout}
use Rattle.text_out.specs.declared.Output.{Output}

-- how many bytes wait at most
abbrev pub space : ℕ
space = 65536

-- where the next byte stands: behind those that wait, or first where they fill the buffer and are written out
unfoldable pub spot : ℕ → ℕ
spot w = cond (ltb w space) w 0

-- the buffer when bytes are put behind w that wait
unfoldable pub laid : List ℕ → ℕ → List ℕ → List ℕ
laid text w [] = text
laid text w (b ∷ bs) = laid (set text (spot w) b) (suc (spot w)) bs

-- how many wait then
unfoldable pub waits : ℕ → List ℕ → ℕ
waits w [] = w
waits w (b ∷ bs) = waits (suc (spot w)) bs

-- none of them finds the buffer full
unfoldable pub fits : ℕ → List ℕ → Bool
fits w [] = true
fits w (b ∷ bs) = ltb w space && fits (suc w) bs

-- nothing waits, and no write has failed
abbrev pub empty : Stdout → Output
empty stdout = record { stdout = stdout; text = replicate space 0; waiting = 0; closed = false }

-- What writing does: nothing waits then. A failed write stays one, and more bytes than the buffer has are never written.
pub record Drains (before : Output) (after : Output) : Type 0 where
  pub buffer : after.text ≡ before.text
  pub count : after.waiting ≡ 0
  pub failed : before.closed ≡ true → after.closed ≡ true
  pub overfull : space < before.waiting → after.closed ≡ true

-- What putting bytes does. Whether a write fails depends on the system: that is open where a full buffer is written out. A failed
-- write stays one, and more bytes than the buffer has are never written.
pub record Puts (before : Output) (bytes : List ℕ) (after : Output) : Type 0 where
  pub buffer : after.text ≡ laid before.text before.waiting bytes
  pub count : after.waiting ≡ waits before.waiting bytes
  pub unwritten : fits before.waiting bytes ≡ true → after.closed ≡ before.closed
  pub failed : before.closed ≡ true → after.closed ≡ true
  pub overfull : space < before.waiting → 0 < length bytes → after.closed ≡ true
