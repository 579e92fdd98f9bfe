-- Standard input by lines: what is read and not used yet, and what the next line is.
use Rattle.std.specs.Prelude.{ℕ, zero, suc, ◌+◌, ◌-◌, ◌≤◌, ◌<◌, min, ◌≡◌, cond, List, [], ◌∷◌, ◌++◌, ltb, length, get_or, set, take, replicate, Option, Some, None}
use Rattle.std.specs.Bool.{then_some}
use Rattle.std.proofs.lemmas.List.Edits.{sets}
use Rattle.laws.specs.Alls.{All}
use Rattle.text_words.specs.Text.{lf, trimmed_length}
use Rattle.std.specs.declared.rt.Stdin.{Stdin}
use Rattle.text_in.specs.declared.Input.{Input}

-- how many bytes a read takes, and the longest line
abbrev pub chunk_size : ℕ
chunk_size = 65536

abbrev pub max_line : ℕ
max_line = 16384

-- nothing is read yet
abbrev pub unread : Stdin → Input
unread stdin = record { stdin = stdin; chunk = replicate chunk_size 0; from = 0; to = 0 }

-- n bytes of the chunk from a place on
unfoldable pub bytes_from : List ℕ → ℕ → ℕ → List ℕ
bytes_from chunk at zero = []
bytes_from chunk at (suc n) = get_or chunk at 0 ∷ bytes_from chunk (suc at) n

-- what is read and not used yet
unfoldable pub held : Input → List ℕ
held i = bytes_from i.chunk i.from (min i.to chunk_size - i.from)

-- n bytes more are used
abbrev pub past : Input → ℕ → Input
past i n = record i { from = i.from + n }

-- Something is there to use: what was there, or what the system delivers, at most a chunk. Its bytes are open.
pub record Filled (i : Input) (r : Input) : Type 0 where
  pub same : i.from < i.to → r ≡ i
  pub start : i.to ≤ i.from → r.from ≡ 0
  pub most : i.to ≤ i.from → r.to ≤ chunk_size
  pub handle : r.stdin ≡ i.stdin

-- a line with a byte at a place, if it has room for it
unfoldable pub kept_at : List ℕ → ℕ → ℕ → List ℕ
kept_at line at b = cond (ltb at max_line) (set line at b) line

-- a byte within a line
abbrev pub Inside : ℕ → Type 0
Inside b = b ≡ lf → ⊥

-- more bytes than any line has
abbrev pub most_bytes : ℕ
most_bytes = 18446744073709551615

-- the length that is told of a line: without the dropped bytes at its end, and up to one more than fits
abbrev pub told : List ℕ → ℕ
told bytes = min (trimmed_length bytes) (max_line + 1)

-- How a line ends: what is told of it, what stands at its end, and what is held behind that. At an LF; where nothing more comes, and it
-- counts if it has a byte; or not at all.
pub data Ending (bytes : List ℕ) : Option ℕ → List ℕ → List ℕ → Type 0 where
  at_lf : {rest : List ℕ} → Ending bytes (Some (told bytes)) (lf ∷ []) rest
  at_end : Ending bytes (then_some (ltb 0 (length bytes)) (told bytes)) [] []
  at_limit_lem : {rest : List ℕ} → length bytes ≡ most_bytes → Ending bytes None [] rest

-- The next line. What the system delivers meanwhile, `came`, is open; whatever it is, the line is the bytes up to the first LF
-- of what was held and what came, and the rest is held. Its start is stored, and its length told, up to one more than fits. Where
-- the line was held whole, nothing comes, and the chunk stays.
pub record NextLine (i : Input) (line : List ℕ) (r : Option ℕ) (j : Input) (line' : List ℕ) : Type 0 where
  pub came : List ℕ
  pub bytes : List ℕ
  pub ended : List ℕ
  pub inside : All Inside bytes
  pub source : held i ++ came ≡ bytes ++ ended ++ held j
  pub ending : Ending bytes r ended (held j)
  pub stored : line' ≡ sets line 0 (take max_line bytes)
  pub whole : length bytes < length (held i) → (came ≡ []) × (j ≡ past i (length bytes + 1))
  pub within : i.from ≤ i.to → i.to ≤ chunk_size → (j.from ≤ j.to) × (j.to ≤ chunk_size)
  pub handle : j.stdin ≡ i.stdin
