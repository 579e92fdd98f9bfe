-- Words as bytes.
use Rattle.std.specs.Prelude.{ℕ, List, [], ◌∷◌}
use Prim.Native.Char.{code}
use Prim.Native.String.{String, [] as none, ◌∷◌ as before}

-- the bytes of a text, a byte for each character
abbrev pub codes : String → List ℕ
codes none = []
codes (before c s) = code c ∷ codes s
