-- What a bench is told.
use Rattle.std.specs.Prelude.{ℕ, Bool, true, false, Result, Ok, Err}
use Rattle.std.specs.declared.env.FillError.{FillError}
use Rattle.std.specs.declared.env.FillError.TheVariants.{NotPresent, TooLong}

-- an argument is there, of any length
abbrev pub is_there : Result ℕ FillError → Bool
is_there (Ok n) = true
is_there (Err TooLong) = true
is_there (Err NotPresent) = false
