-- Tests of one row that the loops use, in the rules' words.
use Rattle.std.specs.Prelude.{Bool, ◌&&◌, ltb}
use Rattle.rules.specs.House.{max_silences}
use Rattle.rules.specs.Picture.{Row, is_silent}

-- "some SILENT row counts below 20"
unfoldable pub is_short : Row → Bool
is_short r = is_silent r && ltb r.silences max_silences
