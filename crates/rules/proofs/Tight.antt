-- The longest ways, by computation.
use mathlib.Core.Path.{refl}
use Rattle.rules.specs.Picture.{Off, NotOk, Ok}
use Rattle.rules.specs.Evaluate.{play_picture}
use Rattle.rules.specs.Claims.{if_taken, accepted, is_reply, count_reply, replies_in, picture_at, replies_between, bound}
use Rattle.rules.specs.Table.{hex}
use Rattle.rules.specs.Tight.{stubbornly, out_of_range, lies, at_start, at_change, at_change_in_ok, LongestWay}

pub longest_at_start : LongestWay Off NotOk at_start 1
unfolding play_picture if_taken accepted is_reply count_reply replies_in picture_at replies_between bound hex stubbornly out_of_range lies at_start
longest_at_start = record { begins = refl; first_pass = refl; restarts = refl; at_bound = refl; not_before = refl; ok = refl; closed = refl }

pub longest_at_change : LongestWay NotOk NotOk at_change 2
unfolding play_picture if_taken accepted is_reply count_reply replies_in picture_at replies_between bound hex stubbornly out_of_range lies at_change
longest_at_change = record { begins = refl; first_pass = refl; restarts = refl; at_bound = refl; not_before = refl; ok = refl; closed = refl }

pub longest_at_change_in_ok : LongestWay Ok Ok at_change_in_ok 3
unfolding play_picture if_taken accepted is_reply count_reply replies_in picture_at replies_between bound hex stubbornly out_of_range lies at_change_in_ok
longest_at_change_in_ok = record { begins = refl; first_pass = refl; restarts = refl; at_bound = refl; not_before = refl; ok = refl; closed = refl }
